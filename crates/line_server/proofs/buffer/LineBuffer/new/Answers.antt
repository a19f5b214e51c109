use Rattle.std.proofs.Common.{arith, ap, length}
use Rattle.line_server.specs.Steps.{room}
use Rattle.line_server.proofs.buffer.LineBuffer.new.Goals as goal

pub invariant_of-result : goal.invariant_of-result
unfolding room
invariant_of-result c = let h = c.in_ok-bytes.ensures in (omega (arith, h.capacity), omega (arith, ap length h.items))
