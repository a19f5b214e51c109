use Rattle.std.proofs.Common.{◌≤◌, ◌<◌, length, drop, arith}
use Rattle.std.proofs.lemmas.List.{length-drop, take_rest}
use Rattle.line_server.proofs.Sent.{appends_taken}
use Rattle.command_line.proofs.endings.write_line.Goals as goal

pub loop-done-preserved : goal.loop-done-preserved
loop-done-preserved g c =
    let e = take_rest c.args.line.now c.loop-done.done in
    let n : c.in-Ok.n ≤ length (drop c.loop-done.done c.args.line.now) = rw e at c.in-Ok.ensures.bound in
    let len = length-drop c.loop-done.done c.args.line.now in
    let within : c.loop-done.done < length c.args.line.now = c.loop-done-test.true in
    (omega (arith, n, len, within), appends_taken _ _ _ c.loop-done.done c.in-Ok.n c.args.line.now c.loop-done.invariant.1 (rw e at c.in-Ok.ensures.bytes))
