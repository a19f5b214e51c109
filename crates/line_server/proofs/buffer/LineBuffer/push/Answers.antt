use Rattle.std.proofs.Common.{◌∷◌, [], ◌++◌, length, sym, ap, ◌∙◌, arith, length-append, subst, IsOk}
use Rattle.std.proofs.lemmas.Bool.{false≢true}
use Rattle.line_server.specs.Steps.{room}
use Rattle.line_server.proofs.Cuts.{kept_short, kept_full}
use Rattle.line_server.proofs.buffer.LineBuffer.push.Goals as goal

pub invariant_of-self : goal.invariant_of-self
unfolding room
invariant_of-self c = let h = c.in-Ok.ensures in (omega (arith, c.self.invariant.0, c.if-len-lt-ROOM.true, c.len.ensures, h.capacity), omega (arith, ap length h.items, length-append c.self.inside.bytes.items (c.args.byte ∷ []), c.if-len-lt-ROOM.true, c.len.ensures))

pub unreachable-requires : goal.unreachable-requires
unfolding room
unreachable-requires c = false≢true (subst (λ r. IsOk r) c.in_default.is (c.push.ensures.succeeds (omega (arith, c.self.invariant.0, c.if-len-lt-ROOM.true, c.len.ensures))))

pub returns-in-Ok : goal.returns-in-Ok
unfolding room
returns-in-Ok c = let h = c.in-Ok.ensures.items in rw (← c.self.view_is) (h ∙ sym (kept_short (c.self.inside.bytes.items ++ c.args.byte ∷ []) (omega (arith, length-append c.self.inside.bytes.items (c.args.byte ∷ []), c.if-len-lt-ROOM.true, c.len.ensures))))

pub returns-else-len-lt-ROOM : goal.returns-else-len-lt-ROOM
unfolding room
returns-else-len-lt-ROOM c = rw (← c.self.view_is) (kept_full c.self.inside.bytes.items (c.args.byte ∷ []) (omega (arith, c.if-len-lt-ROOM.false, c.len.ensures)) c.self.invariant.1)
