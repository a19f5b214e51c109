use Rattle.std.proofs.Common.{◌<◌, subst, length, arith}
use Rattle.history_model.specs.InOrder.{Has}
use Rattle.as_of_index.proofs.Hinted.{picks_exact}
use Rattle.as_of_index.proofs.hints.at_a_hint.Goals as goal

pub returns : goal.returns
returns c =
    let a = c.args in
    let within : c.in_ok-segment.segment < length a.lists.now = (let less = c.if-segment-lists.false in omega arith) in
    let found = c.in_ok-p.ensures in
    picks_exact a.kind a.id a.as_of.now a.lists.now c.in_ok-segment.segment c.index-lists-segment.result c.in_ok-p.p within c.index-lists-segment.is
    (subst (λ ps. Has ps c.in_ok-p.p) c.places-places.ensures.places found.0) found.1 found.2 found.3
