use Rattle.std.proofs.Common.{refl, subst}
use Rattle.as_of_index.specs.Places.{ArePlaces}
use Rattle.as_of_index.proofs.Standing.{are_lists}
use Rattle.history_store.proofs.KnownRows.{none_known, other_known, brought_by}
use Rattle.history_store.proofs.known.import_of.Goals as goal

pub returns-in_default : goal.returns-in_default
returns-in_default c = λ lists are early. none_known lists c.args.pin c.args.key early (c.in_default.ensures.found lists are)

pub returns-then-not-is_same : goal.returns-then-not-is_same
returns-then-not-is_same c = λ lists are early.
    let w = c.in-Some.ensures.found lists are in
    other_known lists c.args.pin c.args.key _ c.in-Some.at w.0 early w.1 w.2 (λ same. let wrong = c.if-not-is_same.ensures.1 same in absurd (cc))

pub returns : goal.returns
returns c = λ lists are early.
    let w = c.in-Some.ensures.found lists are in
    brought_by lists c.args.key _ c.in-Some.at w.0 (are_lists lists (subst ArePlaces are c.in-Some.ensures.places)) w.1 (c.if-not-is_same.ensures.0 refl)
