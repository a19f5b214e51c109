use Rattle.as_of_index.proofs.search.place_near.Goals as goal

pub returns-in-Some-clause-split : goal.returns-in-Some-clause-split
returns-in-Some-clause-split c = λ up. c.go_on.ensures.split up (c.is_passed.ensures.before up c.if-is_passed.true)
