use Rattle.std.proofs.Common.{◌≡◌, take}
use Rattle.as_of_index.specs.Places.{least_by}
use Rattle.as_of_index.proofs.place_list.first_time.Given as goal

abbrev pub invariant-loop-p : goal.invariant-loop-p
invariant-loop-p l = l.first ≡ least_by (λ p. p.key.time) (take l.p-index l.places)
