use Rattle.std.proofs.Common.{◌≡◌, take}
use Rattle.as_of_index.specs.Places.{greatest_by}
use Rattle.as_of_index.proofs.place_list.last_time.Given as goal

abbrev pub invariant-loop-p : goal.invariant-loop-p
invariant-loop-p l = l.last ≡ greatest_by (λ p. p.key.time) (take l.p-index l.places)
