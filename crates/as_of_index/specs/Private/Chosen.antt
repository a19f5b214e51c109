-- Definitions that complete those of `Chosen`. No public clause cites them.
use Rattle.std.specs.Prelude.{ℕ}
use Rattle.std.specs.Ordering.{nat_cmp, ordering_then}
use Rattle.std.specs.declared.cmp.Ordering.{Ordering}
use Rattle.segment.specs.declared.place.RowPlace.{RowPlace}
use Rattle.as_of_index.specs.declared.chosen.Chosen.{Chosen}

abbrev pub chosen : ℕ → RowPlace → Chosen
chosen n at = record { segment = n; at = at; first = 0; second = 0 }

-- the order of rows to be read: by both numbers, then by id
abbrev pub ranked_cmp : Chosen → Chosen → Ordering
ranked_cmp a b = ordering_then (nat_cmp a.first b.first)
    (ordering_then (nat_cmp a.second b.second) (nat_cmp a.at.key.id b.at.key.id))

-- the order of rows to be read: by id
abbrev pub chosen_cmp : Chosen → Chosen → Ordering
chosen_cmp a b = nat_cmp a.at.key.id b.at.key.id
