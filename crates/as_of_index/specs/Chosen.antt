-- Rows that a query will read.
use Rattle.std.specs.Prelude.{List, [], ◌∷◌}
use Rattle.history_model.specs.declared.stamped.StampedRow.{StampedRow}
use Rattle.as_of_index.specs.declared.chosen.Chosen.{Chosen}
use Rattle.segment.specs.Standing.{StandsAt}

-- the rows are those at these places, one at each
abbrev pub StandAtAll : List (List StampedRow) → List Chosen → List StampedRow → Type 0
StandAtAll lists [] [] = Unit {0}
StandAtAll lists [] (s ∷ rows) = ⊥
StandAtAll lists (k ∷ ks) [] = ⊥
StandAtAll lists (k ∷ ks) (s ∷ rows) = StandsAt lists k.segment k.at s × StandAtAll lists ks rows
