-- Which of two lists the next place comes from: definitions for a private function. No public
-- clause cites them.
use Rattle.std.specs.Prelude.{List, [], ◌∷◌, Option, Some, None, true, false, if◌then◌else◌}
use Rattle.std.specs.Ordering.{is_lt}
use Rattle.rf2_values.specs.Key.{key_cmp}
use Rattle.segment.specs.declared.place.RowPlace.{RowPlace}
use Rattle.merge.specs.declared.Taken.{Taken}

abbrev pub of_a : RowPlace → Taken
of_a p = record { second = false; place = p }

abbrev pub of_b : RowPlace → Taken
of_b p = record { second = true; place = p }

-- the next place of the rests of two lists, in key order
abbrev pub next_place : List RowPlace → List RowPlace → Option Taken
next_place [] [] = None
next_place (p ∷ a) [] = Some (of_a p)
next_place [] (q ∷ b) = Some (of_b q)
next_place (p ∷ a) (q ∷ b) = Some (if is_lt (key_cmp q.key p.key) then of_b q else of_a p)
