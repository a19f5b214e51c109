use Rattle.std.proofs.Common.{List, ◌++◌, take}
use Rattle.std.specs.Prelude.{flat_map}
use Rattle.history_model.specs.declared.stamped.StampedRow.{StampedRow}
use Rattle.as_of_index.specs.declared.chosen.Chosen.{Chosen}
use Rattle.term_prefix.specs.declared.text.Term.{Term}
use Rattle.as_of_index.specs.Places.{Lists}
use Rattle.term_prefix.specs.Private.{chosen_at, AreOfDescriptions, AreBounds, AreKept}
use Rattle.term_prefix.proofs.search.keep_current.Given as goal

abbrev pub invariant-loop-term : goal.invariant-loop-term
invariant-loop-term l = (lists : List (List StampedRow)) → Lists l.index lists → AreOfDescriptions lists l.segment l.terms → (seen : List Chosen) → AreKept lists l.search seen l.fn.kept.items → AreKept lists l.search (seen ++ flat_map (λ (t : Term). chosen_at lists l.segment t.row) (take l.term-index l.terms)) l.kept.items × AreBounds lists l.search.after l.search.limit l.kept.items l.segment l.bounds
