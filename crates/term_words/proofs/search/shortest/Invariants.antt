use Rattle.std.specs.Prelude.{List, map}
use Rattle.std.specs.List.Sorted.{IsNonDecreasingBy}
use Rattle.history_model.specs.declared.stamped.StampedRow.{StampedRow}
use Rattle.as_of_index.specs.Places.{Lists}
use Rattle.term_words.proofs.Shortest.{IsSoFar}
use Rattle.term_words.proofs.search.shortest.Given as goal

abbrev pub invariant-loop-group : goal.invariant-loop-group
invariant-loop-group l = (lists : List (List StampedRow)) → Lists l.index lists → IsNonDecreasingBy (λ g. g.len) l.groups → IsSoFar lists l.as_of (map (λ m. m.items) l.marks) l.groups l.group-index l.last l.kept.items
