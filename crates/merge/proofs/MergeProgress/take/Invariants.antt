use Rattle.std.proofs.Common.{◌≡◌, ◌≤◌, ◌+◌, ◌-◌, ◌++◌, List, [], ◌∷◌, length, drop}
use Rattle.history_model.specs.declared.stamped.StampedRow.{StampedRow}
use Rattle.history_model.specs.Lists.{union, AreLists}
use Rattle.segment.specs.Standing.{places_of}
use Rattle.merge.specs.Merged.{rows_left, count_left, taken_of_a, taken_of_b}
use Rattle.merge.proofs.Steps.{AreTaken}
use Rattle.merge.proofs.MergeProgress.take.Given as goal

abbrev pub invariant-loop-count : goal.invariant-loop-count
invariant-loop-count l = record {
  a_within : l.a_place ≤ length l.a;
  b_within : l.b_place ≤ length l.b;
  count : length l.taken.items ≡ l._count;
  left : length l.taken.items + ((length l.a - l.a_place) + (length l.b - l.b_place)) ≡ count_left l.fn.self;
  a_front : taken_of_a l.taken.items ++ drop l.a_place l.a ≡ drop l.fn.self.a_place l.a;
  b_front : taken_of_b l.taken.items ++ drop l.b_place l.b ≡ drop l.fn.self.b_place l.b;
  in_order : (xs ys : List StampedRow) → AreLists (xs ∷ ys ∷ []) → l.a ≡ places_of xs → l.b ≡ places_of ys → AreTaken xs ys l.taken.items (rows_left l.fn.self xs ys) (union (drop l.a_place xs) (drop l.b_place ys));
}
