-- The segment of the rows of two.
use Rattle.std.specs.List.{sum_by}
use Rattle.std.proofs.Common.{◌≡◌, ℕ, ◌+◌, List, length, refl, inl, inr, arith}
use Rattle.std.proofs.lemmas.List.Concat.{length-flat_map}
use Rattle.history_model.specs.declared.stamped.StampedRow.{StampedRow}
use Rattle.history_model.specs.Lists.{union}
use Rattle.history_model.specs.Private.{ShareNoKey}
use Rattle.history_model.proofs.InOrder.{Has-all, all_from_has}
use Rattle.history_model.proofs.Listings.{Has-union_cases, IsAscending-union}
use Rattle.history_model.proofs.Unions.{sum_by-union}
use Rattle.segment.specs.Records.{record_of, segment_of, IsStamped, IsSegment}

bytes_summed : (rows : List StampedRow) → length (segment_of rows) ≡ sum_by (λ s. length (record_of s)) rows
unfolding segment_of
bytes_summed rows = length-flat_map record_of rows

pub bytes-union : (a b : List StampedRow) (a_bytes b_bytes : List ℕ) → IsSegment a a_bytes → IsSegment b b_bytes → ShareNoKey a b → length (segment_of (union a b)) ≡ length (segment_of a) + length (segment_of b)
bytes-union a b a_bytes b_bytes is_a is_b apart =
    omega (arith, sum_by-union (λ s. length (record_of s)) a b is_a.ascending is_b.ascending apart, bytes_summed a, bytes_summed b, bytes_summed (union a b))

pub segment-union : (a b : List StampedRow) (a_bytes b_bytes : List ℕ) → IsSegment a a_bytes → IsSegment b b_bytes → IsSegment (union a b) (segment_of (union a b))
segment-union a b a_bytes b_bytes is_a is_b = record {
  each = all_from_has IsStamped (union a b) (λ s there. elim (Has-union_cases a b s there) [ inl l ↦ Has-all IsStamped a s is_a.each l | inr r ↦ Has-all IsStamped b s is_b.each r ]);
  ascending = IsAscending-union a b;
  bytes_are = refl;
}
