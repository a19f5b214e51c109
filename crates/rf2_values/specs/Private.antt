-- Definitions for private functions and proofs, of this crate or of one above it. No public clause
-- cites them.
use Rattle.std.specs.Prelude.{◌≡◌, ◌≢◌, ℕ, ◌+◌, ◌<◌, ◌==◌, Bool, true, false, ◌&&◌, List, [], ◌∷◌}
use Rattle.std.specs.Prelude.{length, slice_index, refl}
use mathlib.Core.Path.{sym, ap, ◌∙◌}
use Rattle.std.specs.List.{flat_map}
use Rattle.std.specs.Cmp.{IsTotalOrder, nat_cmp_total, on_total, then_total, unsigned_ties}
use Rattle.std.specs.Ordering.{is_eq, nat_cmp, ordering_then}
use Rattle.std.specs.declared.cmp.Ordering.{Ordering}
use Rattle.std.specs.declared.cmp.Ordering.TheVariants.{Less, Equal, Greater}
use Rattle.rf2_values.specs.declared.key.Key.{Key}
use Rattle.rf2_values.specs.declared.row.Kind.{Kind}
use Rattle.rf2_values.specs.declared.row.Kind.TheVariants as kind
use Rattle.rf2_values.specs.contracts.row.Kind.{the_type}
use denote.Enum.Bare.{sameb}
use denote.Enum.Declared.{tag_of}
use Rattle.rf2_values.specs.Key.{kind_place, key_cmp}

-- how decimal digits begin: neither with a plus sign nor with a leading zero
pub record IsPlain (text : List ℕ) : Type 0 where
  pub some : 0 < length text
  pub no_plus : slice_index text 0 ≢ 43
  pub no_zero : slice_index text 0 ≡ 48 → length text ≡ 1

-- the length of columns in bytes, with a TAB before each
abbrev pub columns_len : List (List ℕ) → ℕ
columns_len [] = 0
columns_len (column ∷ columns) = length column + 1 + columns_len columns

-- the columns, with a TAB before each
abbrev pub tabbed : List (List ℕ) → List ℕ
tabbed columns = flat_map (λ column. 9 ∷ column) columns

-- the order of keys is total
pub keys_total : IsTotalOrder key_cmp
keys_total = then_total (on_total (λ k. kind_place k.kind) nat_cmp_total)
    (then_total (on_total (λ k. k.id) nat_cmp_total) (on_total (λ k. k.time) nat_cmp_total))

-- ---- keys are equal exactly if neither is greater than the other

place_is_tag : (k : Kind) → kind_place k ≡ tag_of the_type k
place_is_tag kind.Concept = refl
place_is_tag kind.Description = refl
place_is_tag kind.Relationship = refl
place_is_tag kind.Association = refl
place_is_tag kind.Concrete = refl
place_is_tag kind.Member = refl

equal_then : (r s : Ordering) → is_eq (ordering_then r s) ≡ (is_eq r && is_eq s)
equal_then Less s = refl
equal_then Equal s = refl
equal_then Greater s = refl

turned : (p q r : Bool) → (p && (q && r)) ≡ (r && (p && q))
turned true true true = refl
turned true true false = refl
turned true false true = refl
turned true false false = refl
turned false true true = refl
turned false true false = refl
turned false false true = refl
turned false false false = refl

same_kind : (k l : Kind) → sameb the_type k l ≡ is_eq (nat_cmp (kind_place k) (kind_place l))
same_kind k l =
    sym (ap (λ (n : ℕ). n == tag_of the_type l) (place_is_tag k))
    ∙ sym (ap (λ (n : ℕ). kind_place k == n) (place_is_tag l))
    ∙ unsigned_ties (kind_place k) (kind_place l)

later_tie : (x y : Key) → (x.id == y.id && x.time == y.time)
    ≡ is_eq (ordering_then (nat_cmp x.id y.id) (nat_cmp x.time y.time))
later_tie x y =
    ap (λ (b : Bool). b && x.time == y.time) (unsigned_ties x.id y.id)
    ∙ ap (λ (b : Bool). is_eq (nat_cmp x.id y.id) && b) (unsigned_ties x.time y.time)
    ∙ sym (equal_then (nat_cmp x.id y.id) (nat_cmp x.time y.time))

-- the fields of two keys are equal exactly if neither key is greater than the other
pub keys_tie : (x y : Key)
    → (x.id == y.id && (x.time == y.time && sameb the_type x.kind y.kind)) ≡ is_eq (key_cmp x y)
keys_tie x y =
    turned (x.id == y.id) (x.time == y.time) (sameb the_type x.kind y.kind)
    ∙ ap (λ (b : Bool). b && (x.id == y.id && x.time == y.time)) (same_kind x.kind y.kind)
    ∙ ap (λ (b : Bool). is_eq (nat_cmp (kind_place x.kind) (kind_place y.kind)) && b)
    (later_tie x y)
    ∙ sym (equal_then (nat_cmp (kind_place x.kind) (kind_place y.kind))
    (ordering_then (nat_cmp x.id y.id) (nat_cmp x.time y.time)))
