-- The order of subjects is that of their numbers.
use Rattle.std.proofs.Common.{◌≡◌, ℕ, ◌<◌, refl, sym, arith}
use Rattle.std.specs.Ordering.{nat_cmp, ordering_then}
use Rattle.std.specs.Cmp.{ranked, nat_cmp_is}
use Rattle.std.specs.Ordering.{MatchOrdering}
use Rattle.std.specs.declared.cmp.Ordering.{Ordering}
use Rattle.std.specs.declared.cmp.Ordering.TheVariants.{Less, Equal, Greater}
use Rattle.rf2_values.specs.declared.row.Kind.{Kind}
use Rattle.rf2_values.specs.declared.row.Kind.TheVariants as kind
use Rattle.rf2_values.specs.Key.{kind_place}
use Rattle.history_model.proofs.Keys.{same_kind}
use Rattle.links.specs.Edges.{subject_rank}

kind_below : (k : Kind) → kind_place k < 6
kind_below kind.Concept = omega arith
kind_below kind.Description = omega arith
kind_below kind.Relationship = omega arith
kind_below kind.Association = omega arith
kind_below kind.Concrete = omega arith
kind_below kind.Member = omega arith

module _ (a b : ℕ) (k l : Kind) where
  pub rank_cmp : ordering_then (nat_cmp a b) (nat_cmp (kind_place k) (kind_place l)) ≡ nat_cmp (subject_rank a k) (subject_rank b l)
  rank_cmp = nat_cmp_is (subject_rank a k) (subject_rank b l) (ordering_then (nat_cmp a b) (nat_cmp (kind_place k) (kind_place l))) (by (nat_cmp a b) refl (nat_cmp (kind_place k) (kind_place l)) refl) where
    by : (r : Ordering) → nat_cmp a b ≡ r → (t : Ordering) → nat_cmp (kind_place k) (kind_place l) ≡ t → MatchOrdering (ordering_then r t) (subject_rank a k < subject_rank b l) (subject_rank a k ≡ subject_rank b l) (subject_rank b l < subject_rank a k)
    by Less e t f = let lt : a < b = ranked a b Less (sym e) in let i = kind_below k in let j = kind_below l in omega arith
    by Greater e t f = let gt : b < a = ranked a b Greater (sym e) in let i = kind_below k in let j = kind_below l in omega arith
    by Equal e Less f = let same : a ≡ b = ranked a b Equal (sym e) in let lt : kind_place k < kind_place l = ranked _ _ Less (sym f) in omega arith
    by Equal e Equal f = let same : a ≡ b = ranked a b Equal (sym e) in let eq : kind_place k ≡ kind_place l = ranked _ _ Equal (sym f) in omega arith
    by Equal e Greater f = let same : a ≡ b = ranked a b Equal (sym e) in let gt : kind_place l < kind_place k = ranked _ _ Greater (sym f) in omega arith

  -- rows of one number are of one component and kind
  pub of_rank : subject_rank a k ≡ subject_rank b l → (a ≡ b) × (k ≡ l)
  of_rank e = let i = kind_below k in let j = kind_below l in (omega arith, same_kind k l (omega arith))

  pub rank_of : a ≡ b → k ≡ l → subject_rank a k ≡ subject_rank b l
  rank_of e f = λ i. subject_rank (e i) (f i)
