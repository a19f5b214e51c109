-- What is sorted, and of those that tie one kept.
use Rattle.std.proofs.Common.{◌≡◌, Bool, true, false, List, [], ◌∷◌, refl, sym, subst, inl, inr, ◌∙◌}
use Rattle.std.specs.List.{dedup, dedup_from}
use Rattle.std.specs.List.Sorted.{IsPermutation, IsSorted, IsStrictlySortedBy}
use Rattle.std.specs.Ordering.{eq_by_cmp}
use Rattle.std.specs.Prelude.{cond}
use Rattle.std.specs.Cmp.{IsTotalOrder, tied_itself, Equal-is}
use Rattle.std.specs.declared.cmp.Ordering.{Ordering}
use Rattle.std.specs.declared.cmp.Ordering.TheVariants.{Equal}
use Rattle.std.proofs.lemmas.List.Kept.{IsStrictlySortedBy-dedup}
use Rattle.std.proofs.lemmas.List.Sorted.{IsPermutation-sym}
use Rattle.history_model.specs.InOrder.{Has, IsAscending}
use Rattle.history_model.proofs.Items.{Has-permuted}
use Rattle.as_of_index.specs.Private.Once.{IsThere, AreOnce}

module _ {Y : Type 0} {cmp : Y → Y → Ordering} (o : IsTotalOrder cmp) (same : Y → Y → Bool) (ties : (x y : Y) → same x y ≡ eq_by_cmp cmp x y) where
  ascending_from : (ys : List Y) → IsStrictlySortedBy cmp ys → IsAscending cmp ys
  unfolding IsStrictlySortedBy
  ascending_from [] up = tt
  ascending_from (y ∷ ys) up = (up.0, ascending_from ys up.1)

  tie_of : (x y : Y) → same x y ≡ true → cmp x y ≡ Equal
  tie_of x y e = (Equal-is (cmp x y)).0 (sym (ties x y) ∙ e)

  tied_there : (ys : List Y) (z y : Y) → cmp z y ≡ Equal → IsThere cmp ys y → IsThere cmp ys z
  tied_there ys z y e w = (w.0, w.1, o.congr z y w.0 e ∙ w.2)

  there_behind : (x : Y) (ys : List Y) (z : Y) → IsThere cmp ys z → IsThere cmp (x ∷ ys) z
  there_behind x ys z w = (w.0, inr w.1, w.2)

  from_once : (x : Y) (ys : List Y) (z : Y) → Has (dedup_from same x ys) z → Has (x ∷ ys) z
  from_once x [] z h = h
  from_once x (y ∷ ys) z h =
      elim (same y x) as (λ b. Has (cond b (dedup_from same x ys) (x ∷ dedup_from same y ys)) z → Has (x ∷ y ∷ ys) z) [
        | true ↦ λ h. elim (from_once x ys z h) [ inl e ↦ inl e | inr t ↦ inr (inr t) ]
        | false ↦ λ h. elim h [ inl e ↦ inl e | inr t ↦ inr (from_once y ys z t) ]
      ] h

  to_once : (x : Y) (ys : List Y) (z : Y) → Has (x ∷ ys) z → IsThere cmp (dedup_from same x ys) z
  to_once x [] z h = elim h [ inl e ↦ (x, inl refl, subst (λ w. cmp w x ≡ Equal) e (tied_itself o x)) | inr f ↦ absurd f ]
  to_once x (y ∷ ys) z h =
      elim (same y x) as (λ b. same y x ≡ b → IsThere cmp (cond b (dedup_from same x ys) (x ∷ dedup_from same y ys)) z) [
        | true ↦ λ e. elim h [
          | inl first ↦ to_once x ys z (inl first)
          | inr t ↦ elim t [
            | inl second ↦ tied_there (dedup_from same x ys) z x (subst (λ w. cmp w x ≡ Equal) second (tie_of y x e)) (to_once x ys x (inl refl))
            | inr rest ↦ to_once x ys z (inr rest)
          ]
        ]
        | false ↦ λ e. elim h [
          | inl first ↦ (x, inl refl, subst (λ w. cmp w x ≡ Equal) first (tied_itself o x))
          | inr t ↦ there_behind x (dedup_from same y ys) z (to_once y ys z t)
        ]
      ] refl

  kept_from : (ys : List Y) (z : Y) → Has (dedup same ys) z → Has ys z
  kept_from [] z h = h
  kept_from (y ∷ ys) z h = from_once y ys z h

  kept_there : (ys : List Y) (z : Y) → Has ys z → IsThere cmp (dedup same ys) z
  kept_there [] z h = absurd h
  kept_there (y ∷ ys) z h = to_once y ys z h

  pub sorted_once : (all sorted once : List Y) → IsPermutation all sorted → IsSorted cmp sorted → once ≡ dedup same sorted → AreOnce cmp all once
  sorted_once all sorted once moved up is = subst (λ ys. AreOnce cmp all ys) (sym is) (record {
    ascending = ascending_from (dedup same sorted) (IsStrictlySortedBy-dedup o ties sorted up);
    there = λ y h. kept_there sorted y (Has-permuted sorted all (IsPermutation-sym all sorted moved) y h);
    only = λ y h. Has-permuted all sorted moved y (kept_from sorted y h);
  })
