-- Items that are picked of lists.
use Rattle.std.proofs.Common.{◌≡◌, ℕ, List, [], ◌∷◌, ◌++◌, take, refl, sym, ap, subst, inl, inr, ◌∙◌, append_assoc, append-nil, zero, suc}
use Rattle.std.specs.List.{AllZip}
use Rattle.snapshot_check.specs.declared.told.Told.{Told}
use Rattle.snapshot_check.specs.Differences.{ArePicked, AreTold, IsTold}
use Rattle.snapshot_check.specs.Private.{IsNoted, IsNothingTold, Adds}

take_none : {X : Type 0} (n : ℕ) → take {A = X} n [] ≡ []
take_none zero = refl
take_none (suc n) = refl

module _ {X Y : Type 0} (Is : X → Y → Type 0) (Other : X → Type 0) where
  both_picked : (xs zs : List X) (ys us : List Y) → ArePicked Is Other xs ys → ArePicked Is Other zs us → ArePicked Is Other (xs ++ zs) (ys ++ us)
  both_picked [] zs ys us none more = subst (λ vs. ArePicked Is Other zs (vs ++ us)) (sym none) more
  both_picked (x ∷ xs) zs ys us picked more = elim picked [
    | inl w ↦ inl (w.0, w.1 ++ us, ap (λ vs. vs ++ us) w.2, w.3, both_picked xs zs w.1 us w.4 more)
    | inr w ↦ inr (w.0, both_picked xs zs ys us w.1 more)
  ]

  module _ (limit : ℕ) where
    pub adds_none : (told : Told Y) → Adds Is Other [] limit told told
    adds_none told = record { picked = []; are = refl; told = λ all so. subst (λ ys. IsTold limit ys told) (sym (append-nil all)) so }

    -- one item, which is told
    pub adds_one : (x : X) (y : Y) (old new : Told Y) → Is x y → IsNoted limit y old new → Adds Is Other (x ∷ []) limit old new
    adds_one x y old new is noted = record { picked = y ∷ []; are = inl (y, [], refl, is, refl); told = noted }

    -- one item, which is left out
    pub adds_other : (x : X) (old new : Told Y) → Other x → new ≡ old → Adds Is Other (x ∷ []) limit old new
    adds_other x old new other same = record {
      picked = [];
      are = inr (other, refl);
      told = λ all so. subst (λ ys. IsTold limit ys new) (sym (append-nil all)) (subst (λ (t : Told Y). IsTold limit all t) (sym same) so);
    }

    pub adds_both : (xs zs : List X) (old mid new : Told Y) → Adds Is Other xs limit old mid → Adds Is Other zs limit mid new → Adds Is Other (xs ++ zs) limit old new
    adds_both xs zs old mid new first second = record {
      picked = first.picked ++ second.picked;
      are = both_picked xs zs first.picked second.picked first.are second.are;
      told = λ all so. subst (λ ys. IsTold limit ys new) (append_assoc all first.picked second.picked) (second.told (all ++ first.picked) (first.told all so));
    }

    pub none_told : (told : Told Y) → IsNothingTold told → AreTold Is Other [] limit told
    none_told told none = record { all = []; picked = refl; told_so = (none.0 ∙ sym (take_none limit), none.1) }

    pub told_then : (xs zs : List X) (old new : Told Y) → AreTold Is Other xs limit old → Adds Is Other zs limit old new → AreTold Is Other (xs ++ zs) limit new
    told_then xs zs old new told adds = record {
      all = told.all ++ adds.picked;
      picked = both_picked xs zs told.all adds.picked told.picked adds.are;
      told_so = adds.told told.all told.told_so;
    }

module _ {X Y : Type 0} (Is Is_so : X → Y → Type 0) (Other Other_so : X → Type 0) (is : (x : X) (y : Y) → Is x y → Is_so x y) (other : (x : X) → Other x → Other_so x) where
  picked_weaker : (xs : List X) (ys : List Y) → ArePicked Is Other xs ys → ArePicked Is_so Other_so xs ys
  picked_weaker [] ys none = none
  picked_weaker (x ∷ xs) ys picked = elim picked [
    | inl w ↦ inl (w.0, w.1, w.2, is x w.0 w.3, picked_weaker xs w.1 w.4)
    | inr w ↦ inr (other x w.0, picked_weaker xs ys w.1)
  ]

  pub told_weaker : (xs : List X) (limit : ℕ) (told : Told Y) → AreTold Is Other xs limit told → AreTold Is_so Other_so xs limit told
  told_weaker xs limit told t = record { all = t.all; picked = picked_weaker xs t.all t.picked; told_so = t.told_so }

  pub adds_weaker : (xs : List X) (limit : ℕ) (old new : Told Y) → Adds Is Other xs limit old new → Adds Is_so Other_so xs limit old new
  adds_weaker xs limit old new a = record { picked = a.picked; are = picked_weaker xs a.picked a.are; told = a.told }

-- what is picked of items that were read for others is picked of these
module _ {X W Y : Type 0} (R : X → W → Type 0) (Is : X → Y → Type 0) (Is_so : W → Y → Type 0) (Other : X → Type 0) (Other_so : W → Type 0)
    (is : (x : X) (w : W) (y : Y) → R x w → Is x y → Is_so w y) (other : (x : X) (w : W) → R x w → Other x → Other_so w) where
  picked_for : (xs : List X) (ws : List W) (ys : List Y) → AllZip R xs ws → ArePicked Is Other xs ys → ArePicked Is_so Other_so ws ys
  picked_for [] [] ys zip none = none
  picked_for [] (w ∷ ws) ys zip picked = absurd zip
  picked_for (x ∷ xs) [] ys zip picked = absurd zip
  picked_for (x ∷ xs) (w ∷ ws) ys zip picked = elim picked [
    | inl v ↦ inl (v.0, v.1, v.2, is x w v.0 zip.0 v.3, picked_for xs ws v.1 zip.1 v.4)
    | inr v ↦ inr (other x w zip.0 v.0, picked_for xs ws ys zip.1 v.1)
  ]

  pub adds_for : (xs : List X) (ws : List W) (limit : ℕ) (old new : Told Y) → AllZip R xs ws → Adds Is Other xs limit old new → Adds Is_so Other_so ws limit old new
  adds_for xs ws limit old new zip a = record { picked = a.picked; are = picked_for xs ws a.picked zip a.are; told = a.told }
