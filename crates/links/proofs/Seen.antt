-- Concepts that are found one after the other, each once.
use Rattle.std.proofs.Common.{◌≡◌, ℕ, List, [], ◌∷◌, ◌++◌, true, false, refl, sym, subst, inl, inr, ◌∙◌}
use Rattle.std.specs.Prelude.{nat_eq}
use Rattle.std.specs.HashSet.{HashSet, contains}
use Rattle.std.proofs.lemmas.Bool.{eqb-true, eq-eqb}
use Rattle.history_model.specs.InOrder.{Has}
use Rattle.history_model.proofs.InOrder.{Has-append_left, Has-append_right, Has-append_cases}
use Rattle.links.specs.Private.{AreDistinct, AreSeen}

distinct_push : (xs : List ℕ) (y : ℕ) → AreDistinct xs → (Has xs y → ⊥) → AreDistinct (xs ++ y ∷ [])
distinct_push [] y d new = (λ h. h, tt)
distinct_push (x ∷ xs) y d new = (
  λ h. elim (Has-append_cases xs (y ∷ []) x h) [ inl k ↦ d.0 k | inr k ↦ elim k [ inl e ↦ new (inl (sym e)) | inr n ↦ n ] ],
  distinct_push xs y d.1 (λ h. new (inr h)),
)

module _ {S : Type 0} (old new : HashSet ℕ S) (found : List ℕ) (id : ℕ) where
  -- one that wasn't there
  pub seen_more : AreSeen old found → contains nat_eq old id ≡ false → contains nat_eq new id ≡ true → ((x : ℕ) → nat_eq id x ≡ false → contains nat_eq new x ≡ contains nat_eq old x) → AreSeen new (found ++ id ∷ [])
  seen_more s unknown put others = record {
    listed = λ x e. elim (nat_eq id x) as (λ b. nat_eq id x ≡ b → Has (found ++ id ∷ []) x) [
      | true ↦ λ f. Has-append_right found (id ∷ []) x (inl (eqb-true id x f))
      | false ↦ λ f. Has-append_left found (id ∷ []) x (s.listed x (sym (others x f) ∙ e))
    ] refl;
    seen_is = λ x h. elim (nat_eq id x) as (λ b. nat_eq id x ≡ b → contains nat_eq new x ≡ true) [
      | true ↦ λ f. subst (λ z. contains nat_eq new z ≡ true) (eqb-true id x f) put
      | false ↦ λ f. others x f ∙ s.seen_is x (elim (Has-append_cases found (id ∷ []) x h) [
        | inl k ↦ k
        | inr k ↦ elim k [ inl e ↦ absurd (let t = eq-eqb id x e in cc) | inr n ↦ absurd n ]
      ])
    ] refl;
    distinct = distinct_push found id s.distinct (λ h. let t = s.seen_is id h in cc);
  }

  -- one that was there
  pub seen_same : AreSeen old found → Has found id → contains nat_eq new id ≡ true → ((x : ℕ) → nat_eq id x ≡ false → contains nat_eq new x ≡ contains nat_eq old x) → AreSeen new found
  seen_same s there put others = record {
    listed = λ x e. elim (nat_eq id x) as (λ b. nat_eq id x ≡ b → Has found x) [
      | true ↦ λ f. subst (λ z. Has found z) (eqb-true id x f) there
      | false ↦ λ f. s.listed x (sym (others x f) ∙ e)
    ] refl;
    seen_is = λ x h. elim (nat_eq id x) as (λ b. nat_eq id x ≡ b → contains nat_eq new x ≡ true) [
      | true ↦ λ f. subst (λ z. contains nat_eq new z ≡ true) (eqb-true id x f) put
      | false ↦ λ f. others x f ∙ s.seen_is x h
    ] refl;
    distinct = s.distinct;
  }
