-- What a list shows at a date and a pin, where one that shows nothing is taken as empty.
use Rattle.std.proofs.Common.{◌≡◌, ℕ, ◌+◌, ◌<◌, ◌≤◌, min, true, false, cond, List, [], ◌∷◌, ◌++◌, length, get_or, take, refl, sym, ap, inl, inr, ◌∙◌, arith}
use Rattle.std.specs.Prelude.{◌&&◌, nat_le, Option, Some, None}
use Rattle.std.proofs.Math.Nat.{min_comm, min-le_left, min-le_right}
use Rattle.std.proofs.lemmas.Bool.Decides.{nat_tests}
use Rattle.std.proofs.lemmas.List.{take_more}
use Rattle.rf2_values.specs.declared.row.Kind.{Kind}
use Rattle.history_model.specs.InOrder.{Has}
use Rattle.segment.specs.declared.place.RowPlace.{RowPlace}
use Rattle.as_of_index.specs.declared.as_of.AsOf.{AsOf}
use Rattle.as_of_index.specs.Places.{least_by}
use Rattle.as_of_index.specs.Private.Search.{may_show, shown_part, IsPick}
use Rattle.as_of_index.proofs.Found.{candidate}

-- ---- the least of a number

min_rest : (a b c : ℕ) → min a (min b c) ≡ min (min a b) c
min_rest a b c = omega arith

pub least_push : (number : RowPlace → ℕ) (places : List RowPlace) (p : RowPlace) → least_by number (places ++ p ∷ []) ≡ min (least_by number places) (number p)
least_push number [] p = min_comm (number p) 4294967295
least_push number (q ∷ places) p = ap (min (number q)) (least_push number places p) ∙ min_rest (number q) (least_by number places) (number p)

-- one place more is looked at
pub least_more : (number : RowPlace → ℕ) (places : List RowPlace) (i : ℕ) (p : RowPlace) → i < length places → p ≡ get_or places i p → least_by number (take (i + 1) places) ≡ min (least_by number (take i places)) (number p)
least_more number places i p lt is = ap (least_by number) (take_more places i p lt ∙ ap (λ x. take i places ++ x ∷ []) (sym is)) ∙ least_push number (take i places) p

least_there : (number : RowPlace → ℕ) (places : List RowPlace) (p : RowPlace) → Has places p → least_by number places ≤ number p
least_there number [] p h = absurd h
least_there number (q ∷ places) p h = elim h [
  | inl s ↦ (let e = ap number s in let le = min-le_left (number q) (least_by number places) in omega arith)
  | inr t ↦ (let r = least_there number places p t in let le = min-le_right (number q) (least_by number places) in omega arith)
]

-- ---- a part that is taken as empty

second_at_most : (a b : ℕ) (as_of : AsOf) → (nat_le a as_of.date && nat_le b as_of.pin) ≡ false → a ≤ as_of.date → b ≤ as_of.pin → ⊥
second_at_most a b as_of e f g = grind (arith, nat_tests, e, f, g)

pub shown_at : (t i : ℕ) (as_of : AsOf) → (nat_le t as_of.date && nat_le i as_of.pin) ≡ true → (t ≤ as_of.date) × (i ≤ as_of.pin)
shown_at t i as_of e = (grind (arith, nat_tests, e), grind (arith, nat_tests, e))

module _ (as_of : AsOf) where
  pub none_there : (places : List RowPlace) → may_show as_of places ≡ false → (p : RowPlace) → Has places p → p.key.time ≤ as_of.date → p.import ≤ as_of.pin → ⊥
  none_there places e p h early shown =
      let t = least_there (λ (q : RowPlace). q.key.time) places p h in
      let i = least_there (λ (q : RowPlace). q.import) places p h in
      second_at_most _ _ as_of e (omega arith) (omega arith)

  -- ---- the latest version

  pick_of_hidden : (kind : Kind) (id : ℕ) (places : List RowPlace) → may_show as_of places ≡ false → (found : Option RowPlace) → IsPick kind id as_of (λ p. p) [] found → IsPick kind id as_of (λ p. p) places found
  unfolding IsPick
  pick_of_hidden kind id places e None r = λ x h c. let k = candidate kind id as_of x c in none_there places e x h k.early k.shown
  pick_of_hidden kind id places e (Some b) r = absurd r.there

  pub pick_of_part : (kind : Kind) (id : ℕ) (places : List RowPlace) (found : Option RowPlace) → IsPick kind id as_of (λ p. p) (shown_part as_of places) found → IsPick kind id as_of (λ p. p) places found
  pick_of_part kind id places found =
      elim (may_show as_of places) as (λ t. may_show as_of places ≡ t → IsPick kind id as_of (λ p. p) (cond t places []) found → IsPick kind id as_of (λ p. p) places found) [
        | true ↦ λ e r. r
        | false ↦ λ e r. pick_of_hidden kind id places e found r
      ] refl
