-- One byte written to each position of some ranges, range by range.
use Rattle.std.specs.Prelude.{All}
use Rattle.std.proofs.Common.{◌≡◌, ◌⊎◌, inl, inr, ℕ, ◌+◌, ◌<◌, ◌≤◌, List, [], ◌∷◌, ◌++◌, length, get_or, take, refl, sym, ◌∙◌, subst, arith}
use Rattle.std.proofs.lemmas.Bool.{cases_lt}
use Rattle.std.proofs.lemmas.List.{take_more}
use Rattle.std.proofs.lemmas.List.Elements.{All-nil, All-push, All-contains, Contains-push}
use Rattle.list_lemmas.proofs.Each.{all_of_front}
use Rattle.disk_model.specs.Disk.{IsOutside}
use Rattle.disk_model.specs.Private.Replay.{IsFilledIn}

-- a position is outside a range or in it
outside_or_in : (i : ℕ) (range : ℕ × ℕ) → IsOutside i range ⊎ ((range.0 ≤ i) × (i < range.1))
outside_or_in i range = elim (cases_lt i range.0) [
  | inl below ↦ inl (inl below)
  | inr from ↦ elim (cases_lt i range.1) [ inl inside ↦ inr (from, inside) | inr past ↦ inl (inr past) ]
]

pub All-last : {X : Type 0} (P : X → Type 0) (xs : List X) (x : X) → All P (xs ++ x ∷ []) → P x
All-last P xs x all = All-contains P (xs ++ x ∷ []) x all (Contains-push xs x)

pub filled_none : (byte : ℕ) (old : List ℕ) (ranges : List (ℕ × ℕ)) → IsFilledIn (take 0 ranges) byte old old
filled_none byte old ranges = record { inside = λ i lt some. absurd (some (All-nil (IsOutside i))); outside = λ i out. refl }

filled_push : (ranges : List (ℕ × ℕ)) (range : ℕ × ℕ) (byte : ℕ) (old mid new : List ℕ) → length mid ≡ length old → IsFilledIn ranges byte old mid
    → ((i : ℕ) → range.0 ≤ i → i < range.1 → i < length mid → get_or new i 0 ≡ byte) → ((i : ℕ) → (i < range.0) ⊎ (range.1 ≤ i) → get_or new i 0 ≡ get_or mid i 0)
    → IsFilledIn (ranges ++ range ∷ []) byte old new
filled_push ranges range byte old mid new same so_far here there = record {
  inside = λ i lt some.
      elim (outside_or_in i range) [
        | inl out ↦ there i out ∙ so_far.inside i lt (λ all. some (All-push (IsOutside i) ranges range all out))
        | inr within ↦ here i within.0 within.1 (omega (arith, same))
      ];
  outside = λ i all. there i (All-last (IsOutside i) ranges range all) ∙ so_far.outside i (all_of_front (IsOutside i) ranges (range ∷ []) all);
}

pub filled_more : (ranges : List (ℕ × ℕ)) (k : ℕ) (d : ℕ × ℕ) (byte : ℕ) (old mid new : List ℕ) → k < length ranges → length mid ≡ length old → IsFilledIn (take k ranges) byte old mid
    → ((i : ℕ) → (get_or ranges k d).0 ≤ i → i < (get_or ranges k d).1 → i < length mid → get_or new i 0 ≡ byte)
    → ((i : ℕ) → (i < (get_or ranges k d).0) ⊎ ((get_or ranges k d).1 ≤ i) → get_or new i 0 ≡ get_or mid i 0) → IsFilledIn (take (k + 1) ranges) byte old new
filled_more ranges k d byte old mid new lt same so_far here there =
    subst (λ (l : List (ℕ × ℕ)). IsFilledIn l byte old new) (sym (take_more ranges k d lt)) (filled_push (take k ranges) (get_or ranges k d) byte old mid new same so_far here there)
