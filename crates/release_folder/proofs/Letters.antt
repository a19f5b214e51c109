-- Where the letters of a name end.
use Rattle.std.proofs.Common.{◌≡◌, ◌<◌, ◌≤◌, ◌+◌, ℕ, List, length, take, drop, get_or, codes, All, sym, ◌∙◌, ap, subst, arith, inl, inr}
use Rattle.std.proofs.lemmas.Bool.{cases_order}
use Rattle.std.proofs.lemmas.List.{get_or-take, get_or-drop, length-drop, length-take-le, take_all}
use Rattle.memchr.specs.Find.{OccursAt}
use Rattle.release_folder.specs.Names.{IsColumnLetter, BeginsAsRefset}

-- behind so many letters stands an `R`
stands : (name : List ℕ) (r : BeginsAsRefset name) → (r.columns < length name) × (get_or name r.columns 0 ≡ 82)
stands name r =
    let fits : 0 + 7 ≤ length (drop r.columns name) = r.refset.fits in
    let first : get_or (drop r.columns name) 0 0 ≡ 82 = r.refset.reads 0 (omega arith) in
    let behind : get_or (drop r.columns name) 0 0 ≡ get_or name r.columns 0 = get_or-drop r.columns name 0 0 ∙ ap (λ n. get_or name n 0) (omega arith) in
    (omega (arith, fits, length-drop r.columns name), sym behind ∙ first)

no_letter : (byte : ℕ) → byte ≡ 82 → IsColumnLetter byte → ⊥
no_letter byte is letter = elim letter [
  | inl c ↦ omega (arith, is, c)
  | inr other ↦ elim other [ inl i ↦ omega (arith, is, i) | inr s ↦ omega (arith, is, s) ]
]

letter_at : (name : List ℕ) (n i : ℕ) → i < n → n ≤ length name → All IsColumnLetter (take n name) → IsColumnLetter (get_or name i 0)
letter_at name n i below within letters =
    subst IsColumnLetter (get_or-take n name i 0 below) (letters i 0 (omega (arith, length-take-le n name within)))

-- Letters stand before this place, and none at it: here `Refset_` stands, where the name begins so.
pub at_place : (name : List ℕ) (i : ℕ) → i < length name → All IsColumnLetter (take i name) → (IsColumnLetter (get_or name i 0) → ⊥) → BeginsAsRefset name → OccursAt (drop i name) (codes "Refset_") 0
at_place name i within before other r =
    let stands_there = stands name r in
    elim (cases_order r.columns i) [
      | inl same ↦ subst (λ n. OccursAt (drop n name) (codes "Refset_") 0) same r.refset
      | inr apart ↦ elim apart [
        | inl less ↦ absurd (no_letter (get_or name r.columns 0) stands_there.1 (letter_at name i r.columns less (omega arith) before))
        | inr more ↦ absurd (other (letter_at name r.columns i more (omega (arith, stands_there.0)) r.letters))
      ]
    ]

-- a name of letters alone doesn't begin so
pub letters_alone : (name : List ℕ) (i : ℕ) → length name ≤ i → All IsColumnLetter (take i name) → BeginsAsRefset name → ⊥
letters_alone name i past letters r =
    let stands_there = stands name r in
    let all : All IsColumnLetter name = subst (All IsColumnLetter) (take_all i name past) letters in
    no_letter (get_or name r.columns 0) stands_there.1 (all r.columns 0 stands_there.0)
