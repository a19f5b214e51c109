-- The rows of a group that are marked.
use Rattle.std.proofs.Common.{◌≡◌, ◌⊎◌, ℕ, zero, suc, ◌+◌, ◌-◌, ◌<◌, ◌≤◌, Bool, true, false, List, [], ◌∷◌, length, take, drop, cond, refl, sym, ap, subst, inl, inr, ◌∙◌, arith}
use Rattle.std.specs.Prelude.{Option, Some, None, slice_get, slice_index, nat_eq}
use Rattle.std.specs.Option.{option_to_list}
use Rattle.std.proofs.lemmas.Bool.Decides.{nat_tests}
use Rattle.std.proofs.lemmas.Option.{same_Some, slice_get_within}
use Rattle.memchr.specs.Find.{is_byte, places_from, places}
use Rattle.history_model.specs.InOrder.{Has}
use Rattle.history_model.proofs.Items.{Has-flat_map, Has-flat_map_from}
use Rattle.term_words.specs.declared.grouping.Group.{Group}
use Rattle.term_words.specs.Private.{IsMarked, IsInGroup, picked, hits}
use Rattle.term_words.proofs.Chained.{get-take, get-drop}

-- ---- the places of a byte

later_place : (test : ℕ → Bool) (hay : List ℕ) (i n j : ℕ) → (i + 1 ≤ j) × (j < (i + 1) + n) × (test (slice_index hay j) ≡ true) → (i ≤ j) × (j < i + suc n) × (test (slice_index hay j) ≡ true)
later_place test hay i n j w = let low = w.0 in let high = w.1 in (omega (arith, low), omega (arith, high), w.2)

place_by : (test : ℕ → Bool) (hay later : List ℕ) (i n j : ℕ) (b : Bool) → test (slice_index hay i) ≡ b → (Has later j → (i + 1 ≤ j) × (j < (i + 1) + n) × (test (slice_index hay j) ≡ true)) → Has (cond b (i ∷ later) later) j → (i ≤ j) × (j < i + suc n) × (test (slice_index hay j) ≡ true)
place_by test hay later i n j true is f h = elim h [
  | inl same ↦ (omega (arith, same), omega (arith, same), subst (λ m. test (slice_index hay m) ≡ true) same is)
  | inr rest ↦ later_place test hay i n j (f rest)
]
place_by test hay later i n j false is f h = later_place test hay i n j (f h)

place_from : (test : ℕ → Bool) (hay : List ℕ) (i n j : ℕ) → Has (places_from test hay i n) j → (i ≤ j) × (j < i + n) × (test (slice_index hay j) ≡ true)
unfolding places_from
place_from test hay i zero j h = absurd h
place_from test hay i (suc n) j h = place_by test hay (places_from test hay (i + 1) n) i n j (test (slice_index hay i)) refl (λ k. place_from test hay (i + 1) n j k) h

from_place : (test : ℕ → Bool) (hay : List ℕ) (i n j : ℕ) → i ≤ j → j < i + n → test (slice_index hay j) ≡ true → Has (places_from test hay i n) j
unfolding places_from
from_place test hay i zero j low high e = absurd (omega (arith, low, high))
from_place test hay i (suc n) j low high e = elim (same_or_above i j low) [
  | inl same ↦ (
      let first : test (slice_index hay i) ≡ true = ap (λ m. test (slice_index hay m)) same ∙ e in
      subst (λ b. Has (cond b (i ∷ places_from test hay (i + 1) n) (places_from test hay (i + 1) n)) j) (sym first) (inl same))
  | inr above ↦ (
      let rest = from_place test hay (i + 1) n j (omega (arith, above)) (omega (arith, high)) e in
      by (test (slice_index hay i)) rest)
] where
  same_or_above : (i j : ℕ) → i ≤ j → (i ≡ j) ⊎ (i < j)
  same_or_above zero zero le = inl refl
  same_or_above zero (suc j) le = inr (omega arith)
  same_or_above (suc i) zero le = absurd (omega (arith, le))
  same_or_above (suc i) (suc j) le = elim (same_or_above i j (omega (arith, le))) [ inl e ↦ inl (ap suc e) | inr lt ↦ inr (omega (arith, lt)) ]

  by : (b : Bool) → Has (places_from test hay (i + 1) n) j → Has (cond b (i ∷ places_from test hay (i + 1) n) (places_from test hay (i + 1) n)) j
  by true k = inr k
  by false k = k

one_of : (m : ℕ) → nat_eq m 1 ≡ true → m ≡ 1
one_of m e = grind (arith, nat_tests, e)

place_of : (bytes : List ℕ) (j : ℕ) → Has (places (is_byte 1) bytes) j → slice_get bytes j ≡ Some 1
place_of bytes j h =
    let w = place_from (is_byte 1) bytes 0 (length bytes - 0) j h in
    let high = w.1 in
    there bytes j (omega (arith, high)) ∙ ap Some (one_of (slice_index bytes j) w.2) where
      there : (xs : List ℕ) (i : ℕ) → i < length xs → slice_get xs i ≡ Some (slice_index xs i)
      there [] i lt = absurd (omega (arith, lt))
      there (x ∷ xs) zero lt = refl
      there (x ∷ xs) (suc i) lt = there xs i (omega (arith, lt))

of_place : (bytes : List ℕ) (j : ℕ) → slice_get bytes j ≡ Some 1 → Has (places (is_byte 1) bytes) j
of_place bytes j e =
    let lt = slice_get_within bytes j 1 e in
    from_place (is_byte 1) bytes 0 (length bytes - 0) j (omega arith) (omega (arith, lt)) (ap (λ m. nat_eq m 1) (index bytes j e)) where
      index : (xs : List ℕ) (i : ℕ) → slice_get xs i ≡ Some 1 → slice_index xs i ≡ 1
      index [] i e = absurd cc
      index (x ∷ xs) zero e = same_Some x 1 e
      index (x ∷ xs) (suc i) e = index xs i e

-- ---- the rows

picked_from : (rows numbers : List ℕ) (i : ℕ) → Has (picked rows numbers) i → (j : ℕ) × Has numbers j × (slice_get rows j ≡ Some i)
picked_from rows numbers i h =
    let m = Has-flat_map (λ j. option_to_list (slice_get rows j)) numbers i h in
    (m.0, m.1, own (slice_get rows m.0) m.2) where
      own : (o : Option ℕ) → Has (option_to_list o) i → o ≡ Some i
      own None k = absurd k
      own (Some x) k = elim k [ inl same ↦ ap Some same | inr none ↦ absurd none ]

picked_of : (rows numbers : List ℕ) (j i : ℕ) → Has numbers j → slice_get rows j ≡ Some i → Has (picked rows numbers) i
picked_of rows numbers j i h e = Has-flat_map_from (λ k. option_to_list (slice_get rows k)) numbers j i h (subst (λ o. Has (option_to_list o) i) (sym e) (inl refl))

mark_there : (marks : List ℕ) (first count j : ℕ) → slice_get (take count (drop first marks)) j ≡ Some 1 → j < count → IsMarked marks (first + j)
mark_there marks first count j e lt = sym (get-drop marks first j) ∙ sym (get-take (drop first marks) count j lt) ∙ e

-- a row of a group that is hit is marked by its rank
pub hit_marked : (g : Group) (marks : List ℕ) (i : ℕ) → Has (hits g marks) i → (rank : ℕ) × IsInGroup g rank i × IsMarked marks rank
hit_marked g marks i h =
    let count = length g.rows.now in
    let part = take count (drop g.first marks) in
    let w = picked_from g.rows.now (places (is_byte 1) part) i h in
    (g.first + w.0, (w.0, refl, w.2), mark_there marks g.first count w.0 (place_of part w.0 w.1) (slice_get_within g.rows.now w.0 i w.2))

pub marked_hit : (g : Group) (marks : List ℕ) (rank i : ℕ) → IsInGroup g rank i → IsMarked marks rank → Has (hits g marks) i
marked_hit g marks rank i w mark =
    let count = length g.rows.now in
    let part = take count (drop g.first marks) in
    let lt = slice_get_within g.rows.now w.0 i w.2 in
    picked_of g.rows.now (places (is_byte 1) part) w.0 i (of_place part w.0 (get-take (drop g.first marks) count w.0 lt ∙ get-drop marks g.first w.0 ∙ ap (slice_get marks) w.1 ∙ mark)) w.2
