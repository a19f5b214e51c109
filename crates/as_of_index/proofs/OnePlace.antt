-- A key has one place, and so has a row.
use Rattle.std.proofs.Common.{◌≡◌, ℕ, zero, suc, ◌+◌, Bool, true, false, List, [], ◌∷◌, map, refl, sym, ap, subst, inl, inr, ◌∙◌, arith}
use Rattle.std.specs.Prelude.{◌&&◌, ◌==◌, Option, Some, None, slice_get}
use Rattle.std.specs.Cmp.{tied_itself}
use Rattle.std.specs.declared.cmp.Ordering.TheVariants.{Equal}
use Rattle.std.proofs.lemmas.Bool.{eqb-true, eq-eqb}
use Rattle.rf2_values.specs.declared.key.Key.{Key}
use Rattle.rf2_values.specs.Row.{RowValue}
use Rattle.rf2_values.specs.Key.{kind_place, key_of, key_cmp}
use Rattle.history_model.specs.declared.stamped.StampedRow.{StampedRow}
use Rattle.history_model.specs.InOrder.{Has}
use Rattle.history_model.proofs.InOrder.{Has-all, Has-append_left, Has-append_right, Has-append_cases, tie_is_same}
use Rattle.history_model.proofs.Filtered.{Has-map_from}
use Rattle.history_model.proofs.Keys.{same_kind}
use Rattle.rf2_values.specs.Private.{keys_total}
use Rattle.segment.specs.declared.place.RowPlace.{RowPlace}
use Rattle.segment.specs.Standing.{with_places, places_of, StandsAt}
use Rattle.segment.proofs.Posting.{says}
use Rattle.as_of_index.specs.Places.{place_cmp, ArePlaces}
use Rattle.as_of_index.specs.Private.Search.{ShareNoKey}
use Rattle.as_of_index.specs.Private.Search.{in_segment, all_places}
use Rattle.as_of_index.specs.Private.Current.{is_same_place}
use Rattle.as_of_index.proofs.Ordered.{places_total, of_one_segment}

in_some : (n : ℕ) (index : List (List RowPlace)) (x : ℕ × RowPlace) → Has (all_places n index) x → (ps : List RowPlace) × Has index ps × Has ps x.1
in_some n [] x h = absurd h
in_some n (qs ∷ index) x h = elim (Has-append_cases (in_segment n qs) (all_places (n + 1) index) x h) [
  | inl l ↦ (let m = of_one_segment n qs x l in (qs, inl refl, subst (λ q. Has qs q) (ap (λ (y : ℕ × RowPlace). y.1) (sym m.2)) m.1))
  | inr r ↦ (let m = in_some (n + 1) index x r in (m.0, inr m.1, m.2))
]

tie_of_keys : (p q : RowPlace) → p.key ≡ q.key → place_cmp p q ≡ Equal
tie_of_keys p q e = subst (λ (k : Key). key_cmp p.key k ≡ Equal) e (tied_itself keys_total p.key)

pub one_place : (n : ℕ) (index : List (List RowPlace)) → ArePlaces index → (x y : ℕ × RowPlace) → Has (all_places n index) x → Has (all_places n index) y → x.1.key ≡ y.1.key → x ≡ y
one_place n [] are x y h k e = absurd h
one_place n (qs ∷ index) are x y h k e = elim (Has-append_cases (in_segment n qs) (all_places (n + 1) index) x h) [
  | inl a ↦ elim (Has-append_cases (in_segment n qs) (all_places (n + 1) index) y k) [
    | inl b ↦ (
        let s = of_one_segment n qs x a in
        let t = of_one_segment n qs y b in
        let keys : s.0.key ≡ t.0.key = ap (λ (z : ℕ × RowPlace). z.1.key) (sym s.2) ∙ e ∙ ap (λ (z : ℕ × RowPlace). z.1.key) t.2 in
        let same = tie_is_same places_total qs s.0 t.0 are.ascending.0 s.1 t.1 (tie_of_keys s.0 t.0 keys) in
        s.2 ∙ ap (λ (p : RowPlace). (n, p)) same ∙ sym t.2)
    | inr b ↦ absurd (
        let s = of_one_segment n qs x a in
        let t = in_some (n + 1) index y b in
        Has-all (λ others. ShareNoKey qs others) index t.0 are.apart.0 t.1 s.0 y.1 s.1 t.2 (ap (λ (z : ℕ × RowPlace). z.1.key) (sym s.2) ∙ e))
  ]
  | inr a ↦ elim (Has-append_cases (in_segment n qs) (all_places (n + 1) index) y k) [
    | inl b ↦ absurd (
        let s = of_one_segment n qs y b in
        let t = in_some (n + 1) index x a in
        Has-all (λ others. ShareNoKey qs others) index t.0 are.apart.0 t.1 s.0 x.1 s.1 t.2 (ap (λ (z : ℕ × RowPlace). z.1.key) (sym s.2) ∙ sym e))
    | inr b ↦ one_place (n + 1) index (record { ascending = are.ascending.1; apart = are.apart.1 }) x y a b e
  ]
]

-- ---- which places are current

chain : (a b c d e f g : Bool) → (a && b && c && d && e && f && g) ≡ true → (a ≡ true) × (b ≡ true) × (c ≡ true) × (d ≡ true) × (e ≡ true) × (f ≡ true) × (g ≡ true)
chain true true true true true true true h = (refl, refl, refl, refl, refl, refl, refl)
chain false b c d e f g h = absurd (cc)
chain true false c d e f g h = absurd (cc)
chain true true false d e f g h = absurd (cc)
chain true true true false e f g h = absurd (cc)
chain true true true true false f g h = absurd (cc)
chain true true true true true false g h = absurd (cc)
chain true true true true true true false h = absurd (cc)

pub place_from_test : (n : ℕ) (p : RowPlace) (m : ℕ) (q : RowPlace) → is_same_place n p m q ≡ true → (n ≡ m) × (p ≡ q)
place_from_test n p m q h =
    let w = chain (n == m) (kind_place p.key.kind == kind_place q.key.kind) (p.key.id == q.key.id) (p.key.time == q.key.time) (p.import == q.import) (p.at == q.at) (p.bytes == q.bytes) h in
    let kinds = same_kind p.key.kind q.key.kind (eqb-true _ _ w.1) in
    let ids = eqb-true p.key.id q.key.id w.2 in
    let times : p.key.time ≡ q.key.time = eqb-true _ _ w.3 in
    let imports = eqb-true p.import q.import w.4 in
    let ats = eqb-true p.at q.at w.5 in
    let sizes = eqb-true p.bytes q.bytes w.6 in
    (eqb-true n m w.0, λ i. record { key = record { kind = kinds i; id = ids i; time = times i }; import = imports i; at = ats i; bytes = sizes i })

pub test_from_place : (n : ℕ) (p : RowPlace) (m : ℕ) (q : RowPlace) → n ≡ m → p ≡ q → is_same_place n p m q ≡ true
test_from_place n p m q e f =
    let a = eq-eqb n m e in
    let b = eq-eqb (kind_place p.key.kind) (kind_place q.key.kind) (ap (λ (x : RowPlace). kind_place x.key.kind) f) in
    let c = eq-eqb p.key.id q.key.id (ap (λ (x : RowPlace). x.key.id) f) in
    let d : (p.key.time == q.key.time) ≡ true = eq-eqb _ _ (ap (λ (x : RowPlace). x.key.time) f) in
    let g = eq-eqb p.import q.import (ap (λ (x : RowPlace). x.import) f) in
    let h = eq-eqb p.at q.at (ap (λ (x : RowPlace). x.at) f) in
    let k = eq-eqb p.bytes q.bytes (ap (λ (x : RowPlace). x.bytes) f) in
    rw (a, b, c, d, g, h, k) refl

module _ (lists : List (List StampedRow)) (are : ArePlaces (map places_of lists)) where
  -- where a row stands is a place of the index
  place_listed : (k i : ℕ) (lists : List (List StampedRow)) (rows : List StampedRow) (s : StampedRow) (p : RowPlace) → slice_get lists i ≡ Some rows → Has (with_places 0 rows) (s, p) → Has (all_places k (map places_of lists)) (k + i, p)
  place_listed k i [] rows s p e h = absurd (cc)
  place_listed k zero (r ∷ lists) rows s p e h =
      let same : r ≡ rows = cc in
      let there = Has-map_from (λ (q : RowPlace). (k, q)) (places_of rows) p (Has-map_from (λ (x : StampedRow × RowPlace). x.1) (with_places 0 rows) (s, p) h) in
      let number : k ≡ k + 0 = omega arith in
      Has-append_left (in_segment k (places_of r)) (all_places (k + 1) (map places_of lists)) (k + 0, p)
      (subst (λ n. Has (in_segment k (places_of r)) (n, p)) number (subst (λ z. Has (in_segment k (places_of z)) (k, p)) (sym same) there))
  place_listed k (suc i) (r ∷ lists) rows s p e h =
      let number : (k + 1) + i ≡ k + suc i = omega arith in
      Has-append_right (in_segment k (places_of r)) (all_places (k + 1) (map places_of lists)) (k + suc i, p)
      (subst (λ n. Has (all_places (k + 1) (map places_of lists)) (n, p)) number (place_listed (k + 1) i lists rows s p e h))

  pub listed_at : (n : ℕ) (p : RowPlace) (s : StampedRow) → StandsAt lists n p s → Has (all_places 0 (map places_of lists)) (n, p)
  listed_at n p s w =
      let number : 0 + n ≡ n = omega arith in
      subst (λ m. Has (all_places 0 (map places_of lists)) (m, p)) number (place_listed 0 n lists w.rows s p w.list_is w.there)

  -- two rows that are one answer stand at one place
  pub same_standing : (n m : ℕ) (p q : RowPlace) (s t : StampedRow) → StandsAt lists n p s → StandsAt lists m q t → key_of s.row ≡ key_of t.row → (n ≡ m) × (p ≡ q)
  same_standing n m p q s t a b keys =
      let ka = (says 0 a.rows (s, p) a.there).key_is in
      let kb = (says 0 b.rows (t, q) b.there).key_is in
      let same = one_place 0 (map places_of lists) are (n, p) (m, q) (listed_at n p s a) (listed_at m q t b) (ka ∙ keys ∙ sym kb) in
      (ap (λ (z : ℕ × RowPlace). z.0) same, ap (λ (z : ℕ × RowPlace). z.1) same)

pub no_answer : (answer : Option RowValue) (a : RowValue) → answer ≡ None → answer ≡ Some a → ⊥
no_answer answer a e f = let g = sym e ∙ f in absurd (cc)
