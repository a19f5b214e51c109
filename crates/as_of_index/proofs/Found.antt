-- The latest candidate of one list, and of several.
use Rattle.std.proofs.Common.{◌≡◌, ℕ, ◌+◌, ◌<◌, ◌≤◌, Bool, true, false, cond, List, [], ◌∷◌, ◌++◌, length, get_or, take, drop, reverse, refl, sym, ap, subst, inl, inr, ◌∙◌, arith, take-append-drop, append-nil, append_assoc}
use Rattle.std.specs.Prelude.{◌&&◌, ◌||◌, ◌==◌, not, nat_le, nat_lt, Option, Some, None}
use Rattle.std.specs.List.{AllByRecursion, find}
use Rattle.std.specs.declared.cmp.Ordering.TheVariants.{Less}
use Rattle.std.proofs.lemmas.Bool.Decides.{nat_tests}
use Rattle.std.proofs.lemmas.List.{take_more}
use Rattle.std.proofs.lemmas.Bool.{and_parts}
use Rattle.list_lemmas.proofs.Parts.{taken_before}
use Rattle.rf2_values.specs.declared.row.Kind.{Kind}
use Rattle.rf2_values.specs.Key.{kind_place}
use Rattle.history_model.specs.InOrder.{Has, IsAscending}
use Rattle.history_model.proofs.InOrder.{Has-all, all_from_has, Has-append_left, Has-append_right, Has-append_cases}
use Rattle.history_model.proofs.Filtered.{Has-map_from, IsAscending-take}
use Rattle.history_model.proofs.Searching.{IsDescending}
use Rattle.history_model.proofs.Searching.{IsDescending-reverse, Has-reverse_cases, Has-reverse_from}
use Rattle.segment.specs.declared.place.RowPlace.{RowPlace}
use Rattle.as_of_index.specs.declared.as_of.AsOf.{AsOf}
use Rattle.as_of_index.specs.declared.search.Start.TheVariants.{AfterVersion, Later}
use Rattle.as_of_index.specs.Places.{place_cmp}
use Rattle.as_of_index.specs.Private.Search.{in_segment, all_places, is_of, is_candidate, is_before, SplitsAt, stops, IsLatestOf, IsPick, later_of}
use Rattle.as_of_index.proofs.Ordered.{of_one_segment, below, IsBelow}

-- ---- tests on plain numbers

stop_at : (o : Bool) (import pin : ℕ) → (not o || nat_le import pin) ≡ true → o ≡ true → import ≤ pin
stop_at true import pin e f = grind (arith, nat_tests, e)
stop_at false import pin e f = absurd (cc)

pass_by : (o : Bool) (import pin : ℕ) → (not o || nat_le import pin) ≡ false → nat_le import pin ≡ false
pass_by true import pin e = e
pass_by false import pin e = absurd (cc)

up_to : (kind id date k i t : ℕ) → (nat_lt k kind || (k == kind && (nat_lt i id || (i == id && nat_le t date)))) ≡ true → (k == kind && i == id) ≡ true → t ≤ date
up_to kind id date k i t e f = grind (arith, nat_tests, e, f)

from_candidate : (kind id date k i t : ℕ) → (k == kind && i == id) ≡ true → t ≤ date → (nat_lt k kind || (k == kind && (nat_lt i id || (i == id && nat_le t date)))) ≡ true
from_candidate kind id date k i t e f = grind (arith, nat_tests, e, f)

earlier : (kind id k i t l j u : ℕ) → IsBelow k i t l j u → (k == kind && i == id) ≡ true → (l == kind && j == id) ≡ true → t ≤ u
earlier kind id k i t l j u h e f = grind (arith, nat_tests, h, e, f)

-- below what is up to the component's versions and is none of them there is none
none_below : (kind id date k i t l j u : ℕ) → IsBelow k i t l j u → (nat_lt l kind || (l == kind && (nat_lt j id || (j == id && nat_le u date)))) ≡ true → (l == kind && j == id) ≡ false → (k == kind && i == id) ≡ true → ⊥
none_below kind id date k i t l j u h e f g = grind (arith, nat_tests, h, e, f, g)

below_not_of : (kind id k i : ℕ) → (nat_lt k kind || (k == kind && (nat_lt i id || (i == id && false)))) ≡ true → (k == kind && i == id) ≡ true → ⊥
below_not_of kind id k i e f = grind (arith, nat_tests, e, f)

module _ (kind : Kind) (id : ℕ) (as_of : AsOf) where
  pub record IsCandidate (p : RowPlace) : Type 0 where
    pub of : is_of kind id p ≡ true
    pub early : p.key.time ≤ as_of.date
    pub shown : p.import ≤ as_of.pin

  pub candidate : (p : RowPlace) → is_candidate kind id as_of p ≡ true → IsCandidate p
  candidate p e =
      let q = and_parts (is_of kind id p && nat_le p.key.time as_of.date) (nat_le p.import as_of.pin) e in
      let r = and_parts (is_of kind id p) (nat_le p.key.time as_of.date) q.0 in
      record { of = r.0; early = grind (arith, nat_tests, r.1); shown = grind (arith, nat_tests, q.1) }

  pub candidate_test : (p : RowPlace) → is_of kind id p ≡ true → p.key.time ≤ as_of.date → p.import ≤ as_of.pin → is_candidate kind id as_of p ≡ true
  candidate_test p o e s =
      let t : nat_le p.key.time as_of.date ≡ true = grind (arith, nat_tests, e) in
      let i : nat_le p.import as_of.pin ≡ true = grind (arith, nat_tests, s) in
      rw (o, t, i) refl

  abbrev UpTo : RowPlace → Type 0
  UpTo p = is_before (AfterVersion kind id as_of.date) p ≡ true

  -- ---- going back over a list

  stop_found : (ys : List RowPlace) (y : RowPlace) → IsDescending place_cmp ys → AllByRecursion UpTo ys → Some y ≡ find (stops kind id as_of.pin) ys → is_of kind id y ≡ true → IsLatestOf kind id as_of (λ p. p) ys y
  stop_found [] y down up e o = absurd (cc)
  stop_found (x ∷ xs) y down up e o =
      elim (stops kind id as_of.pin x) as (λ t. stops kind id as_of.pin x ≡ t → Some y ≡ cond t (Some x) (find (stops kind id as_of.pin) xs) → IsLatestOf kind id as_of (λ p. p) (x ∷ xs) y) [
        | true ↦ λ f g.
            let same : x ≡ y = cc in
            let of_x : is_of kind id x ≡ true = subst (λ z. is_of kind id z ≡ true) (sym same) o in
            subst (λ z. IsLatestOf kind id as_of (λ p. p) (x ∷ xs) z) same (record {
              there = inl refl;
              passes = candidate_test x of_x (up_to (kind_place kind) id as_of.date _ _ _ up.0 of_x) (stop_at (is_of kind id x) x.import as_of.pin f of_x);
              latest = λ z h c. elim h [
                | inl q ↦ (let r = ap (λ (w : RowPlace). w.key.time) q in omega arith)
                | inr t ↦ earlier (kind_place kind) id _ _ _ _ _ _ (below z x (Has-all (λ w. place_cmp w x ≡ Less) xs z down.0 t)) (candidate z c).of of_x
              ];
            })
        | false ↦ λ f g.
            let r = stop_found xs y down.1 up.1 g o in
            record {
              there = inr r.there;
              passes = r.passes;
              latest = λ z h c. elim h [
                | inl q ↦ absurd (let n = pass_by (is_of kind id x) x.import as_of.pin f in let m = (candidate z c).shown in let i = ap (λ (w : RowPlace). w.import) q in not_shown x.import z.import n i m)
                | inr t ↦ r.latest z t c
              ];
            }
      ] refl e where
        not_shown : (a b : ℕ) → nat_le a as_of.pin ≡ false → a ≡ b → b ≤ as_of.pin → ⊥
        not_shown a b n i m = grind (arith, nat_tests, n)

  abbrev NoneIn : List RowPlace → Type 0
  NoneIn ys = (z : RowPlace) → Has ys z → is_candidate kind id as_of z ≡ true → ⊥

  not_shown : (a b : ℕ) → nat_le a as_of.pin ≡ false → a ≡ b → b ≤ as_of.pin → ⊥
  not_shown a b n i m = grind (arith, nat_tests, n)

  other_found : (ys : List RowPlace) (y : RowPlace) → IsDescending place_cmp ys → AllByRecursion UpTo ys → Some y ≡ find (stops kind id as_of.pin) ys → is_of kind id y ≡ false → NoneIn ys
  other_found [] y down up e o z h c = h
  other_found (x ∷ xs) y down up e o z h c =
      elim (stops kind id as_of.pin x) as (λ t. stops kind id as_of.pin x ≡ t → Some y ≡ cond t (Some x) (find (stops kind id as_of.pin) xs) → ⊥) [
        | true ↦ λ f g.
            let same : x ≡ y = cc in
            let not_x : is_of kind id x ≡ false = subst (λ z. is_of kind id z ≡ false) (sym same) o in
            elim h [
              | inl q ↦ (let a = subst (λ w. is_of kind id w ≡ false) q not_x in let b = (candidate z c).of in absurd (cc))
              | inr t ↦ none_below (kind_place kind) id as_of.date _ _ _ _ _ _ (below z x (Has-all (λ w. place_cmp w x ≡ Less) xs z down.0 t)) up.0 not_x (candidate z c).of
            ]
        | false ↦ λ f g. elim h [
          | inl q ↦ not_shown x.import z.import (pass_by (is_of kind id x) x.import as_of.pin f) (ap (λ (w : RowPlace). w.import) q) (candidate z c).shown
          | inr t ↦ other_found xs y down.1 up.1 g o z t c
        ]
      ] refl e

  none_found : (ys : List RowPlace) → None ≡ find (stops kind id as_of.pin) ys → NoneIn ys
  none_found [] e z h c = h
  none_found (x ∷ xs) e z h c =
      elim (stops kind id as_of.pin x) as (λ t. stops kind id as_of.pin x ≡ t → None ≡ cond t (Some x) (find (stops kind id as_of.pin) xs) → ⊥) [
        | true ↦ λ f g. absurd (cc)
        | false ↦ λ f g. elim h [
          | inl q ↦ not_shown x.import z.import (pass_by (is_of kind id x) x.import as_of.pin f) (ap (λ (w : RowPlace). w.import) q) (candidate z c).shown
          | inr t ↦ none_found xs g z t c
        ]
      ] refl e

  -- ---- one list, of which the search left the first so many

  module _ (list : List RowPlace) (end : ℕ) (up : IsAscending place_cmp list) (split : SplitsAt (is_before (AfterVersion kind id as_of.date)) list end) where
    in_list : (z : RowPlace) → Has (reverse (take end list)) z → Has list z
    in_list z h = subst (λ xs. Has xs z) (take-append-drop end list) (Has-append_left (take end list) (drop end list) z (Has-reverse_cases (take end list) z h))

    down : IsDescending place_cmp (reverse (take end list))
    down = IsDescending-reverse place_cmp (take end list) (IsAscending-take place_cmp end list up)

    each_up : AllByRecursion UpTo (reverse (take end list))
    each_up = all_from_has UpTo (reverse (take end list)) (λ z h. Has-all UpTo (take end list) z split.before (Has-reverse_cases (take end list) z h))

    from_list : (z : RowPlace) → Has list z → is_candidate kind id as_of z ≡ true → Has (reverse (take end list)) z
    from_list z h c =
        elim (Has-append_cases (take end list) (drop end list) z (subst (λ xs. Has xs z) (sym (take-append-drop end list)) h)) [
          | inl l ↦ Has-reverse_from (take end list) z l
          | inr r ↦ absurd (
              let no = Has-all (λ x. is_before (AfterVersion kind id as_of.date) x ≡ false) (drop end list) z split.rest r in
              let k = candidate z c in
              let yes : is_before (AfterVersion kind id as_of.date) z ≡ true = from_candidate (kind_place kind) id as_of.date _ _ _ k.of k.early in
              cc)
        ]

    pub picked_of_list : (y : RowPlace) → Some y ≡ find (stops kind id as_of.pin) (reverse (take end list)) → is_of kind id y ≡ true → IsPick kind id as_of (λ p. p) list (Some y)
    unfolding IsPick
    picked_of_list y e o =
        let r = stop_found (reverse (take end list)) y down each_up e o in
        record { there = in_list y r.there; passes = r.passes; latest = λ z h c. r.latest z (from_list z h c) c }

    pub other_of_list : (y : RowPlace) → Some y ≡ find (stops kind id as_of.pin) (reverse (take end list)) → is_of kind id y ≡ false → IsPick kind id as_of (λ p. p) list None
    unfolding IsPick
    other_of_list y e o = λ z h c. other_found (reverse (take end list)) y down each_up e o z (from_list z h c) c

    pub none_of_list : None ≡ find (stops kind id as_of.pin) (reverse (take end list)) → IsPick kind id as_of (λ p. p) list None
    unfolding IsPick
    none_of_list e = λ z h c. none_found (reverse (take end list)) e z (from_list z h c) c

    -- where all before it is below the component, there is none
    pub none_from : AllByRecursion (λ z. is_before (Later kind id None) z ≡ true) (take end list) → IsPick kind id as_of (λ p. p) list None
    unfolding IsPick
    none_from under = λ z h c.
        below_not_of (kind_place kind) id _ _ (Has-all (λ x. is_before (Later kind id None) x ≡ true) (take end list) z under (Has-reverse_cases (take end list) z (from_list z h c))) (candidate z c).of

  -- ---- several lists

  abbrev pub Picks : List (ℕ × RowPlace) → Option (ℕ × RowPlace) → Type 0
  Picks xs best = IsPick kind id as_of (λ (x : ℕ × RowPlace). x.1) xs best

  pub pick_nothing : Picks [] None
  unfolding IsPick
  pick_nothing = λ x h c. h

  pub one_alone : (n : ℕ) (ps : List RowPlace) (xs : List (ℕ × RowPlace)) (p : RowPlace) → ((x : ℕ × RowPlace) → Has xs x → is_candidate kind id as_of x.1 ≡ true → x.1.key.time ≤ p.key.time) → IsLatestOf kind id as_of (λ p. p) ps p → IsLatestOf kind id as_of (λ (x : ℕ × RowPlace). x.1) (xs ++ in_segment n ps) (n, p)
  one_alone n ps xs p older r = record {
    there = Has-append_right xs (in_segment n ps) (n, p) (Has-map_from (λ (q : RowPlace). (n, q)) ps p r.there);
    passes = r.passes;
    latest = λ x h c. elim (Has-append_cases xs (in_segment n ps) x h) [
      | inl l ↦ older x l c
      | inr t ↦ (let m = of_one_segment n ps x t in let e = ap (λ (y : ℕ × RowPlace). y.1) m.2 in let le = r.latest m.0 m.1 (subst (λ q. is_candidate kind id as_of q ≡ true) e c) in subst (λ (q : RowPlace). q.key.time ≤ p.key.time) (sym e) le)
    ];
  }

  pub first_stays : (n : ℕ) (ps : List RowPlace) (xs : List (ℕ × RowPlace)) (b : ℕ × RowPlace) → IsLatestOf kind id as_of (λ (x : ℕ × RowPlace). x.1) xs b → ((q : RowPlace) → Has ps q → is_candidate kind id as_of q ≡ true → q.key.time ≤ b.1.key.time) → IsLatestOf kind id as_of (λ (x : ℕ × RowPlace). x.1) (xs ++ in_segment n ps) b
  first_stays n ps xs b a older = record {
    there = Has-append_left xs (in_segment n ps) b a.there;
    passes = a.passes;
    latest = λ x h c. elim (Has-append_cases xs (in_segment n ps) x h) [
      | inl l ↦ a.latest x l c
      | inr t ↦ (let m = of_one_segment n ps x t in let e = ap (λ (y : ℕ × RowPlace). y.1) m.2 in let le = older m.0 m.1 (subst (λ q. is_candidate kind id as_of q ≡ true) e c) in subst (λ (q : RowPlace). q.key.time ≤ b.1.key.time) (sym e) le)
    ];
  }

  pub pick_more : (n : ℕ) (ps : List RowPlace) (xs : List (ℕ × RowPlace)) (best : Option (ℕ × RowPlace)) (found : Option RowPlace) → Picks xs best → IsPick kind id as_of (λ p. p) ps found → Picks (xs ++ in_segment n ps) (later_of best n found)
  unfolding IsPick
  pick_more n ps xs None None a r = λ x h c. elim (Has-append_cases xs (in_segment n ps) x h) [
    | inl l ↦ a x l c
    | inr t ↦ (let m = of_one_segment n ps x t in r m.0 m.1 (subst (λ (y : ℕ × RowPlace). is_candidate kind id as_of y.1 ≡ true) m.2 c))
  ]
  pick_more n ps xs (Some b) None a r = first_stays n ps xs b a (λ q h c. absurd (r q h c))
  pick_more n ps xs None (Some p) a r = one_alone n ps xs p (λ x l c. absurd (a x l c)) r
  pick_more n ps xs (Some b) (Some p) a r =
      elim (nat_lt b.1.key.time p.key.time) as (λ t. nat_lt b.1.key.time p.key.time ≡ t → IsPick kind id as_of (λ (x : ℕ × RowPlace). x.1) (xs ++ in_segment n ps) (elim t [ true ↦ Some (n, p) | false ↦ Some b ])) [
        | true ↦ λ f. one_alone n ps xs p (λ x l c. let le = a.latest x l c in let lt : b.1.key.time < p.key.time = grind (arith, nat_tests, f) in omega arith) r
        | false ↦ λ f. first_stays n ps xs b a (λ q h c. let le = r.latest q h c in let ge : p.key.time ≤ b.1.key.time = grind (arith, nat_tests, f) in omega arith)
      ] refl

pub places-push : (n : ℕ) (index : List (List RowPlace)) (ps : List RowPlace) → all_places n (index ++ ps ∷ []) ≡ all_places n index ++ in_segment (n + length index) ps
places-push n [] ps = append-nil (in_segment n ps) ∙ ap (λ k. in_segment k ps) (omega arith)
places-push n (qs ∷ index) ps =
    ap (λ xs. in_segment n qs ++ xs) (places-push (n + 1) index ps ∙ ap (λ k. all_places (n + 1) index ++ in_segment k ps) (omega arith))
    ∙ sym (append_assoc (in_segment n qs) (all_places (n + 1) index) (in_segment (n + length (qs ∷ index)) ps))

-- one list more is searched
pub places-more : (index : List (List RowPlace)) (i : ℕ) (ps : List RowPlace) → i < length index → ps ≡ get_or index i ps → all_places 0 (take (i + 1) index) ≡ all_places 0 (take i index) ++ in_segment i ps
places-more index i ps lt is =
    ap (all_places 0) (take_more index i ps lt ∙ ap (λ x. take i index ++ x ∷ []) (sym is))
    ∙ places-push 0 (take i index) ps
    ∙ ap (λ k. all_places 0 (take i index) ++ in_segment k ps) (taken_before index i lt)
