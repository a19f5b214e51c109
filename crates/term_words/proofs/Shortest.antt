-- Rows that are kept group by group.
use Rattle.std.proofs.Common.{◌≡◌, ◌⊎◌, ℕ, zero, suc, ◌+◌, ◌<◌, ◌≤◌, Bool, true, false, List, [], ◌∷◌, ◌++◌, length, get_or, take, drop, refl, sym, ap, subst, inl, inr, ◌∙◌, arith, take-append-drop}
use Rattle.std.specs.Prelude.{Option, Some, None, slice_get}
use Rattle.std.specs.List.Sorted.{IsNonDecreasingBy}
use Rattle.std.specs.Cmp.{tied_itself}
use Rattle.std.proofs.lemmas.Option.{same_Some}
use Rattle.std.proofs.lemmas.List.{take_more}
use Rattle.history_model.specs.declared.stamped.StampedRow.{StampedRow}
use Rattle.history_model.specs.InOrder.{Has}
use Rattle.history_model.proofs.InOrder.{Has-append_left, Has-append_right, Has-append_cases}
use Rattle.history_model.proofs.Items.{number_of_item}
use Rattle.as_of_index.specs.declared.as_of.AsOf.{AsOf}
use Rattle.as_of_index.specs.declared.chosen.Chosen.{Chosen}
use Rattle.as_of_index.specs.Private.Chosen.{ranked_cmp}
use Rattle.as_of_index.specs.Private.Once.{IsThere, AreOnce}
use Rattle.term_words.specs.declared.grouping.Group.{Group}
use Rattle.term_words.specs.Private.{IsOfGroup, IsOfSome, AddsRowsOf, AddsMarked, SaysEnough, AreKept, AreShortest}
use Rattle.term_words.proofs.Found.{ranked_total}

pub says_enough : (count last next : ℕ) (kept once : List Chosen) (b : Bool) → AreOnce ranked_cmp kept once → last < next → (b ≡ true → count ≤ length once) → SaysEnough count last next kept once b
says_enough count last next kept once true o lt le = (o, le refl, lt)
says_enough count last next kept once false o lt le = inr o

module _ (lists : List (List StampedRow)) (as_of : AsOf) (marks : List (List ℕ)) where
  abbrev Of : List Group → Chosen → Type 0
  Of groups k = IsOfSome lists as_of groups marks k

  more_groups : (groups others : List Group) (k : Chosen) → Of groups k → Of (groups ++ others) k
  more_groups groups others k w = (w.0, Has-append_left groups others w.0 w.1, w.2, w.3, w.4)

  pub kept_none : AreKept lists as_of [] marks []
  kept_none = record { only = λ k h. absurd h; all = λ k w. absurd w.1 }

  more_there : (kept more : List Chosen) (k : Chosen) → IsThere ranked_cmp kept k → IsThere ranked_cmp (kept ++ more) k
  more_there kept more k w = (w.0, Has-append_left kept more w.0 w.1, w.2)

  -- the rows of one group more
  pub kept_more : (groups : List Group) (g : Group) (own : List ℕ) (kept kept' : List Chosen) → slice_get marks g.segment ≡ Some own → AreKept lists as_of groups marks kept → AddsRowsOf lists as_of g own kept kept' → AreKept lists as_of (groups ++ g ∷ []) marks kept'
  kept_more groups g own kept kept' e a adds =
      subst (λ ks. AreKept lists as_of (groups ++ g ∷ []) marks ks) (sym adds.kept_are) (record {
        only = λ k h. elim (Has-append_cases kept adds.more k h) [
          | inl l ↦ more_groups groups (g ∷ []) k (a.only k l)
          | inr r ↦ (g, Has-append_right groups (g ∷ []) g (inl refl), own, e, adds.only k r)
        ];
        all = λ k w. elim (Has-append_cases groups (g ∷ []) w.0 w.1) [
          | inl l ↦ more_there kept adds.more k (a.all k (w.0, l, w.2, w.3, w.4))
          | inr r ↦ elim r [
            | inl same ↦ (
                let seg : g.segment ≡ w.0.segment = ap (λ (x : Group). x.segment) same in
                let marks_are : w.2 ≡ own = same_Some w.2 own (sym w.3 ∙ ap (slice_get marks) (sym seg) ∙ e) in
                let of_g : IsOfGroup lists as_of g own k = subst (λ ms. IsOfGroup lists as_of g ms k) marks_are (subst (λ (x : Group). IsOfGroup lists as_of x w.2 k) (sym same) w.4) in
                (k, Has-append_right kept adds.more k (adds.all k of_g), tied_itself ranked_total k))
            | inr none ↦ absurd none
          ]
        ];
      })

  -- a group of a list without marks has no rows to keep
  pub kept_less : (groups : List Group) (g : Group) (kept : List Chosen) → slice_get marks g.segment ≡ None → AreKept lists as_of groups marks kept → AreKept lists as_of (groups ++ g ∷ []) marks kept
  kept_less groups g kept e a = record {
    only = λ k h. more_groups groups (g ∷ []) k (a.only k h);
    all = λ k w. elim (Has-append_cases groups (g ∷ []) w.0 w.1) [
      | inl l ↦ a.all k (w.0, l, w.2, w.3, w.4)
      | inr r ↦ elim r [
        | inl same ↦ absurd (let none = sym w.3 ∙ ap (λ (x : Group). slice_get marks x.segment) (sym same) ∙ e in cc)
        | inr none ↦ absurd none
      ]
    ];
  }

  once_there : (kept once : List Chosen) (k : Chosen) → AreOnce ranked_cmp kept once → IsThere ranked_cmp kept k → IsThere ranked_cmp once k
  once_there kept once k o w =
      let v = o.there w.0 w.1 in
      (v.0, v.1, ranked_total.congr k w.0 v.0 w.2 ∙ v.2)

  pub kept_once : (groups : List Group) (kept once : List Chosen) → AreKept lists as_of groups marks kept → AreOnce ranked_cmp kept once → AreKept lists as_of groups marks once
  kept_once groups kept once a o = record {
    only = λ k h. a.only k (o.only k h);
    all = λ k w. once_there kept once k o (a.all k w);
  }

  pub shortest_all : (groups : List Group) (count : ℕ) (kept once : List Chosen) → AreKept lists as_of groups marks kept → AreOnce ranked_cmp kept once → AreShortest lists as_of groups marks count once
  shortest_all groups count kept once a o = record {
    ascending = o.ascending;
    only = λ k h. a.only k (o.only k h);
    all = λ k w. inl (once_there kept once k o (a.all k w));
  }

  -- where groups rise, those behind are no shorter than one
  behind : (groups : List Group) (i : ℕ) (g d : Group) → IsNonDecreasingBy (λ (x : Group). x.len) groups → i < length groups → Has (drop i groups) g → (get_or groups i d).len ≤ g.len
  behind groups i g d rise lt h =
      let w = number_of_item (drop i groups) g h in
      let there = at groups i w.0 g w.1 in
      let le = rise i (i + w.0) d (omega arith) there.0 in
      let same = ap (λ (x : Group). x.len) (there.1 d) in
      omega (arith, le, same) where
        at : (xs : List Group) (i j : ℕ) (x : Group) → slice_get (drop i xs) j ≡ Some x → (i + j < length xs) × ((d : Group) → get_or xs (i + j) d ≡ x)
        at [] zero j x e = absurd cc
        at [] (suc i) j x e = absurd cc
        at (y ∷ xs) zero zero x e = (omega arith, λ d. same_Some y x e)
        at (y ∷ xs) zero (suc j) x e =
            let w = at xs zero j x e in
            let number : zero + suc j ≡ suc (zero + j) = omega arith in
            (let lt = w.0 in omega (arith, lt), λ d. ap (λ n. get_or (y ∷ xs) n d) number ∙ w.1 d)
        at (y ∷ xs) (suc i) j x e =
            let w = at xs i j x e in
            let number : suc i + j ≡ suc (i + j) = omega arith in
            (let lt = w.0 in omega (arith, lt), λ d. ap (λ n. get_or (y ∷ xs) n d) number ∙ w.1 d)

  pub shortest_some : (groups : List Group) (i count last : ℕ) (g d : Group) (kept once : List Chosen) → IsNonDecreasingBy (λ (x : Group). x.len) groups → i < length groups → g ≡ get_or groups i d → AreKept lists as_of (take i groups) marks kept → AreOnce ranked_cmp kept once
      → ((j : Chosen) → Has kept j → j.first ≤ last) → last < g.len → count ≤ length once → AreShortest lists as_of groups marks count once
  shortest_some groups i count last g d kept once rise lt is a o low longer many =
      let whole = take-append-drop i groups in
      record {
        ascending = o.ascending;
        only = λ k h. subst (λ gs. Of gs k) whole (more_groups (take i groups) (drop i groups) k (a.only k (o.only k h)));
        all = λ k w. elim (Has-append_cases (take i groups) (drop i groups) w.0 (subst (λ gs. Has gs w.0) (sym whole) w.1)) [
          | inl l ↦ inl (once_there kept once k o (a.all k (w.0, l, w.2, w.3, w.4)))
          | inr r ↦ inr (
            many,
            λ j h.
                let le = behind groups i w.0 d rise lt r in
                let own = ap (λ (x : Group). x.len) is in
                let first = ap (λ (x : Chosen). x.first) w.4.4 in
                let most = low j (o.only j h) in
                omega (arith, le, own, first, most, longer),
          )
        ];
      }

  -- the lengths of those that are kept
  pub low_more : (g : Group) (own : List ℕ) (last : ℕ) (kept kept' : List Chosen) → AddsRowsOf lists as_of g own kept kept' → ((j : Chosen) → Has kept j → j.first ≤ last) → last ≤ g.len → (j : Chosen) → Has kept' j → j.first ≤ g.len
  low_more g own last kept kept' adds low le j h = elim (Has-append_cases kept adds.more j (subst (λ ks. Has ks j) adds.kept_are h)) [
    | inl l ↦ (let most = low j l in omega (arith, most, le))
    | inr r ↦ (let same = ap (λ (x : Chosen). x.first) (adds.only j r).4 in omega (arith, same))
  ]

  -- ---- what the loop over the groups keeps

  pub record IsSoFar (groups : List Group) (i last : ℕ) (kept : List Chosen) : Type 0 where
    pub kept_so : AreKept lists as_of (take i groups) marks kept
    pub low : (j : Chosen) → Has kept j → j.first ≤ last
    pub next : (d : Group) → i < length groups → last ≤ (get_or groups i d).len

  pub so_far_none : (groups : List Group) → IsSoFar groups 0 0 []
  so_far_none groups = record { kept_so = kept_none; low = λ j h. absurd h; next = λ d lt. omega arith }

  one_more : (groups : List Group) (i : ℕ) (g d : Group) → i < length groups → g ≡ get_or groups i d → take (i + 1) groups ≡ take i groups ++ g ∷ []
  one_more groups i g d lt is = take_more groups i d lt ∙ ap (λ x. take i groups ++ x ∷ []) (sym is)

  next_len : (groups : List Group) (i : ℕ) (g e d : Group) → IsNonDecreasingBy (λ (x : Group). x.len) groups → g ≡ get_or groups i e → i < length groups → i + 1 < length groups → g.len ≤ (get_or groups (i + 1) d).len
  next_len groups i g e d rise is here lt =
      let le = rise i (i + 1) d (omega arith) lt in
      let same : get_or groups i d ≡ g = any_default groups i d e here ∙ sym is in
      let own = ap (λ (x : Group). x.len) same in
      omega (arith, le, own) where
        any_default : (xs : List Group) (i : ℕ) (d e : Group) → i < length xs → get_or xs i d ≡ get_or xs i e
        any_default [] i d e lt = absurd (omega arith)
        any_default (x ∷ xs) zero d e lt = refl
        any_default (x ∷ xs) (suc i) d e lt = any_default xs i d e (omega arith)

  pub so_far_more : (groups : List Group) (i last : ℕ) (g e : Group) (own : List ℕ) (kept kept' : List Chosen) → IsNonDecreasingBy (λ (x : Group). x.len) groups → i < length groups → g ≡ get_or groups i e → IsSoFar groups i last kept → slice_get marks g.segment ≡ Some own → AddsRowsOf lists as_of g own kept kept' → IsSoFar groups (i + 1) g.len kept'
  so_far_more groups i last g e own kept kept' rise lt is a marks_are adds = record {
    kept_so = subst (λ gs. AreKept lists as_of gs marks kept') (sym (one_more groups i g e lt is)) (kept_more (take i groups) g own kept kept' marks_are a.kept_so adds);
    low = low_more g own last kept kept' adds a.low (let le = a.next e lt in let same = ap (λ (x : Group). x.len) is in omega (arith, le, same));
    next = λ d more. next_len groups i g e d rise is lt more;
  }

  pub so_far_less : (groups : List Group) (i last : ℕ) (g e : Group) (kept : List Chosen) → IsNonDecreasingBy (λ (x : Group). x.len) groups → i < length groups → g ≡ get_or groups i e → IsSoFar groups i last kept → slice_get marks g.segment ≡ None → IsSoFar groups (i + 1) g.len kept
  so_far_less groups i last g e kept rise lt is a none = record {
    kept_so = subst (λ gs. AreKept lists as_of gs marks kept) (sym (one_more groups i g e lt is)) (kept_less (take i groups) g kept none a.kept_so);
    low = λ j h. (let most = a.low j h in let le = a.next e lt in let same = ap (λ (x : Group). x.len) is in omega (arith, most, le, same));
    next = λ d more. next_len groups i g e d rise is lt more;
  }

  pub so_far_once : (groups : List Group) (i last : ℕ) (kept once : List Chosen) → IsSoFar groups i last kept → AreOnce ranked_cmp kept once → IsSoFar groups i last once
  so_far_once groups i last kept once a o = record {
    kept_so = kept_once (take i groups) kept once a.kept_so o;
    low = λ j h. a.low j (o.only j h);
    next = a.next;
  }

  pub so_far_either : (groups : List Group) (i last : ℕ) (kept kept' : List Chosen) → IsSoFar groups i last kept → (kept' ≡ kept) ⊎ AreOnce ranked_cmp kept kept' → IsSoFar groups i last kept'
  so_far_either groups i last kept kept' a either = elim either [
    | inl same ↦ subst (λ ks. IsSoFar groups i last ks) (sym same) a
    | inr o ↦ so_far_once groups i last kept kept' a o
  ]

  pub so_far_next : (groups : List Group) (i last : ℕ) (g e : Group) (kept kept' : List Chosen) → IsNonDecreasingBy (λ (x : Group). x.len) groups → i < length groups → g ≡ get_or groups i e → IsSoFar groups i last kept → AddsMarked lists as_of g marks kept kept' → IsSoFar groups (i + 1) g.len kept'
  so_far_next groups i last g e kept kept' rise lt is a adds = by (slice_get marks g.segment) refl where
    by : (own : Option (List ℕ)) → slice_get marks g.segment ≡ own → IsSoFar groups (i + 1) g.len kept'
    by (Some own) are = so_far_more groups i last g e own kept kept' rise lt is a are (adds.some own are)
    by None none = subst (λ ks. IsSoFar groups (i + 1) g.len ks) (sym (adds.none none)) (so_far_less groups i last g e kept rise lt is a none)
