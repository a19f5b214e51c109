-- The first by id that are kept.
use Rattle.std.proofs.Common.{◌≡◌, ◌⊎◌, ℕ, zero, suc, ◌+◌, ◌<◌, ◌≤◌, Bool, true, false, List, [], ◌∷◌, ◌++◌, length, get_or, take, map, refl, sym, ap, subst, inl, inr, ◌∙◌, arith, append-nil, append_assoc}
use Rattle.std.specs.Prelude.{◌==◌, ◌-◌, nat_lt, nat_le, Option, Some, None, Result, Ok, Err, OnOk, slice_get, flat_map}
use Rattle.std.specs.Option.{option_map, option_to_list}
use Rattle.std.proofs.lemmas.Grind.{flat_map-append}
use Rattle.std.specs.List.{AllByRecursion}
use Rattle.std.specs.Ordering.{nat_cmp, ordering_then}
use Rattle.std.specs.Cmp.{nat_cmp_total, ranked, tied_itself}
use Rattle.std.specs.declared.cmp.Ordering.{Ordering}
use Rattle.std.specs.declared.cmp.Ordering.TheVariants.{Less, Equal, Greater}
use Rattle.std.proofs.lemmas.Bool.Decides.{nat_tests}
use Rattle.std.proofs.lemmas.List.{take_more, length-take-le}
use Rattle.rf2_values.specs.declared.row.Kind.TheVariants as kinds
use Rattle.rf2_values.specs.Key.{kind_place}
use Rattle.history_model.specs.declared.stamped.StampedRow.{StampedRow}
use Rattle.history_model.specs.InOrder.{Has, IsAscending, put}
use Rattle.history_model.specs.Private.{IsPlace}
use Rattle.history_model.specs.Queries.{is_above}
use Rattle.history_model.proofs.InOrder.{Has-all, all_from_has, Has-append_left, Has-append_right, Has-append_cases, Has-put_cases, Has-put_old, Has-put_new, IsAscending-put}
use Rattle.history_model.proofs.Filtered.{IsAscending-take}
use Rattle.history_model.proofs.Items.{Has-flat_map, Has-flat_map_from, Has-permuted, Has-take, Has-slice_get}
use Rattle.as_of_index.specs.declared.chosen.Chosen.{Chosen}
use Rattle.segment.specs.declared.place.RowPlace.{RowPlace}
use Rattle.segment.specs.Standing.{places_of}
use Rattle.as_of_index.specs.Places.{item_at, place_cmp, ArePlaces, Lists}
use Rattle.as_of_index.specs.Current.{IsPlaceOfRow, IsCurrentAt}
use Rattle.as_of_index.specs.Private.Chosen.{chosen, chosen_cmp}
use Rattle.term_prefix.specs.declared.search.Search.{Search}
use Rattle.term_prefix.specs.declared.search.Bounds.{Bounds}
use Rattle.term_prefix.specs.declared.search.Candidate.TheVariants as candidates
use Rattle.term_prefix.specs.Private.{chosen_at, IsFull, IsKeptOrBeyond, Counts, AreKept, SaysFull, SaysCandidate, IsOfDescription, AreBounds}
use Rattle.as_of_index.specs.Private.Search.{SplitsAt}
use Rattle.as_of_index.proofs.First.{taken_or_above, length-put, put_there, put_new}
use Rattle.as_of_index.proofs.First.{Falls}
use Rattle.std.specs.List.Sorted.{IsPermutation}
use Rattle.std.proofs.lemmas.List.Sorted.{IsPermutation-sym}
use Rattle.std.proofs.lemmas.Option.{same_Some}
use Rattle.list_lemmas.proofs.Tests.{less_from_below}
use Rattle.list_lemmas.proofs.Parts.{taken_at_most}
use Rattle.term_prefix.specs.declared.text.Term.{Term}
use Rattle.as_of_index.proofs.Current.{chosen_total}

lower : (a b : Chosen) → chosen_cmp a b ≡ Less → a.at.key.id < b.at.key.id
lower a b e = ranked a.at.key.id b.at.key.id Less (sym e)

-- as many as may be are kept still
pub still_full : (limit : ℕ) (k : Chosen) (kept : List Chosen) → limit ≤ length kept → limit ≤ length (take limit (put chosen_cmp k kept))
still_full limit k kept le = let more = length-put chosen_cmp k kept in let e = length-take-le limit (put chosen_cmp k kept) (omega arith) in omega arith

-- what is there is among the first so many, or beyond them
taken_id : (limit : ℕ) (ys : List Chosen) (j : Chosen) (id : ℕ) → IsAscending chosen_cmp ys → Has ys j → j.at.key.id ≡ id → IsKeptOrBeyond limit (take limit ys) id
taken_id limit ys j id up h e = elim (taken_or_above chosen_total limit ys j up h) [
  | inl l ↦ inl (j, l, e)
  | inr r ↦ inr (r.0, λ i k. subst (λ n. i.at.key.id < n) e (lower i j (r.1 i k)))
]

module _ (lists : List (List StampedRow)) (search : Search) where
  pub kept_more : (seen kept : List Chosen) (k : Chosen) → AreKept lists search seen kept → Counts lists search k × SaysFull search.limit kept k.at.key.id false → AreKept lists search (seen ++ k ∷ []) (take search.limit (put chosen_cmp k kept))
  kept_more seen kept k a w =
      let up = IsAscending-put chosen_total k kept a.ascending in
      record {
        ascending = IsAscending-take chosen_cmp search.limit (put chosen_cmp k kept) up;
        few = taken_at_most search.limit (put chosen_cmp k kept);
        all = λ m h now. elim (Has-append_cases seen (k ∷ []) m h) [
          | inl l ↦ elim (a.all m l now) [
            | inl t ↦ taken_id search.limit (put chosen_cmp k kept) t.0 m.at.key.id up (Has-put_old chosen_cmp k kept t.0 t.1) t.2
            | inr b ↦ inr (
              still_full search.limit k kept b.0,
              λ i there. elim (Has-put_cases chosen_cmp k kept i (Has-take search.limit (put chosen_cmp k kept) i there)) [
                | inl e ↦ subst (λ (x : Chosen). x.at.key.id < m.at.key.id) e (let j = w.1 b.0 in let low = b.1 j.0 j.1 in let high = j.2 in omega arith)
                | inr old ↦ b.1 i old
              ],
            )
          ]
          | inr r ↦ elim r [
            | inl e ↦ subst (λ (x : Chosen). IsKeptOrBeyond search.limit (take search.limit (put chosen_cmp k kept)) x.at.key.id) e (itself up)
            | inr f ↦ absurd f
          ]
        ];
        only = λ m h. elim (Has-put_cases chosen_cmp k kept m (Has-take search.limit (put chosen_cmp k kept) m h)) [
          | inl e ↦ subst (λ (x : Chosen). Has (seen ++ k ∷ []) x × Counts lists search x) e (Has-append_right seen (k ∷ []) k (inl refl), w.0)
          | inr old ↦ (let o = a.only m old in (Has-append_left seen (k ∷ []) m o.0, o.1))
        ];
      } where
        itself : IsAscending chosen_cmp (put chosen_cmp k kept) → IsKeptOrBeyond search.limit (take search.limit (put chosen_cmp k kept)) k.at.key.id
        itself up = elim (Has-put_new chosen_cmp k kept) [
          | inl h ↦ taken_id search.limit (put chosen_cmp k kept) k k.at.key.id up h refl
          | inr y ↦ taken_id search.limit (put chosen_cmp k kept) y.0 k.at.key.id up (Has-put_old chosen_cmp k kept y.0 y.1) (sym (ranked k.at.key.id y.0.at.key.id Equal (sym y.2)))
        ]

  pub kept_other : (seen kept : List Chosen) (k : Chosen) → AreKept lists search seen kept → IsKeptOrBeyond search.limit kept k.at.key.id ⊎ (Counts lists search k → ⊥) → AreKept lists search (seen ++ k ∷ []) kept
  kept_other seen kept k a w = record {
    ascending = a.ascending;
    few = a.few;
    all = λ m h now. elim (Has-append_cases seen (k ∷ []) m h) [
      | inl l ↦ a.all m l now
      | inr r ↦ elim r [
        | inl e ↦ elim w [
          | inl t ↦ subst (λ (x : Chosen). IsKeptOrBeyond search.limit kept x.at.key.id) e t
          | inr no_more ↦ absurd (no_more (subst (λ (x : Chosen). Counts lists search x) (sym e) now))
        ]
        | inr f ↦ absurd f
      ]
    ];
    only = λ m h. let o = a.only m h in (Has-append_left seen (k ∷ []) m o.0, o.1);
  }

  pub kept_same : (seen others kept : List Chosen) → ((k : Chosen) → Has seen k → Has others k) → ((k : Chosen) → Has others k → Has seen k) → AreKept lists search seen kept → AreKept lists search others kept
  kept_same seen others kept f g a = record {
    ascending = a.ascending;
    few = a.few;
    all = λ k h now. a.all k (g k h) now;
    only = λ k h. let o = a.only k h in (f k o.0, o.1);
  }

-- the terms of a list, in whatever order they are met
pub terms_same : (lists : List (List StampedRow)) (search : Search) (n : ℕ) (seen kept : List Chosen) (ts others : List Term) → IsPermutation ts others
    → AreKept lists search (seen ++ flat_map (λ (t : Term). chosen_at lists n t.row) others) kept
    → AreKept lists search (seen ++ flat_map (λ (t : Term). chosen_at lists n t.row) ts) kept
terms_same lists search n seen kept ts others same are =
    kept_same lists search (seen ++ those others) (seen ++ those ts) kept (moved others ts same) (moved ts others (IsPermutation-sym ts others same)) are where
      those : List Term → List Chosen
      those = flat_map (λ (t : Term). chosen_at lists n t.row)

      moved : (xs ys : List Term) → IsPermutation ys xs → (k : Chosen) → Has (seen ++ those xs) k → Has (seen ++ those ys) k
      moved xs ys same k h = elim (Has-append_cases seen (those xs) k h) [
        | inl l ↦ Has-append_left seen (those ys) k l
        | inr r ↦
            let m = Has-flat_map (λ (t : Term). chosen_at lists n t.row) xs k r in
            Has-append_right seen (those ys) k (Has-flat_map_from (λ (t : Term). chosen_at lists n t.row) ys m.0 k (Has-permuted ys xs same m.0 m.1) m.2)
      ]

-- ---- whether one is taken

highest : (kept : List Chosen) (i : ℕ) (l j : Chosen) → IsAscending chosen_cmp kept → slice_get kept i ≡ Some l → length kept ≡ i + 1 → Has kept j → j.at.key.id ≤ l.at.key.id
highest [] i l j up e len h = absurd h
highest (k ∷ []) zero l j up e len h = elim h [ inl s ↦ (let same : j ≡ l = sym s ∙ (let t : k ≡ l = cc in t) in let ids = ap (λ (x : Chosen). x.at.key.id) same in omega arith) | inr t ↦ absurd t ]
highest (k ∷ m ∷ kept) zero l j up e len h = absurd (omega arith)
highest (k ∷ []) (suc i) l j up e len h = absurd (omega arith)
highest (k ∷ m ∷ kept) (suc i) l j up e len h = elim h [
  | inl s ↦ (
      let low = lower k m up.0.0 in
      let rest = highest (m ∷ kept) i l m up.1 e (omega arith) (inl refl) in
      let ids = ap (λ (x : Chosen). x.at.key.id) s in
      omega arith)
  | inr t ↦ highest (m ∷ kept) i l j up.1 e (omega arith) t
]

pub says_by_last : (limit : ℕ) (kept : List Chosen) (id i : ℕ) (l : Chosen) → slice_get kept i ≡ Some l → length kept ≡ i + 1 → limit ≤ length kept → IsAscending chosen_cmp kept → SaysFull limit kept id (nat_le l.at.key.id id)
says_by_last limit kept id i l e len full up =
    elim (nat_le l.at.key.id id) as (λ b. nat_le l.at.key.id id ≡ b → SaysFull limit kept id b) [
      | true ↦ λ f. (full, λ j h. let le = highest kept i l j up e len h in let last : l.at.key.id ≤ id = grind (arith, nat_tests, f) in omega arith)
      | false ↦ λ f. λ k. (l, Has-slice_get kept i l e, grind (arith, nat_tests, f))
    ] refl

pub says_last : (limit : ℕ) (kept : List Chosen) (id : ℕ) (l : Chosen) → slice_get kept (length kept - 1) ≡ Some l → limit ≤ length kept → IsAscending chosen_cmp kept → SaysFull limit kept id (nat_le l.at.key.id id)
says_last limit [] id l e full up = absurd (cc)
says_last limit (k ∷ kept) id l e full up = says_by_last limit (k ∷ kept) id (length (k ∷ kept) - 1) l e (omega arith) full up

-- ---- where an id stands

high : (k j : Chosen) → nat_lt j.at.key.id k.at.key.id ≡ true → chosen_cmp k j ≡ Greater
high k j e = greater_from k.at.key.id j.at.key.id (grind (arith, nat_tests, e)) where
  greater_from : (m n : ℕ) → n < m → nat_cmp m n ≡ Greater
  greater_from m n lt = by (nat_cmp m n) refl where
    by : (r : Ordering) → nat_cmp m n ≡ r → nat_cmp m n ≡ Greater
    by Less e = absurd (let l = ranked m n Less (sym e) in omega arith)
    by Equal e = absurd (let l = ranked m n Equal (sym e) in omega arith)
    by Greater e = e

at_place : (kept : List Chosen) (i : ℕ) (j : Chosen) → i < length kept → j ≡ get_or kept i j → slice_get kept i ≡ Some j
at_place [] i j lt e = absurd (omega arith)
at_place (k ∷ kept) zero j lt e = ap Some (sym e)
at_place (k ∷ kept) (suc i) j lt e = at_place kept i j (omega arith) e

no_place : (kept : List Chosen) (i : ℕ) (j : Chosen) → length kept ≤ i → slice_get kept i ≡ Some j → ⊥
no_place [] i j le e = absurd (cc)
no_place (k ∷ kept) zero j le e = absurd (omega arith)
no_place (k ∷ kept) (suc i) j le e = no_place kept i j (omega arith) e

rest_at : (p : Chosen → Bool) (kept : List Chosen) (i : ℕ) (j : Chosen) → SplitsAt p kept i → slice_get kept i ≡ Some j → p j ≡ false
rest_at p [] i j w e = absurd (cc)
rest_at p (k ∷ kept) zero j w e = let same : k ≡ j = cc in subst (λ x. p x ≡ false) same w.rest.0
rest_at p (k ∷ kept) (suc i) j w e = rest_at p kept i j (record { before = w.before.1; rest = w.rest }) e

module _ (kept : List Chosen) (i id : ℕ) (w : SplitsAt (λ j. nat_lt j.at.key.id id) kept i) (k : Chosen) (id_is : k.at.key.id ≡ id) where
  splits_by_k : SplitsAt (λ j. nat_lt j.at.key.id k.at.key.id) kept i
  splits_by_k = subst (λ n. SplitsAt (λ (j : Chosen). nat_lt j.at.key.id n) kept i) (sym id_is) w

  pub place_found : (j : Chosen) → i < length kept → j ≡ get_or kept i j → j.at.key.id ≡ id → IsPlace chosen_cmp k kept (Ok i)
  place_found j lt e same = (
    lt,
    put_there chosen_cmp k (λ j. nat_lt j.at.key.id k.at.key.id) (high k) kept i j splits_by_k (at_place kept i j lt e)
        (subst (λ n. nat_cmp k.at.key.id n ≡ Equal) (id_is ∙ sym same) (tied_itself nat_cmp_total k.at.key.id)),
  )

  pub place_other : (j : Chosen) → i < length kept → j ≡ get_or kept i j → (j.at.key.id ≡ id → ⊥) → IsPlace chosen_cmp k kept (Err i)
  place_other j lt e other = (
    omega arith,
    put_new chosen_cmp k (λ j. nat_lt j.at.key.id k.at.key.id) (high k) kept i (omega arith) splits_by_k (λ m f.
        let same : m ≡ j = (let g = sym f ∙ at_place kept i j lt e in cc) in
        subst (λ (x : Chosen). chosen_cmp k x ≡ Less) (sym same)
        (less_from_below k.at.key.id j.at.key.id (let p = rest_at (λ x. nat_lt x.at.key.id id) kept i j w (at_place kept i j lt e) in lower_id j p other))),
  ) where
    lower_id : (j : Chosen) → nat_lt j.at.key.id id ≡ false → (j.at.key.id ≡ id → ⊥) → k.at.key.id < j.at.key.id
    lower_id j p other = apart (λ e. other e) (grind (arith, nat_tests, p)) where
      apart : (j.at.key.id ≡ id → ⊥) → id ≤ j.at.key.id → k.at.key.id < j.at.key.id
      apart f le = grind (arith, nat_tests, f, le, id_is)

  pub place_end : i ≤ length kept → length kept ≤ i → IsPlace chosen_cmp k kept (Err i)
  place_end le end = (le, put_new chosen_cmp k (λ j. nat_lt j.at.key.id k.at.key.id) (high k) kept i le splits_by_k (λ m f. absurd (no_place kept i m end f)))

pub ids_parted : (id : ℕ) (kept : List Chosen) → IsAscending chosen_cmp kept → Falls (λ (j : Chosen). nat_lt j.at.key.id id) kept
ids_parted id [] up = tt
ids_parted id (k ∷ kept) up = (all_from_has (λ j. nat_lt j.at.key.id id ≡ true → nat_lt k.at.key.id id ≡ true) kept (λ j h e. below_too k j (lower k j (Has-all (λ j. chosen_cmp k j ≡ Less) kept j up.0 h)) e), ids_parted id kept up.1) where
  below_too : (k j : Chosen) → k.at.key.id < j.at.key.id → nat_lt j.at.key.id id ≡ true → nat_lt k.at.key.id id ≡ true
  below_too k j lt e = grind (arith, nat_tests, lt, e)

-- ---- an id that is too high

same_id : (id : ℕ) (kept : List Chosen) → ((j : Chosen) × Has kept j × (j.at.key.id ≡ id)) ⊎ ((j : Chosen) → Has kept j → j.at.key.id ≡ id → ⊥)
same_id id [] = inr (λ j h. absurd h)
same_id id (k ∷ kept) =
    elim (k.at.key.id == id) as (λ b. (k.at.key.id == id) ≡ b → ((j : Chosen) × Has (k ∷ kept) j × (j.at.key.id ≡ id)) ⊎ ((j : Chosen) → Has (k ∷ kept) j → j.at.key.id ≡ id → ⊥)) [
      | true ↦ λ e. inl (k, inl refl, grind (arith, nat_tests, e))
      | false ↦ λ e. elim (same_id id kept) [
        | inl w ↦ inl (w.0, inr w.1, w.2)
        | inr none ↦ inr (λ j h same. elim h [
          | inl f ↦ other k.at.key.id e (ap (λ (x : Chosen). x.at.key.id) f ∙ same)
          | inr t ↦ none j t same
        ])
      ]
    ] refl where
      other : (m : ℕ) → (m == id) ≡ false → m ≡ id → ⊥
      other m e f = grind (arith, nat_tests, e, f)

full_taken : (limit : ℕ) (kept : List Chosen) (id : ℕ) → IsFull limit kept id → IsKeptOrBeyond limit kept id
full_taken limit kept id full = elim (same_id id kept) [
  | inl w ↦ inl w
  | inr none ↦ inr (full.0, λ j h. below j.at.key.id (full.1 j h) (none j h))
] where
  below : (m : ℕ) → m ≤ id → (m ≡ id → ⊥) → m < id
  below m le f = grind (arith, nat_tests, le, f)

-- ---- one row more, which has a place or none

module _ (lists : List (List StampedRow)) (search : Search) (n i : ℕ) where
  abbrev chosen_of : Option RowPlace → List Chosen
  chosen_of o = map (chosen n) (option_to_list o)

  -- it is kept
  pub row_kept : (seen kept : List Chosen) (at : RowPlace) → AreKept lists search seen kept → SaysCandidate lists search kept n i (candidates.Wanted at) → AreKept lists search (seen ++ chosen_at lists n i) (take search.limit (put chosen_cmp (chosen n at) kept))
  row_kept seen kept at a w =
      subst (λ ks. AreKept lists search (seen ++ ks) (take search.limit (put chosen_cmp (chosen n at) kept))) (sym (ap chosen_of w.0))
      (kept_more lists search seen kept (chosen n at) a (w.1, w.2))

  -- it isn't
  row_left : (seen kept : List Chosen) → AreKept lists search seen kept → ((at : RowPlace) → IsPlaceOfRow lists n i at → IsKeptOrBeyond search.limit kept at.key.id ⊎ (Counts lists search (chosen n at) → ⊥)) → AreKept lists search (seen ++ chosen_at lists n i) kept
  row_left seen kept a w =
      elim (item_at (map places_of lists) n i) as (λ o. item_at (map places_of lists) n i ≡ o → AreKept lists search (seen ++ chosen_of o) kept) [
        | None ↦ λ e. subst (λ ks. AreKept lists search ks kept) (sym (append-nil seen)) a
        | Some at ↦ λ e. kept_other lists search seen kept (chosen n at) a (w at e)
      ] refl

  pub low_left : (seen kept : List Chosen) → AreKept lists search seen kept → ((at : RowPlace) → IsPlaceOfRow lists n i at → is_above search.after at.key.id ≡ false) → AreKept lists search (seen ++ chosen_at lists n i) kept
  low_left seen kept a low = row_left seen kept a (λ at place. inr (λ counts. absurd (let yes = counts.above in let no = low at place in cc)))

  pub high_left : (seen kept : List Chosen) → AreKept lists search seen kept → ((at : RowPlace) → IsPlaceOfRow lists n i at → IsFull search.limit kept at.key.id) → AreKept lists search (seen ++ chosen_at lists n i) kept
  high_left seen kept a high = row_left seen kept a (λ at place. inl (full_taken search.limit kept at.key.id (high at place)))

  pub old_left : (seen kept : List Chosen) → AreKept lists search seen kept → ((at : RowPlace) → IsPlaceOfRow lists n i at → Counts lists search (chosen n at) → ⊥) → AreKept lists search (seen ++ chosen_at lists n i) kept
  old_left seen kept a old = row_left seen kept a (λ at place. inr (old at place))

-- ---- one of a list more

pub pieces_more : {X : Type 0} (seen : List Chosen) (f : X → List Chosen) (ts : List X) (i : ℕ) (d : X) → i < length ts → seen ++ flat_map f (take (i + 1) ts) ≡ (seen ++ flat_map f (take i ts)) ++ f (get_or ts i d)
pieces_more seen f ts i d lt =
    ap (λ xs. seen ++ flat_map f xs) (take_more ts i d lt)
    ∙ ap (λ xs. seen ++ xs) (flat_map-append f (take i ts) (get_or ts i d ∷ []) ∙ ap (λ xs. flat_map f (take i ts) ++ xs) (append-nil (f (get_or ts i d))))
    ∙ sym (append_assoc seen (flat_map f (take i ts)) (f (get_or ts i d)))

-- ---- what is answered of a row

module _ (lists : List (List StampedRow)) (search : Search) (kept : List Chosen) (n i : ℕ) where
  one_place : (p q : RowPlace) → IsPlaceOfRow lists n i p → IsPlaceOfRow lists n i q → p ≡ q
  one_place p q e f = same_Some p q (sym e ∙ f)

  -- where a list has an id of a row, the row has a place
  place_of_id : (id : ℕ) (o : Option RowPlace) → Some id ≡ option_map (λ (p : RowPlace). p.key.id) o → (at : RowPlace) × (o ≡ Some at) × (id ≡ at.key.id)
  place_of_id id None e = absurd (cc)
  place_of_id id (Some at) e = (at, refl, same_Some id at.key.id e)

  pub says_none : None ≡ option_map (λ (p : RowPlace). p.key.id) (item_at (map places_of lists) n i) → SaysCandidate lists search kept n i candidates.Old
  says_none none at place counts = absurd (let ids = none ∙ ap (option_map (λ (p : RowPlace). p.key.id)) place in cc)

  module _ (id : ℕ) (id_is : Some id ≡ option_map (λ (p : RowPlace). p.key.id) (item_at (map places_of lists) n i)) where
    pub says_low : is_above search.after id ≡ false → SaysCandidate lists search kept n i candidates.Low
    says_low low = let w = place_of_id id (item_at (map places_of lists) n i) id_is in (w.0, w.1, subst (λ m. is_above search.after m ≡ false) w.2 low)

    pub says_high : IsFull search.limit kept id → SaysCandidate lists search kept n i candidates.High
    says_high full = let w = place_of_id id (item_at (map places_of lists) n i) id_is in (w.0, w.1, subst (λ m. IsFull search.limit kept m) w.2 full)

    pub says_wanted : (at : RowPlace) → is_above search.after id ≡ true → SaysFull search.limit kept id false → IsPlaceOfRow lists n i at × IsCurrentAt lists search.as_of n at → SaysCandidate lists search kept n i (candidates.Wanted at)
    says_wanted at above room w =
        let p = place_of_id id (item_at (map places_of lists) n i) id_is in
        let same : id ≡ at.key.id = p.2 ∙ ap (λ (q : RowPlace). q.key.id) (one_place p.0 at p.1 w.0) in
        (w.0, record { above = subst (λ m. is_above search.after m ≡ true) same above; current = w.1 }, subst (λ m. SaysFull search.limit kept m false) same room)

  pub says_old : ((at : RowPlace) → IsPlaceOfRow lists n i at × IsCurrentAt lists search.as_of n at → ⊥) → SaysCandidate lists search kept n i candidates.Old
  says_old none at place counts = none at (place, counts.current)

  -- what is said of its place is said of each
  pub each_low : SaysCandidate lists search kept n i candidates.Low → (at : RowPlace) → IsPlaceOfRow lists n i at → is_above search.after at.key.id ≡ false
  each_low w at place = subst (λ (p : RowPlace). is_above search.after p.key.id ≡ false) (one_place w.0 at w.1 place) w.2

  pub each_high : SaysCandidate lists search kept n i candidates.High → (at : RowPlace) → IsPlaceOfRow lists n i at → IsFull search.limit kept at.key.id
  each_high w at place = subst (λ (p : RowPlace). IsFull search.limit kept p.key.id) (one_place w.0 at w.1 place) w.2

-- ---- what is known of the rows behind and before one

nth_below : (ps : List RowPlace) (i j : ℕ) (p q : RowPlace) → IsAscending place_cmp ps → slice_get ps i ≡ Some p → slice_get ps j ≡ Some q → i < j → place_cmp p q ≡ Less
nth_below [] i j p q up e f lt = absurd (cc)
nth_below (x ∷ ps) i zero p q up e f lt = absurd (omega arith)
nth_below (x ∷ ps) zero (suc j) p q up e f lt =
    let same : x ≡ p = cc in
    subst (λ y. place_cmp y q ≡ Less) same (Has-all (λ y. place_cmp x y ≡ Less) ps q up.0 (Has-slice_get ps j q f))
nth_below (x ∷ ps) (suc i) (suc j) p q up e f lt = nth_below ps i j p q up.1 e f (omega arith)

row_below : (index : List (List RowPlace)) → AllByRecursion (λ places. IsAscending place_cmp places) index → (n i j : ℕ) (p q : RowPlace) → item_at index n i ≡ Some p → item_at index n j ≡ Some q → i < j → place_cmp p q ≡ Less
row_below [] up n i j p q e f lt = absurd (cc)
row_below (ps ∷ index) up zero i j p q e f lt = nth_below ps i j p q up.0 e f lt
row_below (ps ∷ index) up (suc n) i j p q e f lt = row_below index up.1 n i j p q e f lt

lower_id : (p q : RowPlace) → p.key.kind ≡ q.key.kind → place_cmp p q ≡ Less → p.key.id ≤ q.key.id
lower_id p q kinds_are less =
    let tied : nat_cmp (kind_place p.key.kind) (kind_place q.key.kind) ≡ Equal = subst (λ k. nat_cmp (kind_place p.key.kind) (kind_place k) ≡ Equal) kinds_are (tied_itself nat_cmp_total (kind_place p.key.kind)) in
    by (nat_cmp p.key.id q.key.id) refl (ap (λ r. ordering_then r (ordering_then (nat_cmp p.key.id q.key.id) (nat_cmp p.key.time q.key.time))) (sym tied) ∙ less) where
      by : (r : Ordering) → nat_cmp p.key.id q.key.id ≡ r → ordering_then (nat_cmp p.key.id q.key.id) (nat_cmp p.key.time q.key.time) ≡ Less → p.key.id ≤ q.key.id
      by Less e f = let lt = ranked p.key.id q.key.id Less (sym e) in omega arith
      by Equal e f = let same = ranked p.key.id q.key.id Equal (sym e) in omega arith
      by Greater e f = absurd (let g = ap (λ r. ordering_then r (nat_cmp p.key.time q.key.time)) (sym e) ∙ f in cc)

-- nothing is known
pub no_bounds : (lists : List (List StampedRow)) (after : Option ℕ) (limit n : ℕ) (kept : List Chosen) → AreBounds lists after limit kept n (record { first = 0; end = None })
no_bounds lists after limit n kept = record { low = λ i at place kind lt. absurd (omega arith); high = λ i at place kind e. absurd (cc) }

module _ (lists : List (List StampedRow)) (are : ArePlaces (map places_of lists)) (after : Option ℕ) (limit n : ℕ) where
  ids_rise : (i j : ℕ) (p q : RowPlace) → IsPlaceOfRow lists n i p → IsPlaceOfRow lists n j q → p.key.kind ≡ kinds.Description → q.key.kind ≡ kinds.Description → i ≤ j → p.key.id ≤ q.key.id
  ids_rise i j p q e f kp kq le =
      elim (i == j) as (λ b. (i == j) ≡ b → p.key.id ≤ q.key.id) [
        | true ↦ λ same.
            let numbers : i ≡ j = grind (arith, nat_tests, same) in
            let one : Some p ≡ Some q = sym e ∙ ap (λ m. item_at (map places_of lists) n m) numbers ∙ f in
            let places : p ≡ q = cc in
            let ids = ap (λ (x : RowPlace). x.key.id) places in
            omega arith
        | false ↦ λ other. let lt : i < j = grind (arith, nat_tests, other, le) in lower_id p q (kp ∙ sym kq) (row_below (map places_of lists) are.ascending n i j p q e f lt)
      ] refl

  not_above : (after : Option ℕ) (low high : ℕ) → low ≤ high → is_above after high ≡ false → is_above after low ≡ false
  not_above None low high le e = absurd (cc)
  not_above (Some a) low high le e = grind (arith, nat_tests, le, e)

  -- a row that is too low, or too high
  pub low_bound : (kept : List Chosen) (b : Bounds) (i first : ℕ) → AreBounds lists after limit kept n b → IsOfDescription lists n i → first ≤ i + 1 → (at : RowPlace) × IsPlaceOfRow lists n i at × (is_above after at.key.id ≡ false) → AreBounds lists after limit kept n (record { first = first; end = b.end })
  low_bound kept b i first are_bounds described le w = record {
    low = λ j p there kind lt. not_above after p.key.id w.0.key.id (ids_rise j i p w.0 there w.1 kind (described w.0 w.1) (omega arith)) w.2;
    high = are_bounds.high;
  }

  pub high_bound : (kept : List Chosen) (b : Bounds) (i : ℕ) → AreBounds lists after limit kept n b → IsOfDescription lists n i → (at : RowPlace) × IsPlaceOfRow lists n i at × IsFull limit kept at.key.id → AreBounds lists after limit kept n (record { first = b.first; end = Some i })
  high_bound kept b i are_bounds described w = record {
    low = are_bounds.low;
    high = λ j p there kind behind.
        let full = w.2 in
        let rise = ids_rise i j w.0 p w.1 there (described w.0 w.1) kind (grind (arith, nat_tests, behind)) in
        (full.0, λ k h. let le = full.1 k h in omega arith);
  }

  -- one more is kept
  pub kept_bounds : (kept : List Chosen) (b : Bounds) (k : Chosen) → AreBounds lists after limit kept n b → SaysFull limit kept k.at.key.id false → AreBounds lists after limit (take limit (put chosen_cmp k kept)) n b
  kept_bounds kept b k are_bounds room = record {
    low = are_bounds.low;
    high = λ i at place kind behind.
        let full = are_bounds.high i at place kind behind in
        let above = room full.0 in (
          still_full limit k kept full.0,
          λ j h. elim (Has-put_cases chosen_cmp k kept j (Has-take limit (put chosen_cmp k kept) j h)) [
            | inl e ↦ subst (λ (x : Chosen). x.at.key.id ≤ at.key.id) e (let le = full.1 above.0 above.1 in let lt = above.2 in omega arith)
            | inr old ↦ full.1 j old
          ],
        );
  }

-- a row that is to be kept
pub wanted_row : {A B : Type 0} (r : Result A B) (kept new : List Chosen) (search : Search) (n i : ℕ) (index : List (List RowPlace)) (b : Bounds) (at : RowPlace) → ArePlaces index
    → ((lists : List (List StampedRow)) → Lists index lists → IsAscending chosen_cmp kept → SaysCandidate lists search kept n i (candidates.Wanted at))
    → OnOk r (IsAscending chosen_cmp kept → length kept ≤ search.limit → new ≡ take search.limit (put chosen_cmp (chosen n at) kept))
    → OnOk r ((lists : List (List StampedRow)) → Lists index lists → IsOfDescription lists n i → (seen : List Chosen) → AreKept lists search seen kept → AreBounds lists search.after search.limit kept n b
    → AreKept lists search (seen ++ chosen_at lists n i) new × AreBounds lists search.after search.limit new n b)
wanted_row (Err e) kept new search n i index b at are says is = tt
wanted_row (Ok x) kept new search n i index b at are says is = λ lists listed_so described seen start bounds.
    let w = says lists listed_so start.ascending in
    let new_is = is start.ascending start.few in
    let own : ArePlaces (map places_of lists) = subst (λ (l : List (List RowPlace)). ArePlaces l) listed_so are in (
      subst (λ ks. AreKept lists search (seen ++ chosen_at lists n i) ks) (sym new_is) (row_kept lists search n i seen kept at start w),
      subst (λ ks. AreBounds lists search.after search.limit ks n b) (sym new_is) (kept_bounds lists own search.after search.limit n kept b (chosen n at) bounds w.2),
    )
