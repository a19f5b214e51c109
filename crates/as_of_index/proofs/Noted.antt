-- The dates of a list's places, and those of all lists.
use Rattle.std.proofs.Common.{◌≡◌, ◌⊎◌, ℕ, zero, suc, ◌<◌, ◌≤◌, List, [], ◌∷◌, ◌++◌, length, take, drop, refl, sym, ap, subst, inl, inr, ◌∙◌, arith, take-append-drop}
use Rattle.std.specs.Prelude.{Some, nat_lt, slice_get, insert}
use Rattle.std.specs.List.{filter}
use Rattle.std.proofs.lemmas.Option.{slice_get_within, same_Some}
use Rattle.std.proofs.lemmas.Bool.{lt-ltb, ltb-true}
use Rattle.list_lemmas.proofs.Parts.{number_stays}
use Rattle.history_model.specs.InOrder.{Has}
use Rattle.history_model.proofs.InOrder.{Has-append_left, Has-append_right, Has-append_cases}
use Rattle.history_model.proofs.Filtered.{Has-filter, Has-filter_from}
use Rattle.history_model.proofs.Items.{Has-slice_get, number_of_item}
use Rattle.segment.specs.declared.place.RowPlace.{RowPlace}
use Rattle.as_of_index.specs.declared.dates.DateEntry.{DateEntry}
use Rattle.as_of_index.specs.Dates.{IsEntryOf, AreEntries}
use Rattle.as_of_index.specs.Private.Dates.{HasEntry, AddsTimes, AddsDates}

-- ---- an item by its number

pub at_end : {X : Type 0} (xs : List X) (x : X) → slice_get (xs ++ x ∷ []) (length xs) ≡ Some x
at_end [] x = refl
at_end (y ∷ xs) x = at_end xs x

there_or_last : {X : Type 0} (xs : List X) (y : X) (i : ℕ) (x : X) → slice_get (xs ++ y ∷ []) i ≡ Some x → (slice_get xs i ≡ Some x) ⊎ ((i ≡ length xs) × (y ≡ x))
there_or_last [] y zero x e = inr (refl, same_Some y x e)
there_or_last [] y (suc i) x e = absurd (cc)
there_or_last (z ∷ xs) y zero x e = inl e
there_or_last (z ∷ xs) y (suc i) x e = elim (there_or_last xs y i x e) [ inl l ↦ inl l | inr r ↦ inr (ap suc r.0, r.1) ]

taken_there : {X : Type 0} (n : ℕ) (xs : List X) (i : ℕ) (x : X) → slice_get xs i ≡ Some x → i < n → slice_get (take n xs) i ≡ Some x
taken_there zero xs i x e lt = absurd (omega arith)
taken_there (suc n) [] i x e lt = absurd (cc)
taken_there (suc n) (y ∷ xs) zero x e lt = e
taken_there (suc n) (y ∷ xs) (suc i) x e lt = taken_there n xs i x e (omega arith)

there_of_taken : {X : Type 0} (n : ℕ) (xs : List X) (i : ℕ) (x : X) → slice_get (take n xs) i ≡ Some x → (slice_get xs i ≡ Some x) × (i < n)
there_of_taken zero xs i x e = absurd (cc)
there_of_taken (suc n) [] i x e = absurd (cc)
there_of_taken (suc n) (y ∷ xs) zero x e = (e, omega arith)
there_of_taken (suc n) (y ∷ xs) (suc i) x e = let w = there_of_taken n xs i x e in (w.0, let lt = w.1 in omega arith)

-- ---- an entry that is inserted

has_inserted : {X : Type 0} (xs : List X) (i : ℕ) (x : X) → Has (insert xs i x) x
has_inserted xs i x = Has-append_right (take i xs) (x ∷ drop i xs) x (inl refl)

has_beside : {X : Type 0} (xs : List X) (i : ℕ) (x y : X) → Has xs y → Has (insert xs i x) y
has_beside xs i x y h = elim (Has-append_cases (take i xs) (drop i xs) y (subst (λ zs. Has zs y) (sym (take-append-drop i xs)) h)) [
  | inl l ↦ Has-append_left (take i xs) (x ∷ drop i xs) y l
  | inr r ↦ Has-append_right (take i xs) (x ∷ drop i xs) y (inr r)
]

inserted_or_old : {X : Type 0} (xs : List X) (i : ℕ) (x y : X) → Has (insert xs i x) y → (x ≡ y) ⊎ Has xs y
inserted_or_old xs i x y h = elim (Has-append_cases (take i xs) (x ∷ drop i xs) y h) [
  | inl l ↦ inr (subst (λ zs. Has zs y) (take-append-drop i xs) (Has-append_left (take i xs) (drop i xs) y l))
  | inr r ↦ elim r [
    | inl e ↦ inl e
    | inr t ↦ inr (subst (λ zs. Has zs y) (take-append-drop i xs) (Has-append_right (take i xs) (drop i xs) y t))
  ]
]

-- ---- one place more

-- it has an entry
pub noted_before : (places : List RowPlace) (entries : List DateEntry) (p : RowPlace) → AreEntries places entries → HasEntry entries p → AreEntries (places ++ p ∷ []) entries
noted_before places entries p a known = record {
  stand = λ e h. let w = a.stand e h in (w.0, number_stays places (p ∷ []) e.first w.0 w.1, w.2);
  all = λ i q is. elim (there_or_last places p i q is) [
    | inl l ↦ a.all i q l
    | inr r ↦
        let s = a.stand known.0 known.1 in
        let within = slice_get_within places known.0.first s.0 s.1 in
        (known.0, known.1, (let last = r.0 in omega arith), subst (λ (x : RowPlace). IsEntryOf x known.0) r.1 known.2)
  ];
}

-- it has none
pub noted_now : (places : List RowPlace) (entries : List DateEntry) (at : ℕ) (p : RowPlace) (e : DateEntry) → AreEntries places entries → IsEntryOf p e → e.first ≡ length places → AreEntries (places ++ p ∷ []) (insert entries at e)
noted_now places entries at p e a own first = record {
  stand = λ d h. elim (inserted_or_old entries at e d h) [
    | inl same ↦ subst (λ (x : DateEntry). (q : RowPlace) × (slice_get (places ++ p ∷ []) x.first ≡ Some q) × IsEntryOf q x) same (p, subst (λ n. slice_get (places ++ p ∷ []) n ≡ Some p) (sym first) (at_end places p), own)
    | inr old ↦ (let w = a.stand d old in (w.0, number_stays places (p ∷ []) d.first w.0 w.1, w.2))
  ];
  all = λ i q is. elim (there_or_last places p i q is) [
    | inl l ↦ (let w = a.all i q l in (w.0, has_beside entries at e w.0 w.1, w.2, w.3))
    | inr r ↦ (e, has_inserted entries at e, (let last = r.0 in omega arith), subst (λ (x : RowPlace). IsEntryOf x e) r.1 own)
  ];
}

pub no_entries : AreEntries [] []
no_entries = record { stand = λ e h. absurd h; all = λ i p is. absurd (cc) }

-- ---- the first so many places

pub entries_cut : (places : List RowPlace) (entries : List DateEntry) (len : ℕ) → AreEntries places entries → AreEntries (take len places) (filter (λ (e : DateEntry). nat_lt e.first len) entries)
entries_cut places entries len a = record {
  stand = λ e h.
      let f = Has-filter (λ (e : DateEntry). nat_lt e.first len) entries e h in
      let w = a.stand e f.0 in
      (w.0, taken_there len places e.first w.0 w.1 (ltb-true e.first len f.1), w.2);
  all = λ i p is.
      let t = there_of_taken len places i p is in
      let w = a.all i p t.0 in
      let lt = t.1 in
      let le = w.2 in
      (w.0, Has-filter_from (λ (e : DateEntry). nat_lt e.first len) entries w.0 w.1 (lt-ltb w.0.first len (omega arith)), w.2, w.3);
}

-- ---- the times that a pin shows

module _ {X : Type 0} (time import : X → ℕ) (pin : ℕ) where
  pub adds_nothing : (ts : List ℕ) → AddsTimes time import pin [] ts ts
  adds_nothing ts = record { kept = λ t h. h; added = λ x h. absurd h; only = λ t h. inl h }

  pub adds_one : (xs : List X) (x : X) (old new : List ℕ) → AddsTimes time import pin xs old new → import x ≤ pin → AddsTimes time import pin (xs ++ x ∷ []) old (new ++ time x ∷ [])
  adds_one xs x old new a shown = record {
    kept = λ t h. Has-append_left new (time x ∷ []) t (a.kept t h);
    added = λ y h le. elim (Has-append_cases xs (x ∷ []) y h) [
      | inl l ↦ Has-append_left new (time x ∷ []) (time y) (a.added y l le)
      | inr r ↦ elim r [ inl e ↦ Has-append_right new (time x ∷ []) (time y) (inl (ap time e)) | inr f ↦ absurd f ]
    ];
    only = λ t h. elim (Has-append_cases new (time x ∷ []) t h) [
      | inl l ↦ elim (a.only t l) [ inl o ↦ inl o | inr w ↦ inr (w.0, Has-append_left xs (x ∷ []) w.0 w.1, w.2, w.3) ]
      | inr r ↦ elim r [ inl e ↦ inr (x, Has-append_right xs (x ∷ []) x (inl refl), shown, e) | inr f ↦ absurd f ]
    ];
  }

  pub adds_hidden : (xs : List X) (x : X) (old new : List ℕ) → AddsTimes time import pin xs old new → pin < import x → AddsTimes time import pin (xs ++ x ∷ []) old new
  adds_hidden xs x old new a hidden = record {
    kept = a.kept;
    added = λ y h le. elim (Has-append_cases xs (x ∷ []) y h) [
      | inl l ↦ a.added y l le
      | inr r ↦ elim r [ inl e ↦ absurd (let same = ap import e in omega arith) | inr f ↦ absurd f ]
    ];
    only = λ t h. elim (a.only t h) [ inl o ↦ inl o | inr w ↦ inr (w.0, Has-append_left xs (x ∷ []) w.0 w.1, w.2, w.3) ];
  }

-- the times of the entries are those of the places
pub dates_by_entries : (pin : ℕ) (places : List RowPlace) (entries : List DateEntry) (old new : List ℕ) → AreEntries places entries → AddsTimes (λ (e : DateEntry). e.time) (λ (e : DateEntry). e.import) pin entries old new → AddsDates pin places old new
dates_by_entries pin places entries old new a adds = record {
  kept = adds.kept;
  added = λ p h le.
      let i = number_of_item places p h in
      let w = a.all i.0 p i.1 in
      let own = w.3 in
      let import = own.import_is in
      subst (λ t. Has new t) (sym own.time_is) (adds.added w.0 w.1 (omega arith));
  only = λ t h. elim (adds.only t h) [
    | inl o ↦ inl o
    | inr w ↦
        let s = a.stand w.0 w.1 in
        let import = s.2.import_is in
        let le = w.2 in
        inr (s.0, Has-slice_get places w.0.first s.0 s.1, omega arith, s.2.time_is ∙ w.3)
  ];
}
