-- Descriptions that are marked.
use Rattle.std.proofs.Common.{◌≡◌, ◌↔◌, ℕ, zero, suc, ◌+◌, ◌<◌, true, false, List, [], ◌∷◌, ◌++◌, length, get_or, take, map, refl, sym, ap, subst, inl, inr, ◌∙◌, arith, append-nil}
use Rattle.std.specs.Prelude.{nat_eq, Some, None, slice_get, slice_set, flat_map, replicate}
use Rattle.std.specs.List.{AllByRecursion, starts_with}
use Rattle.std.proofs.lemmas.Bool.Decides.{nat_tests}
use Rattle.std.proofs.lemmas.List.{take_more, length-take-le, length-map, length-append, map_push}
use Rattle.std.proofs.lemmas.Option.{same_Some, slice_get_within, get_or_from_slice_get}
use Rattle.std.proofs.lemmas.Grind.{flat_map-append}
use Rattle.history_model.specs.InOrder.{Has}
use Rattle.history_model.proofs.InOrder.{Has-all, Has-append_left, Has-append_right, Has-append_cases}
use Rattle.history_model.proofs.Items.{Has-get_or, Has-flat_map, Has-flat_map_from}
use Rattle.term_prefix.specs.Terms.{TermAt}
use Rattle.term_words.specs.declared.listing.Entry.{Entry}
use Rattle.term_words.specs.declared.ordered.Split.{Split}
use Rattle.term_words.specs.Posted.{keyed}
use Rattle.term_words.specs.Laid.{key_in, rows_of, postings_in}
use Rattle.term_words.specs.Private.{all_in, IsUsable, IsBegun, IsMarked, AddsMarks, AreNarrowed, AreMarked, EachMarked}
use Rattle.term_words.proofs.Entries.{posting_entry, entry_posting}
use Rattle.term_words.proofs.Ranking.{set_cases}
use Rattle.term_words.proofs.Groups.{get_first, get_last, get_cases}

-- ---- whether a description is marked

pub says_marked : (marks : List ℕ) (i m : ℕ) → slice_get marks i ≡ Some m → (nat_eq m 1 ≡ true → IsMarked marks i) × (IsMarked marks i → nat_eq m 1 ≡ true)
says_marked marks i m is = (
  λ e. is ∙ ap Some (one_from m e),
  λ e. ap (λ n. nat_eq n 1) (same_Some m 1 (sym is ∙ e)),
) where
  one_from : (m : ℕ) → nat_eq m 1 ≡ true → m ≡ 1
  one_from m e = grind (arith, nat_tests, e)

pub says_none : (marks : List ℕ) (i : ℕ) → slice_get marks i ≡ None → (false ≡ true → IsMarked marks i) × (IsMarked marks i → false ≡ true)
says_none marks i none = (λ e. absurd cc, λ e. absurd (let both = sym none ∙ e in cc))

-- ---- one list of marks more

pub adds_none : (marks among : List ℕ) → AddsMarks marks among [] marks
adds_none marks among = record {
  many = refl;
  marked = λ same i. (λ h. inl h, λ h. elim h [ inl l ↦ l | inr r ↦ absurd r.1 ]);
}

pub adds_both : (marks marks' marks'' among : List ℕ) (xs ys : List ℕ) → AddsMarks marks among xs marks' → AddsMarks marks' among ys marks'' → AddsMarks marks among (xs ++ ys) marks''
adds_both marks marks' marks'' among xs ys a b = record {
  many = b.many ∙ a.many;
  marked = λ same i.
      let first = a.marked same i in
      let second = b.marked (a.many ∙ same) i in (
        λ h. elim (second.0 h) [
          | inl l ↦ elim (first.0 l) [
            | inl m ↦ inl m
            | inr n ↦ inr (n.0, Has-append_left xs ys i n.1)
          ]
          | inr r ↦ inr (r.0, Has-append_right xs ys i r.1)
        ],
        λ h. elim h [
          | inl l ↦ second.1 (inl (first.1 (inl l)))
          | inr r ↦ elim (Has-append_cases xs ys i r.1) [
            | inl m ↦ second.1 (inl (first.1 (inr (r.0, m))))
            | inr n ↦ second.1 (inr (r.0, n))
          ]
        ],
      );
}

pub adds_more : (marks marks' marks'' among : List ℕ) (rows : List ℕ) (i row d : ℕ) → i < length rows → row ≡ get_or rows i d → AddsMarks marks among (take i rows) marks' → AddsMarks marks' among (row ∷ []) marks'' → AddsMarks marks among (take (i + 1) rows) marks''
adds_more marks marks' marks'' among rows i row d lt is a b =
    subst (λ rs. AddsMarks marks among rs marks'') (ap (λ x. take i rows ++ x ∷ []) is ∙ sym (take_more rows i d lt)) (adds_both marks marks' marks'' among (take i rows) (row ∷ []) a b)

-- ---- one mark

get-set : (marks : List ℕ) (row : ℕ) → row < length marks → slice_get (slice_set marks row 1) row ≡ Some 1
get-set [] row lt = absurd (omega arith)
get-set (m ∷ marks) zero lt = refl
get-set (m ∷ marks) (suc row) lt = get-set marks row (omega arith)

get-set_old : (marks : List ℕ) (row i : ℕ) → slice_get marks i ≡ Some 1 → slice_get (slice_set marks row 1) i ≡ Some 1
get-set_old [] row i h = h
get-set_old (m ∷ marks) zero zero h = refl
get-set_old (m ∷ marks) zero (suc i) h = h
get-set_old (m ∷ marks) (suc row) zero h = h
get-set_old (m ∷ marks) (suc row) (suc i) h = get-set_old marks row i h

length-set : (marks : List ℕ) (row : ℕ) → length (slice_set marks row 1) ≡ length marks
length-set [] row = refl
length-set (m ∷ marks) zero = refl
length-set (m ∷ marks) (suc row) = ap suc (length-set marks row)

pub marked_one : (marks among : List ℕ) (row : ℕ) → row < length marks → IsMarked among row → AddsMarks marks among (row ∷ []) (slice_set marks row 1)
marked_one marks among row lt is = record {
  many = length-set marks row;
  marked = λ same i. (
    λ h. elim (set_cases marks row 1 i 1 h) [
      | inl l ↦ inl l
      | inr e ↦ inr (subst (IsMarked among) e.0 is, inl e.0)
    ],
    λ h. elim h [
      | inl l ↦ get-set_old marks row i l
      | inr r ↦ elim r.1 [
        | inl e ↦ subst (IsMarked (slice_set marks row 1)) e (get-set marks row lt)
        | inr none ↦ absurd none
      ]
    ],
  );
}

pub unmarked_one : (marks among : List ℕ) (row : ℕ) → (length marks ≡ length among → IsMarked among row → ⊥) → AddsMarks marks among (row ∷ []) marks
unmarked_one marks among row none = record {
  many = refl;
  marked = λ same i. (
    λ h. inl h,
    λ h. elim h [
      | inl l ↦ l
      | inr r ↦ elim r.1 [
        | inl e ↦ absurd (none same (subst (IsMarked among) (sym e) r.0))
        | inr f ↦ absurd f
      ]
    ],
  );
}

-- ---- the ranks of entries

pub adds_entry : (marks marks' marks'' among : List ℕ) (rows : List ℕ) (those : List Entry) (i : ℕ) (e d : Entry) → i < length those → e ≡ get_or those i d → AddsMarks marks among (flat_map (rows_of rows) (take i those)) marks' → AddsMarks marks' among (rows_of rows e) marks'' → AddsMarks marks among (flat_map (rows_of rows) (take (i + 1) those)) marks''
adds_entry marks marks' marks'' among rows those i e d lt is a b =
    subst (λ rs. AddsMarks marks among rs marks'')
    (ap (λ xs. flat_map (rows_of rows) (take i those) ++ xs) (sym (append-nil (rows_of rows e))) ∙ sym (flat_map-append (rows_of rows) (take i those) (e ∷ [])) ∙ ap (flat_map (rows_of rows)) (ap (λ x. take i those ++ x ∷ []) is ∙ sym (take_more those i d lt)))
    (adds_both marks marks' marks'' among (flat_map (rows_of rows) (take i those)) (rows_of rows e) a b)

abbrev pub zeros : ℕ → List ℕ
zeros n = replicate {A = ℕ} n 0

abbrev pub ones : ℕ → List ℕ
ones n = replicate {A = ℕ} n 1

no_marks : (n i : ℕ) → slice_get (zeros n) i ≡ Some 1 → ⊥
no_marks zero i h = absurd cc
no_marks (suc n) zero h = absurd (let e = same_Some 0 1 h in omega (arith, e))
no_marks (suc n) (suc i) h = no_marks n i h

length-none : (n : ℕ) → length (zeros n) ≡ n
length-none zero = refl
length-none (suc n) = ap suc (length-none n)

pub narrowed_by : (text rows : List ℕ) (entries those : List Entry) (ts : List TermAt) (among marks : List ℕ) (prefix : List ℕ) → postings_in text entries rows ≡ ts
    → ((e : Entry) → Has those e ↔ (Has entries e × (starts_with nat_eq (key_in text e.key) prefix ≡ true))) → AddsMarks (zeros (length among)) among (flat_map (rows_of rows) those) marks → AreNarrowed ts among prefix marks
narrowed_by text rows entries those ts among marks prefix is which adds = record {
  many = adds.many ∙ length-none (length among);
  marked = λ i.
      let w = adds.marked (length-none (length among)) i in (
        λ h. elim (w.0 h) [
          | inl l ↦ absurd (no_marks (length among) i l)
          | inr r ↦ (
              let m = Has-flat_map (rows_of rows) those i r.1 in
              let e = m.0 in
              let own = (which e).0 m.1 in
              (r.0, (keyed i (key_in text e.key), subst (λ us. Has us (keyed i (key_in text e.key))) is (entry_posting text rows entries e i own.0 m.2), refl, own.1)))
        ],
        λ h.
            let p = posting_entry text rows entries h.1.0 (subst (λ us. Has us h.1.0) (sym is) h.1.1) in
            let those_has = (which p.0).1 (p.1, ap (λ k. starts_with nat_eq k prefix) p.3 ∙ h.1.3) in
            w.1 (inr (h.0, Has-flat_map_from (rows_of rows) those p.0 i those_has (subst (λ n. Has (rows_of rows p.0) n) h.1.2 p.2))),
      );
}

-- ---- for each wanted key

all_marks : (n i : ℕ) → i < n → slice_get (ones n) i ≡ Some 1
all_marks zero i lt = absurd (omega arith)
all_marks (suc n) zero lt = refl
all_marks (suc n) (suc i) lt = all_marks n i (omega arith)

length-all : (n : ℕ) → length (ones n) ≡ n
length-all zero = refl
length-all (suc n) = ap suc (length-all n)

pub marked_first : (ts : List TermAt) (count : ℕ) → AreMarked ts [] count (ones count)
marked_first ts count = record {
  many = length-all count;
  marked = λ i. (
    λ h. ((let lt = slice_get_within (ones count) i 1 h in let size = length-all count in omega (arith, lt, size)), λ prefix k. absurd k),
    λ h. all_marks count i h.0,
  );
}

pub marked_more : (ts : List TermAt) (wanted : List (List ℕ)) (prefix : List ℕ) (count : ℕ) (among marks : List ℕ) → AreMarked ts wanted count among → AreNarrowed ts among prefix marks → AreMarked ts (wanted ++ prefix ∷ []) count marks
marked_more ts wanted prefix count among marks a b = record {
  many = b.many ∙ a.many;
  marked = λ i. (
    λ h.
        let w = (b.marked i).0 h in
        let v = (a.marked i).0 w.0 in (
          v.0,
          λ other k. elim (Has-append_cases wanted (prefix ∷ []) other k) [
            | inl l ↦ v.1 other l
            | inr r ↦ elim r [ inl e ↦ subst (λ p. IsBegun ts p i) e w.1 | inr none ↦ absurd none ]
          ],
        ),
    λ h. (b.marked i).1 ((a.marked i).1 (h.0, λ other k. h.1 other (Has-append_left wanted (prefix ∷ []) other k)), h.1 prefix (Has-append_right wanted (prefix ∷ []) prefix (inl refl))),
  );
}

pub marked_next : (ts : List TermAt) (wanted : List (List ℕ)) (prefix : List ℕ) (i count : ℕ) (among marks : List ℕ) → slice_get wanted i ≡ Some prefix → AreMarked ts (take i wanted) count among → AreNarrowed ts among prefix marks → AreMarked ts (take (i + 1) wanted) count marks
marked_next ts wanted prefix i count among marks there a b =
    subst (λ ps. AreMarked ts ps count marks) (ap (λ p. take i wanted ++ p ∷ []) (sym (get_or_from_slice_get wanted i prefix [] there)) ∙ sym (take_more wanted i [] (slice_get_within wanted i prefix there))) (marked_more ts (take i wanted) prefix count among marks a b)

-- ---- the marks of all lists

pub marks_none : (wanted : List (List ℕ)) → EachMarked [] wanted []
marks_none wanted = λ n s e. absurd (none n s e) where
  none : (n : ℕ) (s : Split) → slice_get [] n ≡ Some s → ⊥
  none n s e = absurd cc

marks_more : (splits : List Split) (s : Split) (wanted marks : List (List ℕ)) (own : List ℕ) → length marks ≡ length splits → EachMarked splits wanted marks → AreMarked (all_in s.words) wanted (length s.sizes.rows.now) own → EachMarked (splits ++ s ∷ []) wanted (marks ++ own ∷ [])
marks_more splits s wanted marks own many each last = λ n r e. elim (get_cases splits s n r e) [
  | inl l ↦ (let w = each n r l in (w.0, get_first marks (own ∷ []) n w.0 w.1, w.2))
  | inr r ↦ (
    own,
    ap (slice_get (marks ++ own ∷ [])) (r.0 ∙ sym many) ∙ get_last marks own,
    subst (λ (x : Split). AreMarked (all_in x.words) wanted (length x.sizes.rows.now) own) r.1 last,
  )
]

pub marks_next : {V : Type 0} (items : V → List ℕ) (splits : List Split) (i : ℕ) (s d : Split) (wanted : List (List ℕ)) (ms ms' : List V) (own : V) → i < length splits → s ≡ get_or splits i d → ms' ≡ ms ++ own ∷ [] → (length ms ≡ i) × EachMarked (take i splits) wanted (map items ms)
    → AreMarked (all_in s.words) wanted (length s.sizes.rows.now) (items own) → (length ms' ≡ i + 1) × EachMarked (take (i + 1) splits) wanted (map items ms')
marks_next {V} items splits i s d wanted ms ms' own lt is are so last =
    let size : length (take i splits) ≡ i = length-take-le i splits (omega arith) in
    let many : length (map items ms) ≡ length (take i splits) = length-map ms items ∙ so.0 ∙ sym size in
    let each = marks_more (take i splits) s wanted (map items ms) (items own) many so.1 last in
    let longer : length ms' ≡ i + 1 = (let e = ap (λ (xs : List V). length xs) are in let sum = length-append ms (own ∷ []) in let before = so.0 in omega (arith, e, sum, before)) in (
      longer,
      subst (λ xs. EachMarked xs wanted (map items ms')) (ap (λ x. take i splits ++ x ∷ []) is ∙ sym (take_more splits i d lt))
          (subst (λ xs. EachMarked (take i splits ++ s ∷ []) wanted xs) (sym (ap (map items) are ∙ map_push items ms own)) each),
    )

-- the parts of a list are as a search needs them
pub usable_at : (splits : List Split) (i : ℕ) (s d : Split) → i < length splits → s ≡ get_or splits i d → AllByRecursion IsUsable splits → IsUsable s
usable_at splits i s d lt is each = Has-all IsUsable splits s each (subst (Has splits) (sym is) (Has-get_or splits i d lt))
