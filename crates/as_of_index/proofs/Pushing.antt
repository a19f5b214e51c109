-- What was pushed of each row, with the row's number in its list, is of rows of its list, and none is left out.
use Rattle.std.proofs.Common.{◌≡◌, ℕ, zero, suc, ◌+◌, Bool, true, List, [], ◌∷◌, ◌++◌, length, map, refl, sym, ap, subst, inl, inr, ◌∙◌, arith, append-nil, append_assoc}
use Rattle.std.specs.Prelude.{Some, slice_get, slice_set, remove}
use Rattle.std.specs.List.Sorted.{IsPermutation}
use Rattle.std.proofs.lemmas.List.Sorted.{IsPermutation-sym}
use Rattle.rf2_values.specs.Row.{RowValue}
use Rattle.history_model.specs.declared.stamped.StampedRow.{StampedRow}
use Rattle.history_model.specs.InOrder.{Has, joined}
use Rattle.history_model.specs.Lists.{listed}
use Rattle.history_model.specs.Queries.{snapshot}
use Rattle.history_model.proofs.InOrder.{Has-append_left, Has-append_right, Has-append_cases}
use Rattle.history_model.proofs.Filtered.{Has-map, Has-map_from}
use Rattle.history_model.proofs.Snapshots.{current_from_snapshot, Has-listed_cases, Has-rows_at_cases}
use Rattle.history_model.proofs.Items.{Has-permuted, number_of_item}
use Rattle.as_of_index.specs.declared.as_of.AsOf.{AsOf}
use Rattle.as_of_index.specs.Places.{item_at}
use Rattle.as_of_index.specs.Postings.{posted_all, AllPosted}
use Rattle.as_of_index.specs.Private.Postings.{numbered}
use Rattle.as_of_index.specs.Current.{rows_seen}

module _ {X : Type 0} (posted : RowValue → ℕ → List X) (Is : X → RowValue → ℕ → Type 0) (of_row : (row : RowValue) (i : ℕ) (t : X) → Has (posted row i) t → Is t row i) where
  of_rows : (from : ℕ) (rows : List StampedRow) (t : X) → Has (posted_all posted from rows) t → (i : ℕ) × (s : StampedRow) × (slice_get rows i ≡ Some s) × Is t s.row (from + i)
  of_rows from [] t h = absurd h
  of_rows from (r ∷ rows) t h = elim (Has-append_cases (posted r.row from) (posted_all posted (from + 1) rows) t h) [
    | inl l ↦ (let same : from ≡ from + 0 = omega arith in (0, r, refl, subst (λ n. Is t r.row n) same (of_row r.row from t l)))
    | inr k ↦ (
        let w = of_rows (from + 1) rows t k in
        let same : (from + 1) + w.0 ≡ from + suc w.0 = omega arith in
        (suc w.0, w.1, w.2, subst (λ n. Is t w.1.row n) same w.3))
  ]

  -- the row of a posting, and its number
  record IsRowOf (k : ℕ) (lists : List (List StampedRow)) (x : ℕ × X) : Type 0 where
    n : ℕ
    i : ℕ
    s : StampedRow
    list_is : x.0 ≡ k + n
    there : item_at lists n i ≡ Some s
    is : Is x.1 s.row i

  posted_from : (k : ℕ) (lists : List (List StampedRow)) (terms : List (List X)) → AllPosted posted lists terms → (x : ℕ × X) → Has (numbered k terms) x → IsRowOf k lists x
  posted_from k [] [] a x h = absurd h
  posted_from k [] (ts ∷ terms) a x h = absurd a
  posted_from k (rows ∷ lists) [] a x h = absurd a
  posted_from k (rows ∷ lists) (ts ∷ terms) a x h = elim (Has-append_cases (map (λ (t : X). (k, t)) ts) (numbered (k + 1) terms) x h) [
    | inl l ↦ (
        let m = Has-map (λ (t : X). (k, t)) ts x l in
        let t_is = ap (λ (y : ℕ × X). y.1) m.2 in
        let w = of_rows 0 rows m.0 (Has-permuted (posted_all posted 0 rows) ts a.0 m.0 m.1) in
        let number : x.0 ≡ k + 0 = (let e = ap (λ (y : ℕ × X). y.0) m.2 in omega arith) in
        let same : 0 + w.0 ≡ w.0 = omega arith in
        record { n = 0; i = w.0; s = w.1; list_is = number; there = w.2; is = subst (λ t. Is t w.1.row w.0) t_is (subst (λ i. Is m.0 w.1.row i) same w.3) })
    | inr r ↦ (
        let w = posted_from (k + 1) lists terms a.1 x r in
        let number : x.0 ≡ k + suc w.n = (let e = w.list_is in omega arith) in
        record { n = suc w.n; i = w.i; s = w.s; list_is = number; there = w.there; is = w.is })
  ]

  pub row_of_posting : (lists : List (List StampedRow)) (terms : List (List X)) → AllPosted posted lists terms → (x : ℕ × X) → Has (numbered 0 terms) x → (i : ℕ) × (s : StampedRow) × (item_at lists x.0 i ≡ Some s) × Is x.1 s.row i
  row_of_posting lists terms a x h =
      let w = posted_from 0 lists terms a x h in
      let same : w.n ≡ x.0 = (let e = w.list_is in omega arith) in
      (w.i, w.s, subst (λ n. item_at lists n w.i ≡ Some w.s) same w.there, w.is)

-- of postings that hold the numbers of their rows
pub stands : {X : Type 0} (posted : RowValue → ℕ → List X) (number : X → ℕ) (Is : X → RowValue → Type 0) → ((row : RowValue) (i : ℕ) (t : X) → Has (posted row i) t → Is t row × (number t ≡ i)) → (lists : List (List StampedRow)) (terms : List (List X)) → AllPosted posted lists terms → (x : ℕ × X) → Has (numbered 0 terms) x → (s : StampedRow) × (item_at lists x.0 (number x.1) ≡ Some s) × Is x.1 s.row
stands posted number Is of_row lists terms a x h =
    let w = row_of_posting posted (λ t row i. Is t row × (number t ≡ i)) of_row lists terms a x h in
    (w.1, subst (λ i. item_at lists x.0 i ≡ Some w.1) (sym w.3.1) w.2, w.3.0)

-- ---- none is left out

rows_posted : {X : Type 0} (posted : RowValue → ℕ → List X) (from : ℕ) (rows : List StampedRow) (i : ℕ) (s : StampedRow) (t : X) → slice_get rows i ≡ Some s → Has (posted s.row (from + i)) t → Has (posted_all posted from rows) t
rows_posted posted from [] i s t e h = absurd (cc)
rows_posted posted from (r ∷ rows) zero s t e h =
    let row : s ≡ r = cc in
    let same : from + 0 ≡ from = omega arith in
    Has-append_left (posted r.row from) (posted_all posted (from + 1) rows) t (subst (λ n. Has (posted r.row n) t) same (subst (λ (z : StampedRow). Has (posted z.row (from + 0)) t) row h))
rows_posted posted from (r ∷ rows) (suc i) s t e h =
    let same : from + suc i ≡ (from + 1) + i = omega arith in
    Has-append_right (posted r.row from) (posted_all posted (from + 1) rows) t (rows_posted posted (from + 1) rows i s t e (subst (λ n. Has (posted s.row n) t) same h))

-- what is posted of a row is in the list with the same number
pub posting_there : {X : Type 0} (posted : RowValue → ℕ → List X) (lists : List (List StampedRow)) (terms : List (List X)) → AllPosted posted lists terms → (n i : ℕ) (s : StampedRow) → item_at lists n i ≡ Some s → (t : X) → Has (posted s.row i) t → Has {X = ℕ × X} (numbered 0 terms) (n, t)
posting_there {X} posted lists terms a n i s e t h =
    let number : 0 + n ≡ n = omega arith in
    subst (λ m. Has {X = ℕ × X} (numbered 0 terms) (m, t)) number (by 0 n lists terms a e) where
      by : (k n : ℕ) (lists : List (List StampedRow)) (terms : List (List X)) → AllPosted posted lists terms → item_at lists n i ≡ Some s → Has {X = ℕ × X} (numbered k terms) (k + n, t)
      by k n [] terms a e = absurd (cc)
      by k n (r ∷ lists) [] a e = absurd a
      by k zero (rows ∷ lists) (ts ∷ terms) a e =
          let number : k ≡ k + 0 = omega arith in
          let same : i ≡ 0 + i = omega arith in
          let posted_there = rows_posted posted 0 rows i s t e (subst (λ j. Has (posted s.row j) t) same h) in
          let there = Has-permuted ts (posted_all posted 0 rows) (IsPermutation-sym (posted_all posted 0 rows) ts a.0) t posted_there in
          Has-append_left (map (λ (u : X). (k, u)) ts) (numbered (k + 1) terms) (k + 0, t) (subst (λ m. Has {X = ℕ × X} (map (λ (u : X). (k, u)) ts) (m, t)) number (Has-map_from (λ (u : X). (k, u)) ts t there))
      by k (suc n) (rows ∷ lists) (ts ∷ terms) a e =
          let number : (k + 1) + n ≡ k + suc n = omega arith in
          Has-append_right (map (λ (u : X). (k, u)) ts) (numbered (k + 1) terms) (k + suc n, t) (subst (λ m. Has {X = ℕ × X} (numbered (k + 1) terms) (m, t)) number (by (k + 1) n lists terms a.1 e))

pub numbers_of_row : (lists : List (List StampedRow)) (s : StampedRow) → Has (joined lists) s → (n : ℕ) × (i : ℕ) × (item_at lists n i ≡ Some s)
numbers_of_row [] s h = absurd h
numbers_of_row (rows ∷ lists) s h = elim (Has-append_cases rows (joined lists) s h) [
  | inl l ↦ (let w = number_of_item rows s l in (0, w.0, w.1))
  | inr r ↦ (let w = numbers_of_row lists s r in (suc w.0, w.1, w.2))
]

-- a posting, and its row
pub record IsPostedAs {X : Type 0} (number : X → ℕ) (lists : List (List StampedRow)) (postings : List (List X)) (row : RowValue) : Type 0 where
  pub x : ℕ × X
  pub there : Has (numbered 0 postings) x
  pub s : StampedRow
  pub row_there : item_at lists x.0 (number x.1) ≡ Some s
  pub same : s.row ≡ row

-- a row of the Snapshot that passes a test is posted, where such rows are
pub posted_as : {X : Type 0} (posted : RowValue → ℕ → List X) (number : X → ℕ) (test : RowValue → Bool) (complete : (row : RowValue) (i : ℕ) → test row ≡ true → (t : X) × Has (posted row i) t × (number t ≡ i)) (lists : List (List StampedRow)) (terms : List (List X)) (as_of : AsOf) → AllPosted posted lists terms → (row : RowValue) → Has (snapshot (rows_seen as_of lists) as_of.date) row → test row ≡ true → IsPostedAs number lists terms row
posted_as posted number test complete lists terms as_of a row h e =
    let current = current_from_snapshot (rows_seen as_of lists) as_of.date row h in
    let w = Has-rows_at_cases as_of.pin (listed lists) row current.known in
    let s = w.stamped_row in
    let p = numbers_of_row lists s (Has-listed_cases lists s w.known) in
    let t = complete s.row p.1 (subst (λ (r : RowValue). test r ≡ true) (sym w.same) e) in
    record {
      x = (p.0, t.0);
      there = posting_there posted lists terms a p.0 p.1 s p.2 t.0 t.1;
      s = s;
      row_there = subst (λ i. item_at lists p.0 i ≡ Some s) (sym t.2) p.2;
      same = w.same;
    }

-- ---- one row more

pub posted_push : {X : Type 0} (posted : RowValue → ℕ → List X) (from : ℕ) (rows : List StampedRow) (row : StampedRow) → posted_all posted from (rows ++ row ∷ []) ≡ posted_all posted from rows ++ posted row.row (from + length rows)
posted_push posted from [] row =
    let same : from ≡ from + 0 = omega arith in
    append-nil (posted row.row from) ∙ ap (posted row.row) same
posted_push posted from (r ∷ rows) row =
    let same : (from + 1) + length rows ≡ from + suc (length rows) = omega arith in
    ap (λ xs. posted r.row from ++ xs) (posted_push posted (from + 1) rows row ∙ ap (λ n. posted_all posted (from + 1) rows ++ posted row.row n) same)
    ∙ sym (append_assoc (posted r.row from) (posted_all posted (from + 1) rows) (posted row.row (from + suc (length rows))))

-- ---- lists that change

pub all_more : {X : Type 0} (posted : RowValue → ℕ → List X) (lists : List (List StampedRow)) (terms : List (List X)) (rows : List StampedRow) (ts : List X) → AllPosted posted lists terms → IsPermutation (posted_all posted 0 rows) ts → AllPosted posted (lists ++ rows ∷ []) (terms ++ ts ∷ [])
all_more posted [] [] rows ts a p = (p, tt)
all_more posted [] (us ∷ terms) rows ts a p = absurd a
all_more posted (xs ∷ lists) [] rows ts a p = absurd a
all_more posted (xs ∷ lists) (us ∷ terms) rows ts a p = (a.0, all_more posted lists terms rows ts a.1 p)

pub all_set : {X : Type 0} (posted : RowValue → ℕ → List X) (lists : List (List StampedRow)) (terms : List (List X)) (i : ℕ) (rows : List StampedRow) (ts : List X) → AllPosted posted lists terms → IsPermutation (posted_all posted 0 rows) ts → AllPosted posted (slice_set lists i rows) (slice_set terms i ts)
all_set posted [] [] i rows ts a p = a
all_set posted [] (us ∷ terms) i rows ts a p = absurd a
all_set posted (xs ∷ lists) [] i rows ts a p = absurd a
all_set posted (xs ∷ lists) (us ∷ terms) zero rows ts a p = (p, a.1)
all_set posted (xs ∷ lists) (us ∷ terms) (suc i) rows ts a p = (a.0, all_set posted lists terms i rows ts a.1 p)

pub all_removed : {X : Type 0} (posted : RowValue → ℕ → List X) (lists : List (List StampedRow)) (terms : List (List X)) (j : ℕ) → AllPosted posted lists terms → AllPosted posted (remove lists j) (remove terms j)
all_removed posted [] [] zero a = tt
all_removed posted [] [] (suc j) a = tt
all_removed posted [] (us ∷ terms) j a = absurd a
all_removed posted (xs ∷ lists) [] j a = absurd a
all_removed posted (xs ∷ lists) (us ∷ terms) zero a = a.1
all_removed posted (xs ∷ lists) (us ∷ terms) (suc j) a = (a.0, all_removed posted lists terms j a.1)
