-- Subjects and postings that were pushed, each with the number of its row, are of rows of their lists, and none is left out.
use Rattle.std.proofs.Common.{◌≡◌, ℕ, zero, suc, ◌+◌, true, List, [], ◌∷◌, ◌++◌, length, refl, sym, ap, subst, inl, inr, ◌∙◌, arith}
use Rattle.std.specs.Prelude.{Option, Some, None, slice_set, remove, if◌then◌else◌}
use Rattle.rf2_values.specs.declared.row.Kind.{Kind}
use Rattle.rf2_values.specs.Row.{RowValue, kind_of}
use Rattle.history_model.specs.declared.stamped.StampedRow.{StampedRow}
use Rattle.history_model.specs.InOrder.{Has}
use Rattle.history_model.specs.Queries.{subject_of}
use Rattle.history_model.proofs.Filtered.{Has-map, Has-map_from}
use Rattle.history_model.proofs.Items.{Has-if}
use Rattle.as_of_index.specs.Places.{item_at}
use Rattle.as_of_index.specs.Postings.{posted_all, AllPosted}
use Rattle.as_of_index.specs.Private.Postings.{numbered}
use Rattle.as_of_index.proofs.Pushing.{stands, posting_there, posted_push}
use Rattle.links.specs.declared.posting.Posting.{Posting}
use Rattle.links.specs.declared.postings.Subject.{Subject}
use Rattle.links.specs.Edges.{Edges, RowKey, keys_of, posting, posted, subject_at, posted_subject}
use Rattle.links.specs.Private.{postings_in, subjects_in}
use Rattle.links.specs.Private.Asking.{key_of}
use Rattle.links.specs.Laws.{EachPosted, ArePostingsOf, PushedOneByOne, EdgesMore, EdgesMerged}

-- ---- of what is posted the subjects, and the postings

postings_posted : (lists : List (List StampedRow)) (edges : List Edges) → EachPosted lists edges → AllPosted posted lists (postings_in edges)
postings_posted [] [] a = tt
postings_posted [] (e ∷ edges) a = absurd a
postings_posted (rows ∷ lists) [] a = absurd a
postings_posted (rows ∷ lists) (e ∷ edges) a = (a.0.postings, postings_posted lists edges a.1)

subjects_posted : (lists : List (List StampedRow)) (edges : List Edges) → EachPosted lists edges → AllPosted posted_subject lists (subjects_in edges)
subjects_posted [] [] a = tt
subjects_posted [] (e ∷ edges) a = absurd a
subjects_posted (rows ∷ lists) [] a = absurd a
subjects_posted (rows ∷ lists) (e ∷ edges) a = (a.0.subjects, subjects_posted lists edges a.1)

-- ---- a posting has a key of its row, and each key is posted

key_of_row : (row : RowValue) (i : ℕ) (p : Posting) → Has (posted row i) p → Has (keys_of row) (key_of p) × (p.row ≡ i)
key_of_row row i p h =
    let m = Has-map (posting i) (keys_of row) p h in
    (subst (λ (q : Posting). Has (keys_of row) (key_of q)) m.2 m.1, sym (ap (λ (q : Posting). q.row) m.2))

pub posting_stands : (lists : List (List StampedRow)) (edges : List Edges) → EachPosted lists edges → (x : ℕ × Posting) → Has (numbered 0 (postings_in edges)) x → (s : StampedRow) × (item_at lists x.0 x.1.row ≡ Some s) × Has (keys_of s.row) (key_of x.1)
posting_stands lists edges a x h = stands posted (λ (p : Posting). p.row) (λ (p : Posting) (row : RowValue). Has (keys_of row) (key_of p)) key_of_row lists (postings_in edges) (postings_posted lists edges a) x h

pub each_key_is_posted : (lists : List (List StampedRow)) (edges : List Edges) → EachPosted lists edges → (n i : ℕ) (s : StampedRow) → item_at lists n i ≡ Some s → (k : RowKey) → Has (keys_of s.row) k → Has (numbered 0 (postings_in edges)) (n, posting i k)
each_key_is_posted lists edges a n i s w k h =
    posting_there posted lists (postings_in edges) (postings_posted lists edges a) n i s w (posting i k) (Has-map_from (posting i) (keys_of s.row) k h)

-- ---- a subject is what its row is about, and each is posted

-- the subject is what the row is about
pub record IsSubjectOf (x : Subject) (row : RowValue) : Type 0 where
  pub active : row.active ≡ true
  pub subject_is : subject_of row ≡ Some x.subject
  pub kind_is : kind_of row ≡ x.kind

subject_column : (subject : Option ℕ) (kind : Kind) (i : ℕ) (x : Subject) → Has (subject_at subject kind i) x → (subject ≡ Some x.subject) × (kind ≡ x.kind) × (x.row ≡ i)
subject_column None kind i x h = absurd h
subject_column (Some id) kind i x h = elim h [ inl s ↦ (ap (λ (y : Subject). Some y.subject) s, ap (λ (y : Subject). y.kind) s, sym (ap (λ (y : Subject). y.row) s)) | inr f ↦ absurd f ]

subject_row : (row : RowValue) (i : ℕ) (x : Subject) → Has (posted_subject row i) x → IsSubjectOf x row × (x.row ≡ i)
subject_row row i x h =
    let active = Has-if row.active (subject_at (subject_of row) (kind_of row) i) x h in
    let w = subject_column (subject_of row) (kind_of row) i x active.1 in
    (record { active = active.0; subject_is = w.0; kind_is = w.1 }, w.2)

pub subject_stands : (lists : List (List StampedRow)) (edges : List Edges) → EachPosted lists edges → (x : ℕ × Subject) → Has (numbered 0 (subjects_in edges)) x → (s : StampedRow) × (item_at lists x.0 x.1.row ≡ Some s) × IsSubjectOf x.1 s.row
subject_stands lists edges a x h = stands posted_subject (λ (y : Subject). y.row) IsSubjectOf subject_row lists (subjects_in edges) (subjects_posted lists edges a) x h

subject_there : (row : RowValue) (i : ℕ) (id : ℕ) → row.active ≡ true → subject_of row ≡ Some id → Has (posted_subject row i) (record { subject = id; kind = kind_of row; row = i })
subject_there row i id active subject =
    let x : Subject = record { subject = id; kind = kind_of row; row = i } in
    subst (λ b. Has (if b then subject_at (subject_of row) (kind_of row) i else []) x) (sym active) (subst (λ o. Has (subject_at o (kind_of row) i) x) (sym subject) (inl refl))

-- where an active row is about a component, its subject is posted
pub each_subject_is_posted : (lists : List (List StampedRow)) (edges : List Edges) → EachPosted lists edges → (n i : ℕ) (s : StampedRow) → item_at lists n i ≡ Some s → (id : ℕ) → s.row.active ≡ true → subject_of s.row ≡ Some id → Has (numbered 0 (subjects_in edges)) (n, record { subject = id; kind = kind_of s.row; row = i })
each_subject_is_posted lists edges a n i s w id active subject =
    posting_there posted_subject lists (subjects_in edges) (subjects_posted lists edges a) n i s w (record { subject = id; kind = kind_of s.row; row = i }) (subject_there s.row i id active subject)

-- ---- one row more

posted-push : {X : Type 0} (posted : RowValue → ℕ → List X) (rows : List StampedRow) (row : StampedRow) → posted_all posted 0 (rows ++ row ∷ []) ≡ posted_all posted 0 rows ++ posted row.row (length rows)
posted-push posted rows row =
    let same : 0 + length rows ≡ length rows = omega arith in
    posted_push posted 0 rows row ∙ ap (λ n. posted_all posted 0 rows ++ posted row.row n) same

pub pushed_one_by_one : PushedOneByOne
pushed_one_by_one rows row = λ k.
    record { subjects = posted-push posted_subject rows row k; postings = posted-push posted rows row k }

-- ---- lists that change

pub edges_more : EdgesMore
edges_more [] [] rows e a p = (p, tt)
edges_more [] (d ∷ edges) rows e a p = absurd a
edges_more (xs ∷ lists) [] rows e a p = absurd a
edges_more (xs ∷ lists) (d ∷ edges) rows e a p = (a.0, edges_more lists edges rows e a.1 p)

edges_set : (lists : List (List StampedRow)) (edges : List Edges) (i : ℕ) (rows : List StampedRow) (e : Edges) → EachPosted lists edges → ArePostingsOf rows e → EachPosted (slice_set lists i rows) (slice_set edges i e)
edges_set [] [] i rows e a p = a
edges_set [] (d ∷ edges) i rows e a p = absurd a
edges_set (xs ∷ lists) [] i rows e a p = absurd a
edges_set (xs ∷ lists) (d ∷ edges) zero rows e a p = (p, a.1)
edges_set (xs ∷ lists) (d ∷ edges) (suc i) rows e a p = (a.0, edges_set lists edges i rows e a.1 p)

edges_removed : (lists : List (List StampedRow)) (edges : List Edges) (j : ℕ) → EachPosted lists edges → EachPosted (remove lists j) (remove edges j)
edges_removed [] [] zero a = tt
edges_removed [] [] (suc j) a = tt
edges_removed [] (d ∷ edges) j a = absurd a
edges_removed (xs ∷ lists) [] j a = absurd a
edges_removed (xs ∷ lists) (d ∷ edges) zero a = a.1
edges_removed (xs ∷ lists) (d ∷ edges) (suc j) a = (a.0, edges_removed lists edges j a.1)

pub edges_merged : EdgesMerged
edges_merged lists edges i j rows e a p = edges_removed (slice_set lists i rows) (slice_set edges i e) j (edges_set lists edges i rows e a p)
