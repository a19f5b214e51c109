-- Terms that were pushed, each with the number of its row, are of rows of their lists, and none is left out.
use Rattle.std.proofs.Common.{◌≡◌, ℕ, ◌+◌, ◌≤◌, Bool, true, false, List, [], ◌∷◌, length, arith, refl, sym, ap, subst, inl, inr}
use Rattle.std.specs.Prelude.{if◌then◌else◌, slice_set, Option, Some}
use Rattle.rf2_values.specs.declared.row.Body.{Body}
use Rattle.rf2_values.specs.declared.row.Body.TheVariants as body
use Rattle.rf2_values.specs.Row.{RowValue}
use Rattle.std.proofs.lemmas.List.{length-append}
use Rattle.std.proofs.lemmas.List.Sorted.{length_permutation}
use Rattle.std.proofs.lemmas.Bool.{and_parts}
use Rattle.history_model.specs.declared.stamped.StampedRow.{StampedRow}
use Rattle.history_model.specs.InOrder.{Has}
use Rattle.as_of_index.specs.declared.as_of.AsOf.{AsOf}
use Rattle.as_of_index.specs.Places.{item_at}
use Rattle.as_of_index.specs.Postings.{posted_all}
use Rattle.as_of_index.specs.Private.Postings.{numbered}
use Rattle.history_model.specs.Queries.{snapshot, is_above, is_term, is_term_above, begins_with, folded}
use Rattle.history_model.proofs.Items.{Has-if}
use Rattle.as_of_index.proofs.Pushing.{stands, IsPostedAs, posted_as, all_more, all_set, all_removed}
use Rattle.as_of_index.specs.Current.{rows_seen}
use Rattle.term_prefix.specs.Terms.{TermAt}
use Rattle.term_prefix.specs.Pushed.{term_of_body, posted_term, ArePosted, PostedTermsAreFew, PostedTermsMore, PostedTermsMerged}

-- ---- what is posted says what its row is

-- the body is a description's, and this is the folding of its term
abbrev pub HasFolded : List ℕ → Body → Type 0
HasFolded text (body.Description d) = folded d.term ≡ text
HasFolded text _ = ⊥

-- what a posting says of the row that has its number
pub record IsTermOf (t : TermAt) (row : RowValue) : Type 0 where
  pub active : row.active ≡ true
  pub folded_is : HasFolded t.folded row.body

of_body : (row : RowValue) (i : ℕ) (b : Body) (t : TermAt) → row.active ≡ true → row.body ≡ b → Has (term_of_body b i) t → IsTermOf t row × (t.row ≡ i)
of_body row i (body.Concept c) t a e h = absurd h
of_body row i (body.Description d) t a e h = elim h [
  | inl s ↦ (record { active = a; folded_is = subst (λ b. HasFolded t.folded b) (sym e) (ap (λ (x : TermAt). x.folded) s) }, sym (ap (λ (x : TermAt). x.row) s))
  | inr f ↦ absurd f
]
of_body row i (body.Relationship r) t a e h = absurd h
of_body row i (body.Association x) t a e h = absurd h
of_body row i (body.Concrete x) t a e h = absurd h
of_body row i (body.Member m) t a e h = absurd h

of_row : (row : RowValue) (i : ℕ) (t : TermAt) → Has (posted_term row i) t → IsTermOf t row × (t.row ≡ i)
of_row row i t h = let active = Has-if row.active (term_of_body row.body i) t h in of_body row i row.body t active.0 refl active.1

pub term_stands : (lists : List (List StampedRow)) (terms : List (List TermAt)) → ArePosted lists terms → (x : ℕ × TermAt) → Has (numbered 0 terms) x → (s : StampedRow) × (item_at lists x.0 x.1.row ≡ Some s) × IsTermOf x.1 s.row
term_stands lists terms a x h = stands posted_term (λ (t : TermAt). t.row) IsTermOf of_row lists terms a x h

-- ---- and each active one is posted

body_posted : (prefix : List ℕ) (i : ℕ) (b : Body) → begins_with prefix b ≡ true → (t : TermAt) × Has (term_of_body b i) t × (t.row ≡ i)
body_posted prefix i (body.Concept c) e = absurd (cc)
body_posted prefix i (body.Description d) e = (record { folded = folded d.term; row = i }, inl refl, refl)
body_posted prefix i (body.Relationship r) e = absurd (cc)
body_posted prefix i (body.Association a) e = absurd (cc)
body_posted prefix i (body.Concrete c) e = absurd (cc)
body_posted prefix i (body.Member m) e = absurd (cc)

row_posted : (prefix : List ℕ) (after : Option ℕ) (row : RowValue) (i : ℕ) → is_term_above prefix after row ≡ true → (t : TermAt) × Has (posted_term row i) t × (t.row ≡ i)
row_posted prefix after row i e =
    let w = and_parts row.active (begins_with prefix row.body) (and_parts (is_term prefix row) (is_above after row.id) e).0 in
    let t = body_posted prefix i row.body w.1 in
    (t.0, subst (λ b. Has (if b then term_of_body row.body i else []) t.0) (sym w.0) t.1, t.2)

pub term_of_description : (lists : List (List StampedRow)) (terms : List (List TermAt)) → ArePosted lists terms → (prefix : List ℕ) (as_of : AsOf) (after : Option ℕ) (row : RowValue) → Has (snapshot (rows_seen as_of lists) as_of.date) row → is_term_above prefix after row ≡ true → IsPostedAs (λ (t : TermAt). t.row) lists terms row
term_of_description lists terms a prefix as_of after row h e =
    posted_as posted_term (λ (t : TermAt). t.row) (is_term_above prefix after) (row_posted prefix after) lists terms as_of a row h e

-- ---- how many there are

few_of_row : (row : RowValue) (i : ℕ) → length (posted_term row i) ≤ 1
few_of_row row i = split row.active row.body where
  split : (b : Bool) (x : Body) → length (if b then term_of_body x i else []) ≤ 1
  split true (body.Concept c) = omega arith
  split true (body.Description d) = omega arith
  split true (body.Relationship r) = omega arith
  split true (body.Association x) = omega arith
  split true (body.Concrete x) = omega arith
  split true (body.Member m) = omega arith
  split false x = omega arith

few_of_rows : (from : ℕ) (rows : List StampedRow) → length (posted_all posted_term from rows) ≤ length rows
few_of_rows from [] = omega arith
few_of_rows from (s ∷ rows) =
    let one = few_of_row s.row from in
    let rest = few_of_rows (from + 1) rows in
    let both = length-append (posted_term s.row from) (posted_all posted_term (from + 1) rows) in
    omega (arith, one, rest, both)

pub posted_terms_are_few : PostedTermsAreFew
posted_terms_are_few rows ts of_rows =
    let few = few_of_rows 0 rows in
    let same = length_permutation (posted_all posted_term 0 rows) ts of_rows in
    omega (arith, few, same)

-- ---- lists that change

pub posted_terms_more : PostedTermsMore
posted_terms_more lists terms rows ts a p = all_more posted_term lists terms rows ts a p

pub posted_terms_merged : PostedTermsMerged
posted_terms_merged lists terms i j rows ts a p =
    all_removed posted_term (slice_set lists i rows) (slice_set terms i ts) j (all_set posted_term lists terms i rows ts a p)
