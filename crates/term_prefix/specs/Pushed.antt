-- The postings of rows, and how lists of them change.
use Rattle.std.specs.Prelude.{◌≤◌, ℕ, List, [], ◌∷◌, ◌++◌, length, remove, slice_set}
use Rattle.std.specs.Prelude.{if◌then◌else◌}
use Rattle.std.specs.List.Sorted.{IsPermutation}
use Rattle.rf2_values.specs.declared.row.Body.{Body}
use Rattle.rf2_values.specs.declared.row.Body.TheVariants as body
use Rattle.rf2_values.specs.Row.{RowValue}
use Rattle.history_model.specs.declared.stamped.StampedRow.{StampedRow}
use Rattle.history_model.specs.Queries.{folded}
use Rattle.as_of_index.specs.Postings.{posted_all, AllPosted}
use Rattle.term_prefix.specs.Terms.{TermAt}

abbrev pub term_of_body : Body → ℕ → List TermAt
term_of_body (body.Description d) i = record { folded = folded d.term; row = i } ∷ []
term_of_body _ i = []

-- the posting of row `i`: the folded term of an active description
abbrev pub posted_term : RowValue → ℕ → List TermAt
posted_term row i = if row.active then term_of_body row.body i else []

-- the list has the postings of these rows, each with its row's number counted from 0, in any order
abbrev pub IsPosted : List StampedRow → List TermAt → Type 0
IsPosted rows ts = IsPermutation (posted_all posted_term 0 rows) ts

-- there is one list of postings for each list of rows, and it has the postings of these rows
abbrev pub ArePosted : List (List StampedRow) → List (List TermAt) → Type 0
ArePosted lists terms = AllPosted posted_term lists terms

-- there are no more postings than rows
abbrev pub PostedTermsAreFew : Type 0
PostedTermsAreFew = (rows : List StampedRow) (ts : List TermAt) → IsPosted rows ts
    → length ts ≤ length rows

-- each list still has the postings of its rows after a list and its postings are added
abbrev pub PostedTermsMore : Type 0
PostedTermsMore = (lists : List (List StampedRow)) (terms : List (List TermAt))
    (rows : List StampedRow) (ts : List TermAt)
    → ArePosted lists terms → IsPosted rows ts → ArePosted (lists ++ rows ∷ []) (terms ++ ts ∷ [])

-- each list still has the postings of its rows after one replaces two
abbrev pub PostedTermsMerged : Type 0
PostedTermsMerged = (lists : List (List StampedRow)) (terms : List (List TermAt))
    (i j : ℕ) (rows : List StampedRow) (ts : List TermAt)
    → ArePosted lists terms → IsPosted rows ts
    → ArePosted (remove (slice_set lists i rows) j) (remove (slice_set terms i ts) j)
