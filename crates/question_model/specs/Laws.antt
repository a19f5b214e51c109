-- Laws of every question. `rows` are the rows that a pin shows.
use Rattle.std.specs.Prelude.{Option, Some, None, ◌≡◌, ◌↔◌, ℕ, ◌<◌, ◌≤◌, ◌+◌}
use Rattle.std.specs.Prelude.{List, [], ◌∷◌, ◌++◌, length, drop}
use Rattle.std.specs.List.{filter}
use Rattle.std.specs.Ordering.{nat_cmp}
use Rattle.rf2_values.specs.declared.row.Kind.TheVariants.{Description}
use Rattle.rf2_values.specs.Row.{RowValue, kind_of}
use Rattle.history_model.specs.InOrder.{Has, IsAscending, joined}
use Rattle.history_model.specs.History.{History, IsHistory, row_cmp, after_release, rows_at}
use Rattle.history_model.specs.Queries.{is_kind, all_above, terms_above, changed_above, members_above}
use Rattle.history_model.specs.Queries.{values_above, replacement_cmp, replaced_cmp, value_cmp}
use Rattle.history_model.specs.Laws.{by_id, by_time, last_id}
use Rattle.history_model.specs.Audit.{by_version}
use Rattle.history_model.specs.Membership.{last_component}
use Rattle.history_model.specs.Exports.{all_of_kind, last_key}
use Rattle.word_model.specs.Words.{shortest_cmp, words_found}
use Rattle.question_model.specs.Questions.{RowQuestion, Get, History as AskHistory, Terms, Search, Replaced}
use Rattle.question_model.specs.Questions.{Replaces, About, Timeline, Page, Delta, Members, Values, Called}
use Rattle.question_model.specs.Questions.{AllRows, Words}
use Rattle.question_model.specs.Questions.{IdQuestion}
use Rattle.question_model.specs.Wanted.{rows_for, kinds_for, AreIdsFor}

-- ---- later imports

-- what a question asks for at a pin isn't changed by later imports
abbrev pub RowsStay : Type 0
RowsStay = (h : History) (release : List RowValue) (pin : ℕ) (question : RowQuestion)
    → IsHistory h → pin ≤ h.imports
    → rows_for question (rows_at pin (after_release h release).rows)
    ≡ rows_for question (rows_at pin h.rows)

abbrev pub IdsStay : Type 0
IdsStay = (h : History) (release : List RowValue) (pin : ℕ) (question : IdQuestion) (ids : List ℕ)
    → IsHistory h → pin ≤ h.imports
    → AreIdsFor question (rows_at pin (after_release h release).rows) ids
    ↔ AreIdsFor question (rows_at pin h.rows) ids

-- ---- the order of an answer

-- the order in which the rows of an answer come, without duplicates: by id, unless the question has
-- an order of its own; of what a concept is called, the descriptions
abbrev pub AscendFor : RowQuestion → List RowValue → Type 0
AscendFor (AskHistory kind id) found = IsAscending by_time found
AscendFor (Words date wanted_type offset limit text) found = IsAscending shortest_cmp found
AscendFor (Replaced id date) found = IsAscending replacement_cmp found
AscendFor (Replaces id date) found = IsAscending replaced_cmp found
AscendFor (Timeline kind id) found = IsAscending by_version found
AscendFor (Values refset date after limit) found = IsAscending value_cmp found
AscendFor (Called concept date refset) found =
    IsAscending by_id (filter (is_kind Description) found)
AscendFor (AllRows kind after limit) found = IsAscending row_cmp found
AscendFor _ found = IsAscending by_id found

abbrev pub RowsAscend : Type 0
RowsAscend = (question : RowQuestion) (rows : List RowValue)
    → IsAscending row_cmp rows → AscendFor question (rows_for question rows)

abbrev pub IdsAscend : Type 0
IdsAscend = (question : IdQuestion) (rows : List RowValue) (ids : List ℕ)
    → AreIdsFor question rows ids → IsAscending nat_cmp ids

-- ---- the kinds of an answer's rows

-- each row of an answer is of one of the kinds of the question
abbrev pub RowsAreOfKinds : Type 0
RowsAreOfKinds = (question : RowQuestion) (rows : List RowValue) (row : RowValue)
    → Has (rows_for question rows) row → Has (kinds_for question) (kind_of row)

-- ---- one answer

-- a question for identifiers has one answer, and no other
abbrev pub OneListOfIds : Type 0
OneListOfIds = (question : IdQuestion) (rows : List RowValue)
    → (ids : List ℕ) × AreIdsFor question rows ids
    × ((others : List ℕ) → AreIdsFor question rows others → others ≡ ids)

-- ---- pages

-- the greatest number of rows in an answer to a question that can go on after the last of them; each
-- question is in this list, so that none is left out of the laws of pages by mistake
abbrev pub limit_of : RowQuestion → Option ℕ
limit_of (Get kind id date) = None
limit_of (AskHistory kind id) = None
limit_of (Terms prefix date limit) = None
limit_of (Search prefix date after limit) = Some limit
limit_of (Words date wanted_type offset limit text) = Some limit
limit_of (Replaced id date) = None
limit_of (Replaces id date) = None
limit_of (About kind id date) = None
limit_of (Timeline kind id) = None
limit_of (Page kind date after limit) = Some limit
limit_of (Delta kind from date after limit) = Some limit
limit_of (Members refset date after limit) = Some limit
limit_of (Values refset date after limit) = Some limit
limit_of (Called concept date refset) = None
limit_of (AllRows kind after limit) = Some limit

-- all rows for such a question, from where it begins on
abbrev pub all_for : RowQuestion → List RowValue → List RowValue
all_for (Search prefix date after limit) rows = terms_above prefix date after rows
all_for (Page kind date after limit) rows = all_above kind date after rows
all_for (Delta kind from date after limit) rows = changed_above kind from date after rows
all_for (Members refset date after limit) rows = members_above refset date after rows
all_for (Values refset date after limit) rows = values_above refset date after rows
all_for (AllRows kind after limit) rows = all_of_kind kind after rows
all_for (Words date wanted_type offset limit text) rows =
    drop offset (words_found date wanted_type text rows)
all_for question rows = rows_for question rows

-- the question that goes on after the last row of a page: values after its component, all rows of a
-- kind after its key, descriptions with words after as many more, and the others after its id
abbrev pub after_page : RowQuestion → List RowValue → RowQuestion
after_page (Search prefix date after limit) found = Search prefix date (last_id after found) limit
after_page (Page kind date after limit) found = Page kind date (last_id after found) limit
after_page (Delta kind from date after limit) found =
    Delta kind from date (last_id after found) limit
after_page (Members refset date after limit) found =
    Members refset date (last_id after found) limit
after_page (Values refset date after limit) found =
    Values refset date (last_component after found) limit
after_page (AllRows kind after limit) found = AllRows kind (last_key after found) limit
after_page (Words date wanted_type offset limit text) found =
    Words date wanted_type (offset + length found) limit text
after_page question found = question

-- each is the answer from after the last row of the one before, and the answer after the last one is
-- empty
abbrev pub ArePages : RowQuestion → List RowValue → List (List RowValue) → Type 0
ArePages question rows [] = rows_for question rows ≡ []
ArePages question rows (first ∷ pages) =
    (first ≡ rows_for question rows) × ArePages (after_page question first) rows pages

-- all rows are an answer of any limit, followed by all rows after its last one
abbrev pub PageAndTheRest : Type 0
PageAndTheRest = (question : RowQuestion) (limit : ℕ) (rows : List RowValue)
    → limit_of question ≡ Some limit → IsAscending row_cmp rows → all_for question rows
    ≡ rows_for question rows ++ all_for (after_page question (rows_for question rows)) rows

-- there are no rows after an answer that has fewer rows than its limit
abbrev pub ShortPageIsLast : Type 0
ShortPageIsLast = (question : RowQuestion) (limit : ℕ) (rows : List RowValue)
    → limit_of question ≡ Some limit → length (rows_for question rows) < limit
    → all_for question rows ≡ rows_for question rows

-- answers of any limit except zero, one after the other, are all rows
abbrev pub PagesAreAll : Type 0
PagesAreAll =
    (question : RowQuestion) (limit : ℕ) (rows : List RowValue) (pages : List (List RowValue))
    → limit_of question ≡ Some limit → 1 ≤ limit → IsAscending row_cmp rows
    → ArePages question rows pages → joined pages ≡ all_for question rows

-- there is a sequence of such answers that ends, and none of them is empty
abbrev pub PagesEnd : Type 0
PagesEnd = (question : RowQuestion) (limit : ℕ) (rows : List RowValue)
    → limit_of question ≡ Some limit → 1 ≤ limit → IsAscending row_cmp rows
    → (pages : List (List RowValue)) × ArePages question rows pages × (Has pages [] → ⊥)
