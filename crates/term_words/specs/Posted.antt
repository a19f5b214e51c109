-- What the rows of descriptions are found by, and how lists of postings change. A posting is a text
-- and the number of a row in its list, as of a folded term; here its text is a word, or says how
-- long a term is and of which type.
use Rattle.std.specs.Prelude.{◌≡◌, ℕ, List, [], ◌∷◌, ◌++◌, map, length, chars, remove, slice_set}
use Rattle.std.specs.Prelude.{if◌then◌else◌}
use Rattle.std.specs.List.Sorted.{IsPermutation}
use Rattle.rf2_values.specs.declared.row.Body.{Body}
use Rattle.rf2_values.specs.declared.row.Body.TheVariants as body
use Rattle.rf2_values.specs.Row.{RowValue}
use Rattle.history_model.specs.declared.stamped.StampedRow.{StampedRow}
use Rattle.history_model.specs.Lists.{AreLists, union}
use Rattle.word_model.specs.Words.{words}
use Rattle.segment.specs.Standing.{places_of}
use Rattle.as_of_index.specs.Postings.{posted_all, AllPosted}
use Rattle.term_prefix.specs.Terms.{TermAt}
use Rattle.term_prefix.specs.Merged.{MergedTerms, IsMergeOfTerms, terms_left}

-- the text of a posting by length and type; in order, these come before words, the shortest first
abbrev pub measure_key : ℕ → ℕ → List ℕ
measure_key len type_id = 0 ∷ len ∷ type_id ∷ []

-- the text of a posting by a word
abbrev pub word_key : List ℕ → List ℕ
word_key word = 1 ∷ word

-- a description is posted by the length and the type of its term, and by each of its words
abbrev pub term_keys : ℕ → List ℕ → List (List ℕ)
term_keys type_id term = measure_key (length (chars term)) type_id ∷ map word_key (words term)

abbrev pub keys_of : Body → List (List ℕ)
keys_of (body.Description d) = term_keys d.type_id d.term
keys_of _ = []

abbrev pub keyed : ℕ → List ℕ → TermAt
keyed i key = record { folded = key; row = i }

-- the postings of row `i`: those of an active description
abbrev pub posted_words : RowValue → ℕ → List TermAt
posted_words row i = if row.active then map (keyed i) (keys_of row.body) else []

-- the list has the postings of these rows, each with its row's number counted from 0, in any order
abbrev pub IsPosted : List StampedRow → List TermAt → Type 0
IsPosted rows ts = IsPermutation (posted_all posted_words 0 rows) ts

-- there is one list of postings for each list of rows, and it has the postings of these rows
abbrev pub ArePosted : List (List StampedRow) → List (List TermAt) → Type 0
ArePosted lists words = AllPosted posted_words lists words

-- each list still has the postings of its rows after a list and its postings are added
abbrev pub PostedWordsMore : Type 0
PostedWordsMore = (lists : List (List StampedRow)) (words : List (List TermAt))
    (rows : List StampedRow) (ts : List TermAt)
    → ArePosted lists words → IsPosted rows ts → ArePosted (lists ++ rows ∷ []) (words ++ ts ∷ [])

-- each list still has the postings of its rows after one replaces two
abbrev pub PostedWordsMerged : Type 0
PostedWordsMerged = (lists : List (List StampedRow)) (words : List (List TermAt))
    (i j : ℕ) (rows : List StampedRow) (ts : List TermAt)
    → ArePosted lists words → IsPosted rows ts
    → ArePosted (remove (slice_set lists i rows) j) (remove (slice_set words i ts) j)

-- if each list has the postings of its rows and none is left, the merged ones are the postings of
-- the rows of both lists in key order
abbrev pub MergedWordsArePosted : Type 0
MergedWordsArePosted = (a_rows b_rows : List StampedRow) (a b : List TermAt) (m : MergedTerms)
    → AreLists (a_rows ∷ b_rows ∷ []) → IsPosted a_rows a → IsPosted b_rows b
    → IsMergeOfTerms (record { first = places_of a_rows; second = places_of b_rows }) a b m
    → terms_left a b m ≡ 0
    → IsPosted (union a_rows b_rows) m.terms
