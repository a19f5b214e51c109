-- Laws of the search by words. `rows` are the rows that a pin shows, in key order.
use Rattle.std.specs.Prelude.{◌≡◌, ◌↔◌, ℕ, true, List, ◌++◌, Option, None}
use Rattle.std.specs.Str.{IsUtf8}
use Rattle.rf2_values.specs.Row.{RowValue}
use Rattle.history_model.specs.InOrder.{Has, IsAscending}
use Rattle.history_model.specs.History.{row_cmp}
use Rattle.history_model.specs.Queries.{snapshot, terms_above}
use Rattle.word_model.specs.Words.{has_words, words, words_found}

-- what is found are all the rows at the date that have the words, and no other
abbrev pub WordsAreAll : Type 0
WordsAreAll = (date : ℕ) (wanted_type : Option ℕ) (text : List ℕ) (rows : List RowValue)
    (row : RowValue) → IsAscending row_cmp rows
    → Has (words_found date wanted_type text rows) row
    ↔ (Has (snapshot rows date) row × (has_words wanted_type (words text) row ≡ true))

-- what is found by the words of a text is found by those of a beginning of it
abbrev pub FoundByABeginning : Type 0
FoundByABeginning = (date : ℕ) (wanted_type : Option ℕ) (beginning more : List ℕ)
    (rows : List RowValue) (row : RowValue)
    → IsAscending row_cmp rows → IsUtf8 beginning
    → Has (words_found date wanted_type (beginning ++ more) rows) row
    → Has (words_found date wanted_type beginning rows) row

-- a description whose term begins with a text is found by the words of the text
abbrev pub TermsAreFoundByWords : Type 0
TermsAreFoundByWords = (date : ℕ) (text : List ℕ) (rows : List RowValue) (row : RowValue)
    → IsAscending row_cmp rows → Has (terms_above text date None rows) row
    → Has (words_found date None text rows) row
