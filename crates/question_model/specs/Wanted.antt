-- What questions ask for. `rows` are the rows that a pin shows.
use Rattle.std.specs.Prelude.{◌≡◌, ℕ, List, [], ◌∷◌, option_to_list}
use Rattle.rf2_values.specs.declared.row.Kind.{Kind}
use Rattle.rf2_values.specs.declared.row.Kind.TheVariants.{Description, Association, Member}
use Rattle.rf2_values.specs.Row.{RowValue}
use Rattle.history_model.specs.Queries.{get, versions, page, delta, terms, search_terms, about}
use Rattle.history_model.specs.Queries.{timeline, replacements, replaces, members, values, called}
use Rattle.history_model.specs.Queries.{children}
use Rattle.history_model.specs.Hierarchy.{AreAncestors, AreDescendants}
use Rattle.history_model.specs.Relationships.{sources}
use Rattle.history_model.specs.Exports.{rows_of_kind}
use Rattle.word_model.specs.Words.{some_words_found}
use Rattle.question_model.specs.Questions.{RowQuestion, Get, History, Terms, Search, Replaced, Replaces}
use Rattle.question_model.specs.Questions.{About, Timeline, Page, Delta, Members, Values, Called}
use Rattle.question_model.specs.Questions.{AllRows, Words}
use Rattle.question_model.specs.Questions.{IdQuestion, Children, Ancestors, Descendants, Sources}

-- the rows that a question asks for
abbrev pub rows_for : RowQuestion → List RowValue → List RowValue
rows_for (Get kind id date) rows = option_to_list (get kind id date rows)
rows_for (History kind id) rows = versions kind id rows
rows_for (Terms prefix date limit) rows = terms prefix date limit rows
rows_for (Search prefix date after limit) rows = search_terms prefix date after limit rows
rows_for (Words date wanted_type offset limit text) rows =
    some_words_found date wanted_type text offset limit rows
rows_for (Replaced id date) rows = replacements id date rows
rows_for (Replaces id date) rows = replaces id date rows
rows_for (About kind id date) rows = about kind id date rows
rows_for (Timeline kind id) rows = timeline kind id rows
rows_for (Page kind date after limit) rows = page kind date after limit rows
rows_for (Delta kind from date after limit) rows = delta kind from date after limit rows
rows_for (Members refset date after limit) rows = members refset date after limit rows
rows_for (Values refset date after limit) rows = values refset date after limit rows
rows_for (Called concept date refset) rows = called concept date refset rows
rows_for (AllRows kind after limit) rows = rows_of_kind kind after limit rows

-- the kinds that the rows of an answer may have
abbrev pub kinds_for : RowQuestion → List Kind
kinds_for (Get kind id date) = kind ∷ []
kinds_for (History kind id) = kind ∷ []
kinds_for (Terms prefix date limit) = Description ∷ []
kinds_for (Search prefix date after limit) = Description ∷ []
kinds_for (Words date wanted_type offset limit text) = Description ∷ []
kinds_for (Replaced id date) = Association ∷ []
kinds_for (Replaces id date) = Association ∷ []
kinds_for (About kind id date) = kind ∷ []
kinds_for (Timeline kind id) = kind ∷ []
kinds_for (Page kind date after limit) = kind ∷ []
kinds_for (Delta kind from date after limit) = kind ∷ []
kinds_for (Members refset date after limit) = Member ∷ []
kinds_for (Values refset date after limit) = Member ∷ []
kinds_for (Called concept date refset) = Description ∷ Member ∷ []
kinds_for (AllRows kind after limit) = kind ∷ []

-- the identifiers that a question asks for
abbrev pub AreIdsFor : IdQuestion → List RowValue → List ℕ → Type 0
AreIdsFor (Children concept date) rows ids = ids ≡ children concept date rows
AreIdsFor (Ancestors concept date) rows ids = AreAncestors concept date rows ids
AreIdsFor (Descendants concept date) rows ids = AreDescendants concept date rows ids
AreIdsFor (Sources type_id destination date after limit) rows ids =
    ids ≡ sources type_id destination date after limit rows
