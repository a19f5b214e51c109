-- Which rows are found by words.
use Rattle.std.proofs.Common.{◌≡◌, ℕ, true, List, [], ◌++◌, refl, sym, inl, inr, ◌∙◌}
use Rattle.std.specs.Prelude.{Option, None}
use Rattle.std.specs.Cmp.{ranked}
use Rattle.std.specs.declared.cmp.Ordering.TheVariants.{Equal}
use Rattle.std.proofs.lemmas.Bool.{and_parts, and_from}
use Rattle.list_lemmas.proofs.Tests.{both_equal}
use Rattle.rf2_values.specs.declared.row.Kind.TheVariants.{Description}
use Rattle.rf2_values.specs.declared.row.Body.{Body}
use Rattle.rf2_values.specs.declared.row.Body.TheVariants as body
use Rattle.rf2_values.specs.Row.{RowValue, kind_of, kind_of_body}
use Rattle.history_model.specs.Queries.{snapshot, begins_with, is_term, is_term_above, terms_above}
use Rattle.history_model.proofs.InOrder.{Has-put_all_cases, Has-put_all_new}
use Rattle.history_model.proofs.Filtered.{Has-filter, Has-filter_from}
use Rattle.history_model.proofs.Ascents.{one_row_of_a_component}
use Rattle.word_model.specs.Words.{words, words_found, has_words, says_words, is_of_type, begin_with_all, shortest_cmp}
use Rattle.word_model.specs.Laws.{WordsAreAll, FoundByABeginning, TermsAreFoundByWords}
use Rattle.word_model.proofs.Beginnings.{longer_begins, prefix_begins, begins_through}

says_kind : (wanted_type : Option ℕ) (wanted : List (List ℕ)) (b : Body) → says_words wanted_type wanted b ≡ true → kind_of_body b ≡ Description
says_kind wanted_type wanted (body.Concept c) e = cc
says_kind wanted_type wanted (body.Description d) e = refl
says_kind wanted_type wanted (body.Relationship r) e = cc
says_kind wanted_type wanted (body.Association a) e = cc
says_kind wanted_type wanted (body.Concrete c) e = cc
says_kind wanted_type wanted (body.Member m) e = cc

has_kind : (wanted_type : Option ℕ) (wanted : List (List ℕ)) (row : RowValue) → has_words wanted_type wanted row ≡ true → kind_of row ≡ Description
has_kind wanted_type wanted row e = says_kind wanted_type wanted row.body (and_parts row.active (says_words wanted_type wanted row.body) e).1

pub words_are_all : WordsAreAll
unfolding words_found
words_are_all date wanted_type text rows row up = (
  λ h. elim (Has-put_all_cases shortest_cmp _ [] row h) [
    | inl k ↦ Has-filter (has_words wanted_type (words text)) (snapshot rows date) row k
    | inr k ↦ absurd k
  ],
  λ w. Has-put_all_new shortest_cmp _ [] row (λ y there tie. elim there [
    | inl k ↦
        let f = Has-filter (has_words wanted_type (words text)) (snapshot rows date) y k in
        let ids : row.id ≡ y.id = ranked row.id y.id Equal (sym (both_equal _ _ tie).1) in
        let kinds : kind_of y ≡ kind_of row = has_kind wanted_type (words text) y f.1 ∙ sym (has_kind wanted_type (words text) row w.1) in
        one_row_of_a_component rows date y row up f.0 w.0 kinds (sym ids)
    | inr k ↦ absurd k
  ]) (Has-filter_from (has_words wanted_type (words text)) (snapshot rows date) row w.0 w.1),
)

fewer_said : (wanted_type : Option ℕ) (wanted fewer : List (List ℕ)) (b : Body) → begin_with_all wanted fewer ≡ true → says_words wanted_type wanted b ≡ true → says_words wanted_type fewer b ≡ true
fewer_said wanted_type wanted fewer (body.Concept c) within e = absurd (cc)
fewer_said wanted_type wanted fewer (body.Description d) within e =
    let parts = and_parts (is_of_type wanted_type d.type_id) (begin_with_all (words d.term) wanted) e in
    and_from (is_of_type wanted_type d.type_id) (begin_with_all (words d.term) fewer) parts.0 (begins_through (words d.term) wanted fewer parts.1 within)
fewer_said wanted_type wanted fewer (body.Relationship r) within e = absurd (cc)
fewer_said wanted_type wanted fewer (body.Association a) within e = absurd (cc)
fewer_said wanted_type wanted fewer (body.Concrete c) within e = absurd (cc)
fewer_said wanted_type wanted fewer (body.Member m) within e = absurd (cc)

pub found_by_a_beginning : FoundByABeginning
found_by_a_beginning date wanted_type beginning more rows row up utf8 h =
    let there = (words_are_all date wanted_type (beginning ++ more) rows row up).0 h in
    let parts = and_parts row.active (says_words wanted_type (words (beginning ++ more)) row.body) there.1 in
    let fewer = fewer_said wanted_type (words (beginning ++ more)) (words beginning) row.body (longer_begins beginning more utf8) parts.1 in
    (words_are_all date wanted_type beginning rows row up).1 (there.0, and_from row.active (says_words wanted_type (words beginning) row.body) parts.0 fewer)

said_by_beginning : (text : List ℕ) (b : Body) → begins_with text b ≡ true → says_words None (words text) b ≡ true
said_by_beginning text (body.Concept c) e = absurd (cc)
said_by_beginning text (body.Description d) e = prefix_begins text d.term e
said_by_beginning text (body.Relationship r) e = absurd (cc)
said_by_beginning text (body.Association a) e = absurd (cc)
said_by_beginning text (body.Concrete c) e = absurd (cc)
said_by_beginning text (body.Member m) e = absurd (cc)

pub terms_are_found_by_words : TermsAreFoundByWords
unfolding terms_above
terms_are_found_by_words date text rows row up h =
    let there = Has-filter (is_term_above text None) (snapshot rows date) row h in
    let is = (and_parts (is_term text row) true there.1).0 in
    let parts = and_parts row.active (begins_with text row.body) is in
    (words_are_all date None text rows row up).1 (there.0, and_from row.active (says_words None (words text) row.body) parts.0 (said_by_beginning text row.body parts.1))
