-- The kinds of the rows of each answer.
use Rattle.std.proofs.Common.{◌≡◌, ◌⊎◌, ℕ, Bool, true, false, List, [], ◌∷◌, refl, sym, subst, inl, inr}
use Rattle.std.specs.Prelude.{◌==◌, ◌&&◌, cond, nat_lt, Option, Some, option_to_list}
use Rattle.std.specs.List.{filter, find, list_any}
use Rattle.std.specs.declared.cmp.Ordering.{Ordering}
use Rattle.std.proofs.lemmas.Bool.{and_parts}
use Rattle.rf2_values.specs.declared.row.Kind.{Kind}
use Rattle.rf2_values.specs.declared.row.Kind.TheVariants.{Description, Association, Member}
use Rattle.rf2_values.specs.declared.row.Body.{Body}
use Rattle.rf2_values.specs.declared.row.Body.TheVariants as body
use Rattle.rf2_values.specs.Row.{RowValue, kind_of, kind_of_body}
use Rattle.history_model.specs.InOrder.{Has, in_order}
use Rattle.history_model.specs.Queries.{is_kind, is_version_of, is_above, is_kind_above, is_changed_above, snapshot, get, versions, all_above, page, changed_above, delta, begins_with, is_term, terms, is_term_above, terms_above, search_terms}
use Rattle.history_model.specs.Queries.{refers_to, is_replacement_of, replacement_cmp, replacements, has_target, is_replaced_by, replaced_cmp, replaces, is_subject, subject_of, is_about, about, was_about, timeline}
use Rattle.history_model.specs.Queries.{is_member_of, is_member_above, members_above, members, component_of, is_value_above, value_cmp, values_above, is_among_first, values, members_about, with_others, called}
use Rattle.history_model.specs.Exports.{is_kind_after, all_of_kind, rows_of_kind}
use Rattle.history_model.specs.KeyOrder.{is_after}
use Rattle.history_model.proofs.InOrder.{Has-put_all_cases}
use Rattle.history_model.proofs.Filtered.{Has-filter}
use Rattle.history_model.proofs.Items.{Has-take, Has-drop, Has-flat_map}
use Rattle.history_model.proofs.Snapshots.{kind_from_test}
use Rattle.word_model.specs.Words.{words, says_words, has_words, shortest_cmp, words_found, some_words_found}
use Rattle.question_model.specs.Questions.{Get, History, Terms, Search, Replaced, Replaces, About, Timeline, Page, Delta, Members, Values, Called, AllRows, Words}
use Rattle.question_model.specs.Laws.{RowsAreOfKinds}

-- ---- what passes a test

term_kind : (prefix : List ℕ) (b : Body) → begins_with prefix b ≡ true → kind_of_body b ≡ Description
term_kind prefix (body.Description d) e = refl
term_kind prefix b e = absurd (cc)

words_kind : (wanted_type : Option ℕ) (wanted : List (List ℕ)) (b : Body) → says_words wanted_type wanted b ≡ true → kind_of_body b ≡ Description
words_kind wanted_type wanted (body.Description d) e = refl
words_kind wanted_type wanted b e = absurd (cc)

referring_kind : (id : ℕ) (b : Body) → refers_to id b ≡ true → kind_of_body b ≡ Association
referring_kind id (body.Association a) e = refl
referring_kind id b e = absurd (cc)

target_kind : (id : ℕ) (b : Body) → has_target id b ≡ true → kind_of_body b ≡ Association
target_kind id (body.Association a) e = refl
target_kind id b e = absurd (cc)

member_kind : (refset : ℕ) (b : Body) → is_member_of refset b ≡ true → kind_of_body b ≡ Member
member_kind refset (body.Member m) e = refl
member_kind refset b e = absurd (cc)

-- ---- what an answer has

ordered_has : (cmp : RowValue → RowValue → Ordering) (xs : List RowValue) (row : RowValue) → Has (in_order cmp xs) row → Has xs row
ordered_has cmp xs row h = elim (Has-put_all_cases cmp xs [] row h) [ inl k ↦ k | inr k ↦ absurd k ]

-- what is kept passes the test
passes : (p : RowValue → Bool) (xs : List RowValue) (row : RowValue) → Has (filter p xs) row → p row ≡ true
passes p xs row h = (Has-filter p xs row h).1

found_passes : (p : RowValue → Bool) (xs : List RowValue) (row : RowValue) → Has (option_to_list (find p xs)) row → p row ≡ true
found_passes p [] row h = absurd h
found_passes p (x ∷ xs) row h =
    elim (p x) as (λ t. p x ≡ t → Has (option_to_list (cond t (Some x) (find p xs))) row → p row ≡ true) [
      | true ↦ λ e f. elim f [ inl same ↦ subst (λ y. p y ≡ true) same e | inr none ↦ absurd none ]
      | false ↦ λ e f. found_passes p xs row f
    ] refl h

about_kind : (kind : Kind) (id date : ℕ) (rows : List RowValue) (row : RowValue) → Has (about kind id date rows) row → kind_of row ≡ kind
unfolding about
about_kind kind id date rows row h =
    let p = and_parts (row.active && is_kind kind row) (is_subject id (subject_of row)) (passes (is_about kind id) (snapshot rows date) row h) in
    kind_from_test kind row (and_parts row.active (is_kind kind row) p.0).1

member_is : (refset : ℕ) (after : Option ℕ) (row : RowValue) → is_value_above refset after row ≡ true → kind_of row ≡ Member
member_is refset after row e =
    let p = and_parts (row.active && is_member_of refset row.body) (is_above after (component_of row)) e in
    member_kind refset row.body (and_parts row.active (is_member_of refset row.body) p.0).1

others_has : (row : RowValue) (others : List RowValue) (z : RowValue) → Has (with_others row others) z → (row ≡ z) ⊎ Has others z
others_has row [] z h = absurd h
others_has row (other ∷ others) z h = h

called_kinds : (concept date refset : ℕ) (rows : List RowValue) (z : RowValue) → Has (called concept date refset rows) z → Has (Description ∷ Member ∷ []) (kind_of z)
unfolding called members_about
called_kinds concept date refset rows z h =
    let from = Has-flat_map (λ (row : RowValue). with_others row (members_about refset row.id date rows)) (about Description concept date rows) z h in
    elim (others_has from.0 (members_about refset from.0.id date rows) z from.2) [
      | inl same ↦ inl (sym (subst (λ (row : RowValue). kind_of row ≡ Description) same (about_kind Description concept date rows from.0 from.1)))
      | inr there ↦ inr (inl (sym (about_kind Member from.0.id date rows z (Has-filter (λ row. is_member_of refset row.body) (about Member from.0.id date rows) z there).0)))
    ]

-- ---- each question

pub rows_are_of_kinds : RowsAreOfKinds
unfolding get versions terms search_terms terms_above some_words_found words_found replacements replaces timeline page all_above delta changed_above members members_above values values_above rows_of_kind all_of_kind
rows_are_of_kinds (Get kind id date) rows row h = inl (sym (kind_from_test kind row (and_parts (is_kind kind row) (row.id == id) (found_passes (is_version_of kind id) (snapshot rows date) row h)).0))
rows_are_of_kinds (History kind id) rows row h = inl (sym (kind_from_test kind row (and_parts (is_kind kind row) (row.id == id) (passes (is_version_of kind id) rows row h)).0))
rows_are_of_kinds (Terms prefix date limit) rows row h = inl (sym (term_kind prefix row.body (and_parts row.active (begins_with prefix row.body) (passes (is_term prefix) (snapshot rows date) row (Has-take limit _ row h))).1))
rows_are_of_kinds (Search prefix date after limit) rows row h = inl (sym (term_kind prefix row.body (and_parts row.active (begins_with prefix row.body) (and_parts (is_term prefix row) (is_above after row.id) (passes (is_term_above prefix after) (snapshot rows date) row (Has-take limit _ row h))).0).1))
rows_are_of_kinds (Words date wanted_type offset limit text) rows row h =
    let found = ordered_has shortest_cmp _ row (Has-drop offset _ row (Has-take limit _ row h)) in
    inl (sym (words_kind wanted_type (words text) row.body (and_parts row.active (says_words wanted_type (words text) row.body) (passes (has_words wanted_type (words text)) (snapshot rows date) row found)).1))
rows_are_of_kinds (Replaced id date) rows row h = inl (sym (referring_kind id row.body (and_parts row.active (refers_to id row.body) (passes (is_replacement_of id) (snapshot rows date) row (ordered_has replacement_cmp _ row h))).1))
rows_are_of_kinds (Replaces id date) rows row h = inl (sym (target_kind id row.body (and_parts row.active (has_target id row.body) (passes (is_replaced_by id) (snapshot rows date) row (ordered_has replaced_cmp _ row h))).1))
rows_are_of_kinds (About kind id date) rows row h = inl (sym (about_kind kind id date rows row h))
rows_are_of_kinds (Timeline kind id) rows row h = inl (sym (kind_from_test kind row (and_parts (is_kind kind row) (list_any (λ other. is_about kind id other && is_version_of kind row.id other) rows) (passes (was_about kind id rows) rows row h)).0))
rows_are_of_kinds (Page kind date after limit) rows row h = inl (sym (kind_from_test kind row (and_parts (is_kind kind row) (is_above after row.id) (passes (is_kind_above kind after) (snapshot rows date) row (Has-take limit _ row h))).0))
rows_are_of_kinds (Delta kind from date after limit) rows row h =
    let p = and_parts (is_kind_above kind after row) (nat_lt from row.time) (passes (is_changed_above kind from after) (snapshot rows date) row (Has-take limit _ row h)) in
    inl (sym (kind_from_test kind row (and_parts (is_kind kind row) (is_above after row.id) p.0).0))
rows_are_of_kinds (Members refset date after limit) rows row h = inl (sym (member_kind refset row.body (and_parts (is_member_of refset row.body) (is_above after row.id) (passes (is_member_above refset after) (snapshot rows date) row (Has-take limit _ row h))).0))
rows_are_of_kinds (Values refset date after limit) rows row h =
    let kept = (Has-filter (is_among_first limit (values_above refset date after rows)) (values_above refset date after rows) row h).0 in
    inl (sym (member_is refset after row (passes (is_value_above refset after) (snapshot rows date) row (ordered_has value_cmp _ row kept))))
rows_are_of_kinds (Called concept date refset) rows row h = called_kinds concept date refset rows row h
rows_are_of_kinds (AllRows kind after limit) rows row h = inl (sym (kind_from_test kind row (and_parts (is_kind kind row) (is_after after row) (passes (is_kind_after kind after) rows row (Has-take limit _ row h))).0))
