-- Answers ascend, and leave nothing out.
use Rattle.std.proofs.Common.{◌≡◌, ◌≢◌, ℕ, ◌<◌, Bool, true, false, cond, List, [], ◌∷◌, map, refl, sym, ap, subst, inl, inr, ◌∙◌, arith}
use Rattle.std.specs.Prelude.{◌&&◌, Option, Some, None}
use Rattle.std.specs.List.{AllByRecursion, filter}
use Rattle.std.specs.Ordering.{nat_cmp}
use Rattle.std.specs.Cmp.{IsTotalOrder, nat_cmp_is, nat_cmp_total, on_total, then_total, ranked}
use Rattle.std.proofs.lemmas.Bool.Decides.{nat_tests}
use Rattle.std.specs.declared.cmp.Ordering.{Ordering}
use Rattle.std.specs.declared.cmp.Ordering.TheVariants.{Less, Equal}
use Rattle.std.proofs.lemmas.Option.{same_Some}
use Rattle.std.proofs.lemmas.Bool.{and_parts}
use Rattle.list_lemmas.proofs.Tests.{both_equal, all_three}
use Rattle.rf2_values.specs.declared.row.Kind.{Kind}
use Rattle.rf2_values.specs.declared.row.Kind.TheVariants.{Concept, Description, Association}
use Rattle.rf2_values.specs.declared.row.Body.{Body}
use Rattle.rf2_values.specs.declared.row.Body.TheVariants as body
use Rattle.rf2_values.specs.Row.{RowValue, kind_of, kind_of_body}
use Rattle.rf2_values.specs.Key.{kind_place}
use Rattle.history_model.specs.InOrder.{Has, IsAscending}
use Rattle.history_model.specs.History.{row_cmp}
use Rattle.history_model.specs.Queries.{is_version_of, is_above, snapshot, versions, page, all_above, begins_with, is_term, terms, is_child_of, source_of, children, refers_to, is_replacement_of, replacement_cmp, refset_of, target_of, replacements}
use Rattle.history_model.specs.Queries.{is_kind, subject_of_body, subject_of, is_subject, is_about, about, is_term_above, terms_above, search_terms}
use Rattle.history_model.specs.Laws.{AboutIsAll, EachIsAboutOne}
use Rattle.history_model.specs.Laws.{WhatIsShownAscends, OneRowOfAComponent, by_time, by_id, ChildrenAreAll, ReplacementsAreAll}
use Rattle.history_model.proofs.InOrder.{Has-put_all_cases, Has-put_all_new, IsAscending-in_order}
use Rattle.history_model.proofs.Filtered.{Has-filter, Has-filter_from, Has-map, Has-map_from, Rises, IsAscending-take}
use Rattle.history_model.proofs.Snapshots.{IsAscending-rows_at, IsAscending-snapshot, IsConsistent-from_ascending, current_from_snapshot, kind_from_test, of_page, Rises-page, Rises-current, Rises-versions, versions-above_none}

pub what_is_shown_ascends : WhatIsShownAscends
what_is_shown_ascends h pin history = IsAscending-rows_at pin h.rows history.ascending

pub one_row_of_a_component : OneRowOfAComponent
one_row_of_a_component rows date a b up h k kinds ids =
    let c = current_from_snapshot rows date a h in
    let d = current_from_snapshot rows date b k in
    let le = c.latest b d.known (record { kind_is = sym kinds; id_is = sym ids }) d.early in
    let ge = d.latest a c.known (record { kind_is = kinds; id_is = ids }) c.early in
    let times : a.time ≡ b.time = omega arith in
    IsConsistent-from_ascending rows up a b c.known d.known (λ i. record { kind = kinds i; id = ids i; time = times i })

-- ---- filters that rise ascend

module _ (p : RowValue → Bool) (rank : RowValue → ℕ) where
  abbrev by_rank : RowValue → RowValue → Ordering
  by_rank a b = nat_cmp (rank a) (rank b)

  below : (n : ℕ) (xs : List RowValue) → AllByRecursion (λ y. p y ≡ true → n < rank y) xs → AllByRecursion (λ y. nat_cmp n (rank y) ≡ Less) (filter p xs)
  below n [] a = tt
  below n (x ∷ xs) a =
      elim (p x) as (λ t. (t ≡ true → n < rank x) → AllByRecursion (λ y. nat_cmp n (rank y) ≡ Less) (cond t (x ∷ filter p xs) (filter p xs))) [
        | true ↦ λ f. (sym (nat_cmp_is n (rank x) Less (f refl)), below n xs a.1)
        | false ↦ λ f. below n xs a.1
      ] a.0

  pub ascends : (xs : List RowValue) → Rises p rank xs → IsAscending by_rank (filter p xs)
  ascends [] r = tt
  ascends (x ∷ xs) r =
      elim (p x) as (λ t. (t ≡ true → AllByRecursion (λ y. p y ≡ true → rank x < rank y) xs) → IsAscending by_rank (cond t (x ∷ filter p xs) (filter p xs))) [
        | true ↦ λ f. (below (rank x) xs (f refl), ascends xs r.1)
        | false ↦ λ f. ascends xs r.1
      ] r.0

-- ---- each answer

pub versions_ascend : (rows : List RowValue) → IsAscending row_cmp rows → (kind : Kind) (id : ℕ) → IsAscending by_time (versions kind id rows)
versions_ascend rows up kind id =
    subst (λ xs. IsAscending by_time xs) (sym (versions-above_none kind id rows))
    (ascends (λ row. is_version_of kind id row && is_above None row.time) (λ row. row.time) rows (Rises-versions kind id None rows up))

pub page_ascends : (rows : List RowValue) → IsAscending row_cmp rows → (kind : Kind) (date : ℕ) (after : Option ℕ) (limit : ℕ) → IsAscending by_id (page kind date after limit rows)
unfolding page all_above
page_ascends rows up kind date after limit =
    IsAscending-take by_id limit _ (ascends (of_page kind after) (λ row. row.id) (snapshot rows date) (Rises-page kind date after rows up))

term_kind : (prefix : List ℕ) (b : Body) → begins_with prefix b ≡ true → kind_of_body b ≡ Description
term_kind prefix (body.Concept c) e = cc
term_kind prefix (body.Description d) e = refl
term_kind prefix (body.Relationship r) e = cc
term_kind prefix (body.Association a) e = cc
term_kind prefix (body.Concrete c) e = cc
term_kind prefix (body.Member m) e = cc

pub terms_ascend : (rows : List RowValue) → IsAscending row_cmp rows → (prefix : List ℕ) (date limit : ℕ) → IsAscending by_id (terms prefix date limit rows)
unfolding terms
terms_ascend rows up prefix date limit =
    IsAscending-take by_id limit _
    (ascends (is_term prefix) (λ row. row.id) (snapshot rows date)
    (Rises-current (is_term prefix) Description rows date (λ x e. term_kind prefix x.body (and_parts x.active (begins_with prefix x.body) e).1) (snapshot rows date) (IsAscending-snapshot rows date up) (λ x there. current_from_snapshot rows date x there)))

pub children_ascend : (rows : List RowValue) (concept date : ℕ) → IsAscending nat_cmp (children concept date rows)
unfolding children
children_ascend rows concept date = IsAscending-in_order nat_cmp_total (map (λ row. source_of row.body) (filter (is_child_of concept) (snapshot rows date)))

-- rows in the order of their ids are ordered
pub ids_total : IsTotalOrder by_id
ids_total = on_total (λ (row : RowValue). row.id) nat_cmp_total

-- replacements are ordered
pub replacements_total : IsTotalOrder replacement_cmp
replacements_total = then_total (on_total (λ row. refset_of row.body) nat_cmp_total)
    (then_total (on_total (λ row. target_of row.body) nat_cmp_total) (on_total (λ row. row.id) nat_cmp_total))

pub replacements_ascend : (rows : List RowValue) (id date : ℕ) → IsAscending replacement_cmp (replacements id date rows)
unfolding replacements
replacements_ascend rows id date = IsAscending-in_order replacements_total (filter (is_replacement_of id) (snapshot rows date))

-- ---- nothing is left out

pub children_are_all : ChildrenAreAll
unfolding children
children_are_all concept date rows child = (
  λ h. elim (Has-put_all_cases nat_cmp _ [] child h) [
    | inl k ↦
        let m = Has-map (λ (row : RowValue). source_of row.body) (filter (is_child_of concept) (snapshot rows date)) child k in
        let f = Has-filter (is_child_of concept) (snapshot rows date) m.0 m.1 in
        (m.0, f.0, f.1, m.2)
    | inr k ↦ absurd k
  ],
  λ w. Has-put_all_new nat_cmp _ [] child (λ y there tie. sym (ranked child y Equal (sym tie)))
      (subst (λ n. Has (map (λ (row : RowValue). source_of row.body) (filter (is_child_of concept) (snapshot rows date))) n) w.3
      (Has-map_from (λ (row : RowValue). source_of row.body) (filter (is_child_of concept) (snapshot rows date)) w.0 (Has-filter_from (is_child_of concept) (snapshot rows date) w.0 w.1 w.2))),
)

association_kind : (id : ℕ) (b : Body) → refers_to id b ≡ true → kind_of_body b ≡ Association
association_kind id (body.Concept c) e = cc
association_kind id (body.Description d) e = cc
association_kind id (body.Relationship r) e = cc
association_kind id (body.Association a) e = refl
association_kind id (body.Concrete c) e = cc
association_kind id (body.Member m) e = cc

pub replacements_are_all : ReplacementsAreAll
unfolding replacements
replacements_are_all id date rows row up = (
  λ h. elim (Has-put_all_cases replacement_cmp _ [] row h) [
    | inl k ↦ Has-filter (is_replacement_of id) (snapshot rows date) row k
    | inr k ↦ absurd k
  ],
  λ w. Has-put_all_new replacement_cmp _ [] row (λ y there tie. elim there [
    | inl k ↦
        let f = Has-filter (is_replacement_of id) (snapshot rows date) y k in
        let ids : row.id ≡ y.id = ranked row.id y.id Equal (sym (both_equal _ _ (both_equal _ _ tie).1).1) in
        let kinds : kind_of y ≡ kind_of row = association_kind id y.body (and_parts y.active (refers_to id y.body) f.1).1 ∙ sym (association_kind id row.body (and_parts row.active (refers_to id row.body) w.1).1) in
        one_row_of_a_component rows date y row up f.0 w.0 kinds (sym ids)
    | inr k ↦ absurd k
  ]) (Has-filter_from (is_replacement_of id) (snapshot rows date) row w.0 w.1),
)

-- ---- what is about a component

subject_from_test : (id : ℕ) (subject : Option ℕ) → is_subject id subject ≡ true → subject ≡ Some id
subject_from_test id None e = absurd (cc)
subject_from_test id (Some n) e = let same : n ≡ id = grind (arith, nat_tests, e) in ap Some same

test_from_subject : (id : ℕ) (subject : Option ℕ) → subject ≡ Some id → is_subject id subject ≡ true
test_from_subject id None e = absurd (cc)
test_from_subject id (Some n) e = let same : n ≡ id = cc in grind (arith, nat_tests, same)

record IsAboutRow (kind : Kind) (id : ℕ) (row : RowValue) : Type 0 where
  active : row.active ≡ true
  kind_is : kind_of row ≡ kind
  subject_is : subject_of row ≡ Some id

about_row : (kind : Kind) (id : ℕ) (row : RowValue) → is_about kind id row ≡ true → IsAboutRow kind id row
about_row kind id row e =
    let p = and_parts (row.active && is_kind kind row) (is_subject id (subject_of row)) e in
    let q = and_parts row.active (is_kind kind row) p.0 in
    record { active = q.0; kind_is = kind_from_test kind row q.1; subject_is = subject_from_test id (subject_of row) p.1 }

test_from_about_row : (kind : Kind) (id : ℕ) (row : RowValue) → IsAboutRow kind id row → is_about kind id row ≡ true
test_from_about_row kind id row w =
    let kind_test : is_kind kind row ≡ true = let e = ap kind_place w.kind_is in grind (arith, nat_tests, e) in
    all_three row.active (is_kind kind row) (is_subject id (subject_of row)) w.active kind_test (test_from_subject id (subject_of row) w.subject_is)

pub about_is_all : AboutIsAll
unfolding about
about_is_all kind id date rows row = (
  λ h.
      let f = Has-filter (is_about kind id) (snapshot rows date) row h in
      let w = about_row kind id row f.1 in
      (record { current = f.0; kind_is = w.kind_is; active = w.active }, w.subject_is),
  λ w. Has-filter_from (is_about kind id) (snapshot rows date) row w.0.current (test_from_about_row kind id row (record { active = w.0.active; kind_is = w.0.kind_is; subject_is = w.1 })),
)

has_subject : (b : Body) → kind_of_body b ≢ Concept → (id : ℕ) × (subject_of_body b ≡ Some id)
has_subject (body.Concept c) other = absurd (other refl)
has_subject (body.Description d) other = (d.concept, refl)
has_subject (body.Relationship r) other = (r.source, refl)
has_subject (body.Association a) other = (a.referenced, refl)
has_subject (body.Concrete c) other = (c.source, refl)
has_subject (body.Member m) other = (m.referenced, refl)

pub each_is_about_one : EachIsAboutOne
each_is_about_one kind date rows row other active =
    let own = has_subject row.body (λ e. other (sym active.kind_is ∙ e)) in (
      own.0,
      (about_is_all kind own.0 date rows row).1 (active, own.1),
      λ id there. same_Some id own.0 (sym ((about_is_all kind id date rows row).0 there).1 ∙ own.1),
    )

pub about_ascends : (kind : Kind) (id date : ℕ) (rows : List RowValue) → IsAscending row_cmp rows → IsAscending by_id (about kind id date rows)
unfolding about
about_ascends kind id date rows up =
    ascends (is_about kind id) (λ row. row.id) (snapshot rows date)
    (Rises-current (is_about kind id) kind rows date (λ x e. (about_row kind id x e).kind_is) (snapshot rows date) (IsAscending-snapshot rows date up) (λ x there. current_from_snapshot rows date x there))

-- ---- searches that go on

pub Rises-terms : (prefix : List ℕ) (date : ℕ) (after : Option ℕ) (rows : List RowValue) → IsAscending row_cmp rows → Rises (is_term_above prefix after) (λ row. row.id) (snapshot rows date)
Rises-terms prefix date after rows up =
    Rises-current (is_term_above prefix after) Description rows date
    (λ x e. term_kind prefix x.body (and_parts x.active (begins_with prefix x.body) (and_parts (is_term prefix x) (is_above after x.id) e).0).1)
    (snapshot rows date) (IsAscending-snapshot rows date up) (λ x there. current_from_snapshot rows date x there)

pub search_ascends : (prefix : List ℕ) (date : ℕ) (after : Option ℕ) (limit : ℕ) (rows : List RowValue) → IsAscending row_cmp rows → IsAscending by_id (search_terms prefix date after limit rows)
unfolding search_terms terms_above
search_ascends prefix date after limit rows up =
    IsAscending-take by_id limit _ (ascends (is_term_above prefix after) (λ row. row.id) (snapshot rows date) (Rises-terms prefix date after rows up))
