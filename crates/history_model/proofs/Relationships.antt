-- The sources of relationships: none is missing, and they come in order.
use Rattle.std.proofs.Common.{◌≡◌, ℕ, true, List, [], ◌∷◌, map, refl, sym, ap, subst, inl, inr, ◌∙◌}
use Rattle.std.specs.Prelude.{◌&&◌, Option, Some, None}
use Rattle.std.specs.List.{filter}
use Rattle.std.specs.Ordering.{nat_cmp}
use Rattle.std.specs.Cmp.{nat_cmp_total, ranked}
use Rattle.std.specs.declared.cmp.Ordering.TheVariants.{Less, Equal}
use Rattle.std.proofs.Common.{arith}
use Rattle.std.proofs.lemmas.Bool.Decides.{nat_tests}
use Rattle.std.proofs.lemmas.List.Elements.{filter_agree}
use Rattle.rf2_values.specs.declared.row.Body.{Body}
use Rattle.rf2_values.specs.declared.row.Body.TheVariants as body
use Rattle.rf2_values.specs.Row.{RowValue}
use Rattle.history_model.specs.InOrder.{Has, IsAscending, in_order}
use Rattle.history_model.specs.Queries.{snapshot, is_above, is_a, is_child_of, says_is_a, source_of, children}
use Rattle.history_model.specs.Relationships.{says_to, leads_to, all_sources, sources_above, sources, SourcesAreAll, ChildrenAreSources, PagesOfSourcesAreAll, PagesOfSourcesEnd}
use Rattle.history_model.proofs.InOrder.{Has-all, Has-put_all_cases, Has-put_all_new, IsAscending-in_order, same_ascending}
use Rattle.history_model.proofs.Filtered.{Has-filter, Has-filter_from, Has-map, Has-map_from, IsAscending-filter, IsAscending-take}
use Rattle.history_model.proofs.Snapshots.{above_again}
use Rattle.history_model.proofs.Paging.{turns_are_all, turns_end}

module _ (type_id : Option ℕ) (destination date : ℕ) (rows : List RowValue) where
  abbrev those : List RowValue
  those = filter (leads_to type_id destination) (snapshot rows date)

  abbrev numbers : List ℕ
  numbers = map (λ (row : RowValue). source_of row.body) those

  all_ascend : IsAscending nat_cmp (all_sources type_id destination date rows)
  unfolding all_sources
  all_ascend = IsAscending-in_order nat_cmp_total numbers

  above_ascend : (after : Option ℕ) → IsAscending nat_cmp (sources_above type_id destination date after rows)
  unfolding sources_above
  above_ascend after = IsAscending-filter (is_above after) nat_cmp (all_sources type_id destination date rows) all_ascend

  source_there : (id : ℕ) → Has (all_sources type_id destination date rows) id → (row : RowValue) × Has (snapshot rows date) row × (leads_to type_id destination row ≡ true) × (source_of row.body ≡ id)
  unfolding all_sources
  source_there id h = elim (Has-put_all_cases nat_cmp numbers [] id h) [
    | inl k ↦
        let m = Has-map (λ (row : RowValue). source_of row.body) those id k in
        let f = Has-filter (leads_to type_id destination) (snapshot rows date) m.0 m.1 in
        (m.0, f.0, f.1, m.2)
    | inr k ↦ absurd k
  ]

  there_source : (row : RowValue) (id : ℕ) → Has (snapshot rows date) row → leads_to type_id destination row ≡ true → source_of row.body ≡ id → Has (all_sources type_id destination date rows) id
  unfolding all_sources
  there_source row id h e f = Has-put_all_new nat_cmp numbers [] id (λ y there tie. sym (ranked id y Equal (sym tie)))
      (subst (λ n. Has numbers n) f (Has-map_from (λ (row : RowValue). source_of row.body) those row (Has-filter_from (leads_to type_id destination) (snapshot rows date) row h e)))

  -- the first of those behind a number, and then those behind that one
  pub source_first : (after : Option ℕ) (b : ℕ) (ys : List ℕ) → sources_above type_id destination date after rows ≡ b ∷ ys → sources_above type_id destination date after rows ≡ b ∷ sources_above type_id destination date (Some b) rows
  unfolding sources_above
  source_first after b ys e =
      let all = all_sources type_id destination date rows in
      let up : IsAscending nat_cmp (b ∷ ys) = subst (λ xs. IsAscending nat_cmp xs) e (above_ascend after) in
      let own = Has-filter (is_above after) all b (subst (λ xs. Has xs b) (sym e) (inl refl)) in
      e ∙ ap (λ xs. b ∷ xs)
      (same_ascending nat_cmp_total ys (filter (is_above (Some b)) all) up.1 (IsAscending-filter (is_above (Some b)) nat_cmp all all_ascend)
      (λ z h.
      let f = Has-filter (is_above after) all z (subst (λ xs. Has xs z) (sym e) (inr h)) in
      let lt = ranked b z Less (sym (Has-all (λ y. nat_cmp b y ≡ Less) ys z up.0 h)) in
      Has-filter_from (is_above (Some b)) all z f.0 (grind (arith, nat_tests, lt)))
      (λ z h.
      let f = Has-filter (is_above (Some b)) all z h in
      let there = Has-filter_from (is_above after) all z f.0 (above_again after b z own.1 f.1) in
      elim (subst (λ xs. Has xs z) e there) [
        | inl s ↦ absurd (let g = f.1 in grind (arith, nat_tests, g, s))
        | inr t ↦ t
      ]))

pub sources_are_all : SourcesAreAll
unfolding sources_above
sources_are_all type_id destination date after rows id = (
  λ h. (let f = Has-filter (is_above after) (all_sources type_id destination date rows) id h in (f.1, source_there type_id destination date rows id f.0)),
  λ w. Has-filter_from (is_above after) (all_sources type_id destination date rows) id (there_source type_id destination date rows w.1.0 id w.1.1 w.1.2 w.1.3) w.0,
)

any_number : (xs : List ℕ) → filter (is_above None) xs ≡ xs
any_number [] = refl
any_number (x ∷ xs) = ap (λ ys. x ∷ ys) (any_number xs)

pub same_test : (concept : ℕ) (b : Body) → says_to (Some is_a) concept b ≡ says_is_a concept b
same_test concept (body.Concept c) = refl
same_test concept (body.Description d) = refl
same_test concept (body.Relationship r) = refl
same_test concept (body.Association a) = refl
same_test concept (body.Concrete c) = refl
same_test concept (body.Member m) = refl

pub children_are_sources : ChildrenAreSources
unfolding children all_sources sources_above
children_are_sources concept date rows =
    any_number (all_sources (Some is_a) concept date rows)
    ∙ ap (λ (those : List RowValue). in_order nat_cmp (map (λ (row : RowValue). source_of row.body) those))
    (filter_agree (leads_to (Some is_a) concept) (is_child_of concept) (λ row. ap (λ t. row.active && t) (same_test concept row.body)) (snapshot rows date))

pub sources_ascend : (type_id : Option ℕ) (destination date : ℕ) (after : Option ℕ) (limit : ℕ) (rows : List RowValue) → IsAscending nat_cmp (sources type_id destination date after limit rows)
unfolding sources
sources_ascend type_id destination date after limit rows = IsAscending-take nat_cmp limit _ (above_ascend type_id destination date rows after)

pub pages_of_sources_are_all : PagesOfSourcesAreAll
unfolding sources
pages_of_sources_are_all type_id destination date after limit rows pages some are =
    turns_are_all (λ (id : ℕ). id) (λ from. sources_above type_id destination date from rows) (source_first type_id destination date rows) limit some after pages are

pub pages_of_sources_end : PagesOfSourcesEnd
unfolding sources
pages_of_sources_end type_id destination date after limit rows some =
    turns_end (λ (id : ℕ). id) (λ from. sources_above type_id destination date from rows) (source_first type_id destination date rows) limit some after
