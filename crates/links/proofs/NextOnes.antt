-- What the postings of relationships of a concept lead to are their sources, or its parents.
use Rattle.std.proofs.Common.{◌≡◌, ℕ, Bool, true, List, [], map, refl, sym, ap, subst, inl, inr, ◌∙◌}
use Rattle.std.specs.Prelude.{◌↔◌, Option, Some, None}
use Rattle.std.specs.List.{filter}
use Rattle.std.specs.Ordering.{nat_cmp}
use Rattle.std.specs.Cmp.{nat_cmp_total, ranked}
use Rattle.std.specs.declared.cmp.Ordering.TheVariants.{Equal}
use Rattle.std.proofs.lemmas.Bool.{and_parts}
use Rattle.rf2_values.specs.declared.row.Body.{Body}
use Rattle.rf2_values.specs.Row.{RowValue}
use Rattle.history_model.specs.declared.stamped.StampedRow.{StampedRow}
use Rattle.history_model.specs.InOrder.{Has, in_order}
use Rattle.history_model.specs.Relationships.{leads_to, all_sources}
use Rattle.history_model.specs.Queries.{snapshot, is_a, is_child_of, is_parent_of, source_of, destination_of, children, parents}
use Rattle.history_model.proofs.InOrder.{same_ascending, Has-put_all_cases, Has-put_all_new, IsAscending-in_order}
use Rattle.history_model.proofs.Filtered.{Has-filter, Has-filter_from, Has-map, Has-map_from}
use Rattle.segment.specs.Standing.{places_of}
use Rattle.as_of_index.specs.declared.as_of.AsOf.{AsOf}
use Rattle.as_of_index.specs.Places.{ArePlaces}
use Rattle.as_of_index.specs.Private.Postings.{numbered}
use Rattle.as_of_index.specs.Private.Once.{AreOnce}
use Rattle.as_of_index.specs.Current.{rows_seen}
use Rattle.as_of_index.proofs.Among.{looked_up}
use Rattle.as_of_index.proofs.DatesOfAll.{number_there}
use Rattle.links.specs.declared.hierarchy.Direction.{Direction}
use Rattle.links.specs.declared.hierarchy.Direction.TheVariants as directions
use Rattle.links.specs.declared.wanted.Wanted.{Wanted}
use Rattle.links.specs.declared.posting.Tag.TheVariants as tags
use Rattle.links.specs.declared.posting.Posting.{Posting}
use Rattle.links.specs.declared.finding.Asked.{Asked}
use Rattle.links.specs.Edges.{Edges, RowKey, posting, keys_of, tag_place}
use Rattle.links.specs.Laws.{EachPosted}
use Rattle.links.specs.Selection.{is_between, is_wanted, IsPath}
use Rattle.links.specs.Private.{postings_in, towards, next_ones}
use Rattle.links.specs.Private.Asking.{all_with, sources_with, asked_for, key_of, GivesEnd, AreGiven}
use Rattle.links.proofs.Between.{wanted_parts}
use Rattle.links.proofs.FoundRows.{row_asked, posted_row}
use Rattle.links.proofs.Paths.{path_of_children, path_of_parents, path_of_sources, end_at, end_is}

module _ (lists : List (List StampedRow)) (are : ArePlaces (map places_of lists)) (edges : List Edges) (posts : EachPosted lists edges) (as_of : AsOf) where
  module _ (wanted : Wanted) (test : RowValue → Bool) (number : Body → ℕ) (path : IsPath test wanted) (number_is : (b : Body) → number b ≡ end_at (tag_place wanted.tag) b) where
    abbrev asked : Asked
    asked = asked_for wanted as_of

    abbrev at_date : List RowValue
    at_date = snapshot (rows_seen as_of lists) as_of.date

    abbrev numbers : List ℕ
    numbers = map (λ (row : RowValue). number row.body) (filter test at_date)

    -- the number of a row is what its wanted posting leads to
    number_end : (row : RowValue) (k : RowKey) → Has (keys_of row) k → is_wanted asked.wanted k ≡ true → number row.body ≡ k.end
    number_end row k there wanted_so =
        number_is row.body ∙ ap (λ n. end_at n row.body) (sym (wanted_parts asked.wanted k wanted_so).tag_is) ∙ end_is row.active row.body k there

    module _ (ids : List ℕ) (a : AreGiven (GivesEnd lists asked) (numbered 0 (postings_in edges)) ids) where
      to_numbers : (id : ℕ) → Has ids id → Has numbers id
      to_numbers id h =
          let w = a.only id h in
          let x = w.0 in
          let g = w.2 in
          let r = row_asked lists are edges posts asked test path (λ n p at. p.end) x id w.1 g in
          let there = Has-filter_from test at_date r.s.row (looked_up g.at.key.kind g.at.key.id as_of.date (rows_seen as_of lists) r.s.row r.found) r.passed in
          subst (λ k. Has numbers k) (number_end r.s.row (key_of x.1) r.key_there r.wanted_so ∙ g.answer_is) (Has-map_from (λ (row : RowValue). number row.body) (filter test at_date) r.s.row there)

      from_numbers : (id : ℕ) → Has numbers id → Has ids id
      from_numbers id h =
          let m = Has-map (λ (row : RowValue). number row.body) (filter test at_date) id h in
          let f = Has-filter test at_date m.0 m.1 in
          let p = posted_row lists are edges posts asked test path m.0 f.0 f.1 in
          let wanted_so : is_wanted asked.wanted p.key ≡ true = (and_parts (is_between asked.above asked.up_to p.at.key.id) (is_wanted asked.wanted p.key) p.asked_so).1 in
          let x : ℕ × Posting = (p.n, posting p.i p.key) in
          let taken : Has ids p.key.end = a.taken x p.key.end p.posted_so (record { at = p.at; row_there = p.row_there; asked_so = p.asked_so; answer_is = refl }) in
          subst (λ k. Has ids k) (sym (number_end p.s.row p.key p.key_there wanted_so) ∙ ap (λ (row : RowValue). number row.body) p.same ∙ m.2) taken

      pub ends_are : (id : ℕ) → Has ids id ↔ Has (in_order nat_cmp numbers) id
      ends_are id = (
        λ h. Has-put_all_new nat_cmp numbers [] id (λ y there tie. sym (ranked id y Equal (sym tie))) (to_numbers id h),
        λ h. elim (Has-put_all_cases nat_cmp numbers [] id h) [ inl l ↦ from_numbers id l | inr r ↦ absurd r ],
      )

  pub ends_are_next : (direction : Direction) (concept : ℕ) (ids : List ℕ) → AreGiven (GivesEnd lists (asked_for (towards direction concept) as_of)) (numbered 0 (postings_in edges)) ids → (id : ℕ) → Has ids id ↔ Has (next_ones direction as_of.date (rows_seen as_of lists) concept) id
  unfolding children parents
  ends_are_next directions.Down concept ids a id = ends_are (sources_with (Some is_a) concept) (is_child_of concept) source_of (path_of_children concept) (λ b. refl) ids a id
  ends_are_next directions.Up concept ids a id = ends_are (all_with tags.Parent concept) (is_parent_of concept) destination_of (path_of_parents concept) (λ b. refl) ids a id

  tag_is_source : (type_id : Option ℕ) (destination : ℕ) (b : Body) → source_of b ≡ end_at (tag_place (sources_with type_id destination).tag) b
  tag_is_source None destination b = refl
  tag_is_source (Some type_id) destination b = refl

  pub ends_are_sources : (type_id : Option ℕ) (destination : ℕ) (ids : List ℕ) → AreGiven (GivesEnd lists (asked_for (sources_with type_id destination) as_of)) (numbered 0 (postings_in edges)) ids → (id : ℕ) → Has ids id ↔ Has (all_sources type_id destination as_of.date (rows_seen as_of lists)) id
  unfolding all_sources
  ends_are_sources type_id destination ids a id = ends_are (sources_with type_id destination) (leads_to type_id destination) source_of (path_of_sources type_id destination) (tag_is_source type_id destination) ids a id

-- children that stand in any order, each once
pub children_once : (concept date : ℕ) (rows : List RowValue) (all ids : List ℕ) → ((id : ℕ) → Has all id ↔ Has (children concept date rows) id) → AreOnce nat_cmp all ids → ids ≡ children concept date rows
unfolding children
children_once concept date rows all ids same once = same_ascending nat_cmp_total ids _ once.ascending
    (IsAscending-in_order nat_cmp_total (map (λ (row : RowValue). source_of row.body) (filter (is_child_of concept) (snapshot rows date))))
    (λ id h. (same id).0 (once.only id h))
    (λ id h. number_there ids id (once.there id ((same id).1 h)))

-- so are sources
pub sources_once : (type_id : Option ℕ) (destination date : ℕ) (rows : List RowValue) (all ids : List ℕ) → ((id : ℕ) → Has all id ↔ Has (all_sources type_id destination date rows) id) → AreOnce nat_cmp all ids → ids ≡ all_sources type_id destination date rows
unfolding all_sources
sources_once type_id destination date rows all ids same once = same_ascending nat_cmp_total ids _ once.ascending
    (IsAscending-in_order nat_cmp_total (map (λ (row : RowValue). source_of row.body) (filter (leads_to type_id destination) (snapshot rows date))))
    (λ id h. (same id).0 (once.only id h))
    (λ id h. number_there ids id (once.there id ((same id).1 h)))
