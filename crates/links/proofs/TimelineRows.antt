-- The versions of the components whose rows were ever posted as about a component are its timeline.
use Rattle.std.proofs.Common.{◌≡◌, ℕ, ◌+◌, ◌<◌, ◌≤◌, true, List, [], ◌∷◌, ◌++◌, length, get_or, map, take, drop, refl, sym, ap, subst, inl, inr, ◌∙◌, arith, take-append-drop}
use Rattle.std.specs.Prelude.{Some, flat_map}
use Rattle.std.specs.List.{sum_by}
use Rattle.std.specs.Ordering.{nat_cmp, ordering_then}
use Rattle.std.specs.Cmp.{nat_cmp_total, tied_itself}
use Rattle.std.specs.declared.cmp.Ordering.TheVariants.{Less, Equal}
use Rattle.std.proofs.lemmas.List.{take_more}
use Rattle.std.proofs.lemmas.List.Concat.{flat_map-append}
use Rattle.std.proofs.lemmas.List.Sums.{sum_by-append}
use Rattle.rf2_values.specs.declared.row.Kind.{Kind}
use Rattle.rf2_values.specs.declared.key.Key.{Key}
use Rattle.rf2_values.specs.Row.{RowValue, kind_of}
use Rattle.rf2_values.specs.Key.{kind_place}
use Rattle.history_model.specs.declared.stamped.StampedRow.{StampedRow}
use Rattle.history_model.specs.InOrder.{Has, IsAscending}
use Rattle.history_model.specs.History.{row_cmp, rows_at}
use Rattle.history_model.specs.Lists.{listed}
use Rattle.history_model.specs.Queries.{is_version_of, versions, subject_of, was_about, timeline}
use Rattle.history_model.proofs.InOrder.{same_ascending, Has-all, all_from_has, Has-append_cases}
use Rattle.history_model.proofs.Keys.{rows_total}
use Rattle.history_model.proofs.Filtered.{Has-filter, IsAscending-filter}
use Rattle.history_model.proofs.Snapshots.{version_from_test, current_from_snapshot, IsAscending-listed, IsAscending-rows_at, Has-listed_cases, Has-listed_from, Has-rows_at_cases, Has-rows_at_from}
use Rattle.history_model.proofs.Ascents.{about_is_all}
use Rattle.history_model.proofs.Audits.{on_its_day, timeline_is_all}
use Rattle.history_model.proofs.Items.{Has-flat_map, Has-flat_map_from}
use Rattle.segment.specs.Standing.{places_of}
use Rattle.segment.proofs.Posting.{says}
use Rattle.as_of_index.specs.Places.{ArePlaces}
use Rattle.as_of_index.specs.Private.Postings.{numbered}
use Rattle.as_of_index.proofs.Standing.{are_lists}
use Rattle.as_of_index.proofs.Numbered.{stands_there, place_of_row}
use Rattle.as_of_index.proofs.Current.{standing_row}
use Rattle.as_of_index.proofs.Pushing.{numbers_of_row}
use Rattle.as_of_index.proofs.DatesOfAll.{number_there}
use Rattle.links.specs.declared.postings.Subject.{Subject}
use Rattle.links.specs.Edges.{Edges, subject_rank}
use Rattle.links.specs.Private.{subjects_in, GivesId, AreIds}
use Rattle.links.specs.Laws.{EachPosted}
use Rattle.links.proofs.Posted.{subject_stands, each_subject_is_posted}
use Rattle.links.proofs.SubjectOrder.{of_rank}

-- ---- pieces one after the other

module _ (piece : ℕ → List RowValue) where
  flat_one : (id : ℕ) → flat_map piece (id ∷ []) ≡ piece id
  flat_one id = append_nothing (piece id) where
    append_nothing : (xs : List RowValue) → xs ++ [] ≡ xs
    append_nothing [] = refl
    append_nothing (x ∷ xs) = ap (λ ys. x ∷ ys) (append_nothing xs)

  pub pieces_more : (ids : List ℕ) (i : ℕ) → i < length ids → flat_map piece (take (i + 1) ids) ≡ flat_map piece (take i ids) ++ piece (get_or ids i 0)
  pieces_more ids i lt =
      ap (flat_map piece) (take_more ids i 0 lt)
      ∙ flat_map-append piece (take i ids) (get_or ids i 0 ∷ [])
      ∙ ap (λ xs. flat_map piece (take i ids) ++ xs) (flat_one (get_or ids i 0))

pub pieces_before : (f : RowValue → ℕ) (piece : ℕ → List RowValue) (ids : List ℕ) (i : ℕ) → sum_by f (flat_map piece (take i ids)) ≤ sum_by f (flat_map piece ids)
pieces_before f piece ids i =
    let whole = ap (λ xs. sum_by f (flat_map piece xs)) (sym (take-append-drop i ids)) in
    let parts = ap (sum_by f) (flat_map-append piece (take i ids) (drop i ids)) ∙ sum_by-append f (flat_map piece (take i ids)) (flat_map piece (drop i ids)) in
    omega arith

-- ---- versions of components that ascend

appended : (xs ys : List RowValue) → IsAscending row_cmp xs → IsAscending row_cmp ys → ((x y : RowValue) → Has xs x → Has ys y → row_cmp x y ≡ Less) → IsAscending row_cmp (xs ++ ys)
appended [] ys up upper below = upper
appended (x ∷ xs) ys up upper below = (
  all_from_has (λ z. row_cmp x z ≡ Less) (xs ++ ys) (λ z h. elim (Has-append_cases xs ys z h) [
    | inl a ↦ Has-all (λ z. row_cmp x z ≡ Less) xs z up.0 a
    | inr b ↦ below x z (inl refl) b
  ]),
  appended xs ys up.1 upper (λ w y h k. below w y (inr h) k),
)

lower_id : (a b : RowValue) → kind_of a ≡ kind_of b → nat_cmp a.id b.id ≡ Less → row_cmp a b ≡ Less
lower_id a b e less =
    let tie : nat_cmp (kind_place (kind_of a)) (kind_place (kind_of b)) ≡ Equal = subst (λ k. nat_cmp (kind_place (kind_of a)) (kind_place k) ≡ Equal) e (tied_itself nat_cmp_total (kind_place (kind_of a))) in
    ap (λ o. ordering_then o (ordering_then (nat_cmp a.id b.id) (nat_cmp a.time b.time))) tie
    ∙ ap (λ o. ordering_then o (nat_cmp a.time b.time)) less

module _ (kind : Kind) (rows : List RowValue) (up : IsAscending row_cmp rows) where
  version : (id : ℕ) (row : RowValue) → Has (versions kind id rows) row → (kind_of row ≡ kind) × (row.id ≡ id)
  unfolding versions
  version id row h = let v = version_from_test kind id row (Has-filter (is_version_of kind id) rows row h).1 in (v.kind_is, v.id_is)

  versions_up : (id : ℕ) → IsAscending row_cmp (versions kind id rows)
  unfolding versions
  versions_up id = IsAscending-filter (is_version_of kind id) row_cmp rows up

  pieces_ascend : (ids : List ℕ) → IsAscending nat_cmp ids → IsAscending row_cmp (flat_map (λ id. versions kind id rows) ids)
  pieces_ascend [] ascending = tt
  pieces_ascend (id ∷ ids) ascending = appended (versions kind id rows) (flat_map (λ n. versions kind n rows) ids) (versions_up id) (pieces_ascend ids ascending.1) (λ x y h k.
      let v = version id x h in
      let m = Has-flat_map (λ n. versions kind n rows) ids y k in
      let w = version m.0 y m.2 in
      lower_id x y (v.0 ∙ sym w.0) ((λ i. nat_cmp (v.1 i) (w.1 i)) ∙ Has-all (λ n. nat_cmp id n ≡ Less) ids m.0 ascending.0 m.1))

-- ---- from the postings

module _ (lists : List (List StampedRow)) (are : ArePlaces (map places_of lists)) (edges : List Edges) (posts : EachPosted lists edges) (kind : Kind) (d pin : ℕ) where
  abbrev rows : List RowValue
  rows = rows_at pin (listed lists)

  rows_up : IsAscending row_cmp rows
  rows_up = IsAscending-rows_at pin (listed lists) (IsAscending-listed lists)

  -- a row that made the component one of them
  record IsCause (id : ℕ) : Type 0 where
    row : RowValue
    known : Has rows row
    own : row.id ≡ id
    kind_is : kind_of row ≡ kind
    active : row.active ≡ true
    subject_is : subject_of row ≡ Some d

  cause : (x : ℕ × Subject) (id : ℕ) → Has (numbered 0 (subjects_in edges)) x → subject_rank x.1.subject x.1.kind ≡ subject_rank d kind → GivesId lists pin x.0 x.1 id → IsCause id
  cause x id h e g =
      let p = subject_stands lists edges posts x h in
      let s = p.0 in
      let stands = stands_there lists x.0 x.1.row s g.at p.1 g.row_there in
      let row = standing_row lists are x.0 g.at s stands in
      let import = (says 0 stands.rows (s, g.at) stands.there).import_is in
      let early = g.shown in
      let own = of_rank x.1.subject d x.1.kind kind e in
      record {
        row = s.row;
        known = Has-rows_at_from pin (listed lists) s (Has-listed_from lists s (are_lists lists are) row.0) (omega arith);
        own = ap (λ (k : Key). k.id) (sym row.1) ∙ g.id_is;
        kind_is = p.2.kind_is ∙ own.1;
        active = p.2.active;
        subject_is = p.2.subject_is ∙ ap Some own.0;
      }

  module _ (ids : List ℕ) (a : AreIds lists kind pin d (numbered 0 (subjects_in edges)) ids) where
    to_timeline : (row : RowValue) → Has (flat_map (λ id. versions kind id rows) ids) row → Has (timeline kind d rows) row
    to_timeline row h =
        let m = Has-flat_map (λ id. versions kind id rows) ids row h in
        let w = a.1.only m.0 (a.2.only m.0 m.1) in
        let c = cause w.0 m.0 w.1 w.2 w.3 in
        (timeline_is_all kind d rows row).1 (
          c.row.time,
          c.row,
          (about_is_all kind d c.row.time rows c.row).1 (record { current = on_its_day rows c.row c.known; kind_is = c.kind_is; active = c.active }, c.subject_is),
          subst (λ n. Has (versions kind n rows) row) (sym c.own) m.2,
        )

    from_timeline : (row : RowValue) → Has (timeline kind d rows) row → Has (flat_map (λ id. versions kind id rows) ids) row
    from_timeline row h =
        let w = (timeline_is_all kind d rows row).0 h in
        let other = w.1 in
        let b = (about_is_all kind d w.0 rows other).0 w.2 in
        let known = Has-rows_at_cases pin (listed lists) other (current_from_snapshot rows w.0 other b.0.current).known in
        let s = known.stamped_row in
        let numbers = numbers_of_row lists s (Has-listed_cases lists s known.known) in
        let n = numbers.0 in
        let i = numbers.1 in
        let place = place_of_row lists n i s numbers.2 in
        let at = place.0 in
        let stands = stands_there lists n i s at numbers.2 place.1 in
        let import = (says 0 stands.rows (s, at) stands.there).import_is in
        let early = known.early in
        let active : s.row.active ≡ true = ap (λ (r : RowValue). r.active) known.same ∙ b.0.active in
        let subject : subject_of s.row ≡ Some d = ap (λ (r : RowValue). subject_of r) known.same ∙ b.1 in
        let row_kind : kind_of s.row ≡ kind = ap (λ (r : RowValue). kind_of r) known.same ∙ b.0.kind_is in
        let x : Subject = record { subject = d; kind = kind_of s.row; row = i } in
        let id_is : at.key.id ≡ other.id = ap (λ (k : Key). k.id) ((standing_row lists are n at s stands).1) ∙ ap (λ (r : RowValue). r.id) known.same in
        let gives : GivesId lists pin n x other.id = record { at = at; row_there = place.1; shown = omega arith; id_is = id_is } in
        let taken = a.1.taken (n, x) other.id (each_subject_is_posted lists edges posts n i s numbers.2 d active subject) (ap (subject_rank d) row_kind) gives in
        Has-flat_map_from (λ id. versions kind id rows) ids other.id row (number_there ids other.id (a.2.there other.id taken)) w.3

    pub timeline_from_ids : flat_map (λ id. versions kind id rows) ids ≡ timeline kind d rows
    unfolding timeline
    timeline_from_ids = same_ascending rows_total (flat_map (λ id. versions kind id rows) ids) (timeline kind d rows) (pieces_ascend kind rows rows_up ids a.2.ascending) (IsAscending-filter (was_about kind d rows) row_cmp rows rows_up) to_timeline from_timeline
