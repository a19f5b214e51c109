-- The rows of the subjects that are taken from all lists are those about a component.
use Rattle.std.proofs.Common.{◌≡◌, ℕ, true, List, map, refl, sym, ap, subst, ◌∙◌}
use Rattle.std.specs.Prelude.{Some}
use Rattle.std.specs.Ordering.{nat_cmp}
use Rattle.std.specs.Cmp.{ranked}
use Rattle.std.specs.declared.cmp.Ordering.TheVariants.{Equal}
use Rattle.rf2_values.specs.declared.row.Kind.{Kind}
use Rattle.rf2_values.specs.declared.key.Key.{Key}
use Rattle.rf2_values.specs.Row.{RowValue, kind_of}
use Rattle.rf2_values.specs.Key.{key_of}
use Rattle.history_model.specs.declared.stamped.StampedRow.{StampedRow}
use Rattle.history_model.specs.InOrder.{Has, IsAscending}
use Rattle.history_model.specs.Lists.{listed}
use Rattle.history_model.specs.Queries.{get, subject_of, about}
use Rattle.history_model.specs.Laws.{by_id}
use Rattle.history_model.proofs.InOrder.{same_ascending}
use Rattle.history_model.proofs.Snapshots.{current_from_snapshot, IsAscending-listed, IsAscending-rows_at, Has-listed_cases, Has-rows_at_cases}
use Rattle.history_model.proofs.Ascents.{about_is_all, about_ascends, ids_total}
use Rattle.segment.specs.Standing.{places_of, StandsAt}
use Rattle.as_of_index.specs.declared.as_of.AsOf.{AsOf}
use Rattle.as_of_index.specs.declared.chosen.Chosen.{Chosen}
use Rattle.as_of_index.specs.Places.{ArePlaces}
use Rattle.as_of_index.specs.Chosen.{StandAtAll}
use Rattle.as_of_index.specs.Private.Chosen.{chosen, chosen_cmp}
use Rattle.as_of_index.specs.Private.Postings.{numbered}
use Rattle.as_of_index.proofs.Among.{looked_up}
use Rattle.as_of_index.proofs.Numbered.{stands_there, place_of_row}
use Rattle.as_of_index.proofs.Current.{standing_row, one_row, current_where, AllCurrent, rows_for, stand_for, row_for, for_row, ascending_rows_for}
use Rattle.as_of_index.proofs.Pushing.{numbers_of_row}
use Rattle.as_of_index.specs.Current.{rows_seen}
use Rattle.links.specs.declared.postings.Subject.{Subject}
use Rattle.links.specs.Edges.{Edges, subject_rank}
use Rattle.links.specs.Private.{subjects_in, GivesRow, AreRows}
use Rattle.links.specs.Laws.{EachPosted}
use Rattle.links.proofs.Posted.{subject_stands, each_subject_is_posted}
use Rattle.links.proofs.SubjectOrder.{of_rank}

module _ (lists : List (List StampedRow)) (are : ArePlaces (map places_of lists)) (edges : List Edges) (posts : EachPosted lists edges) (kind : Kind) (d : ℕ) (as_of : AsOf) where
  abbrev wanted : List RowValue
  wanted = about kind d as_of.date (rows_seen as_of lists)

  -- the row of one that is chosen
  record IsAboutAt (k : Chosen) : Type 0 where
    s : StampedRow
    stands : StandsAt lists k.segment k.at s
    found : get k.at.key.kind k.at.key.id as_of.date (rows_seen as_of lists) ≡ Some s.row
    kind_is : k.at.key.kind ≡ kind
    active : s.row.active ≡ true
    subject_is : subject_of s.row ≡ Some d

  about_at : (x : ℕ × Subject) (k : Chosen) → Has (numbered 0 (subjects_in edges)) x → subject_rank x.1.subject x.1.kind ≡ subject_rank d kind → GivesRow lists as_of x.0 x.1 k → IsAboutAt k
  about_at x k h e g =
      let at = g.at in
      let now = g.row_there.1 in
      let p = subject_stands lists edges posts x h in
      let stands = stands_there lists x.0 x.1.row p.0 at p.1 g.row_there.0 in
      let same : p.0 ≡ now.0 = one_row lists are x.0 x.0 at at p.0 now.0 stands now.1 refl in
      let own = of_rank x.1.subject d x.1.kind kind e in
      subst (λ (j : Chosen). IsAboutAt j) g.answer_is (record {
        s = now.0;
        stands = now.1;
        found = now.2;
        kind_is = ap (λ (q : Key). q.kind) (standing_row lists are x.0 at now.0 now.1).1 ∙ ap (λ (z : StampedRow). kind_of z.row) (sym same) ∙ p.2.kind_is ∙ own.1;
        active = subst (λ (z : StampedRow). z.row.active ≡ true) same p.2.active;
        subject_is = subst (λ (z : StampedRow). subject_of z.row ≡ Some d) same (p.2.subject_is ∙ ap Some own.0);
      })

  module _ (kept : List Chosen) (a : AreRows lists kind as_of d (numbered 0 (subjects_in edges)) kept) where
    about_kept : (k : Chosen) → Has kept k → IsAboutAt k
    about_kept k h = let w = a.1.only k (a.2.only k h) in about_at w.0 k w.1 w.2 w.3

    each_current : AllCurrent lists as_of kept
    each_current k h = let w = about_kept k h in (w.s, w.stands, w.found)

    abbrev found_rows : List RowValue
    found_rows = map (λ (s : StampedRow). s.row) (rows_for lists as_of kept each_current)

    key_at : (k : Chosen) (s : StampedRow) → StandsAt lists k.segment k.at s → k.at.key ≡ key_of s.row
    key_at k s w = (standing_row lists are k.segment k.at s w).1

    to_wanted : (row : RowValue) → Has found_rows row → Has wanted row
    to_wanted row h =
        let x = row_for lists as_of kept each_current row h in
        let w = about_kept x.k x.there in
        let same : w.s ≡ x.s = one_row lists are x.k.segment x.k.segment x.k.at x.k.at w.s x.s w.stands x.stands refl in
        let kinds : kind_of x.s.row ≡ kind = ap (λ (q : Key). q.kind) (sym (key_at x.k x.s x.stands)) ∙ w.kind_is in
        subst (λ z. Has wanted z) x.row_is
        ((about_is_all kind d as_of.date (rows_seen as_of lists) x.s.row).1 (
          record {
            current = looked_up x.k.at.key.kind x.k.at.key.id as_of.date (rows_seen as_of lists) x.s.row x.found;
            kind_is = kinds;
            active = subst (λ (z : StampedRow). z.row.active ≡ true) same w.active;
          },
          subst (λ (z : StampedRow). subject_of z.row ≡ Some d) same w.subject_is,
        ))

    from_wanted : (row : RowValue) → Has wanted row → Has found_rows row
    from_wanted row h =
        let w = (about_is_all kind d as_of.date (rows_seen as_of lists) row).0 h in
        let known = Has-rows_at_cases as_of.pin (listed lists) row (current_from_snapshot (rows_seen as_of lists) as_of.date row w.0.current).known in
        let s = known.stamped_row in
        let numbers = numbers_of_row lists s (Has-listed_cases lists s known.known) in
        let n = numbers.0 in
        let i = numbers.1 in
        let place = place_of_row lists n i s numbers.2 in
        let at = place.0 in
        let stands = stands_there lists n i s at numbers.2 place.1 in
        let key_is : at.key ≡ key_of row = (standing_row lists are n at s stands).1 ∙ ap key_of known.same in
        let now = current_where lists are as_of n at s row stands w.0.current key_is in
        let active : s.row.active ≡ true = ap (λ (r : RowValue). r.active) known.same ∙ w.0.active in
        let subject : subject_of s.row ≡ Some d = ap (λ (r : RowValue). subject_of r) known.same ∙ w.1 in
        let row_kind : kind_of s.row ≡ kind = ap (λ (r : RowValue). kind_of r) known.same ∙ w.0.kind_is in
        let x : Subject = record { subject = d; kind = kind_of s.row; row = i } in
        let kind_is : at.key.kind ≡ kind = ap (λ (q : Key). q.kind) key_is ∙ w.0.kind_is in
        let gives : GivesRow lists as_of n x (chosen n at) = record { at = at; row_there = (place.1, now.1); answer_is = refl } in
        let t = a.2.there (chosen n at) (a.1.taken (n, x) (chosen n at) (each_subject_is_posted lists edges posts n i s numbers.2 d active subject) (ap (subject_rank d) row_kind) gives) in
        let j = t.0 in
        let v = for_row lists as_of kept each_current j t.1 in
        let kinds_are : j.at.key.kind ≡ at.key.kind = (about_kept j t.1).kind_is ∙ sym kind_is in
        let ids_are : j.at.key.id ≡ at.key.id = sym (ranked at.key.id j.at.key.id Equal (sym t.2)) in
        let both_found = sym v.2 ∙ (λ i. get (kinds_are i) (ids_are i) as_of.date (rows_seen as_of lists)) ∙ now.1.2 in
        let one : v.0.row ≡ now.1.0.row = cc in
        let same : v.0.row ≡ row = one ∙ ap (λ (z : StampedRow). z.row) (one_row lists are n n at at now.1.0 s now.1.1 stands refl) ∙ known.same in
        subst (λ z. Has found_rows z) same v.3

    rows_ascend : IsAscending by_id found_rows
    rows_ascend = ascending_rows_for lists as_of by_id chosen_cmp kept each_current (λ j k s t g h v w less.
        let id_s : s.row.id ≡ j.at.key.id = ap (λ (q : Key). q.id) (sym (key_at j s v)) in
        let id_t : t.row.id ≡ k.at.key.id = ap (λ (q : Key). q.id) (sym (key_at k t w)) in
        (λ i. nat_cmp (id_s i) (id_t i)) ∙ less) a.2.ascending

    pub about_from_chosen : (rows : List StampedRow) × StandAtAll lists kept rows × (map (λ (s : StampedRow). s.row) rows ≡ about kind d as_of.date (rows_seen as_of lists))
    about_from_chosen = (
      rows_for lists as_of kept each_current,
      stand_for lists as_of kept each_current,
      same_ascending ids_total found_rows wanted rows_ascend (about_ascends kind d as_of.date (rows_seen as_of lists) (IsAscending-rows_at as_of.pin (listed lists) (IsAscending-listed lists))) to_wanted from_wanted,
    )
