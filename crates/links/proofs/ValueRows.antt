-- The rows of the places that are kept of a value set are those of the answer.
use Rattle.std.proofs.Common.{◌≡◌, ◌⊎◌, ℕ, Bool, zero, suc, ◌≤◌, List, [], ◌∷◌, length, get_or, map, take, refl, sym, ap, subst, inl, inr, ◌∙◌, arith}
use Rattle.std.specs.Prelude.{◌&&◌, Option, None}
use Rattle.std.specs.List.Sorted.{IsNonDecreasingBy}
use Rattle.std.specs.Ordering.{nat_cmp, ordering_then}
use Rattle.std.specs.Cmp.{ranked, nat_cmp_is}
use Rattle.std.specs.declared.cmp.Ordering.TheVariants.{Less, Equal}
use Rattle.std.proofs.lemmas.List.{take-map}
use Rattle.std.proofs.lemmas.Bool.{and_parts}
use Rattle.rf2_values.specs.declared.key.Key.{Key}
use Rattle.rf2_values.specs.declared.row.Kind.TheVariants.{Member}
use Rattle.rf2_values.specs.Row.{RowValue}
use Rattle.history_model.specs.declared.stamped.StampedRow.{StampedRow}
use Rattle.history_model.specs.InOrder.{Has, IsAscending}
use Rattle.history_model.specs.History.{row_cmp}
use Rattle.history_model.specs.Lists.{listed}
use Rattle.history_model.specs.Queries.{is_member_of, component_of, value_cmp, values, values_above}
use Rattle.history_model.proofs.InOrder.{Has-all, all_from_has}
use Rattle.history_model.proofs.Filtered.{Has-map}
use Rattle.history_model.proofs.Snapshots.{first_half, IsAscending-listed, IsAscending-rows_at}
use Rattle.history_model.proofs.Membership.{value_total, values_above_ascend}
use Rattle.history_model.proofs.Items.{Has-get_or}
use Rattle.segment.specs.Standing.{places_of, StandsAt}
use Rattle.as_of_index.specs.declared.as_of.AsOf.{AsOf}
use Rattle.as_of_index.specs.declared.chosen.Chosen.{Chosen}
use Rattle.as_of_index.specs.Places.{ArePlaces}
use Rattle.as_of_index.specs.Chosen.{StandAtAll}
use Rattle.as_of_index.specs.Private.Chosen.{ranked_cmp}
use Rattle.as_of_index.specs.Private.Postings.{numbered}
use Rattle.as_of_index.proofs.Current.{standing_row}
use Rattle.as_of_index.specs.Current.{rows_seen}
use Rattle.links.specs.declared.finding.Asked.{Asked}
use Rattle.links.specs.Edges.{Edges}
use Rattle.links.specs.Selection.{is_between}
use Rattle.links.specs.Private.{postings_in}
use Rattle.links.specs.Private.Asking.{AreFound}
use Rattle.links.specs.Private.Memberships.{asked_values, IsCutAt}
use Rattle.links.specs.Laws.{EachPosted}
use Rattle.links.proofs.Between.{wanted_parts}
use Rattle.links.proofs.FoundRows.{IsRowFound, row_kept, own_row, rows_from_found}
use Rattle.links.proofs.Paths.{member_kind, is_value_between, path_of_values, second_at, second_is}
use Rattle.links.proofs.Ranked.{one_id}
use Rattle.links.proofs.MemberAnswers.{values_up_to, values_up_to_all, values_up_to_ascend}
use Rattle.links.proofs.MemberPages.{stand_take, enough_rows}
use Rattle.links.proofs.Ties.{Rising, cut_up_to}

-- places with the numbers of their rows
numbers_are : (lists : List (List StampedRow)) (ks : List Chosen) (rows : List StampedRow) → StandAtAll lists ks rows → ((k : Chosen) (s : StampedRow) → Has ks k → StandsAt lists k.segment k.at s → component_of s.row ≡ k.second)
    → map {B = ℕ} (λ (k : Chosen). k.second) ks ≡ map component_of (map (λ (s : StampedRow). s.row) rows)
numbers_are lists [] [] a own = refl
numbers_are lists [] (s ∷ rows) a own = absurd a
numbers_are lists (k ∷ ks) [] a own = absurd a
numbers_are lists (k ∷ ks) (s ∷ rows) a own = λ i. sym (own k s (inl refl) a.0) i ∷ numbers_are lists ks rows a.1 (λ j t h. own j t (inr h)) i

-- of one reference set those come first that refer to lesser components
below_target : (refset : ℕ) (j k : Chosen) → j.first ≡ refset → k.first ≡ refset → ranked_cmp j k ≡ Less → j.second ≤ k.second
below_target refset j k r s less =
    elim (first_half (nat_cmp j.first k.first) (ordering_then (nat_cmp j.second k.second) (nat_cmp j.at.key.id k.at.key.id)) less) [
      | inl l ↦ (let lt = ranked j.first k.first Less (sym l) in absurd (omega (arith, lt, r, s)))
      | inr e ↦ elim (first_half (nat_cmp j.second k.second) (nat_cmp j.at.key.id k.at.key.id) e.1) [
        | inl l ↦ (let lt = ranked j.second k.second Less (sym l) in omega (arith, lt))
        | inr f ↦ (let same = ranked j.second k.second Equal (sym f.0) in omega (arith, same))
      ]
    ]

pub targets_rise : (refset : ℕ) (ks : List Chosen) → IsAscending ranked_cmp ks → ((k : Chosen) → Has ks k → k.first ≡ refset) → IsNonDecreasingBy (λ (k : Chosen). k.second) ks
targets_rise refset [] up own i j d le lt = absurd (omega (arith, lt))
targets_rise refset (k ∷ ks) up own zero zero d le lt = omega arith
targets_rise refset (k ∷ ks) up own zero (suc j) d le lt =
    let h = Has-get_or ks j d (omega (arith, lt)) in
    below_target refset k (get_or ks j d) (own k (inl refl)) (own (get_or ks j d) (inr h)) (Has-all (λ y. ranked_cmp k y ≡ Less) ks (get_or ks j d) up.0 h)
targets_rise refset (k ∷ ks) up own (suc i) zero d le lt = absurd (omega (arith, le))
targets_rise refset (k ∷ ks) up own (suc i) (suc j) d le lt = targets_rise refset ks up.1 (λ l h. own l (inr h)) i j d (omega (arith, le)) (omega (arith, lt))

-- rows by the components that they refer to
components_rise : (xs : List RowValue) → IsAscending value_cmp xs → Rising (map component_of xs)
components_rise [] up = tt
components_rise (x ∷ xs) up = (
  all_from_has (λ e. component_of x ≤ e) (map component_of xs) (λ e h.
      let m = Has-map component_of xs e h in
      let le : component_of x ≤ component_of m.0 = elim (first_half (nat_cmp (component_of x) (component_of m.0)) (nat_cmp x.id m.0.id) (Has-all (λ y. value_cmp x y ≡ Less) xs m.0 up.0 m.1)) [
        | inl l ↦ (let lt = ranked (component_of x) (component_of m.0) Less (sym l) in omega (arith, lt))
        | inr f ↦ (let same = ranked (component_of x) (component_of m.0) Equal (sym f.0) in omega (arith, same))
      ] in
      omega (arith, le, m.2)),
  components_rise xs up.1,
)

module _ (lists : List (List StampedRow)) (are : ArePlaces (map places_of lists)) (edges : List Edges) (posts : EachPosted lists edges) (refset : ℕ) (as_of : AsOf) (after last : Option ℕ) where
  abbrev asked : Asked
  asked = asked_values refset as_of after last

  abbrev test : RowValue → Bool
  test = is_value_between refset after last

  abbrev IsValueFound : Chosen → Type 0
  IsValueFound k = IsRowFound lists are edges posts asked test (path_of_values refset after last) k

  found_kind : (k : Chosen) → IsValueFound k → k.at.key.kind ≡ Member
  found_kind k r =
      let row = r.row.s.row in
      ap (λ (q : Key). q.kind) (standing_row lists are k.segment k.at r.row.s r.row.stands).1
      ∙ member_kind refset row.body (and_parts row.active (is_member_of refset row.body) (and_parts (row.active && is_member_of refset row.body) (is_between after last (component_of row)) r.row.passed).0).1

  -- of one rank there is one member alone
  one_member : (j k : Chosen) → IsValueFound j → IsValueFound k → ranked_cmp j k ≡ Equal → (j.at.key.kind ≡ k.at.key.kind) × (j.at.key.id ≡ k.at.key.id)
  one_member j k r s e = (found_kind j r ∙ sym (found_kind k s), one_id j k e)

  module _ (kept : List Chosen) (a : AreFound ranked_cmp lists asked (numbered 0 (postings_in edges)) kept) where
    value_kept : (k : Chosen) → Has kept k → IsValueFound k
    value_kept = row_kept lists are edges posts asked test (path_of_values refset after last) ranked_cmp one_member kept a

    own_refset : (k : Chosen) → Has kept k → k.first ≡ refset
    own_refset k h = let r = value_kept k h in r.first_is ∙ (wanted_parts asked.wanted r.key r.row.wanted_so).first_is

    own_component : (k : Chosen) (s : StampedRow) → Has kept k → StandsAt lists k.segment k.at s → component_of s.row ≡ k.second
    unfolding value_kept
    own_component k s h v =
        let r = value_kept k h in
        let own = own_row lists are edges posts asked test (path_of_values refset after last) ranked_cmp one_member kept a k s h v in
        let second : component_of r.row.s.row ≡ k.second = ap (λ n. second_at n r.row.s.row.body) (sym (wanted_parts asked.wanted r.key r.row.wanted_so).tag_is) ∙ second_is r.row.s.row.active r.row.s.row.body r.key r.row.key_there ∙ sym r.second_is in
        subst (λ (z : StampedRow). component_of z.row ≡ k.second) own second

    pub kept_rise : IsNonDecreasingBy (λ (k : Chosen). k.second) kept
    kept_rise = targets_rise refset kept a.2.ascending own_refset

    ranks : (j k : Chosen) (s t : StampedRow) → Has kept j → Has kept k → StandsAt lists j.segment j.at s → StandsAt lists k.segment k.at t → ranked_cmp j k ≡ Less → value_cmp s.row t.row ≡ Less
    ranks j k s t g h v w less =
        let id_s : s.row.id ≡ j.at.key.id = ap (λ (q : Key). q.id) (sym (standing_row lists are j.segment j.at s v).1) in
        let id_t : t.row.id ≡ k.at.key.id = ap (λ (q : Key). q.id) (sym (standing_row lists are k.segment k.at t w).1) in
        let component_s = own_component j s g v in
        let component_t = own_component k t h w in
        let one : j.first ≡ k.first = own_refset j g ∙ sym (own_refset k h) in
        let tie : nat_cmp j.first k.first ≡ Equal = sym (nat_cmp_is j.first k.first Equal one) in
        (λ i. ordering_then (nat_cmp (component_s i) (component_t i)) (nat_cmp (id_s i) (id_t i)))
        ∙ sym (ap (λ o. ordering_then o (ordering_then (nat_cmp j.second k.second) (nat_cmp j.at.key.id k.at.key.id))) tie) ∙ less

    shown_up : IsAscending row_cmp (rows_seen as_of lists)
    shown_up = IsAscending-rows_at as_of.pin (listed lists) (IsAscending-listed lists)

    pub values_from_found : (limit count : ℕ) → (last ≡ None) ⊎ (limit ≤ length kept) → IsCutAt limit (map {B = ℕ} (λ (k : Chosen). k.second) kept) count
        → (rows : List StampedRow) × StandAtAll lists (take count kept) rows × (map (λ (s : StampedRow). s.row) rows ≡ values refset as_of.date after limit (rows_seen as_of lists))
    unfolding values
    values_from_found limit count enough cut =
        let now = rows_seen as_of lists in
        let answer = values_up_to last refset as_of.date after now in
        let w = rows_from_found lists are edges posts asked test (path_of_values refset after last) ranked_cmp one_member kept a answer (values_up_to_all refset as_of.date after last now shown_up)
        value_cmp value_total (values_up_to_ascend refset as_of.date after last now) ranks in
        let numbers = numbers_are lists kept w.0 w.1 (λ k s h v. own_component k s h v) ∙ ap (λ (rows : List RowValue). map component_of rows) w.2 in
        let cut_rows : IsCutAt limit (map component_of answer) count = subst (λ ds. IsCutAt limit ds count) numbers cut in
        let rising = components_rise (values_above refset as_of.date after now) (values_above_ascend refset as_of.date after now) in (
          take count w.0,
          stand_take lists kept w.0 count w.1,
          sym (take-map (λ (s : StampedRow). s.row) count w.0) ∙ ap (take count) w.2
              ∙ sym (cut_up_to component_of last limit count (values_above refset as_of.date after now) rising (enough_rows lists last limit kept w.0 answer w.1 w.2 enough) cut_rows),
        )
