-- The rows of descriptions and of the members behind them are those of the answer.
use Rattle.std.proofs.Common.{◌≡◌, ℕ, List, [], ◌∷◌, ◌++◌, map, refl, sym, ap, subst, ◌∙◌, append_assoc, append-nil}
use Rattle.std.specs.Prelude.{flat_map}
use Rattle.rf2_values.specs.declared.key.Key.{Key}
use Rattle.rf2_values.specs.declared.row.Kind.TheVariants as kinds
use Rattle.rf2_values.specs.Row.{RowValue}
use Rattle.history_model.specs.declared.stamped.StampedRow.{StampedRow}
use Rattle.history_model.specs.Queries.{about, members_about, with_others, called}
use Rattle.segment.specs.Standing.{places_of, StandsAt}
use Rattle.as_of_index.specs.declared.as_of.AsOf.{AsOf}
use Rattle.as_of_index.specs.declared.chosen.Chosen.{Chosen}
use Rattle.as_of_index.specs.Places.{ArePlaces}
use Rattle.as_of_index.specs.Chosen.{StandAtAll}
use Rattle.as_of_index.specs.Private.Postings.{numbered}
use Rattle.as_of_index.proofs.Current.{standing_row}
use Rattle.as_of_index.specs.Current.{rows_seen}
use Rattle.links.specs.declared.posting.Posting.{Posting}
use Rattle.links.specs.Edges.{Edges}
use Rattle.links.specs.Private.{postings_in}
use Rattle.links.specs.Private.Asking.{placed_cmp, AreFound}
use Rattle.links.specs.Private.Memberships.{with_members, asked_about, AreNamed}
use Rattle.links.specs.Laws.{EachPosted}
use Rattle.links.proofs.MemberPages.{about_from_found}

-- one description more
pub named_push : (lists : List (List StampedRow)) (refset : ℕ) (as_of : AsOf) (xs : List (ℕ × Posting)) (ks : List Chosen) (k : Chosen) (kept those : List Chosen) → AreNamed lists refset as_of xs ks kept
    → AreFound placed_cmp lists (asked_about refset as_of k.at.key.id) xs those → AreNamed lists refset as_of xs (ks ++ k ∷ []) (kept ++ with_members k those)
named_push lists refset as_of xs [] k kept those a m = (those, [], m, ap (λ (ys : List Chosen). ys ++ with_members k those) a ∙ sym (append-nil (with_members k those)), refl)
named_push lists refset as_of xs (j ∷ ks) k kept those a m = (
  a.0,
  a.1 ++ with_members k those,
  a.2,
  ap (λ (ys : List Chosen). ys ++ with_members k those) a.3 ∙ append_assoc (with_members j a.0) a.1 (with_members k those),
  named_push lists refset as_of xs ks k a.1 those a.4 m,
)

stand_append : (lists : List (List StampedRow)) (ks : List Chosen) (rows : List StampedRow) (js : List Chosen) (more : List StampedRow) → StandAtAll lists ks rows → StandAtAll lists js more → StandAtAll lists (ks ++ js) (rows ++ more)
stand_append lists [] [] js more a b = b
stand_append lists [] (s ∷ rows) js more a b = absurd a
stand_append lists (k ∷ ks) [] js more a b = absurd a
stand_append lists (k ∷ ks) (s ∷ rows) js more a b = (a.0, stand_append lists ks rows js more a.1 b)

map_append : (rows more : List StampedRow) → map (λ (s : StampedRow). s.row) (rows ++ more) ≡ map (λ (s : StampedRow). s.row) rows ++ map (λ (s : StampedRow). s.row) more
map_append [] more = refl
map_append (s ∷ rows) more = ap (λ (ys : List RowValue). s.row ∷ ys) (map_append rows more)

-- a description's place and its members' places are where the row and its members stand
with_rows : (lists : List (List StampedRow)) (k : Chosen) (s : StampedRow) (those : List Chosen) (rows : List StampedRow) → StandsAt lists k.segment k.at s → StandAtAll lists those rows
    → (all : List StampedRow) × StandAtAll lists (with_members k those) all × (map (λ (t : StampedRow). t.row) all ≡ with_others s.row (map (λ (t : StampedRow). t.row) rows))
with_rows lists k s [] [] v a = ([], tt, refl)
with_rows lists k s [] (t ∷ rows) v a = absurd a
with_rows lists k s (j ∷ those) [] v a = absurd a
with_rows lists k s (j ∷ those) (t ∷ rows) v a = (s ∷ t ∷ rows, (v, a), refl)

module _ (lists : List (List StampedRow)) (are : ArePlaces (map places_of lists)) (edges : List Edges) (posts : EachPosted lists edges) (refset : ℕ) (as_of : AsOf) where
  -- the answer about one description
  abbrev answer_about : RowValue → List RowValue
  answer_about row = with_others row (members_about refset row.id as_of.date (rows_seen as_of lists))

  pub named_from_chosen : (ks : List Chosen) (rows : List StampedRow) (kept : List Chosen) → StandAtAll lists ks rows → AreNamed lists refset as_of (numbered 0 (postings_in edges)) ks kept
      → (all : List StampedRow) × StandAtAll lists kept all × (map (λ (s : StampedRow). s.row) all ≡ flat_map answer_about (map (λ (s : StampedRow). s.row) rows))
  named_from_chosen [] [] kept a n = ([], subst (λ (ys : List Chosen). StandAtAll lists ys []) (sym n) tt, refl)
  named_from_chosen [] (s ∷ rows) kept a n = absurd a
  named_from_chosen (k ∷ ks) [] kept a n = absurd a
  named_from_chosen (k ∷ ks) (s ∷ rows) kept a n =
      let id_is : k.at.key.id ≡ s.row.id = ap (λ (q : Key). q.id) (standing_row lists are k.segment k.at s a.0).1 in
      let m = about_from_found lists are edges posts as_of refset k.at.key.id n.0 n.2 in
      let one = with_rows lists k s n.0 m.0 a.0 m.1 in
      let rest = named_from_chosen ks rows n.1 a.1 n.4 in
      let about_is : map (λ (t : StampedRow). t.row) one.0 ≡ answer_about s.row =
      one.2 ∙ ap (λ (ys : List RowValue). with_others s.row ys) (m.2 ∙ ap (λ id. members_about refset id as_of.date (rows_seen as_of lists)) id_is) in (
        one.0 ++ rest.0,
        subst (λ (ys : List Chosen). StandAtAll lists ys (one.0 ++ rest.0)) (sym n.3) (stand_append lists (with_members k n.0) one.0 n.1 rest.0 one.1 rest.1),
        map_append one.0 rest.0 ∙ (λ i. about_is i ++ rest.2 i),
      )

  pub called_from_chosen : (concept : ℕ) (ks : List Chosen) → ((rows : List StampedRow) × StandAtAll lists ks rows × (map (λ (s : StampedRow). s.row) rows ≡ about kinds.Description concept as_of.date (rows_seen as_of lists)))
      → (kept : List Chosen) → AreNamed lists refset as_of (numbered 0 (postings_in edges)) ks kept
      → (rows : List StampedRow) × StandAtAll lists kept rows × (map (λ (s : StampedRow). s.row) rows ≡ called concept as_of.date refset (rows_seen as_of lists))
  unfolding called
  called_from_chosen concept ks w kept n =
      let all = named_from_chosen ks w.0 kept w.1 n in
      (all.0, all.1, all.2 ∙ ap (flat_map answer_about) w.2)
