-- A key that is looked for row by row.
use Rattle.std.proofs.Common.{◌≡◌, ℕ, ◌+◌, ◌<◌, List, [], ◌∷◌, ◌++◌, length, get_or, map, take, sym, ap, subst, inl, inr, ◌∙◌}
use Rattle.std.proofs.lemmas.List.{take_more}
use Rattle.rf2_values.specs.declared.key.Key.{Key}
use Rattle.rf2_values.specs.Row.{RowValue}
use Rattle.rf2_values.specs.Key.{key_of}
use Rattle.history_model.specs.declared.stamped.StampedRow.{StampedRow}
use Rattle.history_model.specs.InOrder.{Has}
use Rattle.history_model.proofs.InOrder.{Has-append_cases}
use Rattle.history_model.proofs.Filtered.{Has-map, Has-map_from}
use Rattle.history_model.proofs.Items.{Has-get_or}
use Rattle.import_check.specs.Known.{IsUnknown}

abbrev rows_of : List StampedRow → List RowValue
rows_of rows = map (λ (s : StampedRow). s.row) rows

module _ (rows : List StampedRow) (i : ℕ) (s : StampedRow) (lt : i < length rows) (is : s ≡ get_or rows i s) where
  pub row_there : Has (rows_of rows) s.row
  row_there = Has-map_from (λ (s : StampedRow). s.row) rows s (subst (λ (r : StampedRow). Has rows r) (sym is) (Has-get_or rows i s lt))

  -- the next row has another key too
  pub none_more : (key : Key) → IsUnknown (rows_of (take i rows)) key → (key_of s.row ≡ key → ⊥) → IsUnknown (rows_of (take (i + 1) rows)) key
  none_more key none other row h e =
      let more = take_more rows i s lt ∙ ap (λ y. take i rows ++ y ∷ []) (sym is) in
      let m = Has-map (λ (s : StampedRow). s.row) (take (i + 1) rows) row h in
      elim (Has-append_cases (take i rows) (s ∷ []) m.0 (subst (λ xs. Has xs m.0) more m.1)) [
        | inl l ↦ none row (subst (λ (r : RowValue). Has (rows_of (take i rows)) r) m.2 (Has-map_from (λ (s : StampedRow). s.row) (take i rows) m.0 l)) e
        | inr r ↦ elim r [
          | inl same ↦ other (ap (λ (t : StampedRow). key_of t.row) same ∙ ap key_of m.2 ∙ e)
          | inr t ↦ absurd t
        ]
      ]
