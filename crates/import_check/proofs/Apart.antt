-- New rows that ascend, none of whose keys is known, whatever rows are given.
use Rattle.std.proofs.Common.{◌≡◌, ◌⊎◌, false, List, [], ◌∷◌, ◌++◌, refl, sym, ap, subst, inl, inr, ◌∙◌}
use Rattle.std.specs.Prelude.{Some, IsSomeAnd}
use Rattle.std.specs.Ordering.{is_gt}
use Rattle.std.specs.declared.cmp.Ordering.TheVariants.{Less}
use Rattle.rf2_values.specs.Row.{RowValue}
use Rattle.rf2_values.specs.Key.{key_of, key_cmp}
use Rattle.history_model.specs.InOrder.{Has}
use Rattle.history_model.specs.History.{row_cmp}
use Rattle.history_model.proofs.InOrder.{Has-all, Has-append_cases}
use Rattle.history_model.proofs.Keys.{rows_total}
use Rattle.import_check.specs.declared.release.PlacedLine.{PlacedLine}
use Rattle.import_check.specs.declared.sweep.Sweep.{Sweep}
use Rattle.import_check.specs.Known.{IsUnknown}
use Rattle.import_check.specs.Private.Sweep.{IsApart, IsOwn, GoesOn}
use Rattle.import_check.specs.Private.Sweep.{IsRising}
use Rattle.import_check.specs.Contradictions.{rank_cmp}
use Rattle.import_check.proofs.Sweeping.{rank_split, ascending-push}

pub own_none : (known : List RowValue) (rest : List PlacedLine) (s : Sweep) → s.fresh.items ≡ [] → IsOwn known rest s
own_none known rest s none = record {
  apart = subst (λ rows. IsApart known rows) (sym none) (record { ascending = tt; unknown = λ row h. absurd h });
  below = λ row h line there. absurd (subst (λ rows. Has rows row) none h);
}

pub own_same : (known : List RowValue) (line : PlacedLine) (rest : List PlacedLine) (old new : Sweep) → new.key ≡ old.key → new.fresh.items ≡ old.fresh.items → IsOwn known (line ∷ rest) old → IsOwn known rest new
own_same known line rest old new key rows own =
    record {
      apart = subst (λ l. IsApart known l) (sym rows) own.apart;
      below = λ r h l there. elim (own.below r (subst (λ x. Has x r) rows h) l (inr there)) [ inl less ↦ inl less | inr tie ↦ inr (tie.0, key ∙ tie.1) ];
    }

module _ (known : List RowValue) (line : PlacedLine) (rest : List PlacedLine) (old new : Sweep) (rising : IsRising rank_cmp (line ∷ rest)) (own : IsOwn known (line ∷ rest) old) (other : IsSomeAnd old.key (λ last. last ≡ key_of line.row) → ⊥) where
  below_line : (row : RowValue) → Has old.fresh.items row → row_cmp row line.row ≡ Less
  below_line row h = elim (own.below row h line (inl refl)) [
    | inl less ↦ less
    | inr tie ↦ absurd (other (subst (λ o. IsSomeAnd o (λ last. last ≡ key_of line.row)) (sym tie.1) tie.0))
  ]

  from_line : (l : PlacedLine) → Has rest l → (row_cmp line.row l.row ≡ Less) ⊎ (key_of line.row ≡ key_of l.row)
  from_line l there = elim (rank_split line l (Has-all (λ m. is_gt (rank_cmp line m) ≡ false) rest l rising.0 there)) [ inl less ↦ inl less | inr tie ↦ inr tie.0 ]

  below_later : (row : RowValue) → Has old.fresh.items row → (l : PlacedLine) → Has rest l → row_cmp row l.row ≡ Less
  below_later row h l there = elim (from_line l there) [
    | inl less ↦ rows_total.trans row line.row l.row (below_line row h) less
    | inr tie ↦ subst (λ k. key_cmp (key_of row) k ≡ Less) tie (below_line row h)
  ]

  pub own_known : new.fresh.items ≡ old.fresh.items → IsOwn known rest new
  own_known rows = record {
    apart = subst (λ l. IsApart known l) (sym rows) own.apart;
    below = λ r h l there. inl (below_later r (subst (λ x. Has x r) rows h) l there);
  }

  pub own_new : new.key ≡ Some (key_of line.row) → new.fresh.items ≡ old.fresh.items ++ line.row ∷ [] → IsUnknown known (key_of line.row) → IsOwn known rest new
  own_new at rows unknown =
      record {
        apart = subst (λ l. IsApart known l) (sym rows) (record {
          ascending = ascending-push row_cmp old.fresh.items line.row own.apart.ascending below_line;
          unknown = λ r h. elim (Has-append_cases old.fresh.items (line.row ∷ []) r h) [
            | inl before ↦ own.apart.unknown r before
            | inr t ↦ elim t [ inl e ↦ subst (λ (v : RowValue). IsUnknown known (key_of v)) e unknown | inr n ↦ absurd n ]
          ];
        });
        below = λ r h l there. elim (Has-append_cases old.fresh.items (line.row ∷ []) r (subst (λ x. Has x r) rows h)) [
          | inl before ↦ inl (below_later r before l there)
          | inr t ↦ elim t [
            | inl e ↦ elim (from_line l there) [
              | inl less ↦ inl (subst (λ (v : RowValue). row_cmp v l.row ≡ Less) e less)
              | inr tie ↦ inr (subst (λ (v : RowValue). key_of v ≡ key_of l.row) e tie, at ∙ ap (λ (v : RowValue). Some (key_of v)) e)
            ]
            | inr n ↦ absurd n
          ]
        ];
      }

pub own_goes_on : (known : List RowValue) (may_be : RowValue → Type 0) (line : PlacedLine) (rest : List PlacedLine) (old new : Sweep) → IsRising rank_cmp (line ∷ rest) → IsOwn known (line ∷ rest) old → GoesOn known may_be line old new → IsOwn known rest new
own_goes_on known may_be line rest old new rising own (inl same) = own_same known line rest old new (ap (λ (s : Sweep). s.key) same.kept) (ap (λ (s : Sweep). s.fresh.items) same.kept) own
own_goes_on known may_be line rest old new rising own (inr (inl k)) = own_known known line rest old new rising own k.other k.fresh
own_goes_on known may_be line rest old new rising own (inr (inr n)) = own_new known line rest old new rising own n.other n.key n.fresh n.unknown
