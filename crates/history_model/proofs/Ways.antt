-- There is a list of all that is reached: whether there is a way over some concepts can be told, a concept more at a time.
use Rattle.std.proofs.Common.{◌≡◌, ℕ, Bool, true, List, [], ◌∷◌, map, sym, subst, inl, inr}
use Rattle.std.specs.Prelude.{◌&&◌, ◌||◌, ◌==◌}
use Rattle.std.specs.List.{filter, list_any}
use Rattle.std.specs.Ordering.{nat_cmp}
use Rattle.std.specs.Cmp.{nat_cmp_total}
use Rattle.std.proofs.lemmas.Bool.{eq-eqb, and_from, or_left, or_right, or_cases, and_parts}
use Rattle.rf2_values.specs.Row.{RowValue}
use Rattle.history_model.specs.InOrder.{Has, in_order}
use Rattle.history_model.specs.Queries.{snapshot, children, parents, is_child_of, is_parent_of, source_of, destination_of}
use Rattle.history_model.specs.Hierarchy.{IsPath, IsReached, AreReached, AreDescendants, AreAncestors}
use Rattle.history_model.proofs.InOrder.{IsAscending-in_order}
use Rattle.history_model.proofs.Filtered.{Has-filter, Has-filter_from, Has-map_from}
use Rattle.history_model.proofs.Hierarchy.{row_from, reached_next, reached_then}
use Rattle.history_model.proofs.Searched.{has_from_any, in_order_has, has_in_order}

any_from_has : (ys : List ℕ) (y : ℕ) → Has ys y → list_any (λ other. other == y) ys ≡ true
any_from_has [] y h = absurd h
any_from_has (z ∷ ys) y h = elim h [
  | inl e ↦ or_left (z == y) _ (eq-eqb z y e)
  | inr t ↦ or_right (z == y) _ (any_from_has ys y t)
]

module _ (next : ℕ → List ℕ) where
  -- whether there is a path of which each concept between is one of these
  way : List ℕ → ℕ → ℕ → Bool
  way [] a b = list_any (λ other. other == b) (next a)
  way (v ∷ over) a b = way over a b || (way over a v && way over v b)

  reached_by_way : (over : List ℕ) (a b : ℕ) → way over a b ≡ true → IsReached next a b
  unfolding way
  reached_by_way [] a b e = reached_next next a b (has_from_any (next a) b e)
  reached_by_way (v ∷ over) a b e = elim (or_cases (way over a b) _ e) [
    | inl f ↦ reached_by_way over a b f
    | inr f ↦ let p = and_parts (way over a v) (way over v b) f in reached_then next a v b (reached_by_way over a v p.0) (reached_by_way over v b p.1)
  ]

  step_way : (over : List ℕ) (a b : ℕ) → Has (next a) b → way over a b ≡ true
  unfolding way
  step_way [] a b h = any_from_has (next a) b h
  step_way (v ∷ over) a b h = or_left (way over a b) _ (step_way over a b h)

  -- a step to one of these, and a way from there
  step_and_way : (over : List ℕ) (a x b : ℕ) → Has (next a) x → Has over x → way over x b ≡ true → way over a b ≡ true
  unfolding way
  step_and_way [] a x b h there e = absurd there
  step_and_way (u ∷ over) a x b h there e = elim there [
    | inl s ↦
        let from_u : way over u b ≡ true = elim (or_cases (way over x b) _ e) [
          | inl f ↦ subst (λ z. way over z b ≡ true) (sym s) f
          | inr f ↦ (and_parts (way over x u) (way over u b) f).1
        ] in
        let to_u : way over a u ≡ true = step_way over a u (subst (λ z. Has (next a) z) (sym s) h) in
        or_right (way over a b) _ (and_from (way over a u) (way over u b) to_u from_u)
    | inr t ↦ elim (or_cases (way over x b) _ e) [
      | inl f ↦ or_left (way over a b) _ (step_and_way over a x b h t f)
      | inr f ↦
          let p = and_parts (way over x u) (way over u b) f in
          or_right (way over a b) _ (and_from (way over a u) (way over u b) (step_and_way over a x u h t p.0) p.1)
    ]
  ]

  module _ (all : List ℕ) (within : (a x : ℕ) → Has (next a) x → Has all x) where
    path_way : (a : ℕ) (between : List ℕ) (b : ℕ) → IsPath next a between b → way all a b ≡ true
    path_way a [] b p = step_way all a b p
    path_way a (x ∷ between) b p = step_and_way all a x b p.0 (within a x p.0) (path_way x between b p.1)

    path_end : (a : ℕ) (between : List ℕ) (b : ℕ) → IsPath next a between b → Has all b
    path_end a [] b p = within a b p
    path_end a (x ∷ between) b p = path_end x between b p.1

    pub all_reached : (from : ℕ) → (ids : List ℕ) × AreReached next from ids
    all_reached from = (
      in_order nat_cmp (filter (way all from) all),
      record {
        ascending = IsAscending-in_order nat_cmp_total (filter (way all from) all);
        members = λ x. (
          λ h. reached_by_way all from x (Has-filter (way all from) all x (in_order_has (filter (way all from) all) x h)).1,
          λ r. has_in_order (filter (way all from) all) x (Has-filter_from (way all from) all x (path_end from r.0 x r.1) (path_way from r.0 x r.1)),
        );
      },
    )

child_row : (concept date : ℕ) (rows : List RowValue) (child : ℕ) → Has (children concept date rows) child → (row : RowValue) × Has (snapshot rows date) row × (is_child_of concept row ≡ true) × (source_of row.body ≡ child)
unfolding children
child_row concept date rows child h = row_from (λ row. source_of row.body) (is_child_of concept) (snapshot rows date) child h

parent_row : (concept date : ℕ) (rows : List RowValue) (parent : ℕ) → Has (parents concept date rows) parent → (row : RowValue) × Has (snapshot rows date) row × (is_parent_of concept row ≡ true) × (destination_of row.body ≡ parent)
unfolding parents
parent_row concept date rows parent h = row_from (λ row. destination_of row.body) (is_parent_of concept) (snapshot rows date) parent h

pub each_has_descendants : (concept date : ℕ) (rows : List RowValue) → (ids : List ℕ) × AreDescendants concept date rows ids
each_has_descendants concept date rows = all_reached (λ c. children c date rows) (map (λ (row : RowValue). source_of row.body) (snapshot rows date)) (λ a x h.
    let w = child_row a date rows x h in subst (λ n. Has (map (λ (row : RowValue). source_of row.body) (snapshot rows date)) n) w.3 (Has-map_from (λ (row : RowValue). source_of row.body) (snapshot rows date) w.0 w.1)) concept

pub each_has_ancestors : (concept date : ℕ) (rows : List RowValue) → (ids : List ℕ) × AreAncestors concept date rows ids
each_has_ancestors concept date rows = all_reached (λ c. parents c date rows) (map (λ (row : RowValue). destination_of row.body) (snapshot rows date)) (λ a x h.
    let w = parent_row a date rows x h in subst (λ n. Has (map (λ (row : RowValue). destination_of row.body) (snapshot rows date)) n) w.3 (Has-map_from (λ (row : RowValue). destination_of row.body) (snapshot rows date) w.0 w.1)) concept
