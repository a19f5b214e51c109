-- What is above a concept, and what below it.
use Rattle.std.proofs.Common.{◌≡◌, ℕ, Bool, true, List, [], ◌∷◌, ◌++◌, map, sym, subst, inl, inr}
use Rattle.std.specs.Prelude.{◌==◌}
use Rattle.std.specs.List.{filter}
use Rattle.std.specs.Ordering.{nat_cmp}
use Rattle.std.specs.Cmp.{nat_cmp_total, ranked}
use Rattle.std.specs.declared.cmp.Ordering.TheVariants.{Equal}
use Rattle.std.proofs.lemmas.Bool.{eqb-true, eq-eqb, and_from, and_parts}
use Rattle.rf2_values.specs.declared.row.Body.{Body}
use Rattle.rf2_values.specs.declared.row.Body.TheVariants as body
use Rattle.rf2_values.specs.Row.{RowValue}
use Rattle.history_model.specs.InOrder.{Has, in_order}
use Rattle.history_model.specs.Queries.{snapshot, children, parents, is_a, is_child_of, is_parent_of, says_is_a, says_is_kind, source_of, destination_of}
use Rattle.history_model.specs.Hierarchy.{IsPath, IsReached, AreReached, AreDescendants, AreAncestors}
use Rattle.history_model.specs.Hierarchy.{ParentsHaveChildren, AncestorsHaveDescendants, ChildrenAreDescendants, DescendantsOfDescendants}
use Rattle.history_model.proofs.InOrder.{same_ascending, Has-put_all_cases, Has-put_all_new}
use Rattle.history_model.proofs.Filtered.{Has-filter, Has-filter_from, Has-map, Has-map_from}

-- ---- numbers in order are those of the list

module _ (f : RowValue → ℕ) (p : RowValue → Bool) (rows : List RowValue) where
  abbrev pub Row : ℕ → Type 0
  Row n = (row : RowValue) × Has rows row × (p row ≡ true) × (f row ≡ n)

  pub row_from : (n : ℕ) → Has (in_order nat_cmp (map f (filter p rows))) n → Row n
  row_from n h = elim (Has-put_all_cases nat_cmp _ [] n h) [
    | inl k ↦ let m = Has-map f (filter p rows) n k in let g = Has-filter p rows m.0 m.1 in (m.0, g.0, g.1, m.2)
    | inr k ↦ absurd k
  ]

  pub from_row : (n : ℕ) → Row n → Has (in_order nat_cmp (map f (filter p rows))) n
  from_row n w = Has-put_all_new nat_cmp _ [] n (λ y there tie. sym (ranked n y Equal (sym tie)))
      (subst (λ m. Has (map f (filter p rows)) m) w.3 (Has-map_from f (filter p rows) w.0 (Has-filter_from p rows w.0 w.1 w.2)))

-- ---- one relationship says both

parent_is : (parent child : ℕ) (b : Body) → says_is_a parent b ≡ true → source_of b ≡ child → (says_is_kind child b ≡ true) × (destination_of b ≡ parent)
parent_is parent child (body.Concept c) e f = absurd (cc)
parent_is parent child (body.Description d) e f = absurd (cc)
parent_is parent child (body.Relationship r) e f =
    let p = and_parts (r.destination == parent) (r.type_id == is_a) e in
    (and_from (r.source == child) (r.type_id == is_a) (eq-eqb r.source child f) p.1, eqb-true r.destination parent p.0)
parent_is parent child (body.Association a) e f = absurd (cc)
parent_is parent child (body.Concrete c) e f = absurd (cc)
parent_is parent child (body.Member m) e f = absurd (cc)

child_is : (parent child : ℕ) (b : Body) → says_is_kind child b ≡ true → destination_of b ≡ parent → (says_is_a parent b ≡ true) × (source_of b ≡ child)
child_is parent child (body.Concept c) e f = absurd (cc)
child_is parent child (body.Description d) e f = absurd (cc)
child_is parent child (body.Relationship r) e f =
    let p = and_parts (r.source == child) (r.type_id == is_a) e in
    (and_from (r.destination == parent) (r.type_id == is_a) (eq-eqb r.destination parent f) p.1, eqb-true r.source child p.0)
child_is parent child (body.Association a) e f = absurd (cc)
child_is parent child (body.Concrete c) e f = absurd (cc)
child_is parent child (body.Member m) e f = absurd (cc)

pub parents_have_children : ParentsHaveChildren
unfolding children parents
parents_have_children date rows parent child = (
  λ h.
      let w = row_from (λ row. destination_of row.body) (is_parent_of child) (snapshot rows date) parent h in
      let p = and_parts w.0.active (says_is_kind child w.0.body) w.2 in
      let q = child_is parent child w.0.body p.1 w.3 in
      from_row (λ row. source_of row.body) (is_child_of parent) (snapshot rows date) child (w.0, w.1, and_from w.0.active (says_is_a parent w.0.body) p.0 q.0, q.1),
  λ h.
      let w = row_from (λ row. source_of row.body) (is_child_of parent) (snapshot rows date) child h in
      let p = and_parts w.0.active (says_is_a parent w.0.body) w.2 in
      let q = parent_is parent child w.0.body p.1 w.3 in
      from_row (λ row. destination_of row.body) (is_parent_of child) (snapshot rows date) parent (w.0, w.1, and_from w.0.active (says_is_kind child w.0.body) p.0 q.0, q.1),
)

-- ---- paths

module _ (next : ℕ → List ℕ) where
  -- one path and then another
  pub then_path : (from : ℕ) (first : List ℕ) (via : ℕ) (rest : List ℕ) (to : ℕ) → IsPath next from first via → IsPath next via rest to → IsPath next from (first ++ via ∷ rest) to
  then_path from [] via rest to p q = (p, q)
  then_path from (x ∷ first) via rest to p q = (p.0, then_path x first via rest to p.1 q)

  pub reached_next : (from to : ℕ) → Has (next from) to → IsReached next from to
  reached_next from to h = ([], h)

  pub reached_then : (from via to : ℕ) → IsReached next from via → IsReached next via to → IsReached next from to
  reached_then from via to p q = (p.0 ++ via ∷ q.0, then_path from p.0 via q.0 to p.1 q.1)

  -- what has all next ones, and those of each that it has, has all that is reached
  pub path_within : (P : ℕ → Type 0) → ((a b : ℕ) → P a → Has (next a) b → P b) → (from : ℕ) (between : List ℕ) (to : ℕ) → ((b : ℕ) → Has (next from) b → P b) → IsPath next from between to → P to
  path_within P closed from [] to first p = first to p
  path_within P closed from (x ∷ between) to first p = path_within P closed x between to (λ b h. closed x b (first x p.0) h) p.1

  pub one_list : (from : ℕ) (ids others : List ℕ) → AreReached next from ids → AreReached next from others → ids ≡ others
  one_list from ids others a b = same_ascending nat_cmp_total ids others a.ascending b.ascending (λ z h. (b.members z).1 ((a.members z).0 h)) (λ z h. (a.members z).1 ((b.members z).0 h))

-- where each step goes back, each path does
module _ (there back : ℕ → List ℕ) (turns : (a b : ℕ) → Has (there a) b → Has (back b) a) where
  pub path_back : (from : ℕ) (between : List ℕ) (to : ℕ) → IsPath there from between to → IsReached back to from
  path_back from [] to p = reached_next back to from (turns from to p)
  path_back from (x ∷ between) to p = reached_then back to x from (path_back x between to p.1) (reached_next back x from (turns from x p.0))

pub ancestors_have_descendants : AncestorsHaveDescendants
ancestors_have_descendants date rows upper lower ancestors descendants a d = (
  λ h. let r = (a.members upper).0 h in (d.members lower).1 (path_back (λ c. parents c date rows) (λ c. children c date rows) (λ x y k. (parents_have_children date rows y x).0 k) lower r.0 upper r.1),
  λ h. let r = (d.members lower).0 h in (a.members upper).1 (path_back (λ c. children c date rows) (λ c. parents c date rows) (λ x y k. (parents_have_children date rows x y).1 k) upper r.0 lower r.1),
)

pub children_are_descendants : ChildrenAreDescendants
children_are_descendants concept date rows descendants d child h = (d.members child).1 (reached_next (λ c. children c date rows) concept child h)

pub descendants_of_descendants : DescendantsOfDescendants
descendants_of_descendants concept other date rows descendants lower d l h id k =
    (d.members id).1 (reached_then (λ c. children c date rows) concept other id ((d.members other).0 h) ((l.members id).0 k))

pub one_list_of_descendants : (concept date : ℕ) (rows : List RowValue) (ids others : List ℕ) → AreDescendants concept date rows ids → AreDescendants concept date rows others → ids ≡ others
one_list_of_descendants concept date rows ids others a b = one_list (λ c. children c date rows) concept ids others a b

pub one_list_of_ancestors : (concept date : ℕ) (rows : List RowValue) (ids others : List ℕ) → AreAncestors concept date rows ids → AreAncestors concept date rows others → ids ≡ others
one_list_of_ancestors concept date rows ids others a b = one_list (λ c. parents c date rows) concept ids others a b

-- ---- later imports
