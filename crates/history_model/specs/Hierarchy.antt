-- The concepts above and below a concept at a date. `rows` are the rows that a pin shows.
use Rattle.std.specs.Prelude.{◌↔◌, ℕ, List, [], ◌∷◌}
use Rattle.std.specs.Ordering.{nat_cmp}
use Rattle.rf2_values.specs.Row.{RowValue}
use Rattle.history_model.specs.InOrder.{Has, IsAscending}
use Rattle.history_model.specs.Queries.{children, parents}

-- a path from one concept to another, by way of those between, where each is a next one of the one
-- before
abbrev pub IsPath : (ℕ → List ℕ) → ℕ → List ℕ → ℕ → Type 0
IsPath next from [] to = Has (next from) to
IsPath next from (x ∷ between) to = Has (next from) x × IsPath next x between to

-- there is a path, of one step or more
abbrev pub IsReached : (ℕ → List ℕ) → ℕ → ℕ → Type 0
IsReached next from to = (between : List ℕ) × IsPath next from between to

-- the list has everything that is reached, in ascending order, without duplicates
pub record AreReached (next : ℕ → List ℕ) (from : ℕ) (ids : List ℕ) : Type 0 where
  pub ascending : IsAscending nat_cmp ids
  pub members : (id : ℕ) → Has ids id ↔ IsReached next from id

-- everything that is reached by steps from parent to child
abbrev pub AreDescendants : ℕ → ℕ → List RowValue → List ℕ → Type 0
AreDescendants concept date rows = AreReached (λ c. children c date rows) concept

-- everything that is reached by steps from child to parent
abbrev pub AreAncestors : ℕ → ℕ → List RowValue → List ℕ → Type 0
AreAncestors concept date rows = AreReached (λ c. parents c date rows) concept

-- ---- laws

-- a concept is a parent of another exactly if the other is its child
abbrev pub ParentsHaveChildren : Type 0
ParentsHaveChildren = (date : ℕ) (rows : List RowValue) (parent child : ℕ)
    → Has (parents child date rows) parent ↔ Has (children parent date rows) child

-- a concept is an ancestor of another exactly if the other is its descendant
abbrev pub AncestorsHaveDescendants : Type 0
AncestorsHaveDescendants = (date : ℕ) (rows : List RowValue) (upper lower : ℕ)
    (ancestors descendants : List ℕ)
    → AreAncestors lower date rows ancestors → AreDescendants upper date rows descendants
    → Has ancestors upper ↔ Has descendants lower

-- each child is a descendant
abbrev pub ChildrenAreDescendants : Type 0
ChildrenAreDescendants = (concept date : ℕ) (rows : List RowValue) (descendants : List ℕ)
    → AreDescendants concept date rows descendants
    → (child : ℕ) → Has (children concept date rows) child → Has descendants child

-- so is each descendant of a descendant
abbrev pub DescendantsOfDescendants : Type 0
DescendantsOfDescendants = (concept other date : ℕ) (rows : List RowValue)
    (descendants lower : List ℕ)
    → AreDescendants concept date rows descendants → AreDescendants other date rows lower
    → Has descendants other → (id : ℕ) → Has lower id → Has descendants id
