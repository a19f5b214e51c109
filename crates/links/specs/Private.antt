-- Definitions for private functions and proofs, of this crate or of one above it. No public clause
-- cites them.
pub mod Asking
pub mod Memberships
use Rattle.std.specs.Prelude.{◌≡◌, ◌≤◌, ◌⊎◌, ℕ, true, nat_eq}
use Rattle.std.specs.Prelude.{List, [], ◌∷◌, map, Some}
use Rattle.std.specs.HashSet.{HashSet, contains}
use Rattle.std.specs.Ordering.{nat_cmp}
use Rattle.rf2_values.specs.declared.row.Kind.{Kind}
use Rattle.rf2_values.specs.Row.{RowValue}
use Rattle.history_model.specs.Queries.{is_a, children, parents}
use Rattle.history_model.specs.declared.stamped.StampedRow.{StampedRow}
use Rattle.history_model.specs.InOrder.{Has}
use Rattle.segment.specs.declared.place.RowPlace.{RowPlace}
use Rattle.as_of_index.specs.declared.as_of.AsOf.{AsOf}
use Rattle.as_of_index.specs.declared.chosen.Chosen.{Chosen}
use Rattle.as_of_index.specs.Private.Chosen.{chosen, chosen_cmp}
use Rattle.as_of_index.specs.Private.Once.{AreOnce}
use Rattle.as_of_index.specs.Current.{IsPlaceOfRow, IsCurrentAt}
use Rattle.links.specs.declared.posting.Tag.TheVariants as tags
use Rattle.links.specs.declared.posting.Posting.{Posting}
use Rattle.links.specs.declared.postings.Subject.{Subject}
use Rattle.links.specs.declared.wanted.Wanted.{Wanted}
use Rattle.links.specs.declared.hierarchy.Direction.{Direction}
use Rattle.links.specs.declared.hierarchy.Direction.TheVariants as directions
use Rattle.links.specs.Edges.{Edges, subject_rank}
use Rattle.links.specs.Private.Asking.{all_with, sources_with}

-- the subjects, and the postings by two numbers, of each list
abbrev pub postings_in : List Edges → List (List Posting)
postings_in lists = map (λ e. e.postings) lists

abbrev pub subjects_in : List Edges → List (List Subject)
subjects_in lists = map (λ e. e.subjects) lists

-- the new list has the items of the old one and those that the postings give, and no others
pub record Takes {X Y : Type 0} (Gives : X → Y → Type 0) (xs : List X) (old new : List Y)
    : Type 0 where
  pub kept : (y : Y) → Has old y → Has new y
  pub taken : (x : X) (y : Y) → Has xs x → Gives x y → Has new y
  pub only : (y : Y) → Has new y → Has old y ⊎ ((x : X) × Has xs x × Gives x y)

-- the list has the items that the postings of component `d` give, and no others; each posting comes
-- with the number of its list
pub record AreTaken {X Y : Type 0} (Gives : ℕ → X → Y → Type 0) (of : X → ℕ) (d : ℕ)
    (xs : List (ℕ × X)) (ys : List Y) : Type 0 where
  pub taken : (x : ℕ × X) (y : Y) → Has xs x → of x.1 ≡ d → Gives x.0 x.1 y → Has ys y
  pub only : (y : Y) → Has ys y
      → (x : ℕ × X) × Has xs x × (of x.1 ≡ d) × Gives x.0 x.1 y

-- a posting of list `n` whose row is current gives an item, which is made from the row's place
pub record GivesAnswer {X Y : Type 0} (row : X → ℕ) (answer : ℕ → X → RowPlace → Y)
    (lists : List (List StampedRow)) (as_of : AsOf) (n : ℕ) (x : X) (y : Y) : Type 0 where
  pub at : RowPlace
  pub row_there : IsPlaceOfRow lists n (row x) at × IsCurrentAt lists as_of n at
  pub answer_is : answer n x at ≡ y

-- a subject whose row is current gives a row to read
abbrev pub GivesRow : List (List StampedRow) → AsOf → ℕ → Subject → Chosen → Type 0
GivesRow = GivesAnswer (λ x. x.row) (λ n x at. chosen n at)

abbrev pub AreRowsTaken : List (List StampedRow) → Kind → AsOf → ℕ → List (ℕ × Subject)
    → List Chosen → Type 0
AreRowsTaken lists kind as_of d =
    AreTaken (GivesRow lists as_of) (λ x. subject_rank x.subject x.kind) (subject_rank d kind)

abbrev pub AreRows : List (List StampedRow) → Kind → AsOf → ℕ → List (ℕ × Subject) → List Chosen
    → Type 0
AreRows lists kind as_of d xs kept =
    (all : List Chosen) × AreRowsTaken lists kind as_of d xs all × AreOnce chosen_cmp all kept

-- a subject whose row the pin shows gives the id of the row's component
pub record GivesId (lists : List (List StampedRow)) (pin n : ℕ) (x : Subject) (id : ℕ)
    : Type 0 where
  pub at : RowPlace
  pub row_there : IsPlaceOfRow lists n x.row at
  pub shown : at.import ≤ pin
  pub id_is : at.key.id ≡ id

abbrev pub AreIdsTaken : List (List StampedRow) → Kind → ℕ → ℕ → List (ℕ × Subject) → List ℕ
    → Type 0
AreIdsTaken lists kind pin d =
    AreTaken (GivesId lists pin) (λ x. subject_rank x.subject x.kind) (subject_rank d kind)

abbrev pub AreIds : List (List StampedRow) → Kind → ℕ → ℕ → List (ℕ × Subject) → List ℕ → Type 0
AreIds lists kind pin d xs ids =
    (all : List ℕ) × AreIdsTaken lists kind pin d xs all × AreOnce nat_cmp all ids

-- no number is in the list twice
abbrev pub AreDistinct : List ℕ → Type 0
AreDistinct [] = Unit {0}
AreDistinct (x ∷ xs) = (Has xs x → ⊥) × AreDistinct xs

-- the set and the list have the same items, and the list has no duplicates
pub record AreSeen {S : Type 0} (seen : HashSet ℕ S) (found : List ℕ) : Type 0 where
  pub listed : (x : ℕ) → contains nat_eq seen x ≡ true → Has found x
  pub seen_is : (x : ℕ) → Has found x → contains nat_eq seen x ≡ true
  pub distinct : AreDistinct found

-- the postings that lead from a concept this way
abbrev pub towards : Direction → ℕ → Wanted
towards directions.Down concept = sources_with (Some is_a) concept
towards directions.Up concept = all_with tags.Parent concept

-- the concepts one step from each concept: its children, or its parents
abbrev pub next_ones : Direction → ℕ → List RowValue → ℕ → List ℕ
next_ones directions.Down date rows = λ concept. children concept date rows
next_ones directions.Up date rows = λ concept. parents concept date rows
