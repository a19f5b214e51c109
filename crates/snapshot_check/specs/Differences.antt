-- How the rows that are shown at a date differ from those of a package's Snapshot. `reads` says
-- which row may be returned for one that is shown: of an honest store only that one.
use Rattle.std.specs.Prelude.{◌≡◌, ◌≢◌, ◌⊎◌, ◌&&◌, ◌==◌, not, ℕ, Bool, true, false, List, [], ◌∷◌}
use Rattle.std.specs.Prelude.{◌++◌, length, take, Option, Some, None}
use Rattle.std.specs.List.{filter, list_any}
use Rattle.rf2_values.specs.declared.row.Kind.{Kind}
use Rattle.rf2_values.specs.declared.row.Kind.TheVariants as kinds
use Rattle.rf2_values.specs.Row.{RowValue, kind_of}
use Rattle.history_model.specs.Queries.{is_kind, is_version_of, get, all_above}
use Rattle.snapshot_check.specs.declared.told.Told.{Told}
use Rattle.snapshot_check.specs.declared.found.Counts.{Counts}
use Rattle.snapshot_check.specs.declared.found.Differences.{Differences}
use Rattle.snapshot_check.specs.declared.found.DifferentRow.{DifferentRow}

-- the rows that a pin shows of a store, in the order of their keys, and the date
pub record ShownRows : Type 0 where
  pub rows : List RowValue
  pub date : ℕ

-- the row of a component that is shown at the date, if there is one
abbrev pub shown_component : ShownRows → Kind → ℕ → Option RowValue
shown_component shown kind id = get kind id shown.date shown.rows

-- that of the component of a row of the Snapshot
abbrev pub shown_of : ShownRows → RowValue → Option RowValue
shown_of shown row = shown_component shown (kind_of row) row.id

-- all rows of a kind that are shown at the date
abbrev pub shown_of_kind : ShownRows → Kind → List RowValue
shown_of_kind shown kind = all_above kind shown.date None shown.rows

-- all rows that are shown at the date, one kind after the other
abbrev pub all_shown : ShownRows → List RowValue
all_shown shown =
    shown_of_kind shown kinds.Concept ++ shown_of_kind shown kinds.Description
    ++ shown_of_kind shown kinds.Relationship ++ shown_of_kind shown kinds.Association
    ++ shown_of_kind shown kinds.Concrete ++ shown_of_kind shown kinds.Member

-- no row is shown of its component
abbrev pub IsMissing : ShownRows → RowValue → Type 0
IsMissing shown row = shown_of shown row ≡ None

-- another row is shown of its component
pub record IsDifferent (reads : RowValue → RowValue → Type 0) (shown : ShownRows)
    (row other : RowValue) : Type 0 where
  pub wanted : RowValue
  pub component : shown_of shown row ≡ Some wanted
  pub read : reads other wanted
  pub differs : other ≢ row

-- the same row is shown
pub record Agrees (reads : RowValue → RowValue → Type 0) (shown : ShownRows)
    (row : RowValue) : Type 0 where
  pub wanted : RowValue
  pub component : shown_of shown row ≡ Some wanted
  pub read : reads row wanted

-- whether some row of the Snapshot names the module of this row
abbrev pub is_of_modules : List RowValue → RowValue → Bool
is_of_modules packaged row = list_any (λ other. other.module_id == row.module_id) packaged

-- whether a row that is shown is of a module of the package, and the Snapshot has no row of its
-- component
abbrev pub is_more : List RowValue → RowValue → Bool
is_more packaged row =
    is_of_modules packaged row && not (list_any (is_version_of (kind_of row) row.id) packaged)

-- Those of the items that `Is` holds for, each as what it makes of it, in their order. For each
-- item that is left out `Other` holds.
abbrev pub ArePicked : {X Y : Type 0} → (Is : X → Y → Type 0) → (Other : X → Type 0) → List X
    → List Y → Type 0
ArePicked Is Other [] picked = picked ≡ []
ArePicked {X} {Y} Is Other (x ∷ xs) picked =
    ((y : Y) × (rest : List Y) × (picked ≡ y ∷ rest) × Is x y × ArePicked Is Other xs rest)
    ⊎ (Other x × ArePicked Is Other xs picked)

-- the first items of a list, up to a limit, and how many it has
abbrev pub IsTold : {X : Type 0} → ℕ → List X → Told X → Type 0
IsTold limit all told = (told.listed.items ≡ take limit all) × (told.count ≡ length all)

-- those of the items that are so, of which the first are listed, and all are counted
pub record AreTold {X Y : Type 0} (Is : X → Y → Type 0) (Other : X → Type 0) (items : List X)
    (limit : ℕ) (told : Told Y) : Type 0 where
  pub all : List Y
  pub picked : ArePicked Is Other items all
  pub told_so : IsTold limit all told

-- the number of rows of a kind
abbrev pub count_of : Counts → Kind → ℕ
count_of counts kinds.Concept = counts.concepts
count_of counts kinds.Description = counts.descriptions
count_of counts kinds.Relationship = counts.relationships
count_of counts kinds.Association = counts.associations
count_of counts kinds.Concrete = counts.concretes
count_of counts kinds.Member = counts.members

-- a row of the Snapshot is missing, and told as it is; or some row is shown of its component
abbrev pub TellsMissing : ShownRows → RowValue → RowValue → Type 0
TellsMissing shown row told = IsMissing shown row × (told ≡ row)

abbrev pub IsShown : ShownRows → RowValue → Type 0
IsShown shown row = (other : RowValue) × (shown_of shown row ≡ Some other)

-- a row of the Snapshot is told with the other one that is shown; or it is missing, or agrees
abbrev pub TellsDifferent : (reads : RowValue → RowValue → Type 0) → ShownRows → RowValue
    → DifferentRow → Type 0
TellsDifferent reads shown row told =
    (told.packaged ≡ row) × IsDifferent reads shown row told.shown

abbrev pub HasNoOther : (reads : RowValue → RowValue → Type 0) → ShownRows → RowValue → Type 0
HasNoOther reads shown row = IsMissing shown row ⊎ Agrees reads shown row

-- what was read for a row that is shown is more, or isn't
abbrev pub TellsMore : (reads : RowValue → RowValue → Type 0) → List RowValue → RowValue → RowValue
    → Type 0
TellsMore reads packaged wanted read = reads read wanted × (is_more packaged read ≡ true)

abbrev pub IsExpected : (reads : RowValue → RowValue → Type 0) → List RowValue → RowValue → Type 0
IsExpected reads packaged wanted =
    (read : RowValue) × reads read wanted × (is_more packaged read ≡ false)

-- How the rows that are shown differ from those of the package's Snapshot: of the Snapshot's rows,
-- in the order in which they are given, those that are missing and those that differ; of the rows
-- that are shown, in their order, those that are more.
pub record AreDifferences (reads : RowValue → RowValue → Type 0) (packaged : List RowValue)
    (shown : ShownRows) (limit : ℕ) (found : Differences) : Type 0 where
  pub counted : (kind : Kind)
      → count_of found.counts kind ≡ length (filter (is_kind kind) packaged)
  pub missing : AreTold (TellsMissing shown) (IsShown shown) packaged limit found.missing
  pub different :
      AreTold (TellsDifferent reads shown) (HasNoOther reads shown) packaged limit found.different
  pub more : AreTold (TellsMore reads packaged) (IsExpected reads packaged) (all_shown shown) limit
      found.more

-- what is returned of an honest store for a row that is shown is that row
abbrev pub Exactly : RowValue → RowValue → Type 0
Exactly read wanted = read ≡ wanted
