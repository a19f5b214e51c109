-- What is known while rows are compared. No public clause cites these definitions.
use Rattle.std.specs.Prelude.{◌≡◌, ◌==◌, ◌||◌, ℕ, true, false, cond, List, [], ◌∷◌, ◌++◌, map}
use Rattle.std.specs.List.{filter, list_any}
use Rattle.std.specs.List.Sorted.{IsPermutation, IsSorted}
use Rattle.std.specs.Ordering.{nat_cmp}
use Rattle.rf2_values.specs.declared.row.Kind.{Kind}
use Rattle.rf2_values.specs.declared.row.Kind.TheVariants as kinds
use Rattle.rf2_values.specs.Row.{RowValue}
use Rattle.rf2_values.specs.Key.{kind_place}
use Rattle.history_model.specs.Queries.{is_kind}
use Rattle.snapshot_check.specs.declared.seen.Seen.{Seen}
use Rattle.snapshot_check.specs.declared.comparing.Compared.{Compared}
use Rattle.snapshot_check.specs.declared.comparing.Verdict.{Verdict}
use Rattle.snapshot_check.specs.declared.comparing.Verdict.TheVariants as verdict
use Rattle.snapshot_check.specs.declared.told.Told.{Told}
use Rattle.snapshot_check.specs.Differences.{ShownRows, ArePicked, IsTold, AreTold, TellsMissing}
use Rattle.snapshot_check.specs.Differences.{IsShown, TellsDifferent, HasNoOther, Agrees}
use Rattle.snapshot_check.specs.Differences.{TellsMore, IsExpected, is_more}

abbrev pub ids_of : Seen → Kind → List ℕ
ids_of seen kinds.Concept = seen.concepts.items
ids_of seen kinds.Description = seen.descriptions.items
ids_of seen kinds.Relationship = seen.relationships.items
ids_of seen kinds.Association = seen.associations.items
ids_of seen kinds.Concrete = seen.concretes.items
ids_of seen kinds.Member = seen.members.items

-- the identifiers of the rows of a kind
abbrev pub ids_in : List RowValue → Kind → List ℕ
ids_in packaged kind = map (λ row. row.id) (filter (is_kind kind) packaged)

-- the modules that rows name
abbrev pub AreModules : List RowValue → List ℕ → Type 0
AreModules packaged modules = (n : ℕ)
    → list_any (λ other. other == n) modules ≡ list_any (λ row. row.module_id == n) packaged

-- these rows were seen
pub record IsSeen (packaged : List RowValue) (seen : Seen) : Type 0 where
  pub ids : (kind : Kind) → ids_of seen kind ≡ ids_in packaged kind
  pub modules : AreModules packaged seen.modules.items

-- the identifier as a list, if the kinds are the same
abbrev pub id_if_same : Kind → Kind → ℕ → List ℕ
id_if_same kind other id = cond (kind_place kind == kind_place other) (id ∷ []) []

-- an identifier was added to those of a kind
pub record AddsId (kind : Kind) (id : ℕ) (old new : Seen) : Type 0 where
  pub ids : (other : Kind) → ids_of new other ≡ ids_of old other ++ id_if_same kind other id
  pub modules : new.modules ≡ old.modules

-- a module was added to those that were named
abbrev pub AddsModule : ℕ → List ℕ → List ℕ → Type 0
AddsModule module_id old new = (n : ℕ)
    → list_any (λ other. other == n) new ≡ (list_any (λ other. other == n) old || module_id == n)

-- these rows were seen, and the identifiers are in order
pub record IsSortedSeen (packaged : List RowValue) (seen : Seen) : Type 0 where
  pub ids : (kind : Kind) → IsPermutation (ids_in packaged kind) (ids_of seen kind)
  pub sorted : (kind : Kind) → IsSorted nat_cmp (ids_of seen kind)
  pub modules : AreModules packaged seen.modules.items

-- nothing was told yet
abbrev pub IsNothingTold : {X : Type 0} → Told X → Type 0
IsNothingTold told = (told.listed.items ≡ []) × (told.count ≡ 0)

-- an item was added to a list of which the first items are told
abbrev pub IsNoted : {X : Type 0} → ℕ → X → Told X → Told X → Type 0
IsNoted {X} limit item old new =
    (all : List X) → IsTold limit all old → IsTold limit (all ++ item ∷ []) new

-- Some items were added to a list of which the first items are told: those of `items` that `Is`
-- holds for, each as what it makes of it.
pub record Adds {X Y : Type 0} (Is : X → Y → Type 0) (Other : X → Type 0) (items : List X)
    (limit : ℕ) (old new : Told Y) : Type 0 where
  pub picked : List Y
  pub are : ArePicked Is Other items picked
  pub told : (all : List Y) → IsTold limit all old → IsTold limit (all ++ picked) new

-- what a row of the Snapshot is, against the one that is shown of its component
abbrev pub IsVerdictOn : (reads : RowValue → RowValue → Type 0) → ShownRows → RowValue → Verdict
    → Type 0
IsVerdictOn reads shown row (verdict.Missing told) = TellsMissing shown row told
IsVerdictOn reads shown row (verdict.Different told) = TellsDifferent reads shown row told
IsVerdictOn reads shown row verdict.Same = Agrees reads shown row

-- a verdict was noted
abbrev pub Notes : ℕ → Verdict → (old new : Compared) → Type 0
Notes limit (verdict.Missing row) old new =
    IsNoted limit row old.missing new.missing × (new.different ≡ old.different)
Notes limit (verdict.Different row) old new =
    IsNoted limit row old.different new.different × (new.missing ≡ old.missing)
Notes limit verdict.Same old new =
    (new.missing ≡ old.missing) × (new.different ≡ old.different)

-- a row of the Snapshot was compared with the one that is shown of its component
pub record IsTaken (reads : RowValue → RowValue → Type 0) (shown : ShownRows) (limit : ℕ)
    (row : RowValue) (old new : Compared) : Type 0 where
  pub seen : (rows : List RowValue) → IsSeen rows old.seen → IsSeen (rows ++ row ∷ []) new.seen
  pub missing : Adds (TellsMissing shown) (IsShown shown) (row ∷ []) limit old.missing new.missing
  pub different : Adds (TellsDifferent reads shown) (HasNoOther reads shown) (row ∷ []) limit
      old.different new.different

-- of rows that were read those that are more were added
abbrev pub IsItself : List RowValue → RowValue → RowValue → Type 0
IsItself packaged read told = (told ≡ read) × (is_more packaged read ≡ true)

abbrev pub AddsThose : List RowValue → List RowValue → ℕ → Told RowValue → Told RowValue → Type 0
AddsThose packaged read limit old new =
    Adds (IsItself packaged) (λ row. is_more packaged row ≡ false) read limit old new

-- of rows that are shown those that are more were added
abbrev pub AddsMore : (reads : RowValue → RowValue → Type 0) → (packaged wanted : List RowValue)
    → ℕ → Told RowValue → Told RowValue → Type 0
AddsMore reads packaged wanted limit old new =
    Adds (TellsMore reads packaged) (IsExpected reads packaged) wanted limit old new

-- these rows were compared with those that are shown
pub record IsCompared (reads : RowValue → RowValue → Type 0) (packaged : List RowValue)
    (shown : ShownRows) (limit : ℕ) (compared : Compared) : Type 0 where
  pub seen : IsSeen packaged compared.seen
  pub missing : AreTold (TellsMissing shown) (IsShown shown) packaged limit compared.missing
  pub different : AreTold (TellsDifferent reads shown) (HasNoOther reads shown) packaged limit
      compared.different
