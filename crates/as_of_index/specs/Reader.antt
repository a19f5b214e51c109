-- What a reader of rows shows, and what a query that reads rows through it does.
use Rattle.std.specs.Prelude.{◌≡◌, ◌≢◌, ◌+◌, ◌≤◌, ℕ, Bool, true, false, List, [], Result}
use Rattle.std.specs.Prelude.{IfOk, IfErr}
use Rattle.std.specs.List.{sum_by, AllZip}
use Rattle.std.specs.List.Sorted.{IsPermutation}
use Rattle.rf2_values.specs.Row.{RowValue}
use Rattle.rf2_values.specs.Key.{key_of}
use Rattle.history_model.specs.declared.stamped.StampedRow.{StampedRow}
use Rattle.segment.specs.declared.place.RowPlace.{RowPlace}
use Rattle.segment.specs.Standing.{StandsAt}
use Rattle.fault_counts.specs.Counting.{Counts, CountsDiskFault, CountsDamage}
use Rattle.fault_counts.specs.declared.fault.ReadFault.{ReadFault}
use Rattle.fault_counts.specs.declared.fault.ReadFault.TheVariants as readfault

-- a reader of rows at one time, as clauses see it
pub record ReaderView : Type 1 where
  -- its lists of rows
  pub lists : List (List StampedRow)
  -- the rows that it returns are those of its lists
  pub is_honest : Type 0
  -- the row may be at the place of the list with this number, by what it reads, honest or not
  pub may_be : ℕ → RowPlace → StampedRow → Type 0
  -- how much has been read, in a measure that the reader chooses: bytes, or rows
  pub work : ℕ
  -- how often a call failed with `DiskFault`
  pub disk_faults : ℕ
  -- how often a call failed with `Damaged`
  pub damages : ℕ

-- the row was returned for a place: it has the place's key, and is one that may be there; if the
-- reader is honest it is the row that stands there
pub record IsReturned (view : ReaderView) (segment : ℕ) (at : RowPlace) (row : StampedRow)
    : Type 0 where
  pub keyed : key_of row.row ≡ at.key
  pub may_be : view.may_be segment at row
  pub exact : view.is_honest → (there : StampedRow) → StandsAt view.lists segment at there
      → row ≡ there

-- the effect of a call on a reader, whatever the result: its lists are unchanged, an honest reader
-- stays honest, no further row may be at a place, and each count of errors rises if its error is
-- returned, and otherwise is unchanged
pub record LeavesReader {T : Type 0} (result : Result T ReadFault) (old new : ReaderView)
    : Type 0 where
  pub lists : new.lists ≡ old.lists
  pub honesty : old.is_honest → new.is_honest
  pub steady : (segment : ℕ) (at : RowPlace) (row : StampedRow) → new.may_be segment at row
      → old.may_be segment at row
  pub disk_faults : Counts CountsDiskFault result old.disk_faults new.disk_faults
  pub damages : Counts CountsDamage result old.damages new.damages

-- the row was returned for the place of the wanted one
pub record IsReadFor (view : ReaderView) (row wanted : RowValue) : Type 0 where
  pub segment : ℕ
  pub at : RowPlace
  pub there : StampedRow
  pub wanted_is : wanted ≡ there.row
  pub stands : StandsAt view.lists segment at there
  pub read : StampedRow
  pub row_is : row ≡ read.row
  pub returned : IsReturned view segment at read

-- Rows were put in order once they were read. If those that were read are the wanted ones, those
-- that are given are them in their order.
pub record ArePutInOrder (IsFor : RowValue → RowValue → Type 0) (given wanted : List RowValue)
    : Type 0 where
  pub read : List RowValue
  pub those : List RowValue
  pub each : AllZip IsFor read those
  pub given_are : IsPermutation read given
  pub wanted_are : IsPermutation those wanted
  pub in_order : read ≡ those → given ≡ wanted

-- each row that is given is one for the wanted one, which has the same place in the list, unless
-- they were put in order once they were read
abbrev pub AreFor : (put_in_order : Bool) → (RowValue → RowValue → Type 0)
    → (given wanted : List RowValue) → Type 0
AreFor false IsFor given wanted = AllZip IsFor given wanted
AreFor true IsFor given wanted = ArePutInOrder IsFor given wanted

-- The result of a query for the wanted rows; `rows_of` gives the rows in it. Each of these was
-- returned for the place of a wanted one, as `AreFor` says. The disk fails or a row is damaged only
-- if one is wanted, and with an honest reader none is damaged. Whatever the result,
-- no more is read than the wanted rows take, each counted once.
pub record AnswersRowsBy {T : Type 0} (put_in_order : Bool) (result : Result T ReadFault)
    (rows_of : T → List RowValue) (wanted : List RowValue) (cost : RowValue → ℕ)
    (old new : ReaderView) : Type 0 where
  pub each : IfOk result (λ x. AreFor put_in_order (IsReadFor old) (rows_of x) wanted)
  pub undamaged : old.is_honest → IfErr result (λ e. e ≢ readfault.Damaged)
  pub causes : wanted ≡ [] → IfErr result (λ e. e ≡ readfault.OutOfMemory)
  pub work_always : new.work ≤ old.work + sum_by cost wanted

abbrev pub AnswersRows : {T : Type 0} → Result T ReadFault → (T → List RowValue) → List RowValue
    → (RowValue → ℕ) → ReaderView → ReaderView → Type 0
AnswersRows = AnswersRowsBy false

-- A query for rows: `wanted` gives the wanted ones, from the reader's lists. This holds if
-- `is_kept` does, which says that the index and the postings in memory are those of these lists. In
-- any case no more is read than the returned rows take, each read once.
pub record IsRowsReadBy {T : Type 0} (put_in_order : Bool) (result : Result T ReadFault)
    (rows_of : T → List RowValue) (wanted : List (List StampedRow) → List RowValue)
    (is_kept : List (List StampedRow) → Type 0) (cost : RowValue → ℕ) (old new : ReaderView)
    : Type 0 where
  pub rows :
      is_kept old.lists → AnswersRowsBy put_in_order result rows_of (wanted old.lists) cost old new
  pub work : IfOk result (λ x. new.work ≤ old.work + sum_by cost (rows_of x))
  pub reader : LeavesReader result old new

-- a query whose rows are in the order of the wanted ones
abbrev pub IsRowsRead : {T : Type 0} → Result T ReadFault → (T → List RowValue)
    → (List (List StampedRow) → List RowValue) → (List (List StampedRow) → Type 0)
    → (RowValue → ℕ) → ReaderView → ReaderView → Type 0
IsRowsRead = IsRowsReadBy false

-- a query whose rows are put in order once they are read
abbrev pub IsOrderedRead : {T : Type 0} → Result T ReadFault → (T → List RowValue)
    → (List (List StampedRow) → List RowValue) → (List (List StampedRow) → Type 0)
    → (RowValue → ℕ) → ReaderView → ReaderView → Type 0
IsOrderedRead = IsRowsReadBy true
