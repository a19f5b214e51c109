-- What was read of the lists that an index has, and a component's row as a list.
use Rattle.std.proofs.Common.{◌≡◌, ◌+◌, ◌≤◌, ℕ, Bool, List, Result, Ok, Err, sym, subst, refl}
use Rattle.std.specs.List.{sum_by}
use Rattle.rf2_values.specs.Row.{RowValue}
use Rattle.history_model.specs.declared.stamped.StampedRow.{StampedRow}
use Rattle.fault_counts.specs.declared.fault.ReadFault.{ReadFault}
use Rattle.fault_counts.specs.declared.fault.ReadFault.TheVariants as readfault
use Rattle.as_of_index.specs.Reader.{ReaderView, IsReadFor, AreFor, AnswersRowsBy, IsRowsReadBy}

module _ {T : Type 0} {put_in_order : Bool} {rows_of : T → List RowValue} {wanted : List (List StampedRow) → List RowValue} {Kept : List (List StampedRow) → Type 0} {cost : RowValue → ℕ} {old new : ReaderView} where
  -- the lists are those that the index has
  pub of_index : {result : Result T ReadFault} (lists : List (List StampedRow)) → IsRowsReadBy put_in_order result rows_of wanted Kept cost old new → Kept lists → IsRowsReadBy put_in_order result rows_of wanted (λ those. those ≡ lists) cost old new
  of_index lists read kept = record { rows = λ same. read.rows (subst Kept (sym same) kept); work = read.work; reader = read.reader }

  module _ {U : Type 0} (items_of : U → List RowValue) where
    -- the same rows in another form
    pub told_as : (x : T) (y : U) → items_of y ≡ rows_of x → IsRowsReadBy put_in_order (Ok x) rows_of wanted Kept cost old new → IsRowsReadBy put_in_order (Ok y) items_of wanted Kept cost old new
    told_as x y same read = record {
      rows = λ kept. (
          let r = read.rows kept in record {
            each = subst (λ (rows : List RowValue). AreFor put_in_order (IsReadFor old) rows (wanted old.lists)) (sym same) r.each;
            undamaged = λ honest. tt;
            causes = λ none. tt;
            work_always = r.work_always;
          });
      work = subst (λ (rows : List RowValue). new.work ≤ old.work + sum_by cost rows) (sym same) read.work;
      reader = record { lists = read.reader.lists; honesty = read.reader.honesty; steady = read.reader.steady; disk_faults = read.reader.disk_faults; damages = read.reader.damages };
    }

    -- what the reader refused
    pub refused_as : (fault : ReadFault) → IsRowsReadBy {T = T} put_in_order (Err fault) rows_of wanted Kept cost old new → IsRowsReadBy {T = U} put_in_order (Err fault) items_of wanted Kept cost old new
    refused_as fault read = record {
      rows = λ kept. (
          let r = read.rows kept in record {
            each = tt;
            undamaged = r.undamaged;
            causes = r.causes;
            work_always = r.work_always;
          });
      work = tt;
      reader = record { lists = read.reader.lists; honesty = read.reader.honesty; steady = read.reader.steady; disk_faults = read.reader.disk_faults; damages = read.reader.damages };
    }

    -- rows were read, and memory lacks for the answer
    pub lacking : (x : T) → IsRowsReadBy put_in_order (Ok x) rows_of wanted Kept cost old new → IsRowsReadBy {T = U} put_in_order (Err readfault.OutOfMemory) items_of wanted Kept cost old new
    lacking x read = record {
      rows = λ kept. record {
        each = tt;
        undamaged = λ honest damaged. absurd (cc);
        causes = λ none. refl;
        work_always = (read.rows kept).work_always;
      };
      work = tt;
      reader = record { lists = read.reader.lists; honesty = read.reader.honesty; steady = read.reader.steady; disk_faults = read.reader.disk_faults; damages = read.reader.damages };
    }

-- the same rows are wanted
pub wanting : {T : Type 0} {put_in_order : Bool} {result : Result T ReadFault} {rows_of : T → List RowValue} {Kept : List (List StampedRow) → Type 0} {cost : RowValue → ℕ} {old new : ReaderView} (wanted other : List (List StampedRow) → List RowValue)
    → ((lists : List (List StampedRow)) → wanted lists ≡ other lists) → IsRowsReadBy put_in_order result rows_of wanted Kept cost old new → IsRowsReadBy put_in_order result rows_of other Kept cost old new
wanting {put_in_order = put_in_order} {result = result} {rows_of = rows_of} {cost = cost} {old = old} {new = new} wanted other same read = record {
  rows = λ kept. subst (λ (those : List RowValue). AnswersRowsBy put_in_order result rows_of those cost old new) (same old.lists) (read.rows kept);
  work = read.work;
  reader = read.reader;
}
