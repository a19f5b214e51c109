-- Rows that were read and then put in order are an answer in this order.
use Rattle.std.proofs.Common.{◌≡◌, ◌+◌, ◌≤◌, ℕ, List, [], ◌∷◌, refl, sym, ap, subst, ◌∙◌, arith}
use Rattle.std.specs.Prelude.{Ok, Err, length}
use Rattle.std.specs.List.{sum_by}
use Rattle.std.specs.List.Sorted.{IsPermutation, IsSorted}
use Rattle.std.specs.Cmp.{IsTotalOrder}
use Rattle.std.specs.declared.cmp.Ordering.{Ordering}
use Rattle.std.proofs.lemmas.List.Sorted.{length_permutation, sum_by-IsPermutation}
use Rattle.rf2_values.specs.Row.{RowValue}
use Rattle.history_model.specs.declared.stamped.StampedRow.{StampedRow}
use Rattle.history_model.specs.InOrder.{in_order}
use Rattle.fault_counts.specs.declared.fault.ReadFault.{ReadFault}
use Rattle.as_of_index.specs.Reader.{ReaderView, IsRowsRead, IsOrderedRead}
use Rattle.links.proofs.Arranged.{ApartBy, in_order_is, in_order_moved}

pub ordered_read : {T : Type 0} (rows_of : T → List RowValue) {order : RowValue → RowValue → Ordering} (total : IsTotalOrder order) (wanted : List (List StampedRow) → List RowValue) (Kept : List (List StampedRow) → Type 0) (cost : RowValue → ℕ) (old new : ReaderView) (read after : T)
    → ApartBy order (wanted old.lists) → IsRowsRead {T = T} (Ok read) rows_of wanted Kept cost old new → IsPermutation (rows_of read) (rows_of after) → IsSorted order (rows_of after)
    → IsOrderedRead {T = T} (Ok after) rows_of (λ lists. in_order order (wanted lists)) Kept cost old new
ordered_read rows_of {order} total wanted Kept cost old new read after apart as_read moved sorted =
    let those : List RowValue = wanted old.lists in
    let arranged = in_order_moved total those apart in record {
      rows = λ so. (
          let answers = as_read.rows so in record {
            each = record {
              read = rows_of read;
              those = those;
              each = answers.each;
              given_are = moved;
              wanted_are = arranged;
              in_order = λ same. in_order_is total those (rows_of after) apart (subst (λ xs. IsPermutation xs (rows_of after)) same moved) sorted;
            };
            undamaged = λ honest. tt;
            causes = λ none. tt;
            work_always = subst (λ n. new.work ≤ old.work + n) (sym (sum_by-IsPermutation cost those (in_order order those) arranged)) answers.work_always;
          });
      work = subst (λ n. new.work ≤ old.work + n) (sym (sum_by-IsPermutation cost (rows_of read) (rows_of after) moved)) as_read.work;
      reader = record { lists = as_read.reader.lists; honesty = as_read.reader.honesty; steady = as_read.reader.steady; disk_faults = as_read.reader.disk_faults; damages = as_read.reader.damages };
    }

none_in : (rows : List RowValue) → length rows ≡ 0 → rows ≡ []
none_in [] e = refl
none_in (row ∷ rows) e = absurd (omega (arith, e))

pub ordered_refused : {T : Type 0} (rows_of : T → List RowValue) {order : RowValue → RowValue → Ordering} (total : IsTotalOrder order) (wanted : List (List StampedRow) → List RowValue) (Kept : List (List StampedRow) → Type 0) (cost : RowValue → ℕ) (old new : ReaderView) (fault : ReadFault)
    → ApartBy order (wanted old.lists) → IsRowsRead {T = T} (Err fault) rows_of wanted Kept cost old new → IsOrderedRead {T = T} (Err fault) rows_of (λ lists. in_order order (wanted lists)) Kept cost old new
ordered_refused rows_of {order} total wanted Kept cost old new fault apart as_read =
    let those : List RowValue = wanted old.lists in
    let arranged = in_order_moved total those apart in record {
      rows = λ so. (
          let answers = as_read.rows so in record {
            each = tt;
            undamaged = answers.undamaged;
            causes = λ none. answers.causes (none_in those (
                let same = length_permutation those (in_order order those) arranged in
                let empty = ap (λ (rows : List RowValue). length rows) none in
                omega (arith, same, empty)));
            work_always = subst (λ n. new.work ≤ old.work + n) (sym (sum_by-IsPermutation cost those (in_order order those) arranged)) answers.work_always;
          });
      work = tt;
      reader = as_read.reader;
    }
