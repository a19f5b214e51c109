-- What is made from a release before the first write. Only private functions cite these
-- definitions.
use Rattle.std.specs.Prelude.{◌≡◌, ◌+◌, ◌≤◌, [], length, Result, Ok, Err}
use Rattle.rf2_values.specs.Row.{RowValue}
use Rattle.history_model.specs.declared.receipt.Receipt.{Receipt}
use Rattle.history_model.specs.History.{IsHistory, full, stamped}
use Rattle.directory.specs.Private.{after_import}
use Rattle.import_check.specs.declared.release.Release.{Release}
use Rattle.import_check.specs.declared.found.NewRows.{NewRows}
use Rattle.import_check.specs.NewRows.{IsAcceptedAs, BringsByKey}
use Rattle.history_store.specs.declared.refusal.Refusal.{Refusal}
use Rattle.history_store.specs.declared.checking.Ready.{Ready}
use Rattle.history_store.specs.declared.checking.Next.{Next}
use Rattle.history_store.specs.declared.checking.Next.TheVariants as nexts
use Rattle.history_store.specs.Prepared.{IsAdmitted}
use Rattle.history_store.specs.StoreValue.{StoreValue}
use Rattle.history_store.specs.Private.StoreValue.{directory_of}
use Rattle.history_store.specs.Private.Prepared.{IsPrepared}

-- the next directory: with a segment of the new rows, or without one if there are none
abbrev pub IsNextFor : {D : Type 0} → StoreValue D → NewRows → Next → Type 0
IsNextFor s fresh (nexts.WithoutSegment directory) =
    (fresh.rows.items ≡ []) × (directory ≡ after_import (directory_of s))
IsNextFor s fresh (nexts.WithSegment prepared) = (1 ≤ length fresh.rows.items)
    × IsPrepared (directory_of s) s.catalog.merge (stamped (s.history.imports + 1) fresh.rows.items)
    prepared
    × (prepared.index.words ≡ s.words)

-- the release would be accepted, and `ready` has the receipt of an import and what it writes
pub record IsMadeReady {D : Type 0} (honest : Type 0) (may_be : RowValue → Type 0)
    (s : StoreValue D) (release : Release) (ready : Ready) : Type 0 where
  pub history : IsHistory s.history
  pub room : IsAdmitted s.history s.catalog release
  pub fresh : NewRows
  pub brings : BringsByKey (full s.history) may_be release fresh
  pub accepted : honest → IsAcceptedAs (full s.history) release fresh
  pub receipt_is : ready.receipt ≡ record {
    number = s.history.imports + 1;
    new = length fresh.rows.items;
    repeated = fresh.repeated;
  }
  pub next_is : IsNextFor s fresh ready.next

-- the result of a check, which is that of `make_ready` without what would be written
abbrev pub checked : Result Ready Refusal → Result Receipt Refusal
checked (Ok ready) = Ok ready.receipt
checked (Err e) = Err e
