-- What is left of the answers on any disk if it isn't said which rows may be stored.
use Rattle.std.proofs.Common.{inl, inr, Result, Ok, Err}
use Rattle.rf2_values.specs.Row.{RowValue}
use Rattle.history_model.specs.declared.receipt.Receipt.{Receipt}
use Rattle.history_model.specs.History.{History, full}
use Rattle.import_check.specs.declared.release.Release.{Release}
use Rattle.import_check.specs.declared.fault.ImportFault.TheVariants as importfault
use Rattle.import_check.proofs.MoreStored.{more_brought, more_refused}
use Rattle.history_store.specs.declared.refusal.Refusal.{Refusal}
use Rattle.history_store.specs.declared.refusal.Refusal.TheVariants as refusals
use Rattle.history_store.specs.Catalog.{Catalog}
use Rattle.history_store.specs.StoreValue.{StoreValue}
use Rattle.history_store.specs.Answers.{AnyRow, IsTakenByKey, IsNotTakenByKey, WouldBeTakenByKey, IsRefusedFor, IsImportOnAnyDisk}
use Rattle.history_store.specs.Checking.{IsCheckingOnAnyDisk}
use Rattle.history_store.proofs.ForeseenByKey.{lacks_any}

module _ {may_be : RowValue → Type 0} {h : History} {catalog : Catalog} {release : Release} where
  taken_any : {after : History} {next : Catalog} {receipt : Receipt} → IsTakenByKey may_be h after catalog next release receipt → IsTakenByKey AnyRow h after catalog next release receipt
  taken_any taken = record {
    room = taken.room;
    fresh = taken.fresh;
    brings = more_brought (full h) may_be AnyRow (λ row may. tt) release taken.fresh taken.brings;
    history = taken.history;
    receipt_is = taken.receipt_is;
    catalog_is = taken.catalog_is;
  }

  would_be_any : WouldBeTakenByKey may_be h catalog release → WouldBeTakenByKey AnyRow h catalog release
  would_be_any would = record {
    room = would.room;
    fresh = would.fresh;
    brings = more_brought (full h) may_be AnyRow (λ row may. tt) release would.fresh would.brings;
    next = would.next;
    catalog_is = would.catalog_is;
  }

module _ {D : Type 0} (may_be : RowValue → Type 0) (s : StoreValue D) (release : Release) (Writes Wrote : Type 0) (more : Writes → Wrote) where
  refused_any : (e : Refusal) → IsRefusedFor (IsNotTakenByKey may_be Writes s.history s.catalog release) e s → IsRefusedFor (IsNotTakenByKey AnyRow Wrote s.history s.catalog release) e s
  refused_any refusals.DiskFault why = (why.0, (why.1.0, elim why.1.1 [ inl stored ↦ inl stored | inr writes ↦ inr (more writes) ]))
  refused_any refusals.TooManySegments why = (why.0, lacks_any why.1)
  refused_any refusals.Full why = (why.0, lacks_any why.1)
  refused_any (refusals.Contradiction file line) why =
      let key = why.1.1.0 in
      (why.0, (why.1.0, (key, more_refused (full s.history) may_be AnyRow (λ row may. tt) release (importfault.Contradiction file line key) why.1.1.1)))
  refused_any refusals.OutOfMemory why = why
  refused_any refusals.ReopenNeeded why = why
  refused_any refusals.CountSpent why = why
  refused_any refusals.LaterVersion why = why
  refused_any (refusals.Line file line fault) why = why
  refused_any refusals.Damaged why = why
  refused_any _ why = absurd why.1

pub import_any : {D : Type 0} (may_be : RowValue → Type 0) (result : Result Receipt Refusal) (old new : StoreValue D) (release : Release) → IsImportOnAnyDisk may_be result old new release → IsImportOnAnyDisk AnyRow result old new release
import_any may_be (Ok receipt) old new release is = (taken_any is.0, is.1, is.2)
import_any may_be (Err e) old new release is = (refused_any may_be old release (WouldBeTakenByKey may_be old.history old.catalog release) (WouldBeTakenByKey AnyRow old.history old.catalog release) would_be_any e is.0, is.1)

pub check_any : {D : Type 0} (may_be : RowValue → Type 0) (result : Result Receipt Refusal) (old new : StoreValue D) (release : Release) → IsCheckingOnAnyDisk may_be result old new release → IsCheckingOnAnyDisk AnyRow result old new release
check_any may_be (Ok receipt) old new release is = ((is.0.0, is.0.1, taken_any is.0.2), is.1)
check_any may_be (Err e) old new release is = (refused_any may_be old release ⊥ ⊥ (λ never. never) e is.0, is.1)
