-- What is known while a store is compared with a package's Snapshot.
use Rattle.std.specs.Prelude.{◌≡◌, ◌⊎◌, List, Bool, false, Result, Err, IfOk, IfErr, OnOk}
use Rattle.std.specs.List.{AllZip}
use Rattle.rf2_values.specs.Row.{RowValue}
use Rattle.disk_model.specs.View.{DiskView}
use Rattle.fault_counts.specs.Counting.{HasRisen}
use Rattle.fault_counts.specs.declared.fault.ReadFault.{ReadFault}
use Rattle.fault_counts.specs.declared.fault.ReadFault.TheVariants as readfault
use Rattle.segment_index.specs.declared.words.Words.{Words}
use Rattle.index_answers.specs.Words.{lacks_words}
use Rattle.index_answers.specs.Keys.{is_put_in_order}
use Rattle.question_model.specs.Questions.{RowQuestion}
use Rattle.history_model.specs.History.{rows_at}
use Rattle.history_store.specs.declared.refusal.Refusal.{Refusal}
use Rattle.history_store.specs.declared.refusal.Refusal.TheVariants as store_refusals
use Rattle.history_store.specs.Refusals.{of_read}
use Rattle.history_store.specs.StoreValue.{StoreValue}
use Rattle.history_store.specs.Stored.{IsStored}
use Rattle.snapshot_check.specs.declared.fault.PackageFault.TheVariants as packagefault
use Rattle.snapshot_check.specs.declared.fault.CompareFault.{CompareFault}
use Rattle.snapshot_check.specs.declared.fault.CompareFault.TheVariants as comparefault
use Rattle.line_server.specs.declared.refusal.LineRefusal.{LineRefusal}
use Rattle.line_server.specs.declared.refusal.LineRefusal.TheVariants.{Store, NoFolder}
use Rattle.command_line.specs.Endings.{Report, Tells}
use Rattle.command_line.specs.OnlyRead.{IsOnlyRead}
use Rattle.command_line.specs.Verifying.{MayBeReadFor}

-- the question isn't for words, and its rows are found in the order in which they are read
abbrev pub IsPlain : RowQuestion → Type 0
IsPlain question =
    (is_put_in_order question ≡ false) × ((kept : Words) → lacks_words question kept ≡ false)

-- only reads were made on the disk, and what the store holds is unchanged
pub record OnlyAsked {D : Type 0} (view : D → DiskView) (old new : StoreValue D) : Type 0 where
  pub only : IsOnlyRead view old.disk new.disk
  pub history : new.history ≡ old.history
  pub open_still : new.needs_reopen ≡ old.needs_reopen
  pub steady : (row : RowValue) → IsStored view new row → IsStored view old row

-- why a row of a store can't be read: memory ran out; the disk failed, if it hadn't before; or the
-- row is damaged, which none is on an honest disk
abbrev pub IsReadFailure : {D : Type 0} → (D → DiskView) → ReadFault → (old new : StoreValue D)
    → Type 0
IsReadFailure view readfault.OutOfMemory old new = Unit {0}
IsReadFailure view readfault.DiskFault old new =
    old.needs_reopen ≡ false → HasRisen (view old.disk).failures (view new.disk).failures
IsReadFailure view readfault.Damaged old new = (view old.disk).is_honest → ⊥

-- a question couldn't be answered, and only reads were made on the disk
pub record HasFailed {D : Type 0} (view : D → DiskView) (fault : ReadFault)
    (old new : StoreValue D) : Type 0 where
  pub only : IsOnlyRead view old.disk new.disk
  pub cause : IsReadFailure view fault old new

-- the rows that were asked for were returned, or the question couldn't be answered
pub record IsAsked {T D : Type 0} (view : D → DiskView)
    (wanted : List RowValue → List RowValue) (result : Result T ReadFault)
    (rows_of : T → List RowValue) (old new : StoreValue D) : Type 0 where
  pub found : IfOk result (λ x. AllZip (MayBeReadFor view old) (rows_of x)
      (wanted (rows_at old.history.imports old.history.rows)))
  pub stays : OnOk result (OnlyAsked view old new)
  pub fails : IfErr result (λ fault. HasFailed view fault old new)

-- a refusal of a question, to a comparison
abbrev pub read_fault_of : Refusal → ReadFault
read_fault_of store_refusals.OutOfMemory = readfault.OutOfMemory
read_fault_of store_refusals.Damaged = readfault.Damaged
read_fault_of _ = readfault.DiskFault

-- the fault of a comparison, as a refusal
abbrev pub refusal_for : CompareFault → LineRefusal
refusal_for comparefault.OutOfMemory = Store store_refusals.OutOfMemory
refusal_for (comparefault.Package packagefault.OutOfMemory) = Store store_refusals.OutOfMemory
refusal_for (comparefault.Package packagefault.NoFolder) = NoFolder
refusal_for (comparefault.Package (packagefault.Row file number fault)) =
    Store (store_refusals.Line file number fault)
refusal_for (comparefault.Shown fault) = Store (of_read fault)

-- this was told, or that memory ran out
abbrev pub IsToldOr : (Report → Type 0) → Report → Type 0
IsToldOr told report = told report ⊎ Tells report (Err (Store store_refusals.OutOfMemory))
