-- Definitions that complete those of `Answers`. No public clause cites them.
use Rattle.std.specs.Prelude.{◌≡◌, false, List, Result, Ok, Err}
use Rattle.rf2_values.specs.Row.{RowValue}
use Rattle.history_model.specs.History.{History}
use Rattle.import_check.specs.declared.release.Release.{Release}
use Rattle.import_check.specs.declared.fault.ImportFault.{ImportFault}
use Rattle.import_check.specs.NewRows.{IsRefusal, IsRefusalByKey}
use Rattle.history_store.specs.declared.refusal.Refusal.{Refusal}
use Rattle.history_store.specs.declared.refusal.Refusal.TheVariants as refusals
use Rattle.history_store.specs.Refusals.{refusal_of}
use Rattle.history_store.specs.Catalog.{Catalog}
use Rattle.history_store.specs.StoreValue.{StoreValue}
use Rattle.history_store.specs.Answers.{IsRefused}

-- the store advances to this history and catalog; or the disk failed, they are unchanged, and the
-- store has to be opened again
abbrev pub IsStep : {D : Type 0} → Result (Unit {0}) Refusal → StoreValue D → StoreValue D → History
    → Catalog → Type 0
IsStep (Ok done) old new after next =
    (new.history ≡ after) × (new.catalog ≡ next) × (new.needs_reopen ≡ false)
IsStep (Err e) old new after next =
    (e ≡ refusals.DiskFault) × IsRefused e old new

-- why the new rows of a release can't be found: a fault of the files, a contradiction that is
-- possible by what may be stored, or a stored row that can't be read; and on an honest disk a
-- contradiction but no damage
abbrev pub IsNotFresh : Type 0 → (may_be : RowValue → Type 0) → Refusal → List RowValue → Release
    → Type 0
IsNotFresh honest may_be e known release =
    (fault : ImportFault) × (e ≡ refusal_of fault) × IsRefusal honest known release fault
    × IsRefusalByKey known may_be release fault
