-- What calls on the rows that are shown return, and how a comparison fails.
use Rattle.std.specs.Prelude.{Option, Some, None}
use Rattle.rf2_values.specs.Row.{RowValue}
use Rattle.fault_counts.specs.declared.fault.ReadFault.{ReadFault}
use Rattle.snapshot_check.specs.declared.fault.PackageFault.{PackageFault}
use Rattle.snapshot_check.specs.declared.fault.CompareFault.{CompareFault}
use Rattle.snapshot_check.specs.declared.fault.CompareFault.TheVariants as comparefault

-- a row was returned for the wanted one, or none if none is wanted
abbrev pub IsReadOf : (reads : RowValue → RowValue → Type 0) → Option RowValue → Option RowValue
    → Type 0
IsReadOf reads None None = Unit {0}
IsReadOf reads (Some wanted) (Some read) = reads read wanted
IsReadOf reads _ _ = ⊥

-- Why a comparison fails: memory ran out; or this may be told of what was read last of the package;
-- or the store failed so. In the first two cases all calls on the store were answered.
abbrev pub IsFailure : (faulty : PackageFault → Type 0) → (stays : Type 0)
    → (fails : ReadFault → Type 0) → CompareFault → Type 0
IsFailure faulty stays fails comparefault.OutOfMemory = stays
IsFailure faulty stays fails (comparefault.Package fault) = faulty fault × stays
IsFailure faulty stays fails (comparefault.Shown fault) = fails fault
