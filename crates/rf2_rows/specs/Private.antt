-- Definitions for private functions and proofs, of this crate or of one above it. No public clause
-- cites them.
use Rattle.std.specs.Prelude.{◌≡◌, ◌≢◌, ℕ, List, length, take, map, Result, Ok, Err}
use Rattle.std.specs.Borrow.{Bor}
use Rattle.std.specs.List.{All, AllByRecursion, AllZip}
use Rattle.rf2_values.specs.Row.{RowValue, Spells}
use Rattle.rf2_rows.specs.declared.fault.RowFault.{RowFault}
use Rattle.rf2_rows.specs.declared.fault.RowFault.TheVariants as rowfault
use Rattle.rf2_rows.specs.declared.fault.FileFault.{FileFault}
use Rattle.rf2_rows.specs.declared.fault.FileFault.TheVariants as filefault
use Rattle.rf2_rows.specs.declared.shape.Shape.{Shape}
use Rattle.rf2_rows.specs.Line.{IsFaultOf, Column, MayStand, HasShape}

-- the values behind the references
abbrev pub texts : List (Bor (List ℕ)) → List (List ℕ)
texts columns = map (λ column. column.now) columns

-- the result of reading a line, unless memory runs out
abbrev pub IsLineReading : Shape → List ℕ → Result RowValue RowFault → Type 0
IsLineReading shape text (Ok v) = HasShape shape v × Spells v text
IsLineReading shape text (Err rowfault.OutOfMemory) = Unit {0}
IsLineReading shape text (Err (rowfault.Line f)) = IsFaultOf shape text f

-- the fault of a line, as that of a file
abbrev pub at_line_of : ℕ → RowFault → FileFault
at_line_of n rowfault.OutOfMemory = filefault.OutOfMemory
at_line_of n (rowfault.Line f) = filefault.Row n f

-- no text has a TAB
abbrev pub HaveNoTab : List (List ℕ) → Type 0
HaveNoTab texts = AllByRecursion (λ text. All (λ b. b ≢ 9) text) texts

-- each text is allowed in its column
abbrev pub AllStand : List Column → List (List ℕ) → Type 0
AllStand columns texts = AllZip MayStand columns texts

-- what one list began with, the other one begins with too
abbrev pub StaysInFront : List ℕ → List ℕ → Type 0
StaysInFront old new = (start : List ℕ) → take (length start) old ≡ start
    → take (length start) new ≡ start
