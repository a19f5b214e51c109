-- What the functions that prepare a store return. Only private functions cite these definitions.
use Rattle.std.specs.Prelude.{◌≡◌, ℕ, List, Option, Result, Ok, Err, String, string_bytes}
use Rattle.disk_model.specs.View.{DiskView}
use Rattle.history_model.specs.declared.receipt.Receipt.{Receipt}
use Rattle.history_store.specs.StoreValue.{StoreValue}
use Rattle.line_server.specs.declared.refusal.LineRefusal.{LineRefusal}
use Rattle.line_server.specs.declared.serving.ServeFault.{ServeFault}
use Rattle.line_server.specs.ReplyValue.{bytes_of, reply_value}
use Rattle.line_server.specs.Sources.{SourceView}
use Rattle.command_line.specs.declared.endings.Ending.{Ending}
use Rattle.command_line.specs.declared.endings.Ending.TheVariants.{Done}
use Rattle.command_line.specs.Endings.{IsTold, IsWritten}
use Rattle.command_line.specs.Preparing.{IsBrought, prepared_told}

-- the release of this name was imported, and the line says so; or it is told why it wasn't
abbrev pub IsLineFor : {Z D : Type 0} → SourceView → (D → DiskView) → List ℕ
    → Result (String Z) LineRefusal → StoreValue D → StoreValue D → Type 0
IsLineFor source view name (Ok line) old new = (receipt : Receipt)
    × (string_bytes line ≡ bytes_of (reply_value (prepared_told (Ok receipt))))
    × IsBrought source view name (Ok receipt) old new
IsLineFor source view name (Err refusal) old new =
    IsBrought source view name (Err refusal) old new

-- the line was written, or why there is none
abbrev pub IsLineWritten : {Z : Type 0} → Result (String Z) LineRefusal → Result Ending ServeFault
    → Option (List ℕ) → Option (List ℕ) → Type 0
IsLineWritten (Ok line) result old new = IsWritten Done (string_bytes line) result old new
IsLineWritten (Err refusal) result old new = IsTold result (Err refusal) old new
