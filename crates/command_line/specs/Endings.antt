-- How the program ends, and what it writes about that.
use Rattle.std.specs.Prelude.{◌≡◌, ℕ, List, Option, Result, Ok, Err, IsOk}
use Rattle.std.specs.Io.KnownBytes.{Appends}
use Rattle.line_server.specs.declared.refusal.LineRefusal.{LineRefusal}
use Rattle.line_server.specs.declared.serving.ServeFault.{ServeFault}
use Rattle.line_server.specs.declared.serving.ServeFault.TheVariants as faults
use Rattle.line_server.specs.ReplyValue.{Answer, reply_value, bytes_of}
use Rattle.line_server.specs.Streams.{AppendsSome}
use Rattle.command_line.specs.declared.endings.Ending.{Ending}
use Rattle.command_line.specs.declared.endings.Ending.TheVariants as endings

-- how a task ended, and the bytes of the output before and after it, if they are known
pub record Report : Type 0 where
  pub ended : Result Ending ServeFault
  pub old : Option (List ℕ)
  pub new : Option (List ℕ)

abbrev pub report : Result Ending ServeFault → Option (List ℕ) → Option (List ℕ) → Report
report ended old new = record { ended = ended; old = old; new = new }

-- These bytes were written, and with them the task ended so. If the output failed, a proper prefix of
-- them was written.
abbrev pub IsWritten : Ending → List ℕ → Result Ending ServeFault → Option (List ℕ)
    → Option (List ℕ) → Type 0
IsWritten ending bytes (Ok ended) old new = (ended ≡ ending) × Appends old new bytes
IsWritten ending bytes (Err fault) old new = (fault ≡ faults.Write) × AppendsSome old new bytes

-- The outcome was written: an answer if the task is done, and if it was refused the refusal that
-- its ending has. If the output failed, a proper prefix of it was written.
abbrev pub IsTold : Result Ending ServeFault → Result Answer LineRefusal → Option (List ℕ)
    → Option (List ℕ) → Type 0
IsTold (Ok endings.Done) outcome old new = IsOk outcome
    × Appends old new (bytes_of (reply_value outcome))
IsTold (Ok (endings.Refused refusal)) outcome old new =
    (outcome ≡ Err refusal) × Appends old new (bytes_of (reply_value outcome))
IsTold (Ok endings.Differs) outcome old new = ⊥
IsTold (Err fault) outcome old new =
    (fault ≡ faults.Write) × AppendsSome old new (bytes_of (reply_value outcome))

-- this outcome was written, and the task ended accordingly
abbrev pub Tells : Report → Result Answer LineRefusal → Type 0
Tells report outcome = IsTold report.ended outcome report.old report.new
