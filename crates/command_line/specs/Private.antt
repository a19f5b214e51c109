-- Definitions for private functions and proofs, of this crate or of one above it. No public clause
-- cites them.
pub mod Verifying
pub mod Preparing
pub mod Listed
pub mod Told
pub mod ShownAt
pub mod Warnings
use Rattle.std.specs.Prelude.{◌≡◌, ℕ, ◌<◌, ◌≤◌, false, List, [], ◌∷◌, codes, decimal}
use Rattle.std.specs.Prelude.{Option, Some, None, Result, Ok, Err}
use Rattle.clap.specs.Walk.{Rule, rule_of}
use Rattle.clap.specs.Simple.{App, app_of}
use Rattle.clap.specs.declared.builder.command.Command.TheViews.{out-Command}
use Rattle.clap.specs.declared.builder.arg.Arg.{Arg}
use Rattle.clap.specs.declared.builder.command.Command.{Command}
use Rattle.disk_model.specs.View.{DiskView}
use Rattle.history_store.specs.declared.refusal.Refusal.{Refusal}
use Rattle.history_store.specs.Merging.{GoesOn, IsFinished}
use Rattle.history_store.specs.StoreValue.{StoreValue}
use Rattle.line_server.specs.declared.serving.ServeFault.{ServeFault}
use Rattle.line_server.specs.declared.serving.ServeFault.TheVariants as faults
use Rattle.line_server.specs.ReplyValue.{line}
use Rattle.command_line.specs.Merging.{MergeCall, refusal_of, IsMergeCall, IsDue, AreMade, IsHalt}
use Rattle.command_line.specs.Merging.{segments_of}

-- no call has failed, and no merge is in progress
abbrev pub IsAtRest : {D : Type 0} → StoreValue D → Type 0
IsAtRest store = (store.needs_reopen ≡ false) × (store.catalog.merge ≡ None)

-- no call has failed, and a merge is in progress
abbrev pub IsMerging : {D : Type 0} → StoreValue D → Type 0
IsMerging store = (store.needs_reopen ≡ false) × GoesOn store.catalog

-- no call has failed, and a merge is in progress that has no row left
abbrev pub HasMerged : {D : Type 0} → StoreValue D → Type 0
HasMerged store = (store.needs_reopen ≡ false) × IsFinished store.catalog

-- calls were made, each when it was due, and none was refused
pub record HaveMerged {D : Type 0} (view : D → DiskView) (most : ℕ) (first old new : StoreValue D)
    : Type 0 where
  pub calls : List MergeCall
  pub made : AreMade view most first old calls new

-- calls were made, each when it was due, and the last one was refused for this reason
pub record IsStopped {D : Type 0} (view : D → DiskView) (most : ℕ) (first : StoreValue D)
    (e : Refusal) (old new : StoreValue D) : Type 0 where
  pub before : StoreValue D
  pub have : HaveMerged view most first old before
  pub last : MergeCall
  pub due : IsDue most last first before
  pub call : IsMergeCall view last before new
  pub refused : refusal_of last ≡ Some e
  pub cause : 1 ≤ most → IsHalt e

abbrev pub Goes : {D : Type 0} → (D → DiskView) → ℕ → StoreValue D → Result (Unit {0}) Refusal
    → StoreValue D → StoreValue D → Type 0
Goes view most first (Ok done) old new = HaveMerged view most first old new
Goes view most first (Err e) old new = IsStopped view most first e old new

-- calls were made that are due in each merge that leaves fewer segments than there are
abbrev pub Progresses : {D : Type 0} → (D → DiskView) → Result (Unit {0}) Refusal → StoreValue D
    → StoreValue D → Type 0
Progresses {D} view result old new =
    (most : ℕ) (first : StoreValue D) → most < segments_of old → Goes view most first result old new

-- the number and the name of a fault of serving, with which the program ends
abbrev pub fault_sign : ServeFault → ℕ × List ℕ
fault_sign faults.OutOfMemory = (1, codes "OutOfMemory")
fault_sign faults.Read = (50, codes "Read")
fault_sign faults.Write = (51, codes "Write")
fault_sign faults.Reads = (52, codes "Reads")

abbrev pub fault_line : ServeFault → List ℕ
fault_line fault =
    line (codes "ERR" ∷ decimal ((fault_sign fault).0) ∷ (fault_sign fault).1 ∷ [])

abbrev pub IsArgument : Rule → Arg → Type 0
IsArgument rule arg = (rule_of arg ≡ rule) × (arg.global ≡ false)

abbrev pub IsCommand : App → Command → Type 0
IsCommand app command = (app_of command ≡ app) × ((out-Command command).has_globals ≡ false)
