-- Preparing a store of one release.
use Rattle.std.proofs.Common.{◌≡◌, ℕ, List, [], ◌∷◌, ◌++◌, Option, Result, Ok, Err, inr, refl, subst, append_assoc}
use Rattle.std.specs.Io.KnownBytes.{Appends}
use Rattle.disk_model.specs.View.{DiskView}
use Rattle.history_store.specs.declared.refusal.Refusal.{Refusal}
use Rattle.history_store.specs.declared.refusal.Refusal.TheVariants as store_refusals
use Rattle.history_store.specs.StoreValue.{StoreValue}
use Rattle.history_model.specs.declared.receipt.Receipt.{Receipt}
use Rattle.line_server.specs.declared.refusal.LineRefusal.{LineRefusal}
use Rattle.line_server.specs.declared.refusal.LineRefusal.TheVariants as refusals
use Rattle.line_server.specs.declared.serving.ServeFault.{ServeFault}
use Rattle.line_server.specs.ReplyValue.{Answer, bytes_of, reply_value}
use Rattle.line_server.specs.Sources.{SourceView, source_view}
use Rattle.line_server.specs.Streams.{AppendsSome}
use Rattle.command_line.specs.declared.endings.Ending.{Ending}
use Rattle.command_line.specs.declared.endings.Ending.TheVariants as endings
use Rattle.command_line.specs.Endings.{IsTold, IsWritten}
use Rattle.command_line.specs.Hosts.{HostView, source_in}
use Rattle.command_line.specs.Preparing.{IsBrought, IsImportFrom}

-- a refusal of the store is one of the release
pub refused_by_store : {D : Type 0} (source : SourceView) (view : D → DiskView) (name : List ℕ) (e : Refusal) (old new : StoreValue D)
    → IsImportFrom source view name (Err e) old new → IsBrought source view name (Err (refusals.Store e)) old new
refused_by_store source view name store_refusals.OutOfMemory old new import = inr (Err store_refusals.OutOfMemory, import)
refused_by_store source view name _ old new import = import

-- the line of an answer was written, and with it the task is done
pub written_is_told : (result : Result Ending ServeFault) (bytes : List ℕ) (answer : Answer) (old new : Option (List ℕ))
    → bytes ≡ bytes_of (reply_value (Ok answer)) → IsWritten endings.Done bytes result old new → IsTold result (Ok answer) old new
written_is_told (Ok endings.Done) bytes answer old new is written = (refl, subst (λ b. Appends old new b) is written.1)
written_is_told (Ok (endings.Refused refusal)) bytes answer old new is written = let no = written.0 in cc
written_is_told (Ok endings.Differs) bytes answer old new is written = let no = written.0 in cc
written_is_told (Err fault) bytes answer old new is written = (written.0, subst (λ b. AppendsSome old new b) is written.1)

-- the end of the line stands behind the last of two numbers
pub ended : (a b : List ℕ) → (a ++ 32 ∷ b) ++ 10 ∷ [] ≡ a ++ 32 ∷ (b ++ 10 ∷ [])
ended a b = append_assoc a (32 ∷ b) (10 ∷ [])

-- a source that has the same host and the same folder is the same
pub brought_from : {D : Type 0} (own host : HostView D) (dir folder : List ℕ) (view : D → DiskView) (name : List ℕ)
    (result : Result Receipt LineRefusal) (old new : StoreValue D) → own ≡ host → dir ≡ folder
    → IsBrought (source_view own.is_honest (own.releases dir)) view name result old new
    → IsBrought (source_in host folder) view name result old new
brought_from {D} own host dir folder view name result old new same there brought =
    subst (λ (f : List ℕ). IsBrought (source_in host f) view name result old new) there
    (subst (λ (h : HostView D). IsBrought (source_view h.is_honest (h.releases dir)) view name result old new) same brought)
