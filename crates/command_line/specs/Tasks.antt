-- What is done with a store.
use Rattle.std.specs.Prelude.{◌≡◌, ℕ, List, [], ◌++◌, codes, decimal, Option, Some, None}
use Rattle.std.specs.Prelude.{Bool, true, false, Result, Ok, Err, IfOk}
use Rattle.directory.specs.declared.layout.Layout.{Layout}
use Rattle.directory.specs.declared.layout.Layout.TheVariants as layouts
use Rattle.disk_model.specs.View.{DiskView}
use Rattle.segment_index.specs.declared.words.Words.{Words}
use Rattle.segment_index.specs.declared.words.Words.TheVariants as kept
use Rattle.history_store.specs.StoreValue.{StoreValue}
use Rattle.history_store.specs.Answers.{StoreOr, disk_of}
use Rattle.history_store.specs.Openings.{IsMaking, IsOpening}
use Rattle.line_commands.specs.Requests.{import_line, check_line}
use Rattle.line_server.specs.declared.refusal.LineRefusal.{LineRefusal}
use Rattle.line_server.specs.declared.refusal.LineRefusal.TheVariants.{Store}
use Rattle.line_server.specs.declared.serving.ServeFault.{ServeFault}
use Rattle.line_server.specs.Sources.{SourceView, no_releases}
use Rattle.line_server.specs.ReplyValue.{Answer, Done as AllDone}
use Rattle.line_server.specs.declared.held.Held.{Held}
use Rattle.line_server.specs.declared.held.Held.TheVariants as holds
use Rattle.line_server.specs.StateValue.{StateValue, fresh}
use Rattle.line_server.specs.Replies.{server, status_of}
use Rattle.line_server.specs.Turns.{HasTurn}
use Rattle.line_server.specs.Serving.{IsServed}
use Rattle.line_server.specs.Streams.{Streams}
use Rattle.command_line.specs.declared.endings.Ending.{Ending}
use Rattle.command_line.specs.declared.endings.Ending.TheVariants.{Done}
use Rattle.command_line.specs.declared.words.Work.{Work}
use Rattle.command_line.specs.declared.words.Work.TheVariants as works
use Rattle.command_line.specs.Endings.{Report, report, Tells}
use Rattle.command_line.specs.Hosts.{HostView, source_in}
use Rattle.command_line.specs.OnlyRead.{IsOnlyRead}
use Rattle.command_line.specs.Merging.{IsMergeTold}
use Rattle.command_line.specs.Verifying.{IsVerifyTold}

-- ---- making a store

-- the outcome of making a store, as it is written
abbrev pub making_told : {D : Type 0} → StoreOr D → Result Answer LineRefusal
making_told (Ok store) = Ok (AllDone [])
making_told (Err e) = Err (Store e.0)

-- a store of this layout was made, the outcome was written, and the disk was left in its
-- state after that
pub record IsMade {D : Type 0} (layout : Layout) (view : D → DiskView) (disk left : D)
    (report : Report) : Type 0 where
  pub had : StoreOr D
  pub making : IsMaking layout had view disk
  pub left_so : left ≡ disk_of had
  pub told : Tells report (making_told had)

-- ---- with an open store

-- The line was answered, with no session pinned, the reply was written, and the disk was left in
-- its state after that.
pub record IsLineTold {D : Type 0} (source : SourceView) (view : D → DiskView) (line : List ℕ)
    (store : StoreValue D) (left : D) (report : Report) : Type 0 where
  pub state : StateValue
  pub after : StoreValue D
  pub told : HasTurn source view line (server fresh store) (server state after)
      (λ turn. Tells report turn.outcome)
  pub left_so : left ≡ after.disk

-- the line that imports or checks a release was answered, and afterwards the disk was only read
abbrev pub IsReleaseTold : {D : Type 0} → SourceView → (D → DiskView) → List ℕ → StoreValue D → D
    → Report → Type 0
IsReleaseTold {D} source view line store left report =
    (mid : D) × IsLineTold source view line store mid report × IsOnlyRead view mid left

-- the status was written, and the disk is unchanged
abbrev pub IsStatusTold : {D : Type 0} → StoreValue D → D → Report → Type 0
IsStatusTold store left report =
    Tells report (Ok (AllDone (status_of store))) × (left ≡ store.disk)

-- the line that asks for the digest of all imports, or of the first ones
abbrev pub digest_line : Option ℕ → List ℕ
digest_line None = codes "0 DIGEST"
digest_line (Some imports) = codes "0 AT " ++ decimal imports ++ codes " DIGEST"

-- how the task ended, from the result of serving
abbrev pub ended_by : Result ℕ ServeFault → Result Ending ServeFault
ended_by (Ok n) = Ok Done
ended_by (Err fault) = Err fault

-- the most reads that a server makes of its input
abbrev pub most_reads : ℕ
most_reads = 4294967295

-- what a server holds back from its start: nothing, unless it only reads
abbrev pub held_of : (read_only : Bool) → Held
held_of false = holds.Nothing
held_of true = holds.Changing

-- The lines of the input were served, with this held back from the start, and the disk was left in
-- its state after that.
pub record IsInputServed {D : Type 0} (held : Held) (source : SourceView) (view : D → DiskView)
    (store : StoreValue D) (left : D) (ended : Result Ending ServeFault) (streams : Streams)
    : Type 0 where
  pub result : Result ℕ ServeFault
  pub ends : ended ≡ ended_by result
  pub after : StoreValue D
  pub served : IsServed result most_reads held source view streams store after
  pub left_so : left ≡ after.disk

-- what work that doesn't read the input does with an open store
abbrev pub IsWorkTold : {D : Type 0} → HostView D → (D → DiskView) → Work → StoreValue D → D
    → Report → Type 0
IsWorkTold host view (works.Import folder name quiet) store left report =
    IsReleaseTold (source_in host folder.now) view (import_line name.now) store left report
IsWorkTold host view (works.Check folder name quiet) store left report =
    IsReleaseTold (source_in host folder.now) view (check_line name.now) store left report
IsWorkTold host view works.Status store left report = IsStatusTold store left report
IsWorkTold host view (works.Merge segments) store left report =
    IsMergeTold view segments store left report
IsWorkTold host view (works.Digest imports) store left report =
    IsLineTold no_releases view (digest_line imports) store left report
IsWorkTold host view (works.Verify folder name list) store left report =
    IsVerifyTold view list store left report
IsWorkTold host view (works.Serve folder read_only words) store left report = ⊥

-- what work does with an open store: only `serve` reads the input
abbrev pub IsWorkDone : {D : Type 0} → HostView D → (D → DiskView) → Work → StoreValue D → D
    → Result Ending ServeFault → Streams → Type 0
IsWorkDone host view (works.Serve folder read_only words) store left ended streams =
    IsInputServed (held_of read_only) (source_in host folder.now) view store left ended streams
IsWorkDone host view work store left ended streams =
    IsWorkTold host view work store left (report ended streams.old streams.new)
    × (streams.rest ≡ streams.input)

-- this was done with the store; or the outcome says why there is no store, nothing was read, and
-- the disk was left so
abbrev pub OnStore : {D : Type 0}
    → (StoreValue D → D → Result Ending ServeFault → Streams → Type 0) → StoreOr D → D
    → Result Ending ServeFault → Streams → Type 0
OnStore does (Ok store) left ended streams = does store left ended streams
OnStore does (Err e) left ended streams =
    Tells (report ended streams.old streams.new) (Err (Store e.0))
    × (streams.rest ≡ streams.input) × (left ≡ e.1)

-- whether the work needs the words of the store: a server does, unless they are to be left out
abbrev pub words_for : Work → Words
words_for (works.Serve folder read_only words) = words
words_for work = kept.LeftOut

-- the store was opened from this disk, with words if the work needs them, and the work was done
-- with it
pub record IsWorkOnDisk {D : Type 0} (host : HostView D) (view : D → DiskView) (work : Work)
    (disk left : D) (ended : Result Ending ServeFault) (streams : Streams) : Type 0 where
  pub had : StoreOr D
  pub opening : IsOpening had view disk
  pub words : IfOk had (λ store. store.words ≡ words_for work)
  pub does : OnStore (IsWorkDone host view work) had left ended streams

-- a store of layout 3 was made on this disk, and the lines were served from it
pub record IsServingNew {D : Type 0} (source : SourceView) (view : D → DiskView) (disk left : D)
    (ended : Result Ending ServeFault) (streams : Streams) : Type 0 where
  pub had : StoreOr D
  pub making : IsMaking layouts.Three had view disk
  pub does : OnStore (IsInputServed holds.Nothing source view) had left ended streams
