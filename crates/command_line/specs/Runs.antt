-- What the program does for each command line.
use Rattle.std.specs.Prelude.{◌≡◌, ◌≢◌, ◌⊎◌, ◌≤◌, ⊤, ℕ, Bool, true, false, List, []}
use Rattle.std.specs.Prelude.{Option, Some, None, Result, Ok, Err}
use Rattle.std.specs.Io.KnownBytes.{Keeps}
use Rattle.disk_model.specs.View.{DiskView}
use Rattle.directory.specs.declared.layout.Layout.{Layout}
use Rattle.disk_model.specs.Change.{made}
use Rattle.disk_model.specs.Disk.{raised_by}
use Rattle.disk_model.specs.MemDisk.{memory_moments, memory_view}
use Rattle.disk_model.specs.declared.memory.MemDisk.{MemDisk}
use Rattle.samples.specs.Sample.{sample_files}
use Rattle.clap.specs.Values.{kind_of}
use Rattle.clap.specs.declared.error.kind.ErrorKind.{ErrorKind}
use Rattle.clap.specs.declared.error.kind.ErrorKind.TheVariants.{DisplayHelp, DisplayVersion}
use Rattle.history_store.specs.declared.refusal.Refusal.TheVariants.{DiskFault}
use Rattle.line_server.specs.declared.refusal.LineRefusal.TheVariants.{Store, NoFolder}
use Rattle.line_server.specs.declared.serving.ServeFault.{ServeFault}
use Rattle.line_server.specs.Sources.{source_view}
use Rattle.line_server.specs.Streams.{Streams, streams}
use Rattle.command_line.specs.declared.endings.Ending.{Ending}
use Rattle.command_line.specs.declared.endings.Ending.TheVariants.{Done}
use Rattle.command_line.specs.declared.words.Task.{Task}
use Rattle.command_line.specs.declared.words.Task.TheVariants as tasks
use Rattle.command_line.specs.declared.words.Action.{Action}
use Rattle.command_line.specs.declared.words.Action.TheVariants as actions
use Rattle.command_line.specs.declared.words.Work.{Work}
use Rattle.command_line.specs.declared.words.Work.TheVariants as works
use Rattle.command_line.specs.declared.host.Mode.{Mode}
use Rattle.command_line.specs.declared.host.Mode.TheVariants.{Open, OpenToRead, OpenOrMake, MakeNew}
use Rattle.command_line.specs.declared.words.Refused.{Refused}
use Rattle.command_line.specs.declared.words.Refused.TheVariants as refusals
use Rattle.command_line.specs.Endings.{Report, report, Tells}
use Rattle.command_line.specs.Words.{AskFor, AskForNone}
use Rattle.command_line.specs.Hosts.{HostView, IsRemoved, source_in}
use Rattle.command_line.specs.Tasks.{IsMade, IsServingNew, IsWorkOnDisk}
use Rattle.command_line.specs.Copies.{IsCopyMade}
use Rattle.command_line.specs.Preparing.{IsPreparedOn}

-- how an action asks for its disk: `init` for one that exists or is made, a server that only reads
-- for one that is only read, and all others for one that exists
abbrev pub mode_of : Action → Mode
mode_of (actions.Init layout) = OpenOrMake
mode_of (actions.Use (works.Serve folder true words)) = OpenToRead
mode_of action = Open

-- the outcome says that the disk of a name can't be opened
abbrev pub IsMissing : Report → Type 0
IsMissing report = Tells report (Err (Store DiskFault))

-- A store of this layout was made on the disk of a name, once it was sure that the name survives a
-- crash. If that isn't sure, the failure was written, and the disk is unchanged.
abbrev pub IsMadeAt : {D : Type 0} → HostView D → (D → DiskView) → List ℕ → Layout
    → (disk after : D) → Report → Type 0
IsMadeAt host view name layout disk after report =
    (host.settles name true × IsMade layout view disk after report)
    ⊎ (host.settles name false × IsMissing report × (after ≡ disk))

-- The host returns this for a new disk of a name, and would have returned it before the run: if it
-- is a disk, the name wasn't in use then.
abbrev pub IsNewSince : {D : Type 0} → HostView D → (before asked : ℕ) → List ℕ → Option D → Type 0
IsNewSince host before asked name made =
    host.opens asked MakeNew name made × host.opens before MakeNew name made

-- The first imports of one disk's store, or all, were copied, in this layout or in its own, to a
-- disk that was made under another name, which wasn't in use before the run, once it was sure that
-- the new name survives a crash. If none could be made, or the new name isn't sure to survive, that
-- was written, the new file is removed, and the other disk is unchanged.
abbrev pub IsCopiedTo : {D : Type 0} → HostView D → (D → DiskView) → (before asked : ℕ) → List ℕ
    → Option ℕ → Option Layout → (source after : D) → (made : Option D) → Report → Type 0
IsCopiedTo {D} host view before asked to imports layout source after made report =
    (IsNewSince host before asked to None × IsMissing report × (after ≡ source) × (made ≡ None))
    ⊎ ((target : D) × IsNewSince host before asked to (Some target)
    × ((host.settles to false × IsMissing report × (after ≡ source) × IsRemoved host target made)
    ⊎ (host.settles to true
    × IsCopyMade host view imports layout source after target made report)))

-- whether the folder of releases exists without which the work isn't begun: only a server that may
-- import needs one
abbrev pub FindsFolder : {D : Type 0} → HostView D → Work → Bool → Type 0
FindsFolder host (works.Serve folder false words) found = host.finds folder.now found
FindsFolder host work found = found ≡ true

-- The store on this disk was opened, and the work was done. If the work needs a folder that doesn't
-- exist, that was written, nothing was read, and the disk is unchanged.
abbrev pub IsUsed : {D : Type 0} → HostView D → (D → DiskView) → Work → (disk after : D)
    → Result Ending ServeFault → Streams → Type 0
IsUsed host view work disk after ended streams =
    (FindsFolder host work true × IsWorkOnDisk host view work disk after ended streams)
    ⊎ (FindsFolder host work false × Tells (report ended streams.old streams.new) (Err NoFolder)
    × (streams.rest ≡ streams.input) × (after ≡ disk))

-- The action was done on the disk of a name, which was left in its state after that, and so was
-- the one that it made for a copy. Only `serve` reads the input, and only a copy asks for another
-- disk. It was counted how often one was asked for: `before` the run, `asked` before the action, and
-- `after` it.
abbrev pub IsActionDone : {D : Type 0} → HostView D → (D → DiskView) → List ℕ → Action
    → (disk left : D) → (made : Option D) → Result Ending ServeFault → Streams
    → (before asked after : ℕ) → Type 0
IsActionDone host view name (actions.Init layout) disk left made ended streams before asked after =
    IsMadeAt host view name layout disk left (report ended streams.old streams.new)
    × (streams.rest ≡ streams.input) × (made ≡ None) × (after ≡ asked)
IsActionDone host view name (actions.Copy to imports layout) disk left made ended streams before
    asked after =
    IsCopiedTo host view before asked to.now imports layout disk left made
    (report ended streams.old streams.new)
    × (streams.rest ≡ streams.input) × (after ≡ raised_by asked 1)
IsActionDone host view name (actions.Use work) disk left made ended streams before asked after =
    IsUsed host view work disk left ended streams × (made ≡ None) × (after ≡ asked)

-- the action was done on the disk that was opened
pub record IsDoneAt {D : Type 0} (host : HostView D) (view : D → DiskView) (name : List ℕ)
    (action : Action) (left made : Option D) (ended : Result Ending ServeFault) (streams : Streams)
    (before after : ℕ) : Type 0 where
  pub disk : D
  pub opened : host.opens before (mode_of action) name (Some disk)
  pub end : D
  pub done : IsActionDone host view name action disk end made ended streams before
      (raised_by before 1) after
  pub left_so : left ≡ Some end

-- no disk could be opened, which was written; nothing was read, and no disk is left
pub record IsNotOpened {D : Type 0} (host : HostView D) (name : List ℕ) (action : Action)
    (left made : Option D) (ended : Result Ending ServeFault) (streams : Streams)
    (before after : ℕ) : Type 0 where
  pub missing : host.opens before (mode_of action) name None
  pub told : IsMissing (report ended streams.old streams.new)
  pub unread : streams.rest ≡ streams.input
  pub none_left : left ≡ None
  pub none_made : made ≡ None
  pub asked : after ≡ raised_by before 1

-- A store of layout 3 was prepared in the file of a name, which exists or is made, with the release
-- of one name in a folder, once it was sure that the file's name survives a crash. If it can't be
-- opened, or that isn't sure, the failure was written, and the disk is unchanged.
abbrev pub IsPreparedAt : {D : Type 0} → HostView D → (D → DiskView) → (before : ℕ)
    → (to folder name : List ℕ) → (left : Option D) → Report → Type 0
IsPreparedAt {D} host view before to folder name left report =
    (host.opens before OpenOrMake to None × IsMissing report × (left ≡ None))
    ⊎ ((disk : D) × host.opens before OpenOrMake to (Some disk)
    × ((host.settles to false × IsMissing report × (left ≡ Some disk))
    ⊎ (host.settles to true
    × IsPreparedOn host (source_in host folder) view name disk left report)))

-- the lines of the script were served like those of an input, from a new store in memory and the
-- sample releases
pub record IsDemonstrated (script : List ℕ) (report : Report) : Type 0 where
  pub disk : MemDisk
  pub empty : memory_moments disk ≡ made []
  pub left : MemDisk
  pub rest : Option (List ℕ)
  pub serving : IsServingNew (source_view ⊤ (λ _. sample_files))
      memory_view
      disk left report.ended (streams (Some script) rest report.old report.new)

-- the lines of the script were served in this way, the output was flushed at the end, and the
-- status is 0 only if that ended well
pub record IsDemonstration (script : List ℕ) (status : ℕ) (old new : Option (List ℕ)) : Type 0 where
  pub ended : Result Ending ServeFault
  pub written : Option (List ℕ)
  pub does : IsDemonstrated script (report ended old written)
  pub kept : Keeps written new
  pub done : status ≡ 0 → ended ≡ Ok Done

-- How each task is done, and how its disk is left, and the one that it made for a copy. The
-- demonstration asks for no disk.
abbrev pub Does : {D : Type 0} → HostView D → (D → DiskView) → List ℕ → Task
    → (left made : Option D) → Result Ending ServeFault → Streams → (before after : ℕ) → Type 0
Does host view script (tasks.At store action) left made ended streams before after =
    IsDoneAt host view store.now action left made ended streams before after
    ⊎ IsNotOpened host store.now action left made ended streams before after
Does host view script (tasks.Prepare to folder name quiet) left made ended streams before after =
    IsPreparedAt host view before to.now folder.now name.now left
    (report ended streams.old streams.new)
    × (streams.rest ≡ streams.input) × (made ≡ None) × (after ≡ raised_by before 1)
Does host view script tasks.Demo left made ended streams before after =
    IsDemonstrated script (report ended streams.old streams.new) × (left ≡ None)
    × (streams.rest ≡ streams.input) × (made ≡ None) × (after ≡ before)

-- The words ask for a task, and it was done. The status is 0 only if it ended with success.
-- `before` and `after` count how often a disk was asked for.
pub record IsRun {D : Type 0} (host : HostView D) (view : D → DiskView) (script : List ℕ)
    (words : List (List ℕ)) (left made : Option D) (status : ℕ) (known : Streams)
    (before after : ℕ) : Type 0 where
  pub task : Task
  pub asked : AskFor words task
  pub ended : Result Ending ServeFault
  -- what was written, and flushed at the end
  pub written : Option (List ℕ)
  pub does : Does host view script task left made ended
      (streams known.input known.rest known.old written) before after
  pub kept : Keeps written known.new
  pub at_most : status ≤ 1
  pub done : status ≡ 0 → ended ≡ Ok Done

-- the words are faulty, and don't ask for help
abbrev pub IsFaulty : ErrorKind → Type 0
IsFaulty kind = (kind ≢ DisplayHelp) × (kind ≢ DisplayVersion)

-- It was written why there is no task. Only a help that was asked for is written to the output.
abbrev pub IsExplained : Refused → ℕ → Option (List ℕ) → Option (List ℕ) → Type 0
IsExplained refusals.OutOfMemory status old new = (status ≡ 1) × (new ≡ old)
IsExplained (refusals.Words error) status old new =
    (IsFaulty (kind_of error) → (status ≡ 2) × (new ≡ old))
    × ((IsFaulty (kind_of error) → ⊥) → status ≤ 1)

-- the words ask for no task, and that was written; no disk was asked for, and none is left
pub record IsNoTask {D : Type 0} (words : List (List ℕ)) (left made : Option D) (status : ℕ)
    (known : Streams) (before after : ℕ) : Type 0 where
  pub refused : Refused
  pub asked : AskForNone words refused
  pub explained : IsExplained refused status known.old known.new
  pub unread : known.rest ≡ known.input
  pub none_left : left ≡ None
  pub none_made : made ≡ None
  pub none_asked : after ≡ before
