-- The state that a server keeps between lines, besides its store, and which commands it holds back.
use Rattle.std.specs.Prelude.{◌≡◌, ℕ, List, Option, Result, Ok, Err}
use Rattle.history_store.specs.declared.refusal.Refusal.TheVariants as store
use Rattle.line_commands.specs.Commands.{Command, Import, Check, Merge, Step, Publish, Abandon}
use Rattle.line_commands.specs.Commands.{Trim}
use Rattle.line_commands.specs.declared.unread.Unread.TheVariants as unread
use Rattle.line_server.specs.declared.refusal.LineRefusal.{LineRefusal}
use Rattle.line_server.specs.declared.refusal.LineRefusal.TheVariants as refusals
use Rattle.line_server.specs.declared.held.Held.{Held}
use Rattle.line_server.specs.declared.held.Held.TheVariants as holds
use Rattle.line_server.specs.Pins.{unpinned}

pub record StateValue : Type 0 where
  -- the pin of each session, if it has one
  pub pins : List (Option ℕ)
  -- which commands are held back
  pub held : Held

-- the initial state of a server that holds these commands back: no session is pinned
abbrev pub fresh_holding : Held → StateValue
fresh_holding held = record { pins = unpinned; held = held }

-- the initial state: no session is pinned, and nothing is held back
abbrev pub fresh : StateValue
fresh = fresh_holding holds.Nothing

-- What is held back, after a line was refused for this reason. A server that only reads holds back
-- everything that it would hold back after damage.
abbrev pub met_by : LineRefusal → Held → Held
met_by (refusals.Store store.Damaged) holds.Nothing = holds.Confirming
met_by refusal held = held

-- what is held back, after a line had this result
abbrev pub met_after : {T : Type 0} → Result T LineRefusal → Held → Held
met_after (Ok x) held = held
met_after (Err refusal) held = met_by refusal held

-- The commands that are held back once damage was found: each builds on rows of the store, and
-- would confirm results that rest on bytes which may not be what was written. ABANDON and TRIM
-- aren't held back, since they confirm nothing about rows: ABANDON writes nothing, and TRIM cuts
-- off only what no segment uses.
abbrev pub IsHeldBack : Command → Type 0
IsHeldBack (Import name) = Unit {0}
IsHeldBack (Check name) = Unit {0}
IsHeldBack Merge = Unit {0}
IsHeldBack (Step rows) = Unit {0}
IsHeldBack Publish = Unit {0}
IsHeldBack command = ⊥

-- The commands that a server which only reads doesn't have: those that may change the store, and
-- CHECK, which says what an import of it would be answered.
abbrev pub IsChange : Command → Type 0
IsChange Abandon = Unit {0}
IsChange Trim = Unit {0}
IsChange command = IsHeldBack command

-- the command is held back: it is refused, and nothing changes
abbrev pub HoldsBack : Held → Command → Type 0
HoldsBack holds.Nothing command = ⊥
HoldsBack holds.Confirming command = IsHeldBack command
HoldsBack holds.Changing command = IsChange command

-- Why a command that is held back is refused: damage was found, or the server has no such command,
-- since it only reads.
abbrev pub reason_of : Held → LineRefusal
reason_of holds.Changing = refusals.Unread unread.Command
reason_of held = refusals.Store store.Damaged
