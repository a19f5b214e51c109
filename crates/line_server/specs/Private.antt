-- Definitions for private functions and proofs, of this crate or of one above it. No public clause
-- cites them.
use Rattle.std.specs.Prelude.{◌≡◌, ℕ, List, Result, ◌≤◌}
use Rattle.disk_model.specs.View.{DiskView}
use Rattle.history_store.specs.StoreValue.{StoreValue}
use Rattle.question_model.specs.Questions.{Question, ForIds, Dates}
use Rattle.line_commands.specs.Spelling.{SpellsQuestion}
use Rattle.line_commands.specs.Commands.{Command, SpellsArguments}
use Rattle.line_commands.specs.Requests.{Asks}
use Rattle.line_server.specs.declared.refusal.LineRefusal.{LineRefusal}
use Rattle.line_server.specs.Sources.{Releases, SourceView, source_view}
use Rattle.line_server.specs.ReplyValue.{ReplyValue}
use Rattle.line_server.specs.Replies.{server, Server, IsAskedOf, LacksAny}
use Rattle.line_server.specs.StateValue.{StateValue, HoldsBack, met_after}
use Rattle.line_server.specs.Turns.{HasTurn, IsToldBy}

-- the state after a line had this result
abbrev pub noted : {T : Type 0} → Result T LineRefusal → StateValue → StateValue
noted result state = record state { held = met_after result state.held }

-- some line spells the command
abbrev pub CanBeAsked : Command → Type 0
CanBeAsked command = (arguments : List (List ℕ)) × SpellsArguments command arguments

-- a command was carried out: each line that asks for it in this session is answered with the result
pub record IsResponse {D : Type 0} (result : Result ReplyValue LineRefusal) (source : SourceView)
    (view : D → DiskView) (session : ℕ) (command : Command) (old new : Server D) : Type 0 where
  pub turned : (line : List ℕ) → Asks line session command
      → HasTurn source view line old new (λ turn. IsToldBy result turn.outcome)
  pub grows : old.store.history.imports ≤ new.store.history.imports

-- The command was carried out with this result, whatever releases the source has and whichever
-- session asks. The server's state records the result.
abbrev pub IsCarriedOut : {D : Type 0} → Result ReplyValue LineRefusal → (D → DiskView) → Command
    → StoreValue D → StoreValue D → Type 0
IsCarriedOut result view command old new =
    (has : Releases) (session : ℕ) (state : StateValue) → (HoldsBack state.held command → ⊥)
    → IsResponse result (source_view (Unit {0}) has) view session command (server state old)
    (server (noted result state) new)

-- some line spells the question
abbrev pub QuestionCanBeAsked : Question → Type 0
QuestionCanBeAsked question = (arguments : List (List ℕ)) × SpellsQuestion question arguments

-- the question was answered with this result, for any session and command that ask it about this
-- number of imports, if the store lacks nothing for them
abbrev pub IsQueried : {D : Type 0} → Result ReplyValue LineRefusal → (D → DiskView) → Question → ℕ
    → StoreValue D → StoreValue D → Type 0
IsQueried result view question pin old new =
    (has : Releases) (session : ℕ) (state : StateValue) (command : Command)
    → IsAskedOf (server state old) session command question pin → (LacksAny command old → ⊥)
    → IsResponse result (source_view (Unit {0}) has) view session command (server state old)
    (server (noted result state) new)

-- what the index alone answers
abbrev pub AsksIndex : Question → Type 0
AsksIndex (ForIds question) = Unit {0}
AsksIndex Dates = Unit {0}
AsksIndex _ = ⊥
