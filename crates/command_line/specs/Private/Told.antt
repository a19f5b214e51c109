-- A line that was carried out, before its reply is written.
use Rattle.std.specs.Prelude.{ℕ, List, Result}
use Rattle.disk_model.specs.View.{DiskView}
use Rattle.history_store.specs.StoreValue.{StoreValue}
use Rattle.line_server.specs.declared.refusal.LineRefusal.{LineRefusal}
use Rattle.line_server.specs.ReplyValue.{ReplyValue}
use Rattle.line_server.specs.Sources.{SourceView}
use Rattle.line_server.specs.StateValue.{StateValue, fresh}
use Rattle.line_server.specs.Replies.{server}
use Rattle.line_server.specs.Turns.{HasTurn, IsToldBy}

-- The line was carried out, with no session pinned, and this came of it.
pub record IsCarriedOut {D : Type 0} (source : SourceView) (view : D → DiskView) (line : List ℕ)
    (old new : StoreValue D) (outcome : Result ReplyValue LineRefusal) : Type 0 where
  pub state : StateValue
  pub turn : HasTurn source view line (server fresh old) (server state new)
      (λ turn. IsToldBy outcome turn.outcome)
