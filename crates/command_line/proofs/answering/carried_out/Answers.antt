use Rattle.std.proofs.Common.{◌≡◌, subst}
use Rattle.line_server.specs.StateValue.{StateValue, fresh}
use Rattle.line_server.specs.Replies.{Server, server}
use Rattle.line_server.specs.Sources.{SourceView}
use Rattle.line_server.specs.Turns.{Turn, IsTurn}
use Rattle.disk_model.specs.View.{DiskView}
use Rattle.history_store.specs.StoreValue.{StoreValue}
use Rattle.command_line.proofs.answering.carried_out.Goals as goal

-- a line that was answered from a state that is the fresh one was answered from the fresh one
from_fresh : {D : Type 0} → (source : SourceView) (view : D → DiskView) (turn : Turn)
    (store : StoreValue D) (new : Server D) (state : StateValue) → state ≡ fresh
    → IsTurn source view (server state store) turn new
    → IsTurn source view (server fresh store) turn new
from_fresh source view turn store new state is answered =
    subst (λ (s : StateValue). IsTurn source view (server s store) turn new) is answered

pub carry_out-requires-clause-read : goal.carry_out-requires-clause-read
carry_out-requires-clause-read g c = c.requires

pub returns : goal.returns
returns g c = λ line reads.
    let t = c.carry_out.ensures.turn line reads in
    record {
      state = c.carry_out.new.state;
      turn = (t.0, t.1, from_fresh _ _ _ _ _ _ c.new-state.ensures.value t.2, t.3);
    }
