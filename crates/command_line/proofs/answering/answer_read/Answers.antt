use Rattle.std.proofs.Common.{refl}
use Rattle.command_line.proofs.answering.answer_read.Goals as goal

pub carried_out-outcome-requires : goal.carried_out-outcome-requires
carried_out-outcome-requires g c = c.requires

pub returns : goal.returns
returns g c = λ line reads.
    let done = c.carried_out-outcome.ensures line reads in
    let t = done.turn in
    record {
      state = done.state;
      after = c.carried_out-outcome.new.store;
      told = (t.0, t.1, t.2, c.tell.ensures t.0.outcome t.3);
      left_so = refl;
    }
