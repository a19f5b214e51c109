use Rattle.std.proofs.Common.{inl, inr, refl}
use Rattle.command_line.proofs.running.run.Goals as goal

pub returns-in-Ok-clause-done : goal.returns-in-Ok-clause-done
returns-in-Ok-clause-done g c = inl (record {
  task = c.in-Ok.task;
  asked = c.in-Ok.ensures.task;
  ended = c.perform-ended.result.0;
  written = g.O.Write.contents c.perform-ended.new.output;
  does = c.perform-ended.ensures;
  kept = c.finish.ensures.written;
  at_most = c.finish.ensures.status;
  done = λ z. (c.finish.ensures.done z).0;
})

pub returns-in-Err-clause-done : goal.returns-in-Err-clause-done
returns-in-Err-clause-done g c = inr (record {
  refused = c.in-Err.refused;
  asked = c.in-Err.ensures.refused;
  explained = c.explain.ensures.explained;
  unread = refl;
  none_left = refl;
  none_made = refl;
  none_asked = refl;
})
