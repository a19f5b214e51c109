use Rattle.std.proofs.Common.{refl, ◌∙◌}
use Rattle.std.proofs.lemmas.Result.{IfOk-weaker}
use Rattle.command_line.proofs.running.open_and_work.Goals as goal

pub returns-in-Ok : goal.returns-in-Ok
returns-in-Ok g c =
    record {
      had = c.open.result;
      opening = c.open.ensures.opened;
      words = IfOk-weaker c.open.result _ _ (λ store is. is ∙ c.words_for.ensures) c.open.ensures.words;
      does = rw (c.in-Ok.is, c.close.ensures.disk) c.do_work-ended.ensures;
    }

pub returns-in-Err : goal.returns-in-Err
returns-in-Err g c =
    record {
      had = c.open.result;
      opening = c.open.ensures.opened;
      words = IfOk-weaker c.open.result _ _ (λ store is. is ∙ c.words_for.ensures) c.open.ensures.words;
      does = rw c.in-Err.is (c.refuse.ensures, refl, refl);
    }
