use Rattle.std.proofs.Common.{refl}
use Rattle.command_line.proofs.serving.serve_new.Goals as goal

pub returns-in-Ok : goal.returns-in-Ok
returns-in-Ok g c =
    record {
      had = c.create.result;
      making = c.create.ensures.made;
      does = rw (c.in-Ok.is, c.close.ensures.disk) c.serve_all-ended.ensures;
    }

pub returns-in-Err : goal.returns-in-Err
returns-in-Err g c =
    record {
      had = c.create.result;
      making = c.create.ensures.made;
      does = rw c.in-Err.is (c.refuse.ensures, refl, refl);
    }
