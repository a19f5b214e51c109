use Rattle.std.proofs.Common.{refl}
use Rattle.command_line.proofs.making.init.Goals as goal

pub returns-in-Ok : goal.returns-in-Ok
returns-in-Ok g c =
    record {
      had = c.create.result;
      making = c.create.ensures.made;
      left_so = rw c.in-Ok.is c.close.ensures.disk;
      told = rw c.in-Ok.is c.tell_done.ensures;
    }

pub returns-in-Err : goal.returns-in-Err
returns-in-Err g c =
    record {
      had = c.create.result;
      making = c.create.ensures.made;
      left_so = rw c.in-Err.is refl;
      told = rw c.in-Err.is c.refuse.ensures;
    }
