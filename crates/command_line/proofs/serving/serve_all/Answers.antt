use Rattle.std.proofs.Common.{refl}
use Rattle.command_line.proofs.serving.serve_all.Goals as goal

pub returns-in-Ok : goal.returns-in-Ok
returns-in-Ok g c = record {
  result = c.serve.result;
  ends = rw c.in-Ok.is refl;
  after = c.serve.new.store;
  served = c.serve.ensures.served.0;
  left_so = refl;
}

pub returns-in-Err : goal.returns-in-Err
returns-in-Err g c = record {
  result = c.serve.result;
  ends = rw c.in-Err.is refl;
  after = c.serve.new.store;
  served = c.serve.ensures.served.0;
  left_so = refl;
}
