use Rattle.std.proofs.Common.{Some}
use Rattle.command_line.proofs.running.demonstrate.Goals as goal

pub returns-clause-done : goal.returns-clause-done
returns-clause-done g c = record {
  ended = c.serve_new-ended.result.0;
  written = g.O.Write.contents c.serve_new-ended.new.output;
  does = record {
    disk = c.new-disk.result;
    empty = c.new-disk.ensures.moments;
    left = c.serve_new-ended.result.1;
    rest = Some c.serve_new-ended.new.input.rest.now;
    serving = c.serve_new-ended.ensures;
  };
  kept = c.finish.ensures.written;
  done = λ z. (c.finish.ensures.done z).0;
}
