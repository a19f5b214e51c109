use Rattle.std.proofs.Common.{refl, Ok, Err}
use Rattle.command_line.proofs.Merged.{merged_keeps}
use Rattle.command_line.proofs.merging.merge.Goals as goal

pub returns-in-Ok : goal.returns-in-Ok
returns-in-Ok g c = record {
  result = c.merge_to.result;
  after = c.merge_to.new.store;
  merged = c.merge_to.ensures;
  told = rw c.in-Ok.is c.tell_status.ensures;
  left_so = refl;
  history = merged_keeps g.D.Disk.view c.args.most c.merge_to.result _ _ c.merge_to.ensures;
}

pub returns-in-Err : goal.returns-in-Err
returns-in-Err g c = record {
  result = c.merge_to.result;
  after = c.merge_to.new.store;
  merged = c.merge_to.ensures;
  told = rw c.in-Err.is c.refuse.ensures;
  left_so = refl;
  history = merged_keeps g.D.Disk.view c.args.most c.merge_to.result _ _ c.merge_to.ensures;
}
