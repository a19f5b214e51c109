use Rattle.directory.proofs.Written.{next_written}
use Rattle.directory.proofs.encoding.write_entries.Goals as goal

pub loop-i-preserved : goal.loop-i-preserved
loop-i-preserved c = next_written c.args.entries.now c.loop-i.i _ c.args.out.now c.loop-i.out c.write_entry.new.out c.loop-i-test.true c.requires c.loop-i.invariant c.write_entry.ensures
