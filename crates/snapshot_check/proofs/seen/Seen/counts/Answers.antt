use Rattle.snapshot_check.proofs.Searching.{counts_of}
use Rattle.snapshot_check.proofs.seen.Seen.counts.Goals as goal

pub returns : goal.returns
returns c = counts_of _ c.args.self.now c.count.ensures c.count-2.ensures c.count-3.ensures c.count-4.ensures c.count-5.ensures c.count-6.ensures
