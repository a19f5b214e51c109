use Rattle.std.proofs.Common.{refl}
use Rattle.snapshot_check.proofs.Searching.{sorted_lists}
use Rattle.snapshot_check.proofs.seen.Seen.sort.Goals as goal

pub returns : goal.returns
returns c = λ rows seen. sorted_lists rows c.args.self.now _ seen c.sort_unstable.ensures.permutation c.sort_unstable.ensures.sorted c.sort_unstable-2.ensures.permutation c.sort_unstable-2.ensures.sorted c.sort_unstable-3.ensures.permutation c.sort_unstable-3.ensures.sorted c.sort_unstable-4.ensures.permutation c.sort_unstable-4.ensures.sorted c.sort_unstable-5.ensures.permutation c.sort_unstable-5.ensures.sorted c.sort_unstable-6.ensures.permutation c.sort_unstable-6.ensures.sorted refl
