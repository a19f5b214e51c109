use Rattle.std.proofs.Common.{take}
use Rattle.as_of_index.specs.Private.Search.{ShareNoKey}
use Rattle.index_support.proofs.listed.share_no_key.Given as goal

abbrev pub invariant-loop-p : goal.invariant-loop-p
invariant-loop-p l = ShareNoKey (take l.p-index l.list) l.other
