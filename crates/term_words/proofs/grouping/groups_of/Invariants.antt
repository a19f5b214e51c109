use Rattle.std.proofs.Common.{take}
use Rattle.term_words.specs.Private.{AreGroups}
use Rattle.term_words.proofs.grouping.groups_of.Given as goal

abbrev pub invariant-loop-segment : goal.invariant-loop-segment
invariant-loop-segment l = AreGroups (take l.segment l.splits) l.wanted_type l.groups.items
