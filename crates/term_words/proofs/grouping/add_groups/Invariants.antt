use Rattle.std.proofs.Common.{take}
use Rattle.term_words.specs.Private.{AddsGroupsOf}
use Rattle.term_words.proofs.grouping.add_groups.Given as goal

abbrev pub invariant-loop-e : goal.invariant-loop-e
invariant-loop-e l = AddsGroupsOf l.rows l.segment l.wanted_type (take l.e-index l.entries) l.fn.groups.items l.groups.items
