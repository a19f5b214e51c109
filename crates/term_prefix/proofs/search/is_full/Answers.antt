use Rattle.std.proofs.Common.{sym}
use Rattle.term_prefix.proofs.FirstKept.{says_last}
use Rattle.term_prefix.proofs.search.is_full.Goals as goal

pub returns-then-limit-kept : goal.returns-then-limit-kept
returns-then-limit-kept c = says_last c.args.limit c.args.kept.now c.args.id c.in-Some.last.now (sym c.in-Some.ensures.value) c.if-limit-kept.true
