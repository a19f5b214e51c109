use Rattle.std.proofs.Common.{arith}
use Rattle.term_prefix.proofs.Laid.{cut_short}
use Rattle.term_prefix.proofs.postings.cut.Goals as goal

pub returns-then-len : goal.returns-then-len
returns-then-len c = λ laid. rw (c.truncate.ensures.items, c.truncate-then-len.ensures.items) (cut_short c.args.text.now.items c.args.terms.now.items c.args.len c.index.result.now laid (let e = c.len.ensures in let lt = c.if-len.true in omega arith) c.index.ensures)
