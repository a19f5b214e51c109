use Rattle.std.proofs.Common.{arith}
use Rattle.term_words.proofs.Splits.{says_front, says_behind}
use Rattle.term_words.proofs.ordered.placed_at.Goals as goal

pub returns-then-number-count : goal.returns-then-number-count
returns-then-number-count c = says_front c.args.sizes.now c.args.words.now c.args.number c.len-count.result c.size_at.result c.len-count.ensures (let lt = c.if-number-count.true in omega (arith, lt)) c.size_at.ensures

pub returns-else-number-count : goal.returns-else-number-count
returns-else-number-count c = says_behind c.args.sizes.now c.args.words.now c.args.number c.len-count.result c.word_at.result c.len-count.ensures (let le = c.if-number-count.false in omega (arith, le)) c.word_at.ensures
