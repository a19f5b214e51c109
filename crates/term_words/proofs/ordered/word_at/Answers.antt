use Rattle.term_words.specs.Posted.{keyed}
use Rattle.term_words.specs.Private.Chains.{key_of}
use Rattle.term_words.proofs.Splits.{word_below, says_word, says_no_word}
use Rattle.term_words.proofs.ordered.word_at.Goals as goal

pub with_row-requires : goal.with_row-requires
with_row-requires c = let p = c.in-Some.p in word_below c.args.sizes.now c.args.words.now c.args.number (keyed p.row (key_of p.key)) c.requires c.in-Some.ensures

pub returns-in-Some : goal.returns-in-Some
returns-in-Some c = let p = c.in-Some.p in says_word c.args.sizes.now c.args.words.now c.args.number (keyed p.row (key_of p.key)) c.with_row.result c.in-Some.ensures c.with_row.ensures

pub returns-in-None : goal.returns-in-None
returns-in-None c = says_no_word c.args.sizes.now c.args.words.now c.args.number c.in-None.ensures
