use Rattle.std.proofs.lemmas.Result.{on_ok_weaker}
use Rattle.term_words.specs.Private.Chains.{key_of}
use Rattle.term_words.proofs.Splits.{word_pushed, word_parted}
use Rattle.term_words.proofs.ordered.push_word.Goals as goal

pub returns-clause-ok : goal.returns-clause-ok
returns-clause-ok c =
    let there = c.has_rank.ensures c.if-not-has_rank.false in
    on_ok_weaker c.push.result (λ e. word_pushed c.args.sizes.now c.args.words.now c.push.new.self c.args.rank c.args.row (key_of c.args.key) there e) c.push.ensures.ok

pub returns-clause-parted : goal.returns-clause-parted
returns-clause-parted c =
    let there = c.has_rank.ensures c.if-not-has_rank.false in
    word_parted c.push.result c.args.sizes.now c.args.words.now c.push.new.self c.args.rank c.args.row (key_of c.args.key) there c.requires.word c.requires.few c.push.ensures.ok c.push.ensures.err
