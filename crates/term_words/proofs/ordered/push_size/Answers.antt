use Rattle.std.proofs.lemmas.Result.{on_ok_weaker}
use Rattle.term_words.specs.Posted.{keyed}
use Rattle.term_words.specs.Private.Chains.{key_of}
use Rattle.term_words.proofs.Splits.{size_pushed, size_parted}
use Rattle.term_words.proofs.ordered.push_size.Goals as goal

pub returns-clause-ok : goal.returns-clause-ok
returns-clause-ok c =
    let none = c.has_any.ensures c.if-has_any.false in
    on_ok_weaker c.push.result (λ e. size_pushed c.args.sizes.now c.push.new.self c.args.words.now (keyed c.args.row (key_of c.args.key)) none e) c.push.ensures.ok

pub returns-clause-parted : goal.returns-clause-parted
returns-clause-parted c =
    let none = c.has_any.ensures c.if-has_any.false in
    size_parted c.push.result c.args.sizes.now c.push.new.self c.args.words.now (keyed c.args.row (key_of c.args.key)) none c.requires.size c.requires.few c.push.ensures.ok c.push.ensures.err
