use Rattle.std.proofs.Common.{subst, ◌∙◌, take_all}
use Rattle.std.specs.List.{filter}
use Rattle.word_model.specs.Words.{is_no_mark}
use Rattle.term_words.specs.Private.{Follows}
use Rattle.term_words.proofs.Runs.{follows_none, follows_more}
use Rattle.term_words.proofs.splitting.feed_unmarked.Goals as goal

pub loop-part-init : goal.loop-part-init
loop-part-init c = follows_none c.args.text.now.items c.args.keys.now.items c.args.start

pub loop-part-preserved : goal.loop-part-preserved
loop-part-preserved c =
    let parts = c.decomposition-parts.result.now in
    let i = c.loop-part.part-index in
    follows_more c.args.text.now.items c.loop-part.text.items c.feed_no_mark.new.text.items c.args.keys.now.items c.loop-part.keys.items c.feed_no_mark.new.keys.items c.args.start c.loop-part.next c.in_ok-next.next is_no_mark parts i c.part-item.result c.part-item.result c.loop-part-test.true c.part-item.is c.loop-part.invariant c.in_ok-next.ensures

pub returns : goal.returns
returns c =
    let parts = c.decomposition-parts.result.now in
    subst (λ cs. Follows c.args.text.now.items c.args.keys.now.items c.args.start (filter is_no_mark cs) c.loop-part.text.items c.loop-part.keys.items c.loop-part.next)
    (take_all c.loop-part.part-index parts c.loop-part-test.false ∙ c.decomposition-parts.ensures.value) c.loop-part.invariant
