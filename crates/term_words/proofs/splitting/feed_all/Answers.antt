use Rattle.std.proofs.Common.{sym, subst, ◌∙◌}
use Rattle.std.specs.Prelude.{flat_map}
use Rattle.word_model.specs.Words.{unmarked}
use Rattle.term_words.specs.Private.{Follows}
use Rattle.std.proofs.lemmas.Iterator.{YieldsList-from_chars}
use Rattle.std.proofs.lemmas.Iterator.Consumers.{YieldsList-end}
use Rattle.term_words.proofs.Runs.{follows_none, follows_next, map_same}
use Rattle.term_words.proofs.splitting.feed_all.Goals as goal

pub loop-c-init : goal.loop-c-init
loop-c-init c = follows_none c.args.text.now.items c.args.keys.now.items c.args.start

pub loop-c-preserved : goal.loop-c-preserved
loop-c-preserved c = follows_next c.args.text.now.items c.loop-c.text.items c.feed_folded.new.text.items c.args.keys.now.items c.loop-c.keys.items c.feed_folded.new.keys.items c.args.start c.loop-c.next _ c.loop-c.yielded c.in-Some.c c.loop-c.invariant c.in_ok-next.ensures

pub returns : goal.returns
returns c =
    let t = YieldsList-end (YieldsList-from_chars c.args.folded.now c.utf8.folded cc) c.loop-c.yielded _ c.loop-c.yielded_by _ _ c.in-None.is c.next.ensures.steps in
    subst (λ cs. Follows c.args.text.now.items c.args.keys.now.items c.args.start (flat_map unmarked cs) c.loop-c.text.items c.loop-c.keys.items c.loop-c.next) (sym (map_same c.loop-c.yielded) ∙ t.0) c.loop-c.invariant
