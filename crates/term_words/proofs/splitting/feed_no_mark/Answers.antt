use Rattle.std.proofs.Common.{sym, subst, ◌∙◌}
use Rattle.std.proofs.lemmas.Result.{IfOk-weaker}
use Rattle.term_words.specs.Private.{Follows}
use Rattle.term_words.proofs.Runs.{mark_left, no_mark, follows_none}
use Rattle.term_words.proofs.splitting.feed_no_mark.Goals as goal

pub returns-then-is_combining_mark : goal.returns-then-is_combining_mark
returns-then-is_combining_mark c =
    subst (λ cs. Follows c.args.text.now.items c.args.keys.now.items c.args.start cs c.args.text.now.items c.args.keys.now.items c.args.start)
    (sym (mark_left c.args.c (sym c.is_combining_mark.ensures ∙ c.if-is_combining_mark.true)))
    (follows_none c.args.text.now.items c.args.keys.now.items c.args.start)

pub returns-else-is_combining_mark : goal.returns-else-is_combining_mark
returns-else-is_combining_mark c = IfOk-weaker c.feed.result _ _
    (λ next f. subst (λ cs. Follows c.args.text.now.items c.args.keys.now.items c.args.start cs c.feed.new.text.items c.feed.new.keys.items next)
    (sym (no_mark c.args.c (sym c.is_combining_mark.ensures ∙ c.if-is_combining_mark.false))) f)
    c.feed.ensures
