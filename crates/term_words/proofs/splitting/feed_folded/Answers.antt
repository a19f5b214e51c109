use Rattle.std.proofs.Common.{sym, subst, ltb-true, ◌∙◌}
use Rattle.std.proofs.lemmas.Result.{IfOk-weaker}
use Rattle.term_words.specs.Private.{Follows}
use Rattle.term_words.proofs.InAscii.{unmarked_itself}
use Rattle.term_words.proofs.splitting.feed_folded.Goals as goal

pub returns-then-is_ascii : goal.returns-then-is_ascii
returns-then-is_ascii c = IfOk-weaker c.feed.result _ _
    (λ next f. subst (λ cs. Follows c.args.text.now.items c.args.keys.now.items c.args.start cs c.feed.new.text.items c.feed.new.keys.items next)
    (sym (unmarked_itself c.args.c (ltb-true _ _ (sym c.is_ascii.ensures ∙ c.if-is_ascii.true)))) f)
    c.feed.ensures
