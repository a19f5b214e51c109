use Rattle.std.proofs.Common.{sym, subst}
use Rattle.std.proofs.lemmas.Result.{IfOk-weaker}
use Rattle.term_words.specs.Private.{Follows}
use Rattle.term_words.proofs.InAscii.{plain_is_lower, where_true}
use Rattle.term_words.proofs.splitting.feed_term.Goals as goal

pub feed_all_ascii-requires : goal.feed_all_ascii-requires
feed_all_ascii-requires c = where_true _ _ c.is_ascii.result c.is_ascii.ensures.cases c.if-is_ascii.true

pub returns-then-is_ascii : goal.returns-then-is_ascii
returns-then-is_ascii c = IfOk-weaker c.feed_all_ascii.result _ _
    (λ next f. subst (λ cs. Follows c.args.text.now.items c.args.keys.now.items c.args.start cs c.feed_all_ascii.new.text.items c.feed_all_ascii.new.keys.items next)
    (sym (plain_is_lower c.args.term.now (where_true _ _ c.is_ascii.result c.is_ascii.ensures.cases c.if-is_ascii.true))) f)
    c.feed_all_ascii.ensures
