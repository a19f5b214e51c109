use Rattle.std.proofs.Common.{sym, subst, ◌∙◌}
use Rattle.std.proofs.lemmas.Result.{IfOk-weaker}
use Rattle.std.proofs.lemmas.Str.{chars_from_encodes}
use Rattle.term_words.specs.Private.{Follows}
use Rattle.term_words.proofs.Runs.{plain_is}
use Rattle.term_words.proofs.splitting.feed_any.Goals as goal

pub returns : goal.returns
returns c = IfOk-weaker c.feed_all.result _ _
    (λ next f. subst (λ cs. Follows c.args.text.now.items c.args.keys.now.items c.args.start cs c.feed_all.new.text.items c.feed_all.new.keys.items next)
    (plain_is c.args.term.now _ (sym (chars_from_encodes _ c.as_str.result.now c.as_str.utf8 (sym (c.as_str.ensures.value ∙ c.in_ok-folded.ensures))))) f)
    c.feed_all.ensures
