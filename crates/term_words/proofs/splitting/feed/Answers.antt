use Rattle.std.proofs.Common.{sym, ◌∙◌}
use Rattle.std.proofs.lemmas.Result.{IfOk-weaker}
use Rattle.term_words.proofs.Runs.{follows_word, follows_between}
use Rattle.term_words.proofs.splitting.feed.Goals as goal

pub returns-in_ok-push_char : goal.returns-in_ok-push_char
returns-in_ok-push_char c = follows_word c.args.text.now.items c.push_char.new.text.items c.args.keys.now.items c.args.start c.args.c (sym c.is_alphanumeric.ensures.value ∙ c.if-is_alphanumeric.true) c.in_ok-push_char.ensures

pub returns-else-is_alphanumeric : goal.returns-else-is_alphanumeric
returns-else-is_alphanumeric c = IfOk-weaker c.close.result _ _
    (λ next closed. follows_between c.args.text.now.items c.args.keys.now.items c.args.start c.args.c c.close.new.keys.items next (sym c.is_alphanumeric.ensures.value ∙ c.if-is_alphanumeric.false) (rw c.deref.ensures.value at closed))
    c.close.ensures
