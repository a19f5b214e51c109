use Rattle.std.proofs.Common.{sym, ◌∙◌, ap, ◌++◌}
use Rattle.std.proofs.lemmas.Result.{IfOk-weaker}
use Rattle.term_words.proofs.Runs.{follows_word, follows_between}
use Rattle.term_words.proofs.InAscii.{of_word, one_byte}
use Rattle.term_words.proofs.splitting.feed_ascii.Goals as goal

pub returns-in_ok-push : goal.returns-in_ok-push
returns-in_ok-push c =
    let byte = c.args.byte in
    follows_word c.args.text.now.items c.push.new.self.items c.args.keys.now.items c.args.start byte
    (sym (of_word byte c.requires) ∙ sym c.is_ascii_alphanumeric.ensures.value ∙ c.if-is_ascii_alphanumeric.true)
    (c.in_ok-push.ensures.items ∙ ap (λ bs. c.args.text.now.items ++ bs) (sym (one_byte byte c.requires)))

pub returns-else-is_ascii_alphanumeric : goal.returns-else-is_ascii_alphanumeric
returns-else-is_ascii_alphanumeric c = IfOk-weaker c.close.result _ _
    (λ next closed. follows_between c.args.text.now.items c.args.keys.now.items c.args.start c.args.byte c.close.new.keys.items next
    (sym (of_word c.args.byte c.requires) ∙ sym c.is_ascii_alphanumeric.ensures.value ∙ c.if-is_ascii_alphanumeric.false) (rw c.deref.ensures.value at closed))
    c.close.ensures
