use Rattle.std.proofs.Common.{◌∙◌}
use Rattle.term_words.proofs.Runs.{words_added}
use Rattle.term_words.proofs.splitting.add_words.Goals as goal

pub returns : goal.returns
returns c = λ within.
    words_added c.args.text.now.items c.feed_term.new.text.items c.args.keys.now.items c.feed_term.new.keys.items c.close.new.keys.items c.len-start.result c.in_ok-last.last _ c.args.term.now within (c.len-start.ensures ∙ c.args.text.now.ok.0) c.in_ok-last.ensures (rw c.deref.ensures.value at c.in_ok-close.ensures)
