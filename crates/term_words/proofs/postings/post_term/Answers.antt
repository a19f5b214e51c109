use Rattle.std.proofs.Common.{[], sym, ap, subst, ◌∙◌, take}
use Rattle.term_words.specs.Private.{IsPostedWith}
use Rattle.term_words.proofs.Numbering.{taken_back}
use Rattle.term_words.proofs.postings.post_term.Goals as goal

pub returns-in-Ok-clause-ok : goal.returns-in-Ok-clause-ok
returns-in-Ok-clause-ok c = λ are. c.in-Ok.ensures.ok are

pub returns-in-Err-clause-err : goal.returns-in-Err-clause-err
returns-in-Err-clause-err c = λ are.
    let pushed = c.args.pushed.now.items in
    let w = c.post_all.ensures.some are in
    subst (λ ps. IsPostedWith c.args.text.now.items c.args.keys.now.items pushed [] c.post_all.new.text.items c.post_all.new.keys.items ps) (sym (c.truncate.ensures.items ∙ ap (λ n. take n c.post_all.new.pushed.items) (c.len-len.ensures ∙ c.args.pushed.now.ok.0)))
    (taken_back c.args.text.now.items c.post_all.new.text.items c.args.keys.now.items c.post_all.new.keys.items pushed c.post_all.new.pushed.items w.0 w.1)
