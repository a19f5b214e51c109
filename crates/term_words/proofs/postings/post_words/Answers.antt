use Rattle.std.proofs.Common.{[], map, subst}
use Rattle.std.proofs.lemmas.Result.{on_ok_weaker}
use Rattle.term_words.specs.Posted.{keyed}
use Rattle.term_words.specs.Private.{IsPostedWith}
use Rattle.term_words.proofs.Numbering.{posted_none}
use Rattle.term_words.proofs.postings.post_words.Goals as goal

pub returns-in_err-set_to-clause-some : goal.returns-in_err-set_to-clause-some
returns-in_err-set_to-clause-some c = λ are. ([], posted_none c.args.text.now.items c.args.keys.now.items c.args.pushed.now.items are)

pub returns-in_err-note_hashes-clause-some : goal.returns-in_err-note_hashes-clause-some
returns-in_err-note_hashes-clause-some c = λ are. ([], posted_none c.args.text.now.items c.args.keys.now.items c.args.pushed.now.items are)

pub returns-clause-ok : goal.returns-clause-ok
returns-clause-ok c = λ are.
    on_ok_weaker c.post_each.result (λ posted. subst (λ ws. IsPostedWith c.args.text.now.items c.args.keys.now.items c.args.pushed.now.items (map (keyed c.args.row) ws) c.post_each.new.text.items c.post_each.new.keys.items c.post_each.new.pushed.items) c.in_ok-set_to.ensures posted) (c.post_each.ensures.ok are)

pub returns-clause-some : goal.returns-clause-some
returns-clause-some c = λ are. c.post_each.ensures.some are
