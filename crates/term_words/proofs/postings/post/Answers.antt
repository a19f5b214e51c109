use Rattle.std.proofs.Common.{◌∷◌, [], sym, subst}
use Rattle.term_words.specs.Posted.{keyed}
use Rattle.term_words.specs.Private.Chains.{key_of}
use Rattle.term_words.specs.Private.{IsPostedWith}
use Rattle.term_words.proofs.Numbering.{kept_postings, posted_one, posted_both}
use Rattle.term_words.proofs.postings.post.Goals as goal

pub returns-in_err-number-clause-some : goal.returns-in_err-number-clause-some
returns-in_err-number-clause-some c = λ are. ([], kept_postings c.args.text.now.items c.number_of.new.text.items c.args.keys.now.items c.number_of.new.keys.items c.args.pushed.now.items are c.number_of.ensures.kept)

pub returns-in_err-push-clause-some : goal.returns-in_err-push-clause-some
returns-in_err-push-clause-some c = λ are. (
  [],
  subst (λ ps. IsPostedWith c.args.text.now.items c.args.keys.now.items c.args.pushed.now.items [] c.number_of.new.text.items c.number_of.new.keys.items ps) (sym c.in_err-push.ensures.items)
      (kept_postings c.args.text.now.items c.number_of.new.text.items c.args.keys.now.items c.number_of.new.keys.items c.args.pushed.now.items are c.number_of.ensures.kept),
)

pub returns-clause-ok : goal.returns-clause-ok
returns-clause-ok c = λ are.
    let text = c.args.text.now.items in
    let keys = c.args.keys.now.items in
    let pushed = c.args.pushed.now.items in
    let text' = c.number_of.new.text.items in
    let keys' = c.number_of.new.keys.items in
    let key = key_of c.args.key in
    let kept = kept_postings text text' keys keys' pushed are c.number_of.ensures.kept in
    let one = posted_one text' keys' pushed c.in_ok-number.number c.args.row key kept.are (c.in_ok-number.ensures.number are.within) in
    subst (λ ps. IsPostedWith text keys pushed (keyed c.args.row key ∷ []) text' keys' ps) (sym c.in_ok-push.ensures.items)
    (posted_both text text' text' keys keys' keys' pushed pushed _ [] (keyed c.args.row key ∷ []) kept one)

pub returns-clause-some : goal.returns-clause-some
returns-clause-some c = λ are. (keyed c.args.row (key_of c.args.key) ∷ [], returns-clause-ok c are)
