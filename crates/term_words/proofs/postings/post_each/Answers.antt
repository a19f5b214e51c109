use Rattle.std.proofs.Common.{◌++◌, map, subst, take, take_all}
use Rattle.term_words.specs.Posted.{keyed}
use Rattle.term_words.specs.Private.{IsPostedWith}
use Rattle.term_words.proofs.Numbering.{posted_none, posted_both, words_next}
use Rattle.term_words.proofs.postings.post_each.Goals as goal

pub loop-number-init : goal.loop-number-init
loop-number-init c = λ are. posted_none c.args.text.now.items c.args.keys.now.items c.args.pushed.now.items are

pub loop-number-preserved : goal.loop-number-preserved
loop-number-preserved c = λ are.
    let text = c.args.text.now.items in
    let keys = c.args.keys.now.items in
    let pushed = c.args.pushed.now.items in
    let l = c.loop-number in
    let so = l.invariant are in
    subst (λ ts. IsPostedWith text keys pushed ts c.post.new.text.items c.post.new.keys.items c.post.new.pushed.items)
    (words_next c.args.row c.args.words.now l.number _ c.at-key.ensures)
    (posted_both text l.text.items c.post.new.text.items keys l.keys.items c.post.new.keys.items pushed l.pushed.items c.post.new.pushed.items (map (keyed c.args.row) (take l.number c.args.words.now)) _ so (c.in_ok-post.ensures.ok so.are))

pub returns-in_err-post-clause-some : goal.returns-in_err-post-clause-some
returns-in_err-post-clause-some c = λ are.
    let text = c.args.text.now.items in
    let keys = c.args.keys.now.items in
    let pushed = c.args.pushed.now.items in
    let l = c.loop-number in
    let so = l.invariant are in
    let w = c.post.ensures.some so.are in
    let first = map (keyed c.args.row) (take l.number c.args.words.now) in
    (first ++ w.0, posted_both text l.text.items c.post.new.text.items keys l.keys.items c.post.new.keys.items pushed l.pushed.items c.post.new.pushed.items first w.0 so w.1)

pub returns-clause-ok : goal.returns-clause-ok
returns-clause-ok c = λ are.
    let l = c.loop-number in
    subst (λ ks. IsPostedWith c.args.text.now.items c.args.keys.now.items c.args.pushed.now.items (map (keyed c.args.row) ks) l.text.items l.keys.items l.pushed.items)
    (take_all l.number c.args.words.now (rw c.len-number-end.ensures at c.loop-number-test.false)) (l.invariant are)

pub returns-clause-some : goal.returns-clause-some
returns-clause-some c = λ are. (map (keyed c.args.row) (take c.loop-number.number c.args.words.now), c.loop-number.invariant are)
