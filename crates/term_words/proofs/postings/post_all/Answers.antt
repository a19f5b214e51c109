use Rattle.std.proofs.Common.{◌≡◌, ◌∷◌, [], length, map, subst, arith}
use Rattle.std.specs.Prelude.{chars}
use Rattle.std.proofs.lemmas.Result.{on_ok_weaker}
use Rattle.word_model.specs.Words.{words}
use Rattle.term_words.specs.Posted.{keyed, measure_key, word_key}
use Rattle.term_words.specs.Private.{IsPostedWith}
use Rattle.term_words.proofs.Numbering.{posted_none, posted_both}
use Rattle.term_words.proofs.postings.post_all.Goals as goal

pub returns-in_default-clause-some : goal.returns-in_default-clause-some
returns-in_default-clause-some c = λ are. ([], posted_none c.args.text.now.items c.args.keys.now.items c.args.pushed.now.items are)

pub returns-in_err-post-clause-some : goal.returns-in_err-post-clause-some
returns-in_err-post-clause-some c = λ are. c.post.ensures.some are

pub returns-clause-ok : goal.returns-clause-ok
returns-clause-ok c = λ are.
    let text = c.args.text.now.items in
    let keys = c.args.keys.now.items in
    let pushed = c.args.pushed.now.items in
    let first = c.in_ok-post.ensures.ok are in
    let many : c.in-Ok.length ≡ length (chars c.args.term.now) = (let count = c.count_of.ensures in omega (arith, c.in-Ok.ensures, count)) in
    on_ok_weaker c.post_words.result (λ rest.
    subst (λ n. IsPostedWith text keys pushed (map (keyed c.args.row) (measure_key n c.args.type_id ∷ map word_key (words c.args.term.now))) c.post_words.new.text.items c.post_words.new.keys.items c.post_words.new.pushed.items) many
    (posted_both text c.post.new.text.items c.post_words.new.text.items keys c.post.new.keys.items c.post_words.new.keys.items pushed c.post.new.pushed.items c.post_words.new.pushed.items (keyed c.args.row (measure_key c.in-Ok.length c.args.type_id) ∷ []) (map (keyed c.args.row) (map word_key (words c.args.term.now))) first rest))
    (c.post_words.ensures.ok first.are)

pub returns-clause-some : goal.returns-clause-some
returns-clause-some c = λ are.
    let first = c.in_ok-post.ensures.ok are in
    let w = c.post_words.ensures.some first.are in
    (keyed c.args.row (measure_key c.in-Ok.length c.args.type_id) ∷ w.0, posted_both c.args.text.now.items c.post.new.text.items c.post_words.new.text.items c.args.keys.now.items c.post.new.keys.items c.post_words.new.keys.items c.args.pushed.now.items c.post.new.pushed.items c.post_words.new.pushed.items (keyed c.args.row (measure_key c.in-Ok.length c.args.type_id) ∷ []) w.0 first w.1)
