use Rattle.std.proofs.Common.{◌≡◌, length, vec_len, ap, sym, ◌∙◌, rules}
use Rattle.history_model.specs.Queries.{folded}
use Rattle.term_prefix.specs.Laid.{head}
use Rattle.term_prefix.proofs.Ascii.{folding_added, ascii_is_as_long}
use Rattle.term_prefix.proofs.postings.push_ascii.Goals as goal

pub returns-clause-ok : goal.returns-clause-ok
returns-clause-ok c =
    let is = c.in_ok-extend_by_lower_case.ensures.ok in
    let long : vec_len c.args.text.now ≡ length c.args.text.now.items = search (rules) in
    let start = c.len-start.ensures ∙ long in
    let text = c.deref.ensures.value ∙ is in
    let first = c.head_of-head.ensures ∙ ap (head 16) (folding_added c.args.text.now.items (folded c.args.term.now) c.deref.result.now c.len-start.result text start) in
    let len = c.in-Ok.ensures.1 ∙ sym (ascii_is_as_long c.args.term.now c.requires) in
    record {
      texts = is;
      terms = rw (c.in_ok-reserve.ensures.items, first, start, len) at c.in-Ok-push.ensures.items;
    }
