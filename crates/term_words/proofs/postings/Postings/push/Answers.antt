use Rattle.std.proofs.Common.{sym, ap, ◌∙◌}
use Rattle.std.proofs.lemmas.Result.{on_ok_weaker, on_err_weaker}
use Rattle.history_model.specs.declared.stamped.StampedRow.{StampedRow}
use Rattle.term_words.proofs.Numbering.{are_after, seen_after, unseen_after}
use Rattle.term_words.proofs.Posting.{posted_is}
use Rattle.term_words.proofs.postings.Postings.push.Goals as goal

pub invariant_of-self : goal.invariant_of-self
invariant_of-self c =
    let self = c.self.inside in
    are_after c.post_term.result self.text.items c.post_term.new.text.items self.keys.items c.post_term.new.keys.items self.pushed.items c.post_term.new.pushed.items _ (c.post_term.ensures.ok c.self.invariant) (c.post_term.ensures.err c.self.invariant)

pub returns-in-Description-clause-ok : goal.returns-in-Description-clause-ok
returns-in-Description-clause-ok c =
    let self = c.self.inside in
    let row = c.args.row.now.row in
    let is = posted_is row c.in-Description.description c.args.number c.value-type_id.result c.as_bytes-term.result.now
    (ap (λ (s : StampedRow). s.row.active) (sym c.row.view_is) ∙ c.if-row.true)
    (ap (λ (s : StampedRow). s.row.body) (sym c.row.view_is) ∙ c.in-Description.is)
    c.value-type_id.ensures.value
    c.as_bytes-term.ensures.bytes in
    on_ok_weaker c.post_term.result (λ w. seen_after self.text.items c.post_term.new.text.items self.keys.items c.post_term.new.keys.items self.pushed.items c.post_term.new.pushed.items _ _ c.args.self.now c.self.view_is is w) (c.post_term.ensures.ok c.self.invariant)

pub returns-in-Description-clause-err : goal.returns-in-Description-clause-err
returns-in-Description-clause-err c =
    let self = c.self.inside in
    on_err_weaker c.post_term.result (λ w. unseen_after self.text.items c.post_term.new.text.items self.keys.items c.post_term.new.keys.items self.pushed.items c.post_term.new.pushed.items c.args.self.now c.self.view_is w) (c.post_term.ensures.err c.self.invariant)
