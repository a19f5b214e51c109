use Rattle.std.proofs.Common.{sym, ap, ◌∙◌}
use Rattle.history_model.specs.declared.stamped.StampedRow.{StampedRow}
use Rattle.history_model.specs.Queries.{folded}
use Rattle.term_prefix.proofs.Laid.{laid_after, pushed_after, posted_is}
use Rattle.term_prefix.proofs.postings.Postings.push.Goals as goal

pub invariant_of-self : goal.invariant_of-self
invariant_of-self c = laid_after c.push_folded.result c.self.inside.text.items c.self.inside.terms.items (folded c.as_bytes-term.result.now) c.args.number c.push_folded.new.text.items c.push_folded.new.terms.items c.push_folded.ensures.ok c.push_folded.ensures.err c.self.invariant

pub returns-in-Description-clause-ok : goal.returns-in-Description-clause-ok
returns-in-Description-clause-ok c =
    let text = c.as_bytes-term.result.now in
    let row = c.args.row.now.row in
    let is = posted_is row c.in-Description.description c.args.number (folded text)
    (ap (λ (s : StampedRow). s.row.active) (sym c.row.view_is) ∙ c.if-row.true)
    (ap (λ (s : StampedRow). s.row.body) (sym c.row.view_is) ∙ c.in-Description.is)
    (ap folded c.as_bytes-term.ensures.bytes) in
    pushed_after c.push_folded.result c.self.inside.text.items c.self.inside.terms.items (folded text) c.args.number c.push_folded.new.text.items c.push_folded.new.terms.items _ _ c.push_folded.ensures.ok c.self.invariant c.self.view_is is
