use Rattle.std.proofs.Common.{◌≡◌, Some, None, false, [], ◌∷◌, ◌++◌, get_or, refl, sym, ap, subst, ◌∙◌, take, take_all}
use Rattle.std.proofs.lemmas.List.{take_more}
use Rattle.links.specs.declared.posting.Tag.TheVariants.{Source}
use Rattle.links.specs.declared.posting.Posting.{Posting}
use Rattle.links.specs.Private.{Takes}
use Rattle.links.specs.Private.Asking.{GivesEnd}
use Rattle.links.proofs.Collected.{takes_nothing, takes_one, takes_none}
use Rattle.links.proofs.incoming.add_ends.Goals as goal
use Rattle.links.proofs.incoming.add_ends.Goals.{in-Some+in_ok-push, in_default}

pub loop-p-init : goal.loop-p-init
loop-p-init c = λ lists listed_so. takes_nothing (GivesEnd lists c.args.asked.now c.args.segment) c.args.ids.now.items

pub loop-p-preserved : goal.loop-p-preserved
loop-p-preserved c = λ lists listed_so.
    let a = c.args in
    let i = c.loop-p.p-index in
    let first : Posting = record { first = 0; second = 0; end = 0; row = 0; tag = Source; active = false } in
    let x = get_or a.postings.now i first in
    let now = c.row_at.ensures lists listed_so in
    let so_far = c.loop-p.invariant lists listed_so in
    let gives = GivesEnd lists a.asked.now a.segment in
    rw (take_more a.postings.now i first c.loop-p-test.true) (elim c.match-row_at.branch [
      | in-Some+in_ok-push w ↦
          let at = w.in-Some._at in
          let says = (now at).0 w.in-Some.is in
          subst (λ ys. Takes gives (take i a.postings.now ++ x ∷ []) a.ids.now.items ys)
          (sym (ap (λ v. v.items) w.ids-is ∙ w.in_ok-push.ensures.items))
          (takes_one gives (take i a.postings.now) x x.end a.ids.now.items c.loop-p.ids.items so_far (record { at = at; row_there = (says.0, says.1); asked_so = says.2; answer_is = refl }) (λ z g. g.answer_is))
      | in_default w ↦
          subst (λ ys. Takes gives (take i a.postings.now ++ x ∷ []) a.ids.now.items ys)
          (sym (ap (λ v. v.items) w.ids-is))
          (takes_none gives (take i a.postings.now) x a.ids.now.items c.loop-p.ids.items so_far (λ z g. absurd (
          let got : None ≡ Some g.at = sym w.in_default.is ∙ (now g.at).1 (g.row_there.0, g.row_there.1, g.asked_so) in
          cc)))
    ])

pub returns : goal.returns
returns c = λ lists listed_so.
    let a = c.args in
    subst (λ xs. Takes (GivesEnd lists a.asked.now a.segment) xs a.ids.now.items c.loop-p.ids.items) (take_all c.loop-p.p-index a.postings.now c.loop-p-test.false) (c.loop-p.invariant lists listed_so)
