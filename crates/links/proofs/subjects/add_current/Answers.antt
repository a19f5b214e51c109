use Rattle.std.proofs.Common.{◌≡◌, Some, None, [], ◌∷◌, ◌++◌, get_or, refl, sym, ap, subst, ◌∙◌, take, take_all}
use Rattle.std.proofs.lemmas.List.{take_more}
use Rattle.rf2_values.specs.declared.row.Kind.TheVariants.{Concept}
use Rattle.segment.specs.declared.place.RowPlace.{RowPlace}
use Rattle.as_of_index.specs.Private.Chosen.{chosen}
use Rattle.links.specs.declared.postings.Subject.{Subject}
use Rattle.links.specs.Private.{GivesRow, Takes}
use Rattle.links.proofs.Collected.{takes_nothing, takes_one, takes_none}
use Rattle.links.proofs.subjects.add_current.Goals as goal
use Rattle.links.proofs.subjects.add_current.Goals.{in-Some+in_ok-push, in_default}

pub loop-x-init : goal.loop-x-init
loop-x-init c = λ lists listed_so. takes_nothing (GivesRow lists c.args.as_of.now c.args.segment) c.args.kept.now.items

pub loop-x-preserved : goal.loop-x-preserved
loop-x-preserved c = λ lists listed_so.
    let a = c.args in
    let i = c.loop-x.x-index in
    let first : Subject = record { subject = 0; kind = Concept; row = 0 } in
    let x = get_or a.subjects.now i first in
    let now = c.current_at.ensures lists listed_so in
    let so_far = c.loop-x.invariant lists listed_so in
    let gives = GivesRow lists a.as_of.now a.segment in
    rw (take_more a.subjects.now i first c.loop-x-test.true) (elim c.match-current_at.branch [
      | in-Some+in_ok-push w ↦
          let at = w.in-Some.at in
          subst (λ ys. Takes gives (take i a.subjects.now ++ x ∷ []) a.kept.now.items ys)
          (sym (ap (λ v. v.items) w.kept-is ∙ w.in_ok-push.ensures.items ∙ ap (λ k. c.loop-x.kept.items ++ k ∷ []) w.chosen.ensures))
          (takes_one gives (take i a.subjects.now) x (chosen a.segment at) a.kept.now.items c.loop-x.kept.items so_far (record { at = at; row_there = (now at).0 w.in-Some.is; answer_is = refl }) (λ z g.
          let got : Some at ≡ Some g.at = sym w.in-Some.is ∙ (now g.at).1 g.row_there in
          let same : at ≡ g.at = cc in
          ap (λ (p : RowPlace). chosen a.segment p) same ∙ g.answer_is))
      | in_default w ↦
          subst (λ ys. Takes gives (take i a.subjects.now ++ x ∷ []) a.kept.now.items ys)
          (sym (ap (λ v. v.items) w.kept-is))
          (takes_none gives (take i a.subjects.now) x a.kept.now.items c.loop-x.kept.items so_far (λ z g. absurd (
          let got : None ≡ Some g.at = sym w.in_default.is ∙ (now g.at).1 g.row_there in
          cc)))
    ])

pub returns : goal.returns
returns c = λ lists listed_so.
    let a = c.args in
    subst (λ xs. Takes (GivesRow lists a.as_of.now a.segment) xs a.kept.now.items c.loop-x.kept.items) (take_all c.loop-x.x-index a.subjects.now c.loop-x-test.false) (c.loop-x.invariant lists listed_so)
