use Rattle.std.proofs.Common.{◌≡◌, Some, None, [], ◌∷◌, ◌++◌, get_or, refl, sym, ap, subst, ◌∙◌, take, take_all}
use Rattle.std.proofs.lemmas.List.{take_more}
use Rattle.rf2_values.specs.declared.row.Kind.TheVariants.{Concept}
use Rattle.segment.specs.declared.place.RowPlace.{RowPlace}
use Rattle.as_of_index.specs.Places.{item_at}
use Rattle.links.specs.declared.postings.Subject.{Subject}
use Rattle.links.specs.Private.{GivesId, Takes}
use Rattle.links.proofs.Collected.{takes_nothing, takes_one, takes_none}
use Rattle.links.proofs.ever_about.add_ids.Goals as goal
use Rattle.links.proofs.ever_about.add_ids.Goals.{in-Some+in_ok-push, in_default}

pub loop-x-init : goal.loop-x-init
loop-x-init c = λ lists listed_so. takes_nothing (GivesId lists c.args.pin c.args.segment) c.args.ids.now.items

pub loop-x-preserved : goal.loop-x-preserved
loop-x-preserved c = λ lists listed_so.
    let a = c.args in
    let i = c.loop-x.x-index in
    let first : Subject = record { subject = 0; kind = Concept; row = 0 } in
    let x = get_or a.subjects.now i first in
    let now = c.shown_at.ensures in
    let so_far = c.loop-x.invariant lists listed_so in
    let gives = GivesId lists a.pin a.segment in
    rw (take_more a.subjects.now i first c.loop-x-test.true) (elim c.match-shown_at.branch [
      | in-Some+in_ok-push w ↦
          let at = w.in-Some.at in
          let n = (now at).0 w.in-Some.is in
          subst (λ ys. Takes gives (take i a.subjects.now ++ x ∷ []) a.ids.now.items ys)
          (sym (ap (λ v. v.items) w.ids-is ∙ w.in_ok-push.ensures.items ∙ ap (λ k. c.loop-x.ids.items ++ k ∷ []) w.id_of.ensures))
          (takes_one gives (take i a.subjects.now) x at.key.id a.ids.now.items c.loop-x.ids.items so_far (record { at = at; row_there = subst (λ index. item_at index a.segment x.row ≡ Some at) listed_so n.0; shown = n.1; id_is = refl }) (λ z g.
          let got : Some at ≡ Some g.at = sym w.in-Some.is ∙ (now g.at).1 (subst (λ index. item_at index a.segment x.row ≡ Some g.at) (sym listed_so) g.row_there, g.shown) in
          let same : at ≡ g.at = cc in
          ap (λ (p : RowPlace). p.key.id) same ∙ g.id_is))
      | in_default w ↦
          subst (λ ys. Takes gives (take i a.subjects.now ++ x ∷ []) a.ids.now.items ys)
          (sym (ap (λ v. v.items) w.ids-is))
          (takes_none gives (take i a.subjects.now) x a.ids.now.items c.loop-x.ids.items so_far (λ z g. absurd (
          let got : None ≡ Some g.at = sym w.in_default.is ∙ (now g.at).1 (subst (λ index. item_at index a.segment x.row ≡ Some g.at) (sym listed_so) g.row_there, g.shown) in
          cc)))
    ])

pub returns : goal.returns
returns c = λ lists listed_so.
    let a = c.args in
    subst (λ xs. Takes (GivesId lists a.pin a.segment) xs a.ids.now.items c.loop-x.ids.items) (take_all c.loop-x.x-index a.subjects.now c.loop-x-test.false) (c.loop-x.invariant lists listed_so)
