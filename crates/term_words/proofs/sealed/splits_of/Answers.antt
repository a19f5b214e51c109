use Rattle.std.proofs.Common.{◌∷◌, ◌++◌, [], sym, ap, subst, ◌∙◌, take, take_all}
use Rattle.std.proofs.lemmas.List.{take_more}
use Rattle.term_words.specs.Private.{AreSplit}
use Rattle.term_words.proofs.Splits.{split_push}
use Rattle.term_words.proofs.sealed.splits_of.Goals as goal

pub loop-list-init : goal.loop-list-init
loop-list-init c = subst (AreSplit []) (sym c.in_ok-all.ensures.items) tt

pub loop-list-preserved : goal.loop-list-preserved
loop-list-preserved c =
    let lists = c.args.lists.now in
    let i = c.loop-list.list-index in
    let list = c.list-item.result in
    subst (λ ls. AreSplit ls c.push.new.self.items) (ap (λ x. take i lists ++ x ∷ []) c.list-item.is ∙ sym (take_more lists i list c.loop-list-test.true))
    (subst (AreSplit (take i lists ++ list ∷ [])) (sym c.in_ok-push.ensures.items) (split_push (take i lists) c.loop-list.all.items list c.split.result c.loop-list.invariant c.split.ensures.split c.split.ensures.rising))

pub returns : goal.returns
returns c = subst (λ ls. AreSplit ls c.loop-list.all.items) (take_all c.loop-list.list-index c.args.lists.now c.loop-list-test.false) c.loop-list.invariant
