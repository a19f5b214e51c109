use Rattle.std.proofs.Common.{◌+◌, sym, subst, ◌∙◌}
use Rattle.list_lemmas.proofs.Parts.{take_one_more}
use Rattle.history_model.specs.InOrder.{IsAscending}
use Rattle.history_model.proofs.Filtered.{IsAscending-take}
use Rattle.as_of_index.specs.Places.{place_cmp}
use Rattle.index_support.proofs.listed.may_list.Goals as goal

pub returns-then-not-comes_after : goal.returns-then-not-comes_after
returns-then-not-comes_after c =
    let list = c.args.list.now in
    let i = c.loop-i.i in (
      λ h. absurd (cc),
      λ up. absurd (
          let front = subst (λ xs. IsAscending place_cmp xs) (take_one_more list i c.index-list-i.result c.loop-i-test.true c.index-list-i.is) (IsAscending-take place_cmp (i + 1) list up) in
          let t = sym (c.comes_after.ensures.1 front) ∙ c.if-not-comes_after.true in
          cc),
    )
