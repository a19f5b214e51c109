use Rattle.std.proofs.Common.{List, ◌++◌, ◌∷◌, [], ◌-◌, length, take, subst, sym, ap, ◌∙◌}
use Rattle.std.specs.Ordering.{is_lt}
use Rattle.list_lemmas.proofs.Tests.{less_from_test}
use Rattle.history_model.specs.InOrder.{IsAscending}
use Rattle.segment.specs.declared.place.RowPlace.{RowPlace}
use Rattle.segment.proofs.Ascending.{ascends_push, last_below, last_split}
use Rattle.as_of_index.specs.Places.{place_cmp}
use Rattle.as_of_index.proofs.Ordered.{places_total}
use Rattle.index_support.proofs.listed.comes_after.Goals as goal

pub returns-in-len1-up : goal.returns-in-len1-up
returns-in-len1-up c =
    let list = c.args.list.now in
    let last = c.last-item.result in
    let front = take (length list - 1) list in
    let split = last_split list last c.in-len1-up.len_at_least c.last-item.is in
    let up = λ (l : List RowPlace). IsAscending place_cmp l in
    let more = λ (l : List RowPlace). IsAscending place_cmp (l ++ c.args.p.now ∷ []) in (
      λ t. subst more (sym split) (ascends_push places_total front last c.args.p.now (subst up split c.requires) (less_from_test (place_cmp last c.args.p.now) (sym c.is_under.ensures ∙ t))),
      λ all. c.is_under.ensures ∙ ap is_lt (last_below place_cmp front last c.args.p.now (subst more split all)),
    )
