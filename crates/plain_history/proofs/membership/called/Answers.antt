use Rattle.std.proofs.Common.{◌≡◌, ◌++◌, Bor, ◌∷◌, [], ap, sym, ◌∙◌, map, take, take_all, length, arith}
use Rattle.std.specs.Prelude.{flat_map}
use Rattle.std.proofs.lemmas.List.{take_more, length-map}
use Rattle.rf2_values.specs.Row.{RowValue}
use Rattle.history_model.specs.Queries.{with_others, members_about, called}
use Rattle.plain_history.proofs.Listed.{flat_map_push}
use Rattle.plain_history.proofs.Placing.{next_value, within_values}
use Rattle.plain_history.proofs.membership.called.Goals as goal

pub loop-description-preserved : goal.loop-description-preserved
loop-description-preserved c =
    let a = c.args in
    let i = c.loop-description.description-index in
    let xs = c.deref-description-items.result.now in
    let d = c.description-item.result in
    c.in_ok-push_with_others.ensures
    ∙ ap (λ ys. map (λ r. r.now) c.loop-description.found.items ++ with_others d.now ys) (ap (map (λ r. r.now)) c.deref.ensures.value ∙ c.in_ok-others.ensures ∙ ap (λ (r : Bor RowValue). members_about a.refset r.now.id a.date a.rows.now) c.description.view_is)
    ∙ ap (λ ys. ys ++ with_others d.now (members_about a.refset d.now.id a.date a.rows.now)) c.loop-description.invariant
    ∙ sym (flat_map_push (λ (e : RowValue). with_others e (members_about a.refset e.id a.date a.rows.now)) (take i (map (λ r. r.now) xs)) d.now)
    ∙ ap (λ n. flat_map (λ (e : RowValue). with_others e (members_about a.refset e.id a.date a.rows.now)) (take i (map (λ r. r.now) xs) ++ n ∷ [])) (next_value xs i d c.loop-description-test.true c.description-item.is)
    ∙ ap (flat_map (λ (e : RowValue). with_others e (members_about a.refset e.id a.date a.rows.now))) (sym (take_more (map (λ r. r.now) xs) i d.now (within_values xs i c.loop-description-test.true)))

pub returns : goal.returns
unfolding called
returns c =
    let a = c.args in
    let xs = c.deref-description-items.result.now in
    let le = c.loop-description-test.false in
    let same : length (map (λ r. r.now) xs) ≡ length xs = length-map xs (λ r. r.now) in
    c.loop-description.invariant
    ∙ ap (flat_map (λ (e : RowValue). with_others e (members_about a.refset e.id a.date a.rows.now))) (take_all c.loop-description.description-index (map (λ r. r.now) xs) (omega (arith, le, same)) ∙ ap (map (λ r. r.now)) c.deref-description-items.ensures.value ∙ c.in_ok-descriptions.ensures)
