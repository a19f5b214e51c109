use Rattle.std.proofs.Common.{List, ℕ, sym, ap, subst, ◌∙◌}
use Rattle.memchr.specs.Find.{is_byte, places}
use Rattle.std.proofs.lemmas.Iterator.Consumers.{YieldsList-from_first, YieldsList-end}
use Rattle.term_words.specs.Private.{AddsRows, picked}
use Rattle.term_words.proofs.Adding.{rows_none, rows_next}
use Rattle.term_words.proofs.Runs.{map_same}
use Rattle.term_words.proofs.search.add_rows.Goals as goal

pub loop-number-init : goal.loop-number-init
loop-number-init c = λ lists listed_so. rows_none lists c.args.as_of.now c.args.group.now.segment c.args.group.now.len c.args.kept.now.items

pub loop-number-preserved : goal.loop-number-preserved
loop-number-preserved c = λ lists listed_so.
    let a = c.args in
    rows_next lists a.as_of.now a.group.now.segment a.group.now.len a.group.now.rows.now c.loop-number.yielded c.in-Some.number a.kept.now.items c.loop-number.kept.items c.add_at.new.kept.items (c.loop-number.invariant lists listed_so) (c.in_ok-add_at.ensures lists listed_so)

pub returns : goal.returns
returns c = λ lists listed_so.
    let a = c.args in
    let all = c.into_iter-number-iterator.ensures.into_iter_gives ∙ c.memchr_iter-number-items.ensures.value ∙ ap (places (is_byte 1)) (c.marks_from-own.ensures) in
    let t = YieldsList-end (YieldsList-from_first (λ (x : ℕ). x) (λ (rest : List ℕ). rest) _ all) c.loop-number.yielded _ c.loop-number.yielded_by _ _ c.in-None.is c.next.ensures.steps in
    subst (λ js. AddsRows lists a.as_of.now a.group.now.segment a.group.now.len (picked a.group.now.rows.now js) a.kept.now.items c.loop-number.kept.items) (sym (map_same c.loop-number.yielded) ∙ t.0) (c.loop-number.invariant lists listed_so)
