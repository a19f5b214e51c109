use Rattle.std.proofs.Common.{sym, ap, refl, ◌∙◌}
use Rattle.std.proofs.lemmas.Result.{err_from_is_err_and}
use Rattle.list_lemmas.proofs.Tests.{none_from_test as goes_not_on}
use Rattle.history_store.specs.MergeInProgress.{merge_of}
use Rattle.history_store.proofs.GoingOn.{goes_on}
use Rattle.history_store.proofs.BegunMerge.{segments_long, begun_merge, all_left, is_begun, not_begun, unbegun_refused}
use Rattle.history_store.proofs.Held.{held_stands}
use Rattle.history_store.proofs.store.Store.merge_begin.Goals as goal

pub begin-requires-clause-long : goal.begin-requires-clause-long
begin-requires-clause-long g c = segments_long c.self.inside.directory.entries c.self.inside.index.lists c.self.invariant.0.kept.segments

pub begin-requires-clause-kept : goal.begin-requires-clause-kept
begin-requires-clause-kept g c = c.self.invariant.0.kept

pub invariant_of-self : goal.invariant_of-self
invariant_of-self g c = (
  c.self.invariant.0,
  begun_merge c.self.inside.directory c.in_ok-merge.merge c.in_ok-merge.ensures.begun c.self.inside.index.lists c.self.invariant.0.kept c.in_ok-merge.ensures.first c.in_ok-merge.ensures.second _ _ _,
  c.in_ok-merge.ensures.words,
)

pub returns-then-is_some-clause-answer : goal.returns-then-is_some-clause-answer
returns-then-is_some-clause-answer g c =
    rw (← c.self.view_is) ((c.if-self.false, goes_on c.self.inside.directory c.self.inside.merge (sym c.is_some.ensures ∙ c.if-is_some.true)), record { history = refl; catalog = refl; closed = λ is. absurd (cc); still = λ other. refl })

pub returns-in_err-merge-clause-answer : goal.returns-in_err-merge-clause-answer
returns-in_err-merge-clause-answer g c =
    let p = err_from_is_err_and c.from_residual.result c.from_residual.ensures.1 in
    let none = goes_not_on c.self.inside.merge (sym c.is_some.ensures ∙ c.if-is_some.false) in
    rw (p.1, p.2, ← c.self.view_is) (not_begun _ _ c.if-self.false (ap merge_of none) c.in_err-merge.ensures.refused, unbegun_refused _ _ _ c.in_err-merge.ensures.refused)

pub returns-clause-answer : goal.returns-clause-answer
returns-clause-answer g c =
    let none = goes_not_on c.self.inside.merge (sym c.is_some.ensures ∙ c.if-is_some.false) in
    rw (← c.self.view_is) (is_begun c.self.inside.directory c.in_ok-merge.merge c.in_ok-merge.ensures.begun c.self.inside.merge c.left-left.result none c.left-left.ensures (all_left c.self.inside.directory c.in_ok-merge.merge c.in_ok-merge.ensures.begun c.self.inside.index.lists c.self.invariant.0.kept c.in_ok-merge.ensures.first c.in_ok-merge.ensures.second), record { history = refl; was_open = c.if-self.false; open_still = c.if-self.false })

pub returns-clause-acknowledged : goal.returns-clause-acknowledged
returns-clause-acknowledged g c =
    rw (← c.self.view_is) (λ honest still. record { open_still = still; each = held_stands _ _ _ _ _ _ _ c.self.invariant.0 honest still })
