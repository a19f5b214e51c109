use Rattle.std.specs.Prelude.{Option, Some, Ok, Err}
use Rattle.std.specs.Option.{option_to_list}
use Rattle.std.proofs.Common.{◌≡◌, ◌≢◌, map, refl, sym, ap, subst, ◌∙◌}
use Rattle.std.proofs.lemmas.Bool.{false≢true}
use Rattle.disk_model.proofs.MomentSteps.{stayed}
use Rattle.segment_index.specs.Indexed.{StoreRows}
use Rattle.history_store.specs.declared.refusal.Refusal.TheVariants as refusals
use Rattle.blocks.specs.Extents.{byte_range}
use Rattle.blocks.specs.Outside.{SameOutside}
use Rattle.history_store.specs.declared.merge_in_progress.MergeInProgress.{MergeInProgress}
use Rattle.store_image.specs.Kept.{history_of}
use Rattle.history_store.specs.StoreValue.{IsHeld}
use Rattle.history_store.specs.Catalog.{reserved_by}
use Rattle.history_store.specs.MergeInProgress.{merge_of}
use Rattle.history_store.proofs.Held.{held_stands}
use Rattle.history_store.proofs.Metered.{step_refused, step_ok, step_err}
use Rattle.history_store.proofs.SteppedStore.{held_lent, held_back, merge_back, same_lists, words_stepped, words_shown, no_fault, is_stepped, stepping_refused}
use Rattle.history_store.proofs.StepWrites.{some_rows, none_unfinished, wrote_shown, wrote_ok, wrote_err}
use Rattle.history_store.proofs.store.Store.merge_step.Goals as goal
use Rattle.history_store.proofs.store.Store.merge_step.Goals.{in-DiskFault, in_default-matches}

pub invariant_of-self-in-Ok : goal.invariant_of-self-in-Ok
invariant_of-self-in-Ok g c =
    let s = c.self.inside in
    let new = c.step-stepped.new in
    let lent = held_lent (g.D.Disk.view s.disk).is_honest (g.D.Disk.view s.disk).moments.state s.cache s.slot s.directory s.index.lists s.needs_reopen c.self.invariant.0 c.if-self.false in
    let both = same_lists (g.D.Disk.view new.disk).is_honest (g.D.Disk.view new.disk).moments.state new.cache s.slot s.directory s.index.lists new.index.lists (Some new.merge) s.needs_reopen (ap (λ (x : StoreRows). x.lists) c.step-stepped.ensures.step.0) (
      held_back (g.D.Disk.view new.disk).is_honest (g.D.Disk.view new.disk).moments.state new.cache s.slot s.directory s.index.lists _ s.needs_reopen (c.in-Ok.ensures.held s.slot lent) (sym c.if-self.false),
      merge_back (g.D.Disk.view new.disk).is_honest (g.D.Disk.view new.disk).moments.state.now s.directory s.index.lists new.merge _ s.needs_reopen c.in-Ok.ensures.merge (sym c.if-self.false),
    ) in
    (both.0, both.1, words_stepped s.index new.index s.merge c.in-Some.merge new.merge c.args.n (Ok _) c.in-Some.ensures.value c.step-stepped.ensures.step.0 c.in-Ok.ensures.step.1 c.self.invariant.2)

pub invariant_of-self-else-matches : goal.invariant_of-self-else-matches
invariant_of-self-else-matches g c =
    let s = c.self.inside in
    let new = c.step-stepped.new in
    let other : c.in-Err.refusal ≢ refusals.DiskFault = elim c.match-matches.branch [ in-DiskFault w ↦ absurd (let off = c.if-matches.false in let on = w.matches-is in cc) | in_default-matches w ↦ λ is. w.in_default-matches.not-DiskFault is ] in
    let open_still = no_fault c.in-Err.refusal c.in-Err.ensures.step.1.0 other ∙ sym c.if-self.false in
    let lent = held_lent (g.D.Disk.view s.disk).is_honest (g.D.Disk.view s.disk).moments.state s.cache s.slot s.directory s.index.lists s.needs_reopen c.self.invariant.0 c.if-self.false in
    let both = same_lists (g.D.Disk.view new.disk).is_honest (g.D.Disk.view new.disk).moments.state new.cache s.slot s.directory s.index.lists new.index.lists (Some new.merge) s.needs_reopen (ap (λ (x : StoreRows). x.lists) c.step-stepped.ensures.step.0) (
      held_back (g.D.Disk.view new.disk).is_honest (g.D.Disk.view new.disk).moments.state new.cache s.slot s.directory s.index.lists _ s.needs_reopen (c.in-Err.ensures.held s.slot lent) open_still,
      merge_back (g.D.Disk.view new.disk).is_honest (g.D.Disk.view new.disk).moments.state.now s.directory s.index.lists new.merge _ s.needs_reopen c.in-Err.ensures.merge open_still,
    ) in
    (both.0, both.1, words_stepped s.index new.index s.merge c.in-Some.merge new.merge c.args.n (Err c.in-Err.refusal) c.in-Some.ensures.value c.step-stepped.ensures.step.0 c.in-Err.ensures.step.1 c.self.invariant.2)

pub returns-in-Ok-clause-answer : goal.returns-in-Ok-clause-answer
returns-in-Ok-clause-answer g c =
    rw (← c.self.view_is) (is_stepped c.args.n c.left-left.result c.self.inside.directory c.self.inside.merge c.in-Some.merge c.step-stepped.new.merge c.in-Some.ensures.value c.left-left.ensures c.in-Ok.ensures.step.1, record { history = ap (λ (x : StoreRows). history_of c.self.inside.directory x.lists) c.step-stepped.ensures.step.0; was_open = c.if-self.false; open_still = c.if-self.false })

pub returns-then-matches-clause-answer : goal.returns-then-matches-clause-answer
returns-then-matches-clause-answer g c =
    let disk : c.in-Err.refusal ≡ refusals.DiskFault = elim c.match-matches.branch [ in-DiskFault w ↦ w.in-DiskFault.is | in_default-matches w ↦ absurd (let on = c.if-matches.true in let off = w.matches-is in cc) ] in
    rw (← c.self.view_is) (stepping_refused c.in-Err.refusal _ _ c.args.n c.self.inside.directory c.self.inside.merge c.in-Some.merge c.step-stepped.new.merge c.in-Some.ensures.value c.if-self.false refl refl (ap (λ (x : StoreRows). history_of c.self.inside.directory x.lists) c.step-stepped.ensures.step.0) c.in-Err.ensures.step.1 (λ is. refl) (λ other. absurd (other disk)))

pub returns-else-matches-clause-answer : goal.returns-else-matches-clause-answer
returns-else-matches-clause-answer g c =
    let other : c.in-Err.refusal ≢ refusals.DiskFault = elim c.match-matches.branch [ in-DiskFault w ↦ absurd (let off = c.if-matches.false in let on = w.matches-is in cc) | in_default-matches w ↦ λ is. w.in_default-matches.not-DiskFault is ] in
    rw (← c.self.view_is) (stepping_refused c.in-Err.refusal _ _ c.args.n c.self.inside.directory c.self.inside.merge c.in-Some.merge c.step-stepped.new.merge c.in-Some.ensures.value c.if-self.false refl refl (ap (λ (x : StoreRows). history_of c.self.inside.directory x.lists) c.step-stepped.ensures.step.0) c.in-Err.ensures.step.1 (λ is. absurd (other is)) (λ still. refl))

pub returns-in-Ok-clause-elsewhere : goal.returns-in-Ok-clause-elsewhere
returns-in-Ok-clause-elsewhere g c =
    rw (← c.self.view_is) (λ honest. subst (λ (o : Option MergeInProgress). SameOutside (map byte_range (option_to_list (reserved_by (merge_of o)))) (g.D.Disk.view c.self.inside.disk).moments.state.now (g.D.Disk.view c.step-stepped.new.disk).moments.state.now)
    c.in-Some.ensures.value (c.in-Ok.ensures.elsewhere honest))

-- ---- what it writes

pub returns-in_default-clause-wrote : goal.returns-in_default-clause-wrote
returns-in_default-clause-wrote g c =
    rw (← c.self.view_is) (λ honest still some going. absurd (none_unfinished c.self.inside.directory c.self.inside.merge (sym c.in_default.ensures.value) going))

pub returns-in-Ok-clause-wrote : goal.returns-in-Ok-clause-wrote
returns-in-Ok-clause-wrote g c =
    let s = c.self.inside in
    let m = c.in-Some.merge in
    let value = c.in-Some.ensures.value in
    rw (← c.self.view_is) (λ honest still some going.
    wrote_shown (Ok c.left-left.result) c.args.n s.directory s.index.lists s.merge m (g.D.Disk.view s.disk).moments (g.D.Disk.view c.step-stepped.new.disk).moments value
    (wrote_ok tt c.left-left.result c.args.n _ _ _ _ (c.in-Ok.ensures.wrote honest some (some_rows s.directory s.merge m value going))))

pub returns-then-matches-clause-wrote : goal.returns-then-matches-clause-wrote
returns-then-matches-clause-wrote g c =
    let s = c.self.inside in
    let m = c.in-Some.merge in
    let value = c.in-Some.ensures.value in
    rw (← c.self.view_is) (λ honest still some going.
    wrote_shown (Err c.in-Err.refusal) c.args.n s.directory s.index.lists s.merge m (g.D.Disk.view s.disk).moments (g.D.Disk.view c.step-stepped.new.disk).moments value
    (wrote_err c.in-Err.refusal c.args.n _ _ _ _ (c.in-Err.ensures.wrote honest some (some_rows s.directory s.merge m value going))))

pub returns-else-matches-clause-wrote : goal.returns-else-matches-clause-wrote
returns-else-matches-clause-wrote g c =
    let s = c.self.inside in
    let m = c.in-Some.merge in
    let value = c.in-Some.ensures.value in
    rw (← c.self.view_is) (λ honest still some going.
    wrote_shown (Err c.in-Err.refusal) c.args.n s.directory s.index.lists s.merge m (g.D.Disk.view s.disk).moments (g.D.Disk.view c.step-stepped.new.disk).moments value
    (wrote_err c.in-Err.refusal c.args.n _ _ _ _ (c.in-Err.ensures.wrote honest some (some_rows s.directory s.merge m value going))))

-- ---- what a crash leaves

pub returns-then-self-clause-crash : goal.returns-then-self-clause-crash
returns-then-self-clause-crash g c =
    rw (← c.self.view_is) (record {
      closed = λ needs. refl;
      any_moment = λ honest still. absurd (false≢true (sym still ∙ c.if-self.true));
      acknowledged = λ honest still. absurd (false≢true (sym still ∙ c.if-self.true));
    })

pub returns-in_default-clause-crash : goal.returns-in_default-clause-crash
returns-in_default-clause-crash g c =
    rw (← c.self.view_is) (record {
      closed = λ needs. absurd (false≢true (sym c.if-self.false ∙ needs));
      any_moment = λ honest still. stayed _ _ _ refl (λ f image. (_, _, held_stands _ _ _ _ _ _ _ c.self.invariant.0 honest still f image));
      acknowledged = λ honest still. record { open_still = still; each = held_stands _ _ _ _ _ _ _ c.self.invariant.0 honest still };
    })

pub returns-in-Ok-clause-crash : goal.returns-in-Ok-clause-crash
returns-in-Ok-clause-crash g c =
    let s = c.self.inside in
    let new = c.step-stepped.new in
    let lent = held_lent (g.D.Disk.view s.disk).is_honest (g.D.Disk.view s.disk).moments.state s.cache s.slot s.directory s.index.lists s.needs_reopen c.self.invariant.0 c.if-self.false in
    let held = held_back (g.D.Disk.view new.disk).is_honest (g.D.Disk.view new.disk).moments.state new.cache s.slot s.directory s.index.lists _ s.needs_reopen (c.in-Ok.ensures.held s.slot lent) (sym c.if-self.false) in
    rw (← c.self.view_is) (record {
      closed = λ needs. absurd (false≢true (sym c.if-self.false ∙ needs));
      any_moment = λ honest still. c.step-stepped.ensures.any_moment honest;
      acknowledged = λ honest still. record { open_still = still; each = held_stands _ _ _ _ _ _ _ (subst (λ l. IsHeld (g.D.Disk.view new.disk).is_honest (g.D.Disk.view new.disk).moments.state new.cache s.slot s.directory l s.needs_reopen) (sym (ap (λ (x : StoreRows). x.lists) c.step-stepped.ensures.step.0)) held) (c.step-stepped.ensures.meters.counts.honesty.0 honest) still };
    })

pub returns-then-matches-clause-crash : goal.returns-then-matches-clause-crash
returns-then-matches-clause-crash g c =
    rw (← c.self.view_is) (record {
      closed = λ needs. absurd (false≢true (sym c.if-self.false ∙ needs));
      any_moment = λ honest still. c.step-stepped.ensures.any_moment honest;
      acknowledged = λ honest still. absurd (false≢true (sym still));
    })

pub returns-else-matches-clause-crash : goal.returns-else-matches-clause-crash
returns-else-matches-clause-crash g c =
    let s = c.self.inside in
    let new = c.step-stepped.new in
    let other : c.in-Err.refusal ≢ refusals.DiskFault = elim c.match-matches.branch [ in-DiskFault w ↦ absurd (let off = c.if-matches.false in let on = w.matches-is in cc) | in_default-matches w ↦ λ is. w.in_default-matches.not-DiskFault is ] in
    let open_still = no_fault c.in-Err.refusal c.in-Err.ensures.step.1.0 other ∙ sym c.if-self.false in
    let lent = held_lent (g.D.Disk.view s.disk).is_honest (g.D.Disk.view s.disk).moments.state s.cache s.slot s.directory s.index.lists s.needs_reopen c.self.invariant.0 c.if-self.false in
    let held = held_back (g.D.Disk.view new.disk).is_honest (g.D.Disk.view new.disk).moments.state new.cache s.slot s.directory s.index.lists _ s.needs_reopen (c.in-Err.ensures.held s.slot lent) open_still in
    rw (← c.self.view_is) (record {
      closed = λ needs. absurd (false≢true (sym c.if-self.false ∙ needs));
      any_moment = λ honest still. c.step-stepped.ensures.any_moment honest;
      acknowledged = λ honest still. record { open_still = still; each = held_stands _ _ _ _ _ _ _ (subst (λ l. IsHeld (g.D.Disk.view new.disk).is_honest (g.D.Disk.view new.disk).moments.state new.cache s.slot s.directory l s.needs_reopen) (sym (ap (λ (x : StoreRows). x.lists) c.step-stepped.ensures.step.0)) held) (c.step-stepped.ensures.meters.counts.honesty.0 honest) still };
    })

-- ---- the meters

pub returns-then-self-clause-meters : goal.returns-then-self-clause-meters
returns-then-self-clause-meters g c = rw (← c.self.view_is) (step_refused refusals.ReopenNeeded _ _ _ _ _ refl)

pub returns-in_default-clause-meters : goal.returns-in_default-clause-meters
returns-in_default-clause-meters g c = rw (← c.self.view_is) (step_refused refusals.NoMerge _ _ _ _ _ refl)

pub returns-in-Ok-clause-meters : goal.returns-in-Ok-clause-meters
returns-in-Ok-clause-meters g c = rw (← c.self.view_is) (step_ok c.args.n _ _ _ _ _ _ _ c.in-Some.ensures.value tt c.left-left.result c.in-Ok.ensures.meters)

pub returns-then-matches-clause-meters : goal.returns-then-matches-clause-meters
returns-then-matches-clause-meters g c = rw (← c.self.view_is) (step_err c.args.n _ _ _ _ _ _ _ c.in-Some.ensures.value c.in-Err.refusal c.in-Err.ensures.meters)

pub returns-else-matches-clause-meters : goal.returns-else-matches-clause-meters
returns-else-matches-clause-meters g c = rw (← c.self.view_is) (step_err c.args.n _ _ _ _ _ _ _ c.in-Some.ensures.value c.in-Err.refusal c.in-Err.ensures.meters)

pub step-stepped-requires-clause-words : goal.step-stepped-requires-clause-words
step-stepped-requires-clause-words g c = words_shown c.self.inside.index.words c.self.inside.merge c.in-Some.merge c.in-Some.ensures.value c.self.invariant.2
