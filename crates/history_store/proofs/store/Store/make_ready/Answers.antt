use Rattle.std.specs.Prelude.{Err}
use Rattle.std.proofs.Common.{◌≡◌, ◌+◌, false, refl, sym, ap, subst, ◌∙◌, arith, rules, length, vec_len, ◌≤◌}
use Rattle.std.proofs.lemmas.Grind.{common_steps}
use Rattle.std.proofs.lemmas.Bool.{false≢true}
use Rattle.std.proofs.lemmas.Result.{err_from_is_err_and}
use Rattle.std.proofs.lemmas.Bool.Decides.{nat_tests}
use Rattle.std.proofs.lemmas.List.{nil_from_length as nothing}
use Rattle.history_store.specs.StoreValue.{StoreValue, IsAcknowledged}
use Rattle.history_store.specs.Prepared.{IsAdmitted}
use Rattle.history_store.specs.Answers.{IsRefused}
use Rattle.history_store.specs.declared.checking.Next.TheVariants as nexts
use Rattle.history_store.specs.declared.refusal.Refusal.TheVariants as refusals
use Rattle.history_store.proofs.Held.{held_stands}
use Rattle.history_store.proofs.Imported.{at_mid, not_prepared, unprepared_refused}
use Rattle.history_store.proofs.TakenByKey.{not_prepared_at_all}
use Rattle.history_store.proofs.Checked.{admitted, not_later, turned_back, ready_at, foreseen, foreseen_at_all, checked_after, counted_but, not_disk}
use Rattle.history_store.proofs.MeteredReading.{unread}
use Rattle.history_store.proofs.store.Store.make_ready.Goals as goal

pub returns-then-is_empty-clause-ready : goal.returns-then-is_empty-clause-ready
returns-then-is_empty-clause-ready g c =
    let len : vec_len c.in_ok-fresh.fresh.rows ≡ length c.in_ok-fresh.fresh.rows.items = search (rules) in
    let none = nothing c.in_ok-fresh.fresh.rows.items (grind (arith, nat_tests, len, c.if-is_empty.ensures)) in
    let e = c.in_ok-fresh.ensures in
    ready_at _ _ c.args.self.now _ c.find_new_rows.new.self c.args.release c.in_ok-fresh.fresh (nexts.WithoutSegment c.in_ok-directory.directory) _ _ c.self.view_is (admitted _ _ _ _ (c.if-is_spent.ensures.left refl) c.if-is_for_later.ensures refl) c.self-2.view_is c.self-2.invariant.0.kept.history e.still e.brings e.accepted (ap (λ n. n + 1) c.imports.ensures) (c.len.ensures ∙ len) (none, c.in_ok-directory.ensures)

pub returns-clause-ready : goal.returns-clause-ready
returns-clause-ready g c =
    let len : vec_len c.in_ok-fresh.fresh.rows ≡ length c.in_ok-fresh.fresh.rows.items = search (rules) in
    let some : 1 ≤ length c.in_ok-fresh.fresh.rows.items = grind (arith, nat_tests, len, c.if-is_empty.ensures) in
    let e = c.in_ok-fresh.ensures in
    ready_at _ _ c.args.self.now _ c.find_new_rows.new.self c.args.release c.in_ok-fresh.fresh (nexts.WithSegment c.in_ok-prepared.prepared) _ _ c.self.view_is (admitted _ _ _ _ (c.if-is_spent.ensures.left refl) c.if-is_for_later.ensures refl) c.self-2.view_is c.self-2.invariant.0.kept.history e.still e.brings e.accepted (ap (λ n. n + 1) c.imports.ensures) (c.len.ensures ∙ len) (some, c.in_ok-prepared.ensures.prepared, c.in_ok-prepared.ensures.words ∙ c.keeps_words-words.ensures)

pub returns-clause-stood : goal.returns-clause-stood
returns-clause-stood g c = rw (← c.self.view_is) (λ honest still. record { open_still = still; each = held_stands _ _ _ _ _ _ _ c.self.invariant.0 honest still })

pub returns-then-is_empty-clause-checking : goal.returns-then-is_empty-clause-checking
returns-then-is_empty-clause-checking g c =
    let len : vec_len c.in_ok-fresh.fresh.rows ≡ length c.in_ok-fresh.fresh.rows.items = search (rules) in
    let none = nothing c.in_ok-fresh.fresh.rows.items (grind (arith, nat_tests, len, c.if-is_empty.ensures)) in
    let e = c.in_ok-fresh.ensures in
    let standing : (g.D.Disk.view c.find_new_rows.new.self.disk).is_honest → c.find_new_rows.new.self.needs_reopen ≡ false → IsAcknowledged g.D.Disk.view c.find_new_rows.new.self =
    rw (← c.self-2.view_is) (λ honest still. record { open_still = still; each = held_stands _ _ _ _ _ _ _ c.self-2.invariant.0 honest still }) in
    let ready = ready_at (g.D.Disk.view c.args.self.now.disk).is_honest _ c.args.self.now _ c.find_new_rows.new.self c.args.release c.in_ok-fresh.fresh (nexts.WithoutSegment c.in_ok-directory.directory) _ _ c.self.view_is (admitted _ _ _ _ (c.if-is_spent.ensures.left refl) c.if-is_for_later.ensures refl) c.self-2.view_is c.self-2.invariant.0.kept.history e.still e.brings e.accepted (ap (λ n. n + 1) c.imports.ensures) (c.len.ensures ∙ len) (none, c.in_ok-directory.ensures) in
    checked_after g.D.Disk.view c.args.self.now c.find_new_rows.new.self c.args.release _
    (record { still = e.still; not_later = not_later _ c.args.self.now c.args.release c.self.view_is (admitted _ _ _ _ (c.if-is_spent.ensures.left refl) c.if-is_for_later.ensures refl); acknowledged = standing; fresh = c.in_ok-fresh.fresh; meters = e.meters })
    (foreseen _ c.find_new_rows.new.self c.args.release _ ready c.args.self.now e.still) (foreseen_at_all _ c.find_new_rows.new.self c.args.release _ ready c.args.self.now e.still) e.meters.counts.failures

pub returns-clause-checking : goal.returns-clause-checking
returns-clause-checking g c =
    let len : vec_len c.in_ok-fresh.fresh.rows ≡ length c.in_ok-fresh.fresh.rows.items = search (rules) in
    let some : 1 ≤ length c.in_ok-fresh.fresh.rows.items = grind (arith, nat_tests, len, c.if-is_empty.ensures) in
    let e = c.in_ok-fresh.ensures in
    let standing : (g.D.Disk.view c.find_new_rows.new.self.disk).is_honest → c.find_new_rows.new.self.needs_reopen ≡ false → IsAcknowledged g.D.Disk.view c.find_new_rows.new.self =
    rw (← c.self-2.view_is) (λ honest still. record { open_still = still; each = held_stands _ _ _ _ _ _ _ c.self-2.invariant.0 honest still }) in
    let ready = ready_at (g.D.Disk.view c.args.self.now.disk).is_honest _ c.args.self.now _ c.find_new_rows.new.self c.args.release c.in_ok-fresh.fresh (nexts.WithSegment c.in_ok-prepared.prepared) _ _ c.self.view_is (admitted _ _ _ _ (c.if-is_spent.ensures.left refl) c.if-is_for_later.ensures refl) c.self-2.view_is c.self-2.invariant.0.kept.history e.still e.brings e.accepted (ap (λ n. n + 1) c.imports.ensures) (c.len.ensures ∙ len) (some, c.in_ok-prepared.ensures.prepared, c.in_ok-prepared.ensures.words ∙ c.keeps_words-words.ensures) in
    checked_after g.D.Disk.view c.args.self.now c.find_new_rows.new.self c.args.release _
    (record { still = e.still; not_later = not_later _ c.args.self.now c.args.release c.self.view_is (admitted _ _ _ _ (c.if-is_spent.ensures.left refl) c.if-is_for_later.ensures refl); acknowledged = standing; fresh = c.in_ok-fresh.fresh; meters = e.meters })
    (foreseen _ c.find_new_rows.new.self c.args.release _ ready c.args.self.now e.still) (foreseen_at_all _ c.find_new_rows.new.self c.args.release _ ready c.args.self.now e.still) e.meters.counts.failures

pub returns-in_err-prepared-clause-checking : goal.returns-in_err-prepared-clause-checking
returns-in_err-prepared-clause-checking g c =
    let p = err_from_is_err_and c.from_residual-in_err-prepared.result c.from_residual-in_err-prepared.ensures.1 in
    let e = c.in_ok-fresh.ensures in
    let why = c.in_err-prepared.ensures.refused in
    let refused = unprepared_refused c.args.self.now _ _ _ _ e.still why in
    let other : c.in_err-prepared.field-0.0 ≡ refusals.DiskFault → ⊥ = not_disk _ _ _ why in
    let standing : (g.D.Disk.view c.find_new_rows.new.self.disk).is_honest → c.find_new_rows.new.self.needs_reopen ≡ false → IsAcknowledged g.D.Disk.view c.find_new_rows.new.self =
    rw (← c.self-2.view_is) (λ honest still. record { open_still = still; each = held_stands _ _ _ _ _ _ _ c.self-2.invariant.0 honest still }) in
    rw (p.1, p.2) (checked_after g.D.Disk.view c.args.self.now c.find_new_rows.new.self c.args.release _
    (record { still = e.still; not_later = not_later _ c.args.self.now c.args.release c.self.view_is (admitted _ _ _ _ (c.if-is_spent.ensures.left refl) c.if-is_for_later.ensures refl); acknowledged = standing; fresh = c.in_ok-fresh.fresh; meters = e.meters })
    (λ honest.
    let at = at_mid _ c.args.self.now _ c.find_new_rows.new.self c.args.release c.in_ok-fresh.fresh c.self.view_is (admitted _ _ _ _ (c.if-is_spent.ensures.left refl) c.if-is_for_later.ensures refl) c.self-2.view_is c.self-2.invariant.0.kept.history e.still (e.accepted honest) in
    (not_prepared c.args.self.now _ c.find_new_rows.new.self c.args.release c.in_ok-fresh.fresh _ c.self-2.view_is e.still at why, refused))
    (not_prepared_at_all ⊥ _ c.args.self.now _ c.find_new_rows.new.self c.args.release c.in_ok-fresh.fresh _ c.self.view_is (admitted _ _ _ _ (c.if-is_spent.ensures.left refl) c.if-is_for_later.ensures refl) c.self-2.view_is e.still e.brings why, refused)
    (counted_but _ _ _ other e.meters.counts.failures))

pub returns-in_err-fresh-clause-checking : goal.returns-in_err-fresh-clause-checking
returns-in_err-fresh-clause-checking g c =
    let p = err_from_is_err_and c.from_residual.result c.from_residual.ensures.1 in
    let e = c.in_err-fresh.ensures in
    let stood : (g.D.Disk.view c.args.self.now.disk).is_honest → c.args.self.now.needs_reopen ≡ false → IsAcknowledged g.D.Disk.view c.args.self.now =
    rw (← c.self.view_is) (λ honest still. record { open_still = still; each = held_stands _ _ _ _ _ _ _ c.self.invariant.0 honest still }) in
    rw (p.1, p.2) (turned_back g.D.Disk.view c.args.self.now c.find_new_rows.new.self c.args.release _ c.in_err-fresh.field-0.0 c.self.view_is c.if-self.false
    (admitted _ _ _ _ (c.if-is_spent.ensures.left refl) c.if-is_for_later.ensures refl) stood e.refused e.closed e.meters)

-- ---- nothing was read

pub returns-then-self-clause-checking : goal.returns-then-self-clause-checking
returns-then-self-clause-checking g c =
    rw (← c.self.view_is) (record {
      answer = λ up. (c.if-self.true, record { history = refl; catalog = refl; closed = λ is. absurd (cc); still = λ other. refl });
      kept = (c.if-self.true, record { history = refl; catalog = refl; closed = λ is. absurd (cc); still = λ other. refl });
      closed = λ needs. refl;
      later = λ is. refl;
      acknowledged = λ up still. absurd (false≢true (sym still ∙ c.if-self.true));
      meters = unread g.D.Disk.view (Err refusals.ReopenNeeded) c.args.release _ refl;
    })

pub returns-then-is_spent-clause-checking : goal.returns-then-is_spent-clause-checking
returns-then-is_spent-clause-checking g c = record {
  answer = first_of (search rules, grind (arith, common_steps));
  kept = first_of (search rules, grind (arith, common_steps));
  closed = first_of (search rules, grind (arith, common_steps));
  later = first_of (search rules, grind (arith, common_steps));
  acknowledged = rw (← c.self.view_is) (λ honest still. record { open_still = still; each = held_stands _ _ _ _ _ _ _ c.self.invariant.0 honest still });
  meters = unread g.D.Disk.view (Err refusals.CountSpent) c.args.release _ refl;
}

pub returns-then-is_for_later-clause-checking : goal.returns-then-is_for_later-clause-checking
returns-then-is_for_later-clause-checking g c = record {
  answer = first_of (search rules, grind (arith, common_steps));
  kept = first_of (search rules, grind (arith, common_steps));
  closed = first_of (search rules, grind (arith, common_steps));
  later = first_of (search rules, grind (arith, common_steps));
  acknowledged = rw (← c.self.view_is) (λ honest still. record { open_still = still; each = held_stands _ _ _ _ _ _ _ c.self.invariant.0 honest still });
  meters = unread g.D.Disk.view (Err refusals.LaterVersion) c.args.release _ refl;
}

pub returns-in_err-directory-clause-checking : goal.returns-in_err-directory-clause-checking
returns-in_err-directory-clause-checking g c =
    let p = err_from_is_err_and c.from_residual-in_err-directory.result c.from_residual-in_err-directory.ensures.1 in
    let e = c.in_ok-fresh.ensures in
    let admits = admitted _ _ _ _ (c.if-is_spent.ensures.left refl) c.if-is_for_later.ensures refl in
    let here = subst (λ (s : StoreValue g.row.D.Denot). IsAdmitted s.history s.catalog c.args.release) c.self.view_is admits in
    let refused : IsRefused refusals.OutOfMemory c.args.self.now c.find_new_rows.new.self = record { history = e.still.history; catalog = e.still.catalog; closed = λ is. absurd (cc); still = λ other. e.still.open_still ∙ sym e.still.open_before } in
    let standing : (g.D.Disk.view c.find_new_rows.new.self.disk).is_honest → c.find_new_rows.new.self.needs_reopen ≡ false → IsAcknowledged g.D.Disk.view c.find_new_rows.new.self =
    rw (← c.self-2.view_is) (λ honest still. record { open_still = still; each = held_stands _ _ _ _ _ _ _ c.self-2.invariant.0 honest still }) in
    rw (p.1, p.2) (checked_after g.D.Disk.view c.args.self.now c.find_new_rows.new.self c.args.release (Err refusals.OutOfMemory)
    (record { still = e.still; not_later = not_later _ c.args.self.now c.args.release c.self.view_is admits; acknowledged = standing; fresh = c.in_ok-fresh.fresh; meters = e.meters })
    (λ honest. ((e.still.open_before, here), refused)) ((e.still.open_before, here), refused) e.meters.counts.failures)
