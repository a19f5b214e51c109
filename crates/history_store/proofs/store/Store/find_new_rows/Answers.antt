use Rattle.std.specs.Prelude.{Ok, Err}
use Rattle.std.proofs.Common.{◌≡◌, false, ap, sym, subst, ◌∙◌, arith}
use Rattle.std.specs.List.{sum_by}
use Rattle.import_check.specs.Known.{already_known}
use Rattle.history_store.specs.Reading.{row_cost}
use Rattle.import_check.specs.NewRows.{IsAcceptedAs, IsRefusal, IsRefusalByKey}
use Rattle.import_check.specs.NewRows.{BringsByKey}
use Rattle.history_store.specs.StoreValue.{StoreValue}
use Rattle.history_store.specs.Answers.{CountsRefusal}
use Rattle.import_check.proofs.MoreStored.{more_brought, more_refused}
use Rattle.history_model.specs.History.{full}
use Rattle.history_store.specs.Stored.{MayBe, IsStored}
use Rattle.history_store.specs.Private.Reading.{rows_of, MayBeRead}
use Rattle.history_store.proofs.Returned.{stored_so}
use Rattle.history_store.proofs.Refusing.{refused_less}
use Rattle.history_store.proofs.Held.{lent_sound}
use Rattle.history_store.proofs.Lent.{reader_honest, held_left}
use Rattle.history_store.proofs.MeteredReading.{counted_fault, read_so}
use Rattle.history_store.proofs.store.Store.find_new_rows.Goals as goal
use Rattle.history_store.proofs.store.Store.find_new_rows.Goals.{then-matches, else-matches}

pub invariant_of-self : goal.invariant_of-self
invariant_of-self g c =
    let sound = lent_sound _ _ _ _ _ _ _ c.self.invariant.0 c.places.result.now c.new-reader.result.shown.now c.imports-pin.result c.places.ensures c.new-reader.ensures.shown c.imports-pin.ensures in
    let both = held_left g.D.Disk.view _ _ _ _ _ _ _ _ _ _ c.self.invariant.0 c.new-reader.ensures.disk c.new-reader.ensures.cache c.new-reader.ensures.entries c.new-reader.ensures.shown c.self.inside.merge c.find_new_rows.new.reader.disk.now c.find_new_rows.new.reader.cache.now c.self.invariant.1 c.find_new_rows.ensures.stays.0
    (λ up still. (c.find_new_rows.ensures.honesty (reader_honest g.D.Disk.view _ _ _ _ _ _ _ _ _ _ c.self.invariant.0 c.new-reader.ensures.disk c.new-reader.ensures.cache c.new-reader.ensures.entries c.new-reader.ensures.shown up still (g.met.D.Disk.now_is_image c.self.inside.disk up)) sound.0 sound.1).1) in
    (both.0, both.1, c.self.invariant.2)

pub invariant_of-self-else-matches : goal.invariant_of-self-else-matches
invariant_of-self-else-matches g c =
    let sound = lent_sound _ _ _ _ _ _ _ c.self.invariant.0 c.places.result.now c.new-reader.result.shown.now c.imports-pin.result c.places.ensures c.new-reader.ensures.shown c.imports-pin.ensures in
    let both = held_left g.D.Disk.view _ _ _ _ _ _ _ _ _ _ c.self.invariant.0 c.new-reader.ensures.disk c.new-reader.ensures.cache c.new-reader.ensures.entries c.new-reader.ensures.shown c.self.inside.merge c.find_new_rows.new.reader.disk.now c.find_new_rows.new.reader.cache.now c.self.invariant.1 c.find_new_rows.ensures.stays.0
    (λ up still. (c.find_new_rows.ensures.honesty (reader_honest g.D.Disk.view _ _ _ _ _ _ _ _ _ _ c.self.invariant.0 c.new-reader.ensures.disk c.new-reader.ensures.cache c.new-reader.ensures.entries c.new-reader.ensures.shown up still (g.met.D.Disk.now_is_image c.self.inside.disk up)) sound.0 sound.1).1) in
    (both.0, both.1, c.self.invariant.2)

pub returns-in-Ok-clause-accepted : goal.returns-in-Ok-clause-accepted
returns-in-Ok-clause-accepted g c =
    let still = subst (λ (s : StoreValue g.row.D.Denot). s.needs_reopen ≡ false) (sym c.self.view_is) c.requires.still in
    rw (← c.self.view_is) (λ up. subst (λ l. IsAcceptedAs (rows_of l) c.args.release c.in-Ok.fresh) c.new-reader.ensures.shown (c.in-Ok.ensures.accepted (reader_honest g.D.Disk.view _ _ _ _ _ _ _ _ _ _ c.self.invariant.0 c.new-reader.ensures.disk c.new-reader.ensures.cache c.new-reader.ensures.entries c.new-reader.ensures.shown up still (g.met.D.Disk.now_is_image c.self.inside.disk up)) (lent_sound _ _ _ _ _ _ _ c.self.invariant.0 c.places.result.now c.new-reader.result.shown.now c.imports-pin.result c.places.ensures c.new-reader.ensures.shown c.imports-pin.ensures).0 (lent_sound _ _ _ _ _ _ _ c.self.invariant.0 c.places.result.now c.new-reader.result.shown.now c.imports-pin.result c.places.ensures c.new-reader.ensures.shown c.imports-pin.ensures).1))

pub returns-in-Ok-clause-brings : goal.returns-in-Ok-clause-brings
returns-in-Ok-clause-brings g c =
    let sound = lent_sound _ _ _ _ _ _ _ c.self.invariant.0 c.places.result.now c.new-reader.result.shown.now c.imports-pin.result c.places.ensures c.new-reader.ensures.shown c.imports-pin.ensures in
    let r = c.new-reader.ensures in
    let lent = c.new-reader.result in
    let store = c.args.self.now in
    let Lent = MayBeRead (MayBe (g.D.Disk.view lent.disk.now).reads_as lent.cache.now lent.entries.now) in
    let stored =
    stored_so g.D.Disk.view store lent.disk.now lent.cache.now lent.entries.now
    (r.disk ∙ ap (λ (s : StoreValue g.row.D.Denot). s.disk) c.self.view_is) (r.cache ∙ ap (λ (s : StoreValue g.row.D.Denot). s.cache) c.self.view_is) (r.entries ∙ ap (λ (s : StoreValue g.row.D.Denot). s.catalog.entries) c.self.view_is) in
    let rows = ap rows_of r.shown ∙ ap (λ (s : StoreValue g.row.D.Denot). full s.history) c.self.view_is in
    more_brought (full store.history) Lent (IsStored g.D.Disk.view store) stored c.args.release c.in-Ok.fresh
    (subst (λ known. BringsByKey known Lent c.args.release c.in-Ok.fresh) rows (c.in-Ok.ensures.brings sound.0 sound.1))

pub returns-after-matches-clause-refused : goal.returns-after-matches-clause-refused
returns-after-matches-clause-refused g c =
    let still = subst (λ (s : StoreValue g.row.D.Denot). s.needs_reopen ≡ false) (sym c.self.view_is) c.requires.still in
    let sound = lent_sound _ _ _ _ _ _ _ c.self.invariant.0 c.places.result.now c.new-reader.result.shown.now c.imports-pin.result c.places.ensures c.new-reader.ensures.shown c.imports-pin.ensures in
    let r = c.new-reader.ensures in
    let lent = c.new-reader.result in
    let store = c.args.self.now in
    let Lent = MayBeRead (MayBe (g.D.Disk.view lent.disk.now).reads_as lent.cache.now lent.entries.now) in
    let stored =
    stored_so g.D.Disk.view store lent.disk.now lent.cache.now lent.entries.now
    (r.disk ∙ ap (λ (s : StoreValue g.row.D.Denot). s.disk) c.self.view_is) (r.cache ∙ ap (λ (s : StoreValue g.row.D.Denot). s.cache) c.self.view_is) (r.entries ∙ ap (λ (s : StoreValue g.row.D.Denot). s.catalog.entries) c.self.view_is) in
    let rows = ap rows_of r.shown ∙ ap (λ (s : StoreValue g.row.D.Denot). full s.history) c.self.view_is in (
      c.in-Err.fault,
      c.from.ensures,
      rw (← c.self.view_is) (subst (λ l. IsRefusal (g.D.Disk.view c.self.inside.disk).is_honest (rows_of l) c.args.release c.in-Err.fault) c.new-reader.ensures.shown
          (refused_less _ _ _ _ c.in-Err.fault (λ up. ((reader_honest g.D.Disk.view _ _ _ _ _ _ _ _ _ _ c.self.invariant.0 c.new-reader.ensures.disk c.new-reader.ensures.cache c.new-reader.ensures.entries c.new-reader.ensures.shown up still (g.met.D.Disk.now_is_image c.self.inside.disk up)), sound.0, sound.1)) c.in-Err.ensures.refused)),
      more_refused (full store.history) Lent (IsStored g.D.Disk.view store) stored c.args.release c.in-Err.fault
          (subst (λ known. IsRefusalByKey known Lent c.args.release c.in-Err.fault) rows (c.in-Err.ensures.causes sound.0 sound.1)),
    )

pub returns-in-Ok-clause-meters : goal.returns-in-Ok-clause-meters
returns-in-Ok-clause-meters g c =
    let sound = lent_sound _ _ _ _ _ _ _ c.self.invariant.0 c.places.result.now c.new-reader.result.shown.now c.imports-pin.result c.places.ensures c.new-reader.ensures.shown c.imports-pin.ensures in
    let r = c.new-reader.ensures in
    let lent = c.new-reader.result in
    let now = c.find_new_rows.new.reader in
    let stays = c.find_new_rows.ensures.stays in
    let m = c.in-Ok.ensures.meters in
    rw (← c.self.view_is) (read_so g.D.Disk.view (Ok c.in-Ok.fresh) c.args.release _ _ lent.entries.now lent.disk.now lent.cache.now r.disk r.cache r.entries stays.0 stays.5 stays.6 m.disk_faults
    (λ rows are.
    let least = m.work sound.0 sound.1 rows are in
    let from = ap (λ d. (g.D.Disk.view d).bytes_read) r.disk in
    let sum = ap (λ l. sum_by row_cost (already_known (rows_of l) rows)) r.shown in
    omega (arith, least, from, sum))
    (λ unread.
    let least = m.work_unread unread in
    let from = ap (λ d. (g.D.Disk.view d).bytes_read) r.disk in
    omega (arith, least, from)))

pub returns-after-matches-clause-meters : goal.returns-after-matches-clause-meters
returns-after-matches-clause-meters g c =
    let sound = lent_sound _ _ _ _ _ _ _ c.self.invariant.0 c.places.result.now c.new-reader.result.shown.now c.imports-pin.result c.places.ensures c.new-reader.ensures.shown c.imports-pin.ensures in
    let r = c.new-reader.ensures in
    let lent = c.new-reader.result in
    let now = c.find_new_rows.new.reader in
    let stays = c.find_new_rows.ensures.stays in
    let m = c.in-Err.ensures.meters in
    let counted : CountsRefusal c.from.result (g.D.Disk.view lent.disk.now).failures (g.D.Disk.view now.disk.now).failures = rw c.from.ensures (counted_fault c.in-Err.fault (g.D.Disk.view lent.disk.now).failures (g.D.Disk.view now.disk.now).failures m.disk_faults) in
    elim c.if-matches.branch [
      | then-matches w ↦ rw (w.self-is, ← c.self.view_is) (read_so g.D.Disk.view (Err c.from.result) c.args.release _ _ lent.entries.now lent.disk.now lent.cache.now r.disk r.cache r.entries stays.0 stays.5 stays.6 counted
          (λ rows are.
          let least = m.work sound.0 sound.1 rows are in
          let from = ap (λ d. (g.D.Disk.view d).bytes_read) r.disk in
          let sum = ap (λ l. sum_by row_cost (already_known (rows_of l) rows)) r.shown in
          omega (arith, least, from, sum))
          (λ unread.
          let least = m.work_unread unread in
          let from = ap (λ d. (g.D.Disk.view d).bytes_read) r.disk in
          omega (arith, least, from)))
      | else-matches w ↦ rw (w.self-is, ← c.self.view_is) (read_so g.D.Disk.view (Err c.from.result) c.args.release _ _ lent.entries.now lent.disk.now lent.cache.now r.disk r.cache r.entries stays.0 stays.5 stays.6 counted
          (λ rows are.
          let least = m.work sound.0 sound.1 rows are in
          let from = ap (λ d. (g.D.Disk.view d).bytes_read) r.disk in
          let sum = ap (λ l. sum_by row_cost (already_known (rows_of l) rows)) r.shown in
          omega (arith, least, from, sum))
          (λ unread.
          let least = m.work_unread unread in
          let from = ap (λ d. (g.D.Disk.view d).bytes_read) r.disk in
          omega (arith, least, from)))
    ]
