use Rattle.std.proofs.Common.{false, refl, ap}
use Rattle.history_model.specs.KeyOrder.{rows_after}
use Rattle.as_of_index.specs.Places.{Lists}
use Rattle.history_model.specs.History.{rows_at}
use Rattle.history_store.proofs.Lent.{reader_honest, held_after}
use Rattle.history_store.proofs.Querying.{row_items, rows_answered, closed_rows}
use Rattle.history_store.proofs.store.Store.rows_after.Goals as goal

pub invariant_of-self : goal.invariant_of-self
invariant_of-self g c =
    let r = c.new-reader.ensures in
    let now = c.rows_after-read.new.reader in
    let both = held_after g.D.Disk.view _ _ _ _ _ _ _ _ _ _ c.self.invariant.0 r.disk r.cache r.entries r.shown c.self.inside.merge now.disk.now now.cache.now now.entries.now now.shown.now c.self.invariant.1 c.rows_after-read.ensures.stays.0
    (g.met.D.Disk.now_is_image c.self.inside.disk) c.rows_after-read.ensures.answer.reader.honesty in
    (both.0, both.1, c.self.invariant.2)

pub returns-clause-answer : goal.returns-clause-answer
returns-clause-answer g c = rw (← c.self.view_is) (
    let r = c.new-reader.ensures in
    let e = c.rows_after-read.ensures in
    let a = c.answered.ensures in
    rows_answered g.D.Disk.view row_items (λ rows. rows_after c.args.after c.args.limit (rows_at c.args.pin rows))
    (Lists c.places.result.now) _ c.answered.new.self c.self.inside.index.lists c.new-reader.result.shown.now c.new-reader.result.entries.now
    c.new-reader.result.disk.now c.rows_after-read.new.reader.disk.now c.new-reader.result.cache.now c.rows_after-read.new.reader.cache.now c.rows_after-read.result c.answered.result
    false (ap (λ e. e.now) e.stays.3) refl c.if-self.false r.disk r.cache r.entries r.shown
    c.places.ensures (λ up. reader_honest g.D.Disk.view _ _ _ _ _ _ _ _ _ _ c.self.invariant.0 r.disk r.cache r.entries r.shown up c.if-self.false (g.met.D.Disk.now_is_image c.self.inside.disk up))
    e.answer e.stays.0 e.stays.5 e.stays.6 a.same a.left a.disk a.cache a.acknowledged)

pub returns-clause-history : goal.returns-clause-history
returns-clause-history g c = rw (← c.self.view_is) c.self.invariant.0.kept.history

pub returns-then-self-clause-answer : goal.returns-then-self-clause-answer
returns-then-self-clause-answer g c = rw (← c.self.view_is) (closed_rows g.D.Disk.view row_items (λ rows. rows_after c.args.after c.args.limit (rows_at c.args.pin rows)) false _ c.if-self.true)

pub returns-then-self-clause-history : goal.returns-then-self-clause-history
returns-then-self-clause-history g c = rw (← c.self.view_is) c.self.invariant.0.kept.history
