use Rattle.std.proofs.Common.{refl}
use Rattle.history_store.proofs.Held.{lent_sound}
use Rattle.history_store.proofs.Lent.{reader_honest, held_after}
use Rattle.history_store.proofs.Listing.{listed_so, closed_listing}
use Rattle.history_store.proofs.store.Store.contradictions.Goals as goal

pub invariant_of-self : goal.invariant_of-self
invariant_of-self g c =
    let r = c.new-reader.ensures in
    let now = c.list_contradictions-read.new.reader in
    let sound = lent_sound _ _ _ _ _ _ _ c.self.invariant.0 c.places.result.now c.new-reader.result.shown.now c.imports-pin.result c.places.ensures r.shown c.imports-pin.ensures in
    let both = held_after g.D.Disk.view _ _ _ _ _ _ _ _ _ _ c.self.invariant.0 r.disk r.cache r.entries r.shown c.self.inside.merge now.disk.now now.cache.now now.entries.now now.shown.now c.self.invariant.1 c.list_contradictions-read.ensures.stays.0
    (g.met.D.Disk.now_is_image c.self.inside.disk) (λ up. c.list_contradictions-read.ensures.honesty up sound.0 sound.1) in
    (both.0, both.1, c.self.invariant.2)

pub returns-clause-answer : goal.returns-clause-answer
returns-clause-answer g c = rw (← c.self.view_is) (
    let r = c.new-reader.ensures in
    let e = c.list_contradictions-read.ensures in
    let a = c.listed.ensures in
    listed_so g.D.Disk.view c.args.release c.args.limit
    c.imports-pin.result c.places.result.now _ c.listed.new.self c.self.inside.index.lists c.new-reader.result.shown.now c.new-reader.result.entries.now
    c.new-reader.result.disk.now c.list_contradictions-read.new.reader.disk.now c.new-reader.result.cache.now c.list_contradictions-read.new.reader.cache.now c.list_contradictions-read.result c.listed.result
    refl c.if-self.false r.disk r.cache r.entries r.shown
    (lent_sound _ _ _ _ _ _ _ c.self.invariant.0 c.places.result.now c.new-reader.result.shown.now c.imports-pin.result c.places.ensures r.shown c.imports-pin.ensures)
    (λ up. reader_honest g.D.Disk.view _ _ _ _ _ _ _ _ _ _ c.self.invariant.0 r.disk r.cache r.entries r.shown up c.if-self.false (g.met.D.Disk.now_is_image c.self.inside.disk up))
    e.found e.read e.refused e.possible e.causes e.meters.work e.meters.work_unread e.meters.disk_faults e.stays.0 e.stays.5 e.stays.6 a.same a.left a.disk a.cache a.acknowledged)

pub returns-then-self-clause-answer : goal.returns-then-self-clause-answer
returns-then-self-clause-answer g c = rw (← c.self.view_is) (closed_listing g.D.Disk.view c.args.release c.args.limit _ c.if-self.true)
