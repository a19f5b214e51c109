use Rattle.std.proofs.Common.{get_or, take, refl}
use Rattle.disk_model.specs.Change.{made}
use Rattle.disk_model.specs.Entry.{change_of}
use Rattle.disk_model.specs.declared.memory.record.Entry.TheVariants.{Written}
use Rattle.disk_model.proofs.Replays.{shows_more, shows_all, advanced_same}
use Rattle.disk_model.proofs.memory.replay.Replay.of.Goals as goal

pub loop-entry-preserved : goal.loop-entry-preserved
loop-entry-preserved c =
    let entries = take c.args.count c.deref-2.result.now in
    let i = c.loop-entry.entry-index in
    shows_more (made c.args.first.now) (change_of c.args.calls.now.bytes.items) entries i (Written 0 0 0) c.loop-entry.moment c.advance.new.self c.loop-entry-test.true c.loop-entry.invariant
    (advanced_same c.loop-entry.moment c.advance.new.self c.deref.result.now c.args.calls.now.bytes.items (get_or entries i (Written 0 0 0)) c.deref.ensures.value c.in_ok-advance.ensures)

pub returns : goal.returns
returns c =
    shows_all (made c.args.first.now) (change_of c.args.calls.now.bytes.items) c.deref-2.result.now c.args.calls.now.entries.items (take c.args.count c.deref-2.result.now) c.loop-entry.entry-index c.args.count c.loop-entry.moment
    c.deref-2.ensures.value refl c.loop-entry-test.false c.loop-entry.invariant
