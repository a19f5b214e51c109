use Rattle.std.specs.Prelude.{Err}
use Rattle.std.proofs.Common.{[], ◌∷◌, ◌+◌, refl}
use Rattle.disk_model.specs.Disk.{after_write}
use Rattle.blocks.specs.Extents.{byte_range, start_of}
use Rattle.blocks.proofs.Agreeing.{still_agrees, forgets_beside}
use Rattle.blocks.proofs.Counted.{one_more, write_counts}
use Rattle.history_store.proofs.stepping.write_part.Goals as goal

pub returns-clause-agrees : goal.returns-clause-agrees
returns-clause-agrees g c up agrees =
    still_agrees (byte_range c.args.extent ∷ []) c.args.cache.now c.forget.new.self (g.D.Disk.view c.args.disk.now).moments.state.now (g.D.Disk.view c.write_ahead.new.disk).moments.state.now agrees
    (c.in_default.ensures.elsewhere up) (forgets_beside c.args.extent c.args.cache.now c.forget.new.self c.forget.ensures)

pub returns-in-Err-clause-meters : goal.returns-in-Err-clause-meters
returns-in-Err-clause-meters g c =
    let m = c.in-Err.ensures.meters in
    let old = (g.D.Disk.view c.args.disk.now).moments in
    let new = (g.D.Disk.view c.write_ahead.new.disk).moments in
    rw c.from.ensures (record {
      counts = record { honesty = m.honesty; failures = m.failures; bytes_read = m.bytes_read; other_calls = m.other_calls };
      uncalled = λ other. absurd (other refl);
      calls = λ up. write_counts {T = Unit {0}} (Err c.in-Err.fault) old new (after_write old.state (start_of c.args.extent + c.args.from) c.args.bytes.now) tt (c.in-Err.ensures.failed up);
      drops = tt;
      keeps = refl;
    })

pub returns-clause-meters : goal.returns-clause-meters
returns-clause-meters g c =
    let m = c.in_default.ensures.meters in
    let old = (g.D.Disk.view c.args.disk.now).moments in
    let new = (g.D.Disk.view c.write_ahead.new.disk).moments in
    record {
      counts = record { honesty = m.honesty; failures = m.failures; bytes_read = m.bytes_read; other_calls = m.other_calls };
      uncalled = tt;
      calls = λ up. one_more old new (after_write old.state (start_of c.args.extent + c.args.from) c.args.bytes.now) (c.in_default.ensures.made up);
      drops = c.forget.ensures;
      keeps = tt;
    }
