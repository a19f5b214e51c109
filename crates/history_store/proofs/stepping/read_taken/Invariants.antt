use Rattle.std.specs.List.{AllZip}
use Rattle.std.proofs.Common.{◌≡◌, ◌+◌, ◌≤◌, ◌↔◌, List, take}
use Rattle.history_model.specs.declared.stamped.StampedRow.{StampedRow}
use Rattle.blocks.specs.Cache.{AgreesWith, LooksUpSome}
use Rattle.history_store.specs.Queries.{is_listed}
use Rattle.history_store.specs.Private.Reading.{AreThere}
use Rattle.history_store.specs.Private.Stepping.{StandsIn, IsReadAt, cost_at}
use Rattle.history_store.proofs.stepping.read_taken.Given as goal

abbrev pub invariant-loop-t : goal.invariant-loop-t
invariant-loop-t g l =
    let disk = g.D.Disk in
    record {
      found : (disk.view l.fn.disk).is_honest → AgreesWith l.fn.cache (disk.view l.fn.disk).moments.state.now → (lists : List (List StampedRow)) (want : List StampedRow) → AreThere l.entries lists (disk.view l.fn.disk).moments.state.now
          → AllZip (StandsIn lists l.i l.j) l.taken want → l.rows.items ≡ take l.t-index want;
      read : AllZip IsReadAt (take l.t-index l.taken) l.rows.items;
      agrees : (disk.view l.fn.disk).is_honest → AgreesWith l.fn.cache (disk.view l.fn.disk).moments.state.now → AgreesWith l.cache (disk.view l.fn.disk).moments.state.now;
      moments : (disk.view l.fn.disk).is_honest → (disk.view l.disk).moments ≡ (disk.view l.fn.disk).moments;
      honesty : (disk.view l.fn.disk).is_honest ↔ (disk.view l.disk).is_honest;
      failures : (disk.view l.disk).failures ≡ (disk.view l.fn.disk).failures;
      looked_up : LooksUpSome (is_listed l.entries) l.fn.cache l.cache (disk.view l.fn.disk).bytes_read (disk.view l.disk).bytes_read;
      other_calls : (disk.view l.disk).other_calls ≡ (disk.view l.fn.disk).other_calls;
      bytes_read : (disk.view l.disk).bytes_read ≤ (disk.view l.fn.disk).bytes_read + cost_at (take l.t-index l.taken);
    }
