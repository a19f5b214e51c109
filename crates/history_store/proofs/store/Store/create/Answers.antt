use Rattle.std.specs.Prelude.{None}
use Rattle.std.proofs.Common.{ap, refl}
use Rattle.directory.specs.Listings.{DirectoryValue}
use Rattle.segment_index.specs.Indexed.{StoreRows}
use Rattle.history_store.specs.Catalog.{catalog_of}
use Rattle.history_store.proofs.Held.{held_first, held_stands, new_history}
use Rattle.history_store.proofs.store.Store.create.Goals as goal

pub invariant_of-result : goal.invariant_of-result
invariant_of-result g c = (
  held_first _ _ _ _ _ _ c.args.layout c.in-Ok.ensures.empty.0 (ap (λ (x : StoreRows). x.lists) c.in-Ok.ensures.empty.1) c.in-Ok.ensures.empty.2 (λ honest. c.in-Ok.ensures.on_disk (c.start.ensures.meters.counts.honesty.1 honest)),
  record { merging = tt; written = λ up still. tt; summed = λ up still. tt },
  tt,
)

pub returns-in-Ok-clause-made : goal.returns-in-Ok-clause-made
returns-in-Ok-clause-made g c =
    let held = held_first _ _ _ _ _ _ c.args.layout c.in-Ok.ensures.empty.0 (ap (λ (x : StoreRows). x.lists) c.in-Ok.ensures.empty.1) c.in-Ok.ensures.empty.2 (λ honest. c.in-Ok.ensures.on_disk (c.start.ensures.meters.counts.honesty.1 honest)) in
    record {
      exact = λ honest. (c.in-Ok.ensures.made honest, record { history = new_history _ _ c.args.layout c.in-Ok.ensures.empty.0 (ap (λ (x : StoreRows). x.lists) c.in-Ok.ensures.empty.1); catalog = ap (λ (l : DirectoryValue). catalog_of l None) c.in-Ok.ensures.empty.0; open_still = refl });
      new = record { history = new_history _ _ c.args.layout c.in-Ok.ensures.empty.0 (ap (λ (x : StoreRows). x.lists) c.in-Ok.ensures.empty.1); catalog = ap (λ (l : DirectoryValue). catalog_of l None) c.in-Ok.ensures.empty.0; open_still = refl };
      causes = tt;
      refused = λ honest. tt;
      untouched = c.start.ensures.untouched;
      inside = c.start.ensures.inside;
      calls = c.in-Ok.ensures.meters.calls;
      bytes = c.in-Ok.ensures.bytes;
      acknowledged = λ honest. record { open_still = refl; each = held_stands _ _ _ _ _ _ _ held (c.start.ensures.meters.counts.honesty.0 honest) refl };
      cache = c.in-Ok.ensures.empty.2;
      honesty = c.start.ensures.meters.counts.honesty;
      failures = c.in-Ok.ensures.meters.counts.failures;
    }

pub returns-in-Ok-clause-meters : goal.returns-in-Ok-clause-meters
returns-in-Ok-clause-meters g c = record { bytes_read = c.start.ensures.meters.counts.bytes_read; other_calls = c.start.ensures.meters.counts.other_calls; looked = tt }

pub returns-in-Err-clause-meters : goal.returns-in-Err-clause-meters
returns-in-Err-clause-meters g c = record { bytes_read = c.start.ensures.meters.counts.bytes_read; other_calls = c.start.ensures.meters.counts.other_calls; looked = c.in-Err.ensures.meters.looked }
