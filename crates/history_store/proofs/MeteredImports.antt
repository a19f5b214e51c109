-- What an import does of the disk's counts and of the cache: what the reading of known rows does, and then a publication.
use Rattle.std.specs.Prelude.{Ok, Err}
use Rattle.std.proofs.Common.{◌≡◌, ◌≤◌, ℕ, zero, suc, refl, ap, subst, ◌∙◌, arith}
use Rattle.disk_model.specs.Disk.{Moments}
use Rattle.disk_model.specs.View.{DiskView, AtMost}
use Rattle.blocks.specs.Calls.{call_count}
use Rattle.history_model.specs.declared.receipt.Receipt.{Receipt}
use Rattle.import_check.specs.declared.release.Release.{Release}
use Rattle.import_check.specs.NewRows.{IsRead}
use Rattle.history_store.specs.declared.refusal.Refusal.{Refusal}
use Rattle.history_store.specs.declared.refusal.Refusal.TheVariants as refusals
use Rattle.history_store.specs.Catalog.{Catalog}
use Rattle.history_store.specs.StoreValue.{StoreValue}
use Rattle.history_store.specs.Answers.{CountsRefusal}
use Rattle.history_store.specs.Queries.{ForgetsWritten}
use Rattle.history_store.specs.Written.{added_entries}
use Rattle.history_store.specs.Checking.{IsChecking}
use Rattle.history_store.specs.Meters.{IsMeteredWrite, IsMeteredImport, calls_for}

-- with a new row
pub calls_for_rows : (n : ℕ) → 1 ≤ n → calls_for n ≡ 8
calls_for_rows zero some = absurd (omega (arith, some))
calls_for_rows (suc n) some = refl

module _ {D : Type 0} (view : D → DiskView) (release : Release) where
  -- it was refused before anything was written
  pub metered_early : (e : Refusal) (old new : StoreValue D) → IsChecking (Err e) release view old new → IsMeteredImport (Err e) release view old new
  metered_early e old new c = record {
    counts = record { honesty = c.meters.counts.honesty; failures = c.meters.counts.failures; bytes_read = tt; other_calls = omega (arith, c.meters.counts.other_calls) };
    uncalled = λ other. c.meters.counts.other_calls;
    calls = λ up. omega (arith, ap (λ (m : Moments). call_count m) (c.meters.counts.moments up));
    cache = record {
      looked_up = new.cache;
      asked = (view new.disk).bytes_read;
      reads = c.meters.looked_up;
      gate = omega arith;
      no_gate = λ other. omega arith;
      forgets = tt;
      keeps = refl;
    };
    known = record { bytes_read = λ rows are. omega (arith, c.meters.known.bytes_read rows are); bytes_unread = c.meters.known.bytes_unread };
  }

  module _ (receipt : Receipt) (n : ℕ) (old mid new : StoreValue D) (c : IsChecking (Ok receipt) release view old mid) (read : IsRead release) where
    -- it was published
    pub metered_ok : (done : Unit {0}) → calls_for receipt.new ≡ n
        → IsMeteredWrite {T = Unit {0}} (Ok done) (AtMost 1) n (ForgetsWritten (added_entries mid.catalog new.catalog)) (view mid.disk) (view new.disk) mid.cache new.cache
        → IsMeteredImport (Ok receipt) release view old new
    metered_ok done n_is w = record {
      counts = record {
        honesty = (λ up. w.counts.honesty.0 (c.meters.counts.honesty.0 up), λ down. c.meters.counts.honesty.1 (w.counts.honesty.1 down));
        failures = w.counts.failures ∙ c.meters.counts.failures;
        bytes_read = tt;
        other_calls = omega (arith, w.counts.other_calls, c.meters.counts.other_calls, n_is);
      };
      uncalled = tt;
      calls = λ up. omega (arith, w.calls (c.meters.counts.honesty.0 up), ap (λ (m : Moments). call_count m) (c.meters.counts.moments up), n_is);
      cache = record {
        looked_up = mid.cache;
        asked = (view mid.disk).bytes_read;
        reads = c.meters.looked_up;
        gate = w.counts.bytes_read;
        no_gate = tt;
        forgets = subst (λ (k : Catalog). ForgetsWritten (added_entries k new.catalog) mid.cache new.cache) c.kept.1.catalog w.drops;
        keeps = tt;
      };
      known = record { bytes_read = λ rows are. omega (arith, c.meters.known.bytes_read rows are, w.counts.bytes_read); bytes_unread = λ unread. absurd (unread read) };
    }

    -- the disk failed while it was published
    pub metered_err : (e : Refusal) → e ≡ refusals.DiskFault → n ≤ 8
        → IsMeteredWrite {T = Unit {0}} (Err e) (AtMost 1) n (ForgetsWritten (added_entries mid.catalog new.catalog)) (view mid.disk) (view new.disk) mid.cache new.cache
        → IsMeteredImport (Err e) release view old new
    metered_err e fault few w = record {
      counts = record {
        honesty = (λ up. w.counts.honesty.0 (c.meters.counts.honesty.0 up), λ down. c.meters.counts.honesty.1 (w.counts.honesty.1 down));
        failures = subst (λ k. CountsRefusal e k (view new.disk).failures) c.meters.counts.failures w.counts.failures;
        bytes_read = tt;
        other_calls = omega (arith, w.counts.other_calls, c.meters.counts.other_calls, few);
      };
      uncalled = λ other. absurd (other fault);
      calls = λ up. omega (arith, w.calls (c.meters.counts.honesty.0 up), ap (λ (m : Moments). call_count m) (c.meters.counts.moments up), few);
      cache = record {
        looked_up = mid.cache;
        asked = (view mid.disk).bytes_read;
        reads = c.meters.looked_up;
        gate = w.counts.bytes_read;
        no_gate = λ other. absurd (other fault);
        forgets = tt;
        keeps = w.keeps;
      };
      known = record { bytes_read = λ rows are. omega (arith, c.meters.known.bytes_read rows are, w.counts.bytes_read); bytes_unread = λ unread. absurd (unread read) };
    }
