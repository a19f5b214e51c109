-- What calls that write do of the disk's counts and of the cache.
use Rattle.std.specs.Prelude.{Option, Some, Ok, Err}
use Rattle.std.proofs.Common.{◌≡◌, ℕ, List, refl, subst, arith}
use Rattle.disk_model.specs.View.{DiskView, AtMost}
use Rattle.lru.specs.LruCache.{LruCache}
use Rattle.blocks.specs.declared.extent.Extent.{Extent}
use Rattle.directory.specs.declared.entry.Entry.{Entry}
use Rattle.directory.specs.Places.{extent_of}
use Rattle.history_store.specs.declared.merge_in_progress.MergeInProgress.{MergeInProgress}
use Rattle.history_store.specs.declared.refusal.Refusal.{Refusal}
use Rattle.history_store.specs.Answers.{CountsRefusal}
use Rattle.history_store.specs.Catalog.{reserved_by}
use Rattle.history_store.specs.MergeInProgress.{merge_of}
use Rattle.history_store.specs.Merging.{step_cost}
use Rattle.history_store.specs.Queries.{is_listed}
use Rattle.history_store.specs.Meters.{IsMeteredWrite, IsMeteredStep}
use Rattle.history_store.proofs.KeptBlocks.{none_stepped}

-- ---- nothing was done

pub write_refused : {T : Type 0} (e : Refusal) (k n : ℕ) (Drops : LruCache ℕ (List ℕ) → LruCache ℕ (List ℕ) → Type 0) (view : DiskView) (cache : LruCache ℕ (List ℕ)) → CountsRefusal e view.failures view.failures
    → IsMeteredWrite {T = T} (Err e) (AtMost k) n Drops view view cache cache
write_refused e k n Drops view cache counted = record {
  counts = record { honesty = (λ up. up, λ up. up); failures = counted; bytes_read = omega arith; other_calls = omega arith };
  uncalled = λ other. refl;
  calls = λ up. omega arith;
  drops = tt;
  keeps = refl;
}

pub step_refused : {T : Type 0} (e : Refusal) (bytes : ℕ) (entries : List Entry) (output : Option Extent) (view : DiskView) (cache : LruCache ℕ (List ℕ)) → CountsRefusal e view.failures view.failures
    → IsMeteredStep {T = T} (Err e) bytes entries output view view cache cache
step_refused e bytes entries output view cache counted = record {
  counts = record { honesty = (λ up. up, λ up. up); failures = counted; bytes_read = omega arith; other_calls = omega arith };
  uncalled = λ other. refl;
  calls = λ up. omega arith;
  looked_up = none_stepped (is_listed entries) output cache view.bytes_read;
}

pub step_idle : {T : Type 0} (x : T) (bytes : ℕ) (entries : List Entry) (output : Option Extent) (view : DiskView) (cache : LruCache ℕ (List ℕ)) → IsMeteredStep (Ok x) bytes entries output view view cache cache
step_idle x bytes entries output view cache = record {
  counts = record { honesty = (λ up. up, λ up. up); failures = refl; bytes_read = omega arith; other_calls = omega arith };
  uncalled = tt;
  calls = λ up. omega arith;
  looked_up = none_stepped (is_listed entries) output cache view.bytes_read;
}

-- ---- a step, as the store's call shows it

module _ (n : ℕ) (entries : List Entry) (merge : Option MergeInProgress) (m : MergeInProgress) (old new : DiskView) (cache cached : LruCache ℕ (List ℕ)) (value : Some m ≡ merge) where
  pub step_ok : (done : Unit {0}) (left : ℕ) → IsMeteredStep {T = Unit {0}} (Ok done) (step_cost n (merge_of (Some m))) entries (Some (extent_of m.entry)) old new cache cached
      → IsMeteredStep {T = ℕ} (Ok left) (step_cost n (merge_of merge)) entries (reserved_by (merge_of merge)) old new cache cached
  step_ok done left is =
      subst (λ (o : Option MergeInProgress). IsMeteredStep {T = ℕ} (Ok left) (step_cost n (merge_of o)) entries (reserved_by (merge_of o)) old new cache cached) value
      (record {
        counts = record { honesty = is.counts.honesty; failures = is.counts.failures; bytes_read = is.counts.bytes_read; other_calls = is.counts.other_calls };
        uncalled = tt;
        calls = is.calls;
        looked_up = is.looked_up;
      })

  pub step_err : (e : Refusal) → IsMeteredStep {T = Unit {0}} (Err e) (step_cost n (merge_of (Some m))) entries (Some (extent_of m.entry)) old new cache cached
      → IsMeteredStep {T = ℕ} (Err e) (step_cost n (merge_of merge)) entries (reserved_by (merge_of merge)) old new cache cached
  step_err e is =
      subst (λ (o : Option MergeInProgress). IsMeteredStep {T = ℕ} (Err e) (step_cost n (merge_of o)) entries (reserved_by (merge_of o)) old new cache cached) value
      (record {
        counts = record { honesty = is.counts.honesty; failures = is.counts.failures; bytes_read = is.counts.bytes_read; other_calls = is.counts.other_calls };
        uncalled = is.uncalled;
        calls = is.calls;
        looked_up = is.looked_up;
      })
