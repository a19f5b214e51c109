-- What comparing a release with stored rows does of the disk's counts and of the cache.
use Rattle.std.specs.Prelude.{Result}
use Rattle.std.proofs.Common.{◌≡◌, ℕ, ◌+◌, ◌≤◌, List, refl, ap, subst, ◌∙◌, arith}
use Rattle.std.specs.List.{sum_by}
use Rattle.fault_counts.specs.declared.fault.ReadFault.TheVariants as readfault
use Rattle.rf2_values.specs.Row.{RowValue}
use Rattle.history_model.specs.History.{full}
use Rattle.disk_model.specs.View.{DiskView}
use Rattle.lru.specs.LruCache.{LruCache}
use Rattle.blocks.specs.Cache.{LooksUpSome}
use Rattle.blocks.proofs.Looked.{none_looks_up}
use Rattle.directory.specs.declared.entry.Entry.{Entry}
use Rattle.import_check.specs.declared.release.Release.{Release}
use Rattle.import_check.specs.declared.fault.ImportFault.{ImportFault}
use Rattle.import_check.specs.declared.fault.ImportFault.TheVariants as importfault
use Rattle.import_check.specs.Known.{already_known}
use Rattle.import_check.specs.Release.{IsReleaseOf}
use Rattle.import_check.specs.NewRows.{IsRead, CountsAnyDiskFault}
use Rattle.history_store.specs.declared.refusal.Refusal.{Refusal}
use Rattle.history_store.specs.Refusals.{refusal_of}
use Rattle.history_store.specs.Reading.{row_cost}
use Rattle.history_store.specs.StoreValue.{StoreValue}
use Rattle.history_store.specs.Queries.{is_listed}
use Rattle.history_store.specs.Answers.{Counts, CountsRefusal}
use Rattle.history_store.specs.Private.Reading.{MomentsStay}
use Rattle.history_store.specs.Meters.{IsMeteredReading}

-- the disk's count rises with the refusal that its failure becomes
pub counted_fault : (fault : ImportFault) (before after : ℕ) → CountsAnyDiskFault fault before after → CountsRefusal (refusal_of fault) before after
counted_fault importfault.OutOfMemory before after counts = counts
counted_fault (importfault.Known readfault.OutOfMemory) before after counts = counts
counted_fault (importfault.Known readfault.DiskFault) before after counts = counts
counted_fault (importfault.Known readfault.Damaged) before after counts = counts
counted_fault (importfault.Row file line fault) before after counts = counts
counted_fault (importfault.Contradiction file line key) before after counts = counts

-- nothing was read
pub unread : {T D : Type 0} (view : D → DiskView) (result : Result T Refusal) (release : Release) (s : StoreValue D) → Counts result (view s.disk).failures (view s.disk).failures → IsMeteredReading result release view s s
unread view result release s counted = record {
  counts = record { moments = λ up. refl; honesty = (λ up. up, λ up. up); failures = counted; bytes_read = tt; other_calls = refl };
  looked_up = none_looks_up (is_listed s.catalog.entries) s.cache (view s.disk).bytes_read;
  known = record { bytes_read = λ rows are. omega arith; bytes_unread = λ none. omega arith };
}

-- the rows were read by a reader to which the disk, the cache and the segments were lent
pub read_so : {T D : Type 0} (view : D → DiskView) (result : Result T Refusal) (release : Release) (old new : StoreValue D) (entries : List Entry) (lent : D) (lent_cache : LruCache ℕ (List ℕ))
    → lent ≡ old.disk → lent_cache ≡ old.cache → entries ≡ old.catalog.entries
    → MomentsStay (view lent).is_honest (view new.disk).is_honest (view lent).moments (view new.disk).moments
    → LooksUpSome (is_listed entries) lent_cache new.cache (view lent).bytes_read (view new.disk).bytes_read
    → (view new.disk).other_calls ≡ (view lent).other_calls
    → Counts result (view lent).failures (view new.disk).failures
    → ((rows : List RowValue) → IsReleaseOf release rows → (view new.disk).bytes_read ≤ (view old.disk).bytes_read + sum_by row_cost (already_known (full old.history) rows))
    → ((IsRead release → ⊥) → (view new.disk).bytes_read ≤ (view old.disk).bytes_read)
    → IsMeteredReading result release view old new
read_so view result release old new entries lent lent_cache lent_is cache_is entries_are stays looked_up calls counted bytes unread =
    let stay = subst (λ x. MomentsStay (view x).is_honest (view new.disk).is_honest (view x).moments (view new.disk).moments) lent_is stays in
    record {
      counts = record {
        moments = stay.1;
        honesty = stay.0;
        failures = subst (λ x. Counts result (view x).failures (view new.disk).failures) lent_is counted;
        bytes_read = tt;
        other_calls = calls ∙ ap (λ d. (view d).other_calls) lent_is;
      };
      looked_up =
          subst (λ d. LooksUpSome (is_listed old.catalog.entries) old.cache new.cache (view d).bytes_read (view new.disk).bytes_read) lent_is
          (subst (λ c. LooksUpSome (is_listed old.catalog.entries) c new.cache (view lent).bytes_read (view new.disk).bytes_read) cache_is
          (subst (λ (e : List Entry). LooksUpSome (is_listed e) lent_cache new.cache (view lent).bytes_read (view new.disk).bytes_read) entries_are looked_up));
      known = record { bytes_read = λ rows are. let few = bytes rows are in omega (arith, few); bytes_unread = unread };
    }
