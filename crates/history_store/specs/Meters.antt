-- How calls of a store change the disk's counts, and the cache.
use Rattle.std.specs.Prelude.{◌≡◌, ◌≢◌, ◌⊎◌, ℕ, zero, suc, ◌+◌, ◌≤◌, nat_le, Bool, List, length}
use Rattle.std.specs.Prelude.{Option, Result, Ok, Err, IfOk, IfErr, OnOk, OnErr}
use Rattle.std.specs.List.{sum_by}
use Rattle.disk_model.specs.Disk.{raised_by}
use Rattle.disk_model.specs.View.{DiskView, OnlyReads, Calls, Stays, AtMost, Unsaid}
use Rattle.lru.specs.LruCache.{LruCache}
use Rattle.blocks.specs.declared.extent.Extent.{Extent}
use Rattle.blocks.specs.Cache.{Forgets}
use Rattle.blocks.specs.Calls.{call_count, MakesCalls}
use Rattle.blocks.specs.Slots.{slots_read}
use Rattle.rf2_values.specs.Row.{RowValue}
use Rattle.history_model.specs.declared.receipt.Receipt.{Receipt}
use Rattle.history_model.specs.History.{full}
use Rattle.directory.specs.declared.entry.Entry.{Entry}
use Rattle.import_check.specs.declared.release.Release.{Release}
use Rattle.import_check.specs.Known.{already_known}
use Rattle.import_check.specs.Release.{IsReleaseOf}
use Rattle.import_check.specs.NewRows.{IsRead}
use Rattle.store_image.specs.Kept.{bytes_listed}
use Rattle.history_store.specs.declared.refusal.Refusal.{Refusal}
use Rattle.history_store.specs.declared.refusal.Refusal.TheVariants as refusals
use Rattle.history_store.specs.Reading.{row_cost}
use Rattle.history_store.specs.StoreValue.{StoreValue}
use Rattle.history_store.specs.Answers.{StoreOr, Counts, disk_of}
use Rattle.history_store.specs.Openings.{StopsIn}
use Rattle.history_store.specs.Queries.{is_listed, ReadsThroughCache, LooksUpAndForgets}
use Rattle.history_store.specs.Queries.{ImportsThroughCache}
use Rattle.history_store.specs.Merging.{trimmed_blocks}

-- unless the disk failed, a refused call made no call besides reads: their count is unchanged
abbrev pub UncalledIfRefused : {T : Type 0} → Result T Refusal → ℕ → ℕ → Type 0
UncalledIfRefused result old new = IfErr result (λ e. e ≢ refusals.DiskFault → new ≡ old)

-- Of the stored rows only those were read whose keys are in the release, each at most once, and
-- `besides` more bytes. If a file isn't a valid release file, nothing was read.
pub record ReadsKnown {D : Type 0} (view : D → DiskView) (besides : ℕ) (release : Release)
    (old new : StoreValue D) : Type 0 where
  pub bytes_read : (rows : List RowValue) → IsReleaseOf release rows
      → (view new.disk).bytes_read ≤ (view old.disk).bytes_read + besides
      + sum_by row_cost (already_known (full old.history) rows)
  pub bytes_unread : (IsRead release → ⊥) → (view new.disk).bytes_read ≤ (view old.disk).bytes_read

-- The meters of a call that compares a release with stored rows, of which it reads those whose keys
-- are in the release. Only reads are made, through the cache, and what a crash may leave is
-- unchanged.
pub record IsMeteredReading {T D : Type 0} (result : Result T Refusal) (release : Release)
    (view : D → DiskView) (old new : StoreValue D) : Type 0 where
  pub counts : OnlyReads (Counts result) Unsaid (view old.disk) (view new.disk)
  pub looked_up : ReadsThroughCache view old new
  pub known : ReadsKnown view 0 release old new

-- The meters of a call that writes. It requests as many bytes as `reads` says, and makes at most
-- `n` calls besides reads; if it is refused for a reason other than a disk failure, none. On an
-- honest disk it makes exactly `n` changing calls, and after an error at most `n`. After `Ok`,
-- `Drops` says which blocks it drops from the cache; after an error it drops none.
pub record IsMeteredWrite {T : Type 0} (result : Result T Refusal) (reads : ℕ → ℕ → Type 0) (n : ℕ)
    (Drops : LruCache ℕ (List ℕ) → LruCache ℕ (List ℕ) → Type 0) (old new : DiskView)
    (cache cached : LruCache ℕ (List ℕ)) : Type 0 where
  pub counts : Calls (Counts result) reads (AtMost n) old new
  pub uncalled : UncalledIfRefused result old.other_calls new.other_calls
  pub calls : old.is_honest → MakesCalls result n old.moments new.moments
  pub drops : OnOk result (Drops cache cached)
  pub keeps : OnErr result (cached ≡ cache)

-- the calls besides reads that an import makes, of which each changes an honest disk: the six of a
-- publication, preceded by a segment's write and sync if a row is new
abbrev pub calls_for : ℕ → ℕ
calls_for zero = 6
calls_for (suc more) = 8

-- the most such calls that an import with this result makes
abbrev pub import_calls : {E : Type 0} → Result Receipt E → ℕ
import_calls (Ok receipt) = calls_for receipt.new
import_calls (Err e) = 8

-- The meters of an import. It makes at most `import_calls` calls besides reads; if it is refused
-- for a reason other than a disk failure, none. Whatever the result, it reads the stored rows whose
-- keys are in the release, and one byte besides, the gate of a slot.
pub record IsMeteredImport {D : Type 0} (result : Result Receipt Refusal) (release : Release)
    (view : D → DiskView) (old new : StoreValue D) : Type 0 where
  pub counts : Calls (Counts result) Unsaid (AtMost (import_calls result))
      (view old.disk) (view new.disk)
  pub uncalled : UncalledIfRefused result (view old.disk).other_calls (view new.disk).other_calls
  pub calls : (view old.disk).is_honest
      → MakesCalls result (import_calls result) (view old.disk).moments (view new.disk).moments
  pub cache : ImportsThroughCache result view old new
  pub known : ReadsKnown view 1 release old new

-- The meters of a step of a merge. It requests at most so many bytes, through the cache, in which
-- it looks up blocks of these segments, and then drops from it the blocks of the output's extent,
-- or none. It makes at most one call besides reads, a write; if it is refused for a reason other
-- than a disk failure, none.
pub record IsMeteredStep {T : Type 0} (result : Result T Refusal) (bytes : ℕ) (entries : List Entry)
    (output : Option Extent) (old new : DiskView) (cache cached : LruCache ℕ (List ℕ))
    : Type 0 where
  pub counts : Calls (Counts result) (AtMost bytes) (AtMost 1) old new
  pub uncalled : UncalledIfRefused result old.other_calls new.other_calls
  pub calls : old.is_honest → call_count new.moments ≤ call_count old.moments + 1
  pub looked_up : LooksUpAndForgets (is_listed entries) output cache cached
      old.bytes_read new.bytes_read

-- The meters of a trimming. It requests no bytes, and makes at most three calls, or one if nothing
-- is cut off. After `Ok` it drops from the cache the blocks that were cut off; after an error none.
pub record IsMeteredTrim {D : Type 0} (result : Result ℕ Refusal) (view : D → DiskView)
    (old new : StoreValue D) : Type 0 where
  pub counts : Calls (Counts result) Stays (AtMost 3) (view old.disk) (view new.disk)
  pub uncut : IfOk result (λ bytes. bytes ≡ 0
      → (view new.disk).other_calls ≤ (view old.disk).other_calls + 1)
  pub drops : OnOk result (Forgets (nat_le (trimmed_blocks old.catalog)) old.cache new.cache)
  pub keeps : OnErr result (new.cache ≡ old.cache)

-- The meters of making a store. It requests no bytes. It asks for the disk's length at most twice,
-- and makes at most nine other calls; if it is refused for a reason other than a disk failure, none
-- of the nine.
pub record IsMeteredMaking {D : Type 0} (result : StoreOr D) (view : D → DiskView) (disk : D)
    : Type 0 where
  pub bytes_read : (view (disk_of result)).bytes_read ≡ (view disk).bytes_read
  pub other_calls : (view (disk_of result)).other_calls ≤ (view disk).other_calls + 11
  pub looked : IfErr result (λ e. e.0 ≢ refusals.DiskFault
      → (view e.1).other_calls ≤ (view disk).other_calls + 2)

-- The meters of opening a store.
pub record IsMeteredOpening {D : Type 0} (result : StoreOr D) (view : D → DiskView) (disk : D)
    : Type 0 where
  -- after `Ok` it has read the slots, and each byte of the listed segments once, at most
  pub bytes_read : IfOk result (λ s. (view s.disk).bytes_read
      ≤ (view disk).bytes_read + slots_read + bytes_listed s.catalog.entries)
  -- besides its reads it made one sync, and asked for the length once for the slots and once for
  -- each segment, at most
  pub other_calls : IfOk result (λ s. (view s.disk).other_calls
      ≤ (view disk).other_calls + 2 + length s.catalog.entries)
  -- whatever the result, it makes one call before the first read; a sync that failed isn't tried
  -- again
  pub synced_once : ((view (disk_of result)).other_calls ≤ (view disk).other_calls + 1)
      ⊎ (raised_by (view disk).bytes_read 1 ≤ (view (disk_of result)).bytes_read)
  -- after an error it has read no further than the fault
  pub stops : IfErr result (λ e. StopsIn e.0 (view disk).bytes_read (view e.1).bytes_read
      (view disk).other_calls (view e.1).other_calls)

-- the cache keeps its capacity while blocks are looked up and those of an extent are dropped
abbrev pub CapacityStays : Type 0
CapacityStays = (test : ℕ → Bool) (extent : Option Extent) (old new : LruCache ℕ (List ℕ))
    (before after : ℕ) → LooksUpAndForgets test extent old new before after → new.cap ≡ old.cap
