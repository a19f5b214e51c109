-- The result of a query, and the store after it.
use Rattle.std.specs.Prelude.{◌≡◌, ◌≢◌, ◌⊎◌, ◌↔◌, ℕ, Bool, true, false, List, []}
use Rattle.std.specs.Prelude.{◌+◌, ◌≤◌, Result, Err, IfOk, IfErr, OnOk, OnErr, Option, Some, None}
use Rattle.std.specs.Prelude.{if◌then◌else◌}
use Rattle.std.specs.List.{list_any, sum_by}
use Rattle.rf2_values.specs.Row.{RowValue}
use Rattle.rf2_values.specs.Key.{key_of}
use Rattle.history_model.specs.declared.stamped.StampedRow.{StampedRow}
use Rattle.history_model.specs.History.{rows_at}
use Rattle.disk_model.specs.View.{DiskView}
use Rattle.lru.specs.LruCache.{LruCache}
use Rattle.blocks.specs.declared.extent.Extent.{Extent}
use Rattle.blocks.specs.Cache.{LooksUpSome, Forgets, is_in}
use Rattle.blocks.specs.declared.slots.Slot.{Slot}
use Rattle.blocks.specs.Slots.{slot_extent}
use Rattle.directory.specs.declared.entry.Entry.{Entry}
use Rattle.directory.specs.Places.{extent_of}
use Rattle.as_of_index.specs.Reader.{AreFor}
use Rattle.history_store.specs.declared.refusal.Refusal.{Refusal}
use Rattle.history_store.specs.declared.refusal.Refusal.TheVariants as refusals
use Rattle.history_store.specs.Catalog.{reserved_by}
use Rattle.history_store.specs.Reading.{row_cost}
use Rattle.history_store.specs.Stored.{IsStored}
use Rattle.history_store.specs.Written.{added_entries}
use Rattle.history_store.specs.StoreValue.{StoreValue, IsAcknowledged}
use Rattle.history_store.specs.Answers.{Counts, IsReadingOf}

-- whether the block belongs to a listed segment
abbrev pub is_listed : List Entry → ℕ → Bool
is_listed entries block = list_any (λ entry. is_in (extent_of entry) block) entries

-- Blocks of listed segments were looked up in the cache, which otherwise is unchanged. At most
-- 4,096 bytes were read from the disk for each of these blocks that wasn't cached at that time.
abbrev pub ReadsThroughCache : {D : Type 0} → (D → DiskView) → StoreValue D → StoreValue D → Type 0
ReadsThroughCache view old new = LooksUpSome (is_listed old.catalog.entries)
    old.cache new.cache (view old.disk).bytes_read (view new.disk).bytes_read

-- the blocks of an extent are dropped from the cache; without an extent none is
abbrev pub ForgetsIn : Option Extent → LruCache ℕ (List ℕ) → LruCache ℕ (List ℕ) → Type 0
ForgetsIn None old new = new ≡ old
ForgetsIn (Some extent) old new = Forgets (is_in extent) old new

-- Blocks that pass the test were looked up, and at most as many bytes as these take were read from
-- the disk. Then the blocks of an extent were dropped, or none.
abbrev pub LooksUpAndForgets : (test : ℕ → Bool) (extent : Option Extent)
    (old new : LruCache ℕ (List ℕ)) (before after : ℕ) → Type 0
LooksUpAndForgets test extent old new before after = (mid : LruCache ℕ (List ℕ))
    × LooksUpSome test old mid before after × ((new ≡ mid) ⊎ ForgetsIn extent mid new)

-- blocks of listed segments were looked up, and then the blocks that the merge reserved were
-- dropped, or none
abbrev pub StepsThroughCache : {D : Type 0} → (D → DiskView) → StoreValue D → StoreValue D → Type 0
StepsThroughCache view old new =
    LooksUpAndForgets (is_listed old.catalog.entries) (reserved_by old.catalog.merge)
    old.cache new.cache (view old.disk).bytes_read (view new.disk).bytes_read

-- the blocks of these segments are dropped from the cache, and then those of a slot
abbrev pub ForgetsWritten : List Entry → LruCache ℕ (List ℕ) → LruCache ℕ (List ℕ) → Type 0
ForgetsWritten entries old new = (slot : Slot) × (mid : LruCache ℕ (List ℕ))
    × Forgets (is_listed entries) old mid × Forgets (is_in (slot_extent slot)) mid new

-- What an import reads, and what it drops from the cache. Blocks of listed segments are looked up,
-- which turns the cache into `looked_up`. A publication also reads one byte, the gate of a slot,
-- and nothing else is read. After `Ok` the blocks that were written are dropped; after an error
-- none is.
pub record ImportsThroughCache {T D : Type 0} (result : Result T Refusal) (view : D → DiskView)
    (old new : StoreValue D) : Type 0 where
  pub looked_up : LruCache ℕ (List ℕ)
  pub asked : ℕ
  pub reads : LooksUpSome (is_listed old.catalog.entries)
      old.cache looked_up (view old.disk).bytes_read asked
  pub gate : (view new.disk).bytes_read ≤ asked + 1
  pub no_gate : IfErr result (λ e. e ≢ refusals.DiskFault → (view new.disk).bytes_read ≤ asked)
  pub forgets : OnOk result
      (ForgetsWritten (added_entries old.catalog new.catalog) looked_up new.cache)
  pub keeps : OnErr result (new.cache ≡ looked_up)

-- Whatever the result, history and catalog are unchanged, and only a disk failure closes the store.
-- A store that has to be opened again is left unchanged. On an honest disk nothing is reported as
-- damaged, what a crash may leave is unchanged, and as long as no call has failed it represents
-- what the store holds.
pub record IsQuery {T D : Type 0} (result : Result T Refusal) (view : D → DiskView)
    (old new : StoreValue D) : Type 0 where
  pub undamaged : (view old.disk).is_honest → IfErr result (λ e. e ≢ refusals.Damaged)
  pub read : IsReadingOf result old new
  pub closed : old.needs_reopen ≡ true → new ≡ old
  pub moments : (view old.disk).is_honest → (view new.disk).moments ≡ (view old.disk).moments
  pub acknowledged : (view old.disk).is_honest → new.needs_reopen ≡ false → IsAcknowledged view new
  pub honesty : (view old.disk).is_honest ↔ (view new.disk).is_honest
  pub failures : Counts result (view old.disk).failures (view new.disk).failures

-- the refusal isn't due to a read
abbrev pub IsWithoutRead : Refusal → Type 0
IsWithoutRead refusals.DiskFault = ⊥
IsWithoutRead refusals.Damaged = ⊥
IsWithoutRead _ = Unit {0}

-- the row has the key of the wanted one, and is stored
pub record IsStoredFor {D : Type 0} (view : D → DiskView) (store : StoreValue D)
    (row wanted : RowValue) : Type 0 where
  pub key : key_of row ≡ key_of wanted
  pub stored : IsStored view store row

-- A query for rows: `rows_of` gives the rows of an answer, and `wanted` those that should be in it,
-- from the store's rows with the numbers of their imports. On an honest disk both are equal. On
-- every disk each row of the answer is stored, with the key of a wanted one, as `AreFor` says; no
-- calls but reads are made, cached blocks aren't read again, and no more is read than the rows of
-- the answer take. Whatever the result, no more is read than the wanted rows take, each counted
-- once, and a row that is stored by what is read from then on was stored before. If no row is
-- wanted, the disk doesn't fail, and none is damaged.
pub record IsRowsQueryOf {T D : Type 0} (put_in_order : Bool) (result : Result T Refusal)
    (rows_of : T → List RowValue) (wanted : List StampedRow → List RowValue)
    (view : D → DiskView) (old new : StoreValue D) : Type 0 where
  pub found : (view old.disk).is_honest
      → IfOk result (λ x. rows_of x ≡ wanted old.history.rows)
  pub stored : IfOk result (λ x. AreFor put_in_order (IsStoredFor view old) (rows_of x)
      (wanted old.history.rows))
  pub steady : (row : RowValue) → IsStored view new row → IsStored view old row
  pub causes : wanted old.history.rows ≡ [] → IfErr result IsWithoutRead
  pub query : IsQuery result view old new
  pub other_calls : (view new.disk).other_calls ≡ (view old.disk).other_calls
  pub looked_up : ReadsThroughCache view old new
  pub bytes_read : IfOk result
      (λ x. (view new.disk).bytes_read ≤ (view old.disk).bytes_read + sum_by row_cost (rows_of x))
  pub bytes_read_always : (view new.disk).bytes_read
      ≤ (view old.disk).bytes_read + sum_by row_cost (wanted old.history.rows)

-- the same, of the rows that the pin shows
abbrev pub IsRowsQueryBy : {T D : Type 0} → (put_in_order : Bool) → Result T Refusal
    → (T → List RowValue) → (List RowValue → List RowValue) → ℕ → (D → DiskView)
    → StoreValue D → StoreValue D → Type 0
IsRowsQueryBy put_in_order result rows_of wanted pin =
    IsRowsQueryOf put_in_order result rows_of (λ rows. wanted (rows_at pin rows))

-- A query for words that the store leaves out: it is refused, as every call is if the store has to
-- be opened again, and nothing changes.
pub record IsNotKept {T D : Type 0} (result : Result T Refusal) (old new : StoreValue D)
    : Type 0 where
  pub refused :
      result ≡ Err (if old.needs_reopen then refusals.ReopenNeeded else refusals.NotKept)
  pub unchanged : new ≡ old

-- A query that the index answers on every disk, among the rows that the pin shows, without reading
-- a row. Nothing changes, and it is refused only if the store has to be opened again or memory runs
-- out.
pub record IsIndexQuery {T D : Type 0} (result : Result T Refusal)
    (IsAnswer : T → List RowValue → Type 0) (pin : ℕ) (old new : StoreValue D) : Type 0 where
  pub found : IfOk result
      (λ x. (old.needs_reopen ≡ false) × IsAnswer x (rows_at pin old.history.rows))
  pub refused : IfErr result (λ e. ((e ≡ refusals.ReopenNeeded) × (old.needs_reopen ≡ true))
      ⊎ ((e ≡ refusals.OutOfMemory) × (old.needs_reopen ≡ false)))
  pub unchanged : new ≡ old
