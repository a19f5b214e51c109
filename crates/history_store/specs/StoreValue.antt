-- The value of a store, as clauses see it.
use Rattle.std.specs.Prelude.{◌≡◌, ℕ, [], Bool, false, List}
use Rattle.disk_model.specs.View.{DiskView}
use Rattle.disk_model.specs.Disk.{DiskState, EachImage}
use Rattle.blocks.specs.declared.slots.Slot.{Slot}
use Rattle.history_model.specs.declared.stamped.StampedRow.{StampedRow}
use Rattle.history_model.specs.History.{History}
use Rattle.directory.specs.Listings.{DirectoryValue}
use Rattle.store_image.specs.Kept.{IsKept}
use Rattle.store_image.specs.Images.{Represents}
use Rattle.store_image.specs.OnDisk.{IsOnDisk}
use Rattle.lru.specs.LruCache.{LruCache, lru_cache}
use Rattle.blocks.specs.Cache.{AgreesWith}
use Rattle.segment_index.specs.declared.words.Words.{Words}
use Rattle.history_store.specs.Catalog.{Catalog}

-- the disk, the history, the catalog, whether the store has to be opened again because a call
-- failed, the cached blocks of the disk, and whether words are kept in memory
pub record StoreValue (D : Type 0) : Type 0 where
  pub disk : D
  pub history : History
  pub catalog : Catalog
  pub needs_reopen : Bool
  pub cache : LruCache ℕ (List ℕ)
  pub words : Words

-- the empty cache, with a capacity of 1,024 blocks
abbrev pub no_blocks : LruCache ℕ (List ℕ)
no_blocks = lru_cache [] 1024

-- no call has failed, and every image that a crash may leave represents what the store holds
pub record IsAcknowledged {D : Type 0} (view : D → DiskView) (s : StoreValue D) : Type 0 where
  pub open_still : s.needs_reopen ≡ false
  pub each : EachImage (view s.disk).moments.state
      (λ c. Represents c s.history s.catalog.layout s.catalog.epoch s.catalog.entries)

-- The parts that are kept in memory are consistent: the directory may list segments of these rows.
-- As long as no call has failed, the disk has these segments, and the cached blocks are what a read
-- returns.
pub record IsHeld (honest : Type 0) (state : DiskState) (cache : LruCache ℕ (List ℕ)) (slot : Slot)
    (d : DirectoryValue) (lists : List (List StampedRow)) (needs_reopen : Bool) : Type 0 where
  pub kept : IsKept d lists
  pub on_disk : honest → needs_reopen ≡ false → IsOnDisk state slot d lists
  pub agrees : honest → needs_reopen ≡ false → AgreesWith cache state.now

-- the greatest import number, and the greatest epoch
abbrev pub last_import : ℕ
last_import = 4294967295

abbrev pub last_epoch : ℕ
last_epoch = 18446744073709551615
