-- How a store is made, and how it is opened.
use Rattle.std.specs.Prelude.{◌≡◌, ◌↔◌, ◌≤◌, ℕ, length, IfOk, IfErr}
use Rattle.disk_model.specs.View.{DiskView}
use Rattle.disk_model.specs.Disk.{IsImage, LeavesOnly}
use Rattle.blocks.specs.Calls.{MakesCalls}
use Rattle.blocks.specs.Outside.{StemsWithin}
use Rattle.blocks.specs.Slots.{slots_range}
use Rattle.directory.specs.declared.layout.Layout.{Layout}
use Rattle.store_image.specs.Answers.{IsNewStore}
use Rattle.store_image.specs.Asked.{StopsAt}
use Rattle.store_image.specs.declared.fault.LoadFault.{LoadFault}
use Rattle.store_image.specs.declared.fault.MakeFault.{MakeFault}
use Rattle.history_store.specs.declared.refusal.Refusal.{Refusal}
use Rattle.history_store.specs.Refusals.{of_loading, of_making}
use Rattle.history_store.specs.StoreValue.{IsAcknowledged, no_blocks}
use Rattle.history_store.specs.Answers.{StoreOr, IsNew, IsReady, IsMakingOf, IsOpeningOf}
use Rattle.history_store.specs.Answers.{HandsBack, SyncsOnce, CountsOpening, disk_of}

-- A store with this layout was made on a disk; or it was refused, and the disk is returned.
pub record IsMaking {D : Type 0} (layout : Layout) (result : StoreOr D)
    (view : D → DiskView) (disk : D) : Type 0 where
  -- on an honest disk it is made exactly if the disk is empty, unless memory runs out or the
  -- disk fails
  pub exact : (view disk).is_honest → IsMakingOf layout result (view disk).moments.state.now
  -- on every disk the result is a new store, or one of the refusals 1, 2 and 4
  pub new : IfOk result (IsNew layout)
  pub causes : IfErr result (λ e. (fault : MakeFault) × (e.0 ≡ of_making fault))
  -- if it is refused for a reason other than a disk failure, what a crash may leave is unchanged
  pub refused : (view disk).is_honest → HandsBack view result disk
  -- a disk that isn't empty is unchanged, whatever the result, even if the disk fails
  pub untouched : (view disk).is_honest → 1 ≤ length (view disk).moments.state.now
      → (view (disk_of result)).moments ≡ (view disk).moments
  -- Whatever the result, a crash changes nothing after the slots, and at most nine calls change the
  -- disk; after `Ok` exactly nine.
  pub inside : (view disk).is_honest
      → LeavesOnly (view disk).moments (view (disk_of result)).moments
      (StemsWithin (view disk).moments.state slots_range)
  pub calls : (view disk).is_honest
      → MakesCalls result 9 (view disk).moments (view (disk_of result)).moments
  -- a read of a new store returns its two slots, and nothing after them
  pub bytes : (view disk).is_honest
      → IfOk result (λ s. IsNewStore layout (view s.disk).moments.state.now)
  -- every image that a crash may leave represents the empty history
  pub acknowledged : (view disk).is_honest → IfOk result (IsAcknowledged view)
  -- on every disk the store's cache is empty
  pub cache : IfOk result (λ s. s.cache ≡ no_blocks)
  pub honesty : (view disk).is_honest ↔ (view (disk_of result)).is_honest
  pub failures : CountsOpening result (view disk).failures (view (disk_of result)).failures

-- A store was opened from a disk; or it was refused, and the disk is returned.
pub record IsOpening {D : Type 0} (result : StoreOr D)
    (view : D → DiskView) (disk : D) : Type 0 where
  -- on an honest disk it is opened exactly if the bytes represent a history, unless memory runs
  -- out or the disk fails
  pub exact : (view disk).is_honest → IsOpeningOf result (view disk).moments.state.now
  -- on every disk the opened store has a history, or the refusal is 1, 2, 7 or 8
  pub ready : IfOk result IsReady
  pub causes : IfErr result (λ e. (fault : LoadFault) × (e.0 ≡ of_loading fault))
  -- a crash at any moment leaves what it might have left before
  pub any_moment : (view disk).is_honest → LeavesOnly (view disk).moments
      (view (disk_of result)).moments (IsImage (view disk).moments.state)
  -- whatever the result, it syncs once and changes nothing else, and reads return what they
  -- returned before
  pub synced : (view disk).is_honest → SyncsOnce view result disk
  pub read : (view disk).is_honest
      → (view (disk_of result)).moments.state.now ≡ (view disk).moments.state.now
  -- every image that a crash may leave represents what the store holds
  pub acknowledged : (view disk).is_honest → IfOk result (IsAcknowledged view)
  -- on every disk the store's cache is empty
  pub cache : IfOk result (λ s. s.cache ≡ no_blocks)
  pub honesty : (view disk).is_honest ↔ (view (disk_of result)).is_honest
  pub failures : CountsOpening result (view disk).failures (view (disk_of result)).failures

-- a refused opening read no further than the fault in the bytes
abbrev pub StopsIn : Refusal → (bytes_before bytes calls_before calls : ℕ) → Type 0
StopsIn refusal bytes_before bytes calls_before calls = (fault : LoadFault)
    × (refusal ≡ of_loading fault) × StopsAt fault bytes_before bytes calls_before calls
