-- What a reader is lent of a store, and what its reading leaves.
use Rattle.std.proofs.Common.{◌≡◌, ℕ, Bool, false, List, sym, subst}
use Rattle.std.specs.Prelude.{Option}
use Rattle.disk_model.specs.View.{DiskView}
use Rattle.disk_model.specs.Disk.{IsImage}
use Rattle.lru.specs.LruCache.{LruCache}
use Rattle.blocks.specs.declared.slots.Slot.{Slot}
use Rattle.blocks.specs.Cache.{AgreesWith}
use Rattle.history_model.specs.declared.stamped.StampedRow.{StampedRow}
use Rattle.directory.specs.declared.entry.Entry.{Entry}
use Rattle.directory.specs.Listings.{DirectoryValue}
use Rattle.history_store.specs.Private.Reading.{AreThere, MomentsStay}
use Rattle.history_store.specs.declared.merge_in_progress.MergeInProgress.{MergeInProgress}
use Rattle.history_store.specs.MergeInProgress.{HasMerge}
use Rattle.history_store.specs.StoreValue.{IsHeld}
use Rattle.history_store.proofs.GoingOn.{merge_read}
use Rattle.history_store.proofs.Held.{lent_honest, held_read}

module _ {D : Type 0} (view : D → DiskView) (disk lent : D) (cache lent_cache : LruCache ℕ (List ℕ)) (slot : Slot) (d : DirectoryValue) (lists lent_lists : List (List StampedRow)) (entries : List Entry) (needs : Bool)
    (held : IsHeld (view disk).is_honest (view disk).moments.state cache slot d lists needs) (same : lent ≡ disk) (kept : lent_cache ≡ cache) (listed_so : entries ≡ d.entries) (shown : lent_lists ≡ lists) where
  -- the disk that is lent has the rows that are lent
  pub reader_honest : (view disk).is_honest → needs ≡ false → IsImage (view disk).moments.state (view disk).moments.state.now → (view lent).is_honest × AgreesWith lent_cache (view lent).moments.state.now × AreThere entries lent_lists (view lent).moments.state.now
  reader_honest up still now =
      let all = lent_honest (view disk).is_honest (view disk).moments.state cache slot d lists needs held entries lent_lists listed_so shown up still now in
      subst (λ x. (view x).is_honest × AgreesWith lent_cache (view x).moments.state.now × AreThere entries lent_lists (view x).moments.state.now) (sym same)
      (subst (λ (c : LruCache ℕ (List ℕ)). (view disk).is_honest × AgreesWith c (view disk).moments.state.now × AreThere entries lent_lists (view disk).moments.state.now) (sym kept) all)

  -- and what is held is held of the disk that is left
  pub held_left : (merge : Option MergeInProgress) (after : D) (left : LruCache ℕ (List ℕ)) → HasMerge (view disk).is_honest (view disk).moments.state.now d lists merge needs → MomentsStay (view lent).is_honest (view after).is_honest (view lent).moments (view after).moments → ((view disk).is_honest → needs ≡ false → AgreesWith left (view after).moments.state.now)
      → IsHeld (view after).is_honest (view after).moments.state left slot d lists needs × HasMerge (view after).is_honest (view after).moments.state.now d lists merge needs
  held_left merge after left going lent_stays agrees =
      let stays = subst (λ x. MomentsStay (view x).is_honest (view after).is_honest (view x).moments (view after).moments) same lent_stays in (
        held_read (view disk).is_honest (view after).is_honest (view disk).moments (view after).moments cache left slot d lists needs held stays agrees,
        merge_read (view disk).is_honest (view after).is_honest (view disk).moments (view after).moments d lists merge needs going stays,
      )

  -- so it is where the reader stays honest
  pub held_after : (merge : Option MergeInProgress) (after : D) (left : LruCache ℕ (List ℕ)) (left_entries : List Entry) (left_lists : List (List StampedRow)) → HasMerge (view disk).is_honest (view disk).moments.state.now d lists merge needs → MomentsStay (view lent).is_honest (view after).is_honest (view lent).moments (view after).moments
      → ((view disk).is_honest → IsImage (view disk).moments.state (view disk).moments.state.now)
      → ((view lent).is_honest × AgreesWith lent_cache (view lent).moments.state.now × AreThere entries lent_lists (view lent).moments.state.now → (view after).is_honest × AgreesWith left (view after).moments.state.now × AreThere left_entries left_lists (view after).moments.state.now)
      → IsHeld (view after).is_honest (view after).moments.state left slot d lists needs × HasMerge (view after).is_honest (view after).moments.state.now d lists merge needs
  held_after merge after left left_entries left_lists going stays now honesty = held_left merge after left going stays (λ up still. (honesty (reader_honest up still (now up))).1)
