-- A merge that goes on, while the disk is trimmed.
use Rattle.std.specs.Prelude.{Option, Some, None, nat_le}
use Rattle.std.specs.Option.{option_to_list}
use Rattle.std.proofs.Common.{◌≡◌, Bool, ℕ, ◌+◌, ◌*◌, ◌≤◌, List, [], ◌∷◌, ◌++◌, length, take, refl, sym, ap, subst, ◌∙◌, arith, length-take}
use Rattle.std.proofs.lemmas.List.{get_or-take}
use Rattle.blocks.specs.declared.extent.Extent.{Extent}
use Rattle.lru.specs.LruCache.{LruCache}
use Rattle.disk_model.specs.Disk.{DiskState}
use Rattle.blocks.specs.declared.slots.Slot.{Slot}
use Rattle.blocks.specs.Cache.{AgreesWith, Forgets}
use Rattle.blocks.proofs.Agreeing.{cut_agrees}
use Rattle.blocks.specs.Extents.{start_of}
use Rattle.blocks.proofs.Windows.{window_same}
use Rattle.history_model.specs.declared.stamped.StampedRow.{StampedRow}
use Rattle.directory.specs.declared.entry.Entry.{Entry}
use Rattle.directory.specs.Listings.{DirectoryValue, IsListing}
use Rattle.directory.specs.Places.{extent_of, extents_of, taken}
use Rattle.store_image.specs.OnDisk.{IsOnDisk}
use Rattle.store_image.specs.Trimmed.{EndBelow}
use Rattle.store_image.specs.Ahead.{BeginsWith}
use Rattle.store_image.proofs.Unlisted.{begins_holds}
use Rattle.store_image.proofs.Beside.{blocks_cover}
use Rattle.history_store.specs.declared.merge_in_progress.MergeInProgress.{MergeInProgress}
use Rattle.history_store.specs.Catalog.{reserved_by}
use Rattle.history_store.specs.MergeInProgress.{IsMergingOf, IsWritten, HasMerge, merge_of}
use Rattle.history_store.specs.StoreValue.{IsHeld}
use Rattle.history_store.specs.Merging.{end_of_taken}
use Rattle.segment_index.specs.Output.{taken_rows}
use Rattle.history_store.proofs.GoingOn.{written_fits}
use Rattle.history_store.proofs.EndOf.{end_within, entries_within, end_reserved, ends_below}
use Rattle.store_image.specs.Kept.{segment_with}

begins_cut : (extent : Extent) (bytes old : List ℕ) (len : ℕ) → 4 ≤ extent.first → start_of extent + length bytes ≤ len → BeginsWith extent bytes old → BeginsWith extent bytes (take len old)
begins_cut extent [] old len first fits begins = refl
begins_cut extent (byte ∷ bytes) old len first fits begins =
    let n = length (byte ∷ bytes) in
    let there = (begins_holds extent (byte ∷ bytes) old first (omega arith) begins).within in
    let short = length-take len old in
    window_same (start_of extent) n (take len old) old (omega (arith, there, short, fits)) there (λ i ge lt. get_or-take len old i 0 (omega (arith, lt, fits))) ∙ begins

written_cut : (d : DirectoryValue) (lists : List (List StampedRow)) (merge : Option MergeInProgress) (entries : List Entry) (len : ℕ) (old new : List ℕ) → IsMergingOf d lists merge → 4096 * end_of_taken (extents_of entries ++ option_to_list (reserved_by (merge_of merge))) ≤ len → new ≡ take len old → IsWritten merge old → IsWritten merge new
written_cut d lists None entries len old new is below cut written = tt
written_cut d lists (Some m) entries len old new is below cut written =
    let fits = written_fits d lists m.i m.j m.entry m.output is in
    let end = end_reserved entries (extent_of m.entry) in
    let P : List ℕ → Type 0 = λ l. BeginsWith (extent_of m.entry) (segment_with m.entry (taken_rows m.output)) l in
    subst P (sym cut) (begins_cut (extent_of m.entry) (segment_with m.entry (taken_rows m.output)) old len is.is_entry.first (omega (arith, fits, end, below, blocks_cover m.entry.bytes)) written)

-- nothing that is taken ends above the last block
pub end_limit : (d : DirectoryValue) (lists : List (List StampedRow)) (merge : Option MergeInProgress) → IsListing d → IsMergingOf d lists merge → end_of_taken (extents_of d.entries ++ option_to_list (reserved_by (merge_of merge))) ≤ 4194304
end_limit d lists None listing is = end_within (extents_of d.entries ++ []) 4194304 (omega arith) (entries_within d.entries [] listing.entries tt)
end_limit d lists (Some m) listing is = end_within (extents_of d.entries ++ extent_of m.entry ∷ []) 4194304 (omega arith) (entries_within d.entries (extent_of m.entry ∷ []) listing.entries (is.is_entry.end_is, tt))

-- the end of all that is taken, as it was computed
pub end_is : (d : DirectoryValue) (merge : Option MergeInProgress) (entries : List Entry) (reserved : Option Extent) (end : ℕ) → entries ≡ d.entries → reserved ≡ reserved_by (merge_of merge) → end ≡ end_of_taken (taken entries reserved) → end ≡ end_of_taken (taken d.entries (reserved_by (merge_of merge)))
end_is d merge entries reserved end same given is = is ∙ ap (λ (l : List Entry). end_of_taken (taken l reserved)) same ∙ ap (λ (o : Option Extent). end_of_taken (taken d.entries o)) given

-- nothing that is listed is cut off
pub kept_below : (d : DirectoryValue) (merge : Option MergeInProgress) (end : ℕ) → end ≡ end_of_taken (taken d.entries (reserved_by (merge_of merge))) → EndBelow (4096 * end) d.entries
kept_below d merge end is = ends_below d.entries (option_to_list (reserved_by (merge_of merge))) (4096 * end) (omega (arith, is))

-- what is held of a disk that was cut
pub trimmed_held : (before after : Type 0) (old new : DiskState) (cache left : LruCache ℕ (List ℕ)) (slot : Slot) (d : DirectoryValue) (lists : List (List StampedRow)) (needs : Bool) (end : ℕ) → IsHeld before old cache slot d lists needs → (after → before)
    → (before → IsOnDisk old slot d lists → IsOnDisk new slot d lists) → (before → new.now ≡ take (4096 * end) old.now) → Forgets (nat_le end) cache left → IsHeld after new left slot d lists needs
trimmed_held before after old new cache left slot d lists needs end held back on cut forgets = record {
  kept = held.kept;
  on_disk = λ up still. on (back up) (held.on_disk (back up) still);
  agrees = λ up still. subst (λ file. AgreesWith left file) (sym (cut (back up))) (cut_agrees end cache left old.now (held.agrees (back up) still) forgets);
}

-- what is written of a merge stays
pub trimmed_merge : (before after : Type 0) (old new : List ℕ) (d : DirectoryValue) (lists : List (List StampedRow)) (merge : Option MergeInProgress) (needs : Bool) (end : ℕ) → HasMerge before old d lists merge needs → (after → before)
    → end ≡ end_of_taken (taken d.entries (reserved_by (merge_of merge))) → (before → new ≡ take (4096 * end) old) → HasMerge after new d lists merge needs
trimmed_merge before after old new d lists merge needs end held back is cut = record {
  merging = held.merging;
  summed = λ up still. held.summed (back up) still;
  written = λ up still. written_cut d lists merge d.entries (4096 * end) old new held.merging (omega (arith, is)) (cut (back up)) (held.written (back up) still);
}
