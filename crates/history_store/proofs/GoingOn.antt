-- A merge that goes on, while other calls are made.
use Rattle.std.specs.Prelude.{Option, Some, None, is_some}
use Rattle.std.specs.Int.{div_ceil}
use Rattle.std.specs.List.{AllByRecursion}
use Rattle.std.specs.Option.{option_to_list}
use Rattle.std.proofs.Common.{◌≡◌, inl, inr, ℕ, ◌+◌, ◌<◌, ◌≤◌, Bool, true, List, [], ◌∷◌, ◌++◌, length, refl, sym, ap, subst, ◌∙◌, arith, length-append}
use Rattle.std.proofs.lemmas.List.Elements.{All-nil, All-cons}
use Rattle.list_lemmas.proofs.Parts.{number_stays}
use Rattle.disk_model.specs.Disk.{Moments, IsOutside}
use Rattle.blocks.specs.declared.slots.Slot.{Slot}
use Rattle.blocks.specs.declared.extent.Extent.{Extent}
use Rattle.blocks.specs.Slots.{slot_range}
use Rattle.blocks.specs.Extents.{start_of, byte_range, block_count}
use Rattle.blocks.specs.Outside.{SameOutside}
use Rattle.blocks.proofs.SlotFrames.{content_within}
use Rattle.history_model.specs.declared.stamped.StampedRow.{StampedRow}
use Rattle.history_model.specs.Lists.{union}
use Rattle.directory.specs.declared.entry.Entry.{Entry}
use Rattle.directory.specs.declared.layout.Layout.{Layout}
use Rattle.directory.specs.declared.layout.Layout.TheVariants as layouts
use Rattle.directory.specs.Listings.{DirectoryValue, HasForm, IsEntry, form_in, form_of, next_layout}
use Rattle.store_image.specs.Kept.{segment_with}
use Rattle.directory.specs.Places.{AreBeside, extent_of, extents_of}
use Rattle.directory.specs.Fit.{fit}
use Rattle.directory.proofs.Fitting.{fit_is_apart}
use Rattle.segment.specs.Records.{segment_of}
use Rattle.segment.proofs.SegmentLaws.{length-segment_in}
use Rattle.store_image.proofs.Beside.{blocks_cover, one_ends}
use Rattle.store_image.proofs.Unlisted.{begins_elsewhere}
use Rattle.history_store.specs.declared.merge_in_progress.MergeInProgress.{MergeInProgress}
use Rattle.history_store.specs.Catalog.{reserved_by, catalog_of}
use Rattle.history_store.specs.Merging.{GoesOn}
use Rattle.history_store.specs.Private.Reading.{MomentsStay}
use Rattle.history_store.specs.MergeInProgress.{IsMergeOf, IsMergingOf, IsWritten, HasMerge, merge_of}
use Rattle.history_store.specs.Private.Prepared.{IsPlacedAt}
use Rattle.segment_index.specs.Output.{OutputRows, taken_rows}
use Rattle.segment_index.proofs.Built.{segment_within}

module _ (d : DirectoryValue) (lists : List (List StampedRow)) (i j : ℕ) (entry : Entry) (output : OutputRows) (is : IsMergeOf d lists i j entry output) where
  -- what is written fits
  pub written_fits : length (segment_with entry (taken_rows output)) ≤ entry.bytes
  written_fits = omega (arith, length-segment_in (form_in entry.sums) (taken_rows output), segment_within output.taken (union output.a output.b), is.segment.bytes)

-- ---- what is written stays

outside_slot : (entry : Entry) (slot : Slot) (i : ℕ) → IsEntry entry → start_of (extent_of entry) ≤ i → IsOutside i (slot_range slot)
outside_slot entry slot i is ge = inr (omega (arith, content_within slot, is.first, ge))

outside_entry : (entry other : Entry) (i : ℕ) → IsEntry entry → IsEntry other → AreBeside (extent_of entry) (extent_of other) → start_of (extent_of entry) ≤ i → i < start_of (extent_of entry) + entry.bytes → IsOutside i (byte_range (extent_of other))
outside_entry entry other i is is_other beside ge lt = elim (one_ends (extent_of entry) (extent_of other) is.bytes is_other.bytes beside) [
  | inl below ↦ inl (omega (arith, below, blocks_cover entry.bytes, lt))
  | inr above ↦ inr (omega (arith, above, blocks_cover other.bytes, ge))
]

-- while a directory is published
written_published : (d : DirectoryValue) (lists : List (List StampedRow)) (merge : Option MergeInProgress) (slot : Slot) (old new : List ℕ) → IsMergingOf d lists merge → SameOutside (slot_range slot ∷ []) old new → IsWritten merge old → IsWritten merge new
written_published d lists None slot old new is same written = tt
written_published d lists (Some m) slot old new is same written =
    begins_elsewhere (extent_of m.entry) (slot_range slot ∷ []) (segment_with m.entry (taken_rows m.output)) old new same
    (λ i ge lt. All-cons (IsOutside i) (slot_range slot) [] (outside_slot m.entry slot i is.is_entry ge) (All-nil (IsOutside i))) written

-- while a segment is added beside it
written_added : (d : DirectoryValue) (lists : List (List StampedRow)) (merge : Option MergeInProgress) (other : Entry) (slot : Slot) (old new : List ℕ) → IsMergingOf d lists merge → IsEntry other → ((m : MergeInProgress) → merge ≡ Some m → AreBeside (extent_of m.entry) (extent_of other))
    → SameOutside (byte_range (extent_of other) ∷ slot_range slot ∷ []) old new → IsWritten merge old → IsWritten merge new
written_added d lists None other slot old new is is_other beside same written = tt
written_added d lists (Some m) other slot old new is is_other beside same written =
    let fits = written_fits d lists m.i m.j m.entry m.output is in
    begins_elsewhere (extent_of m.entry) (byte_range (extent_of other) ∷ slot_range slot ∷ []) (segment_with m.entry (taken_rows m.output)) old new same
    (λ i ge lt. All-cons (IsOutside i) (byte_range (extent_of other)) (slot_range slot ∷ []) (outside_entry m.entry other i is.is_entry is_other (beside m refl) ge (omega (arith, lt, fits)))
    (All-cons (IsOutside i) (slot_range slot) [] (outside_slot m.entry slot i is.is_entry ge) (All-nil (IsOutside i)))) written

-- ---- it goes on beside the next directory

-- the form of the records stays
form_stays : (layout : Layout) → form_of layout ≡ form_of (next_layout layout)
form_stays layouts.One = refl
form_stays layouts.Two = refl
form_stays layouts.Three = refl

form_risen : (d e : DirectoryValue) (entry : Entry) → e.layout ≡ next_layout d.layout → HasForm d.layout entry → HasForm e.layout entry
form_risen d e entry layout_is has = has ∙ form_stays d.layout ∙ ap form_of (sym layout_is)

pub merging_on : (d e : DirectoryValue) (lists : List (List StampedRow)) (merge : Option MergeInProgress) → e.entries ≡ d.entries → e.layout ≡ next_layout d.layout → IsMergingOf d lists merge → IsMergingOf e lists merge
merging_on d e lists None same layout_is is = tt
merging_on d e lists (Some m) same layout_is is = record {
  below = is.below;
  within = subst (λ (l : List Entry). m.j < length l) (sym same) is.within;
  a_is = is.a_is;
  b_is = is.b_is;
  segment = is.segment;
  is_entry = is.is_entry;
  has_form = form_risen d e m.entry layout_is is.has_form;
  beside = subst (λ (l : List Entry). AllByRecursion (AreBeside (extent_of m.entry)) (extents_of l)) (sym same) is.beside;
}

-- a new segment shares no block with the extent that the merge reserves
beside_reserved : (d : DirectoryValue) (merge : Option MergeInProgress) (rows : List StampedRow) (other : Entry) → IsPlacedAt d (merge_of merge) rows (extent_of other) → (m : MergeInProgress) → merge ≡ Some m → AreBeside (extent_of m.entry) (extent_of other)
beside_reserved d merge rows other placed m same block in_reserved in_other =
    let bytes : other.bytes ≡ length (segment_of rows) = placed.bytes in
    let place : fit (block_count (extent_of other)) d.entries (reserved_by (merge_of merge)) ≡ Some other.first = ap (λ n. fit (div_ceil n 4096) d.entries (reserved_by (merge_of merge))) bytes ∙ placed.place in
    let all = (fit_is_apart (extent_of other) d.entries (reserved_by (merge_of merge)) place).0 in
    let P : Option MergeInProgress → Type 0 = λ o. AllByRecursion (AreBeside (extent_of other)) (extents_of d.entries ++ option_to_list (reserved_by (merge_of o))) in
    last_extent (AreBeside (extent_of other)) (extents_of d.entries) (extent_of m.entry) (subst P same all) block in_other in_reserved
  where
    last_extent : (P : Extent → Type 0) (extents : List Extent) (extent : Extent) → AllByRecursion P (extents ++ extent ∷ []) → P extent
    last_extent P [] extent all = all.0
    last_extent P (e ∷ es) extent all = last_extent P es extent all.1

all_pushed : (P : Extent → Type 0) (entries : List Entry) (other : Entry) → AllByRecursion P (extents_of entries) → P (extent_of other) → AllByRecursion P (extents_of (entries ++ other ∷ []))
all_pushed P [] other all is = (is, tt)
all_pushed P (e ∷ es) other all is = (all.0, all_pushed P es other all.1 is)

merging_added : (d e : DirectoryValue) (lists : List (List StampedRow)) (more : List StampedRow) (merge : Option MergeInProgress) (other : Entry) → e.entries ≡ d.entries ++ other ∷ [] → e.layout ≡ next_layout d.layout → ((m : MergeInProgress) → merge ≡ Some m → AreBeside (extent_of m.entry) (extent_of other))
    → IsMergingOf d lists merge → IsMergingOf e (lists ++ more ∷ []) merge
merging_added d e lists more None other same layout_is beside is = tt
merging_added d e lists more (Some m) other same layout_is beside is = record {
  below = is.below;
  within = subst (λ (l : List Entry). m.j < length l) (sym same) (let long = length-append d.entries (other ∷ []) in omega (arith, long, is.within));
  a_is = number_stays lists (more ∷ []) m.i m.output.a is.a_is;
  b_is = number_stays lists (more ∷ []) m.j m.output.b is.b_is;
  segment = is.segment;
  is_entry = is.is_entry;
  has_form = form_risen d e m.entry layout_is is.has_form;
  beside = subst (λ (l : List Entry). AllByRecursion (AreBeside (extent_of m.entry)) (extents_of l)) (sym same) (all_pushed (AreBeside (extent_of m.entry)) d.entries other is.beside (beside m refl));
}

-- ---- what a store holds of it

-- after reads
pub merge_read : (was is : Type 0) (old new : Moments) (d : DirectoryValue) (lists : List (List StampedRow)) (merge : Option MergeInProgress) (needs : Bool) → HasMerge was old.state.now d lists merge needs → MomentsStay was is old new → HasMerge is new.state.now d lists merge needs
merge_read was is old new d lists merge needs held stays = record {
  merging = held.merging;
  summed = λ up still. held.summed (stays.0.1 up) still;
  written = λ up still. let before = stays.0.1 up in subst (λ (m : Moments). IsWritten merge m.state.now) (sym (stays.1 before)) (held.written before still);
}

-- after the publication of the same entries
pub merge_repeated : (before after : Type 0) (old new : List ℕ) (slot : Slot) (d e : DirectoryValue) (lists : List (List StampedRow)) (merge : Option MergeInProgress) (needs : Bool) → HasMerge before old d lists merge needs → (after → before)
    → e.entries ≡ d.entries → e.layout ≡ next_layout d.layout → (before → SameOutside (slot_range slot ∷ []) old new) → HasMerge after new e lists merge needs
merge_repeated before after old new slot d e lists merge needs held back same layout_is elsewhere = record {
  merging = merging_on d e lists merge same layout_is held.merging;
  summed = λ up still. held.summed (back up) still;
  written = λ up still. written_published d lists merge slot old new held.merging (elsewhere (back up)) (held.written (back up) still);
}

-- after a segment was added beside it
pub merge_added : (before after : Type 0) (old new : List ℕ) (slot : Slot) (d e : DirectoryValue) (entry : Entry) (lists nlists : List (List StampedRow)) (more : List StampedRow) (merge : Option MergeInProgress) (needs : Bool) → HasMerge before old d lists merge needs → (after → before)
    → e.entries ≡ d.entries ++ entry ∷ [] → e.layout ≡ next_layout d.layout → IsEntry entry → IsPlacedAt d (merge_of merge) more (extent_of entry) → (before → SameOutside (byte_range (extent_of entry) ∷ slot_range slot ∷ []) old new) → nlists ≡ lists ++ more ∷ [] → HasMerge after new e nlists merge needs
merge_added before after old new slot d e entry lists nlists more merge needs held back entries layout_is is_entry placed elsewhere lists_are =
    let beside = beside_reserved d merge more entry placed in
    record {
      merging = subst (λ l. IsMergingOf e l merge) (sym lists_are) (merging_added d e lists more merge entry entries layout_is beside held.merging);
      summed = λ up still. held.summed (back up) still;
      written = λ up still. written_added d lists merge entry slot old new held.merging is_entry beside (elsewhere (back up)) (held.written (back up) still);
    }

-- no merge goes on
pub no_merge : (honest : Type 0) (now : List ℕ) (d : DirectoryValue) (lists : List (List StampedRow)) (merge : Option MergeInProgress) (needs : Bool) → merge ≡ None → HasMerge honest now d lists merge needs
no_merge honest now d lists merge needs none = subst (λ (o : Option MergeInProgress). HasMerge honest now d lists o needs) (sym none) (record { merging = tt; written = λ up still. tt; summed = λ up still. tt })

pub goes_on : (d : DirectoryValue) (merge : Option MergeInProgress) → is_some merge ≡ true → GoesOn (catalog_of d (merge_of merge))
goes_on d None some = absurd (cc)
goes_on d (Some m) some = (_, refl)
