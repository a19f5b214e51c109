-- Definitions that complete those of `Prepared`. No public clause cites them.
use Rattle.std.specs.Prelude.{◌≡◌, ◌^◌, ◌<◌, Option, Some, List, [], ◌∷◌, length}
use Rattle.history_model.specs.declared.stamped.StampedRow.{StampedRow}
use Rattle.history_model.specs.History.{IsHistory}
use Rattle.history_model.specs.Lists.{AreLists}
use Rattle.blocks.specs.declared.extent.Extent.{Extent}
use Rattle.directory.specs.Listings.{DirectoryValue, HasSumOf, IsListing, IsEntry, form_in}
use Rattle.directory.specs.Listings.{most_entries, next_layout, with_entry}
use Rattle.directory.specs.Places.{extent_of}
use Rattle.directory.specs.Private.{after_import}
use Rattle.segment.specs.Records.{segment_in, segment_of}
use Rattle.store_image.specs.Kept.{IsSegmentOf, AreOfLayout}
use Rattle.history_store.specs.declared.refusal.Refusal.{Refusal}
use Rattle.history_store.specs.declared.refusal.Refusal.TheVariants as refusals
use Rattle.history_store.specs.declared.preparing.Prepared.{Prepared}
use Rattle.history_store.specs.Catalog.{Merge, Catalog, IsPlaced, HasNoEntry, HasNoPlace}
use Rattle.history_store.specs.Catalog.{catalog_of, place_for}
use Rattle.history_store.specs.StoreValue.{StoreValue}
use Rattle.history_store.specs.Private.StoreValue.{directory_of, with_rows}

-- the first extent with room for a segment of these rows
pub record IsPlacedAt (d : DirectoryValue) (merge : Option Merge) (rows : List StampedRow)
    (extent : Extent) : Type 0 where
  pub few : length d.entries < most_entries d.layout
  pub short : length (segment_of rows) < 2 ^ 32
  pub bytes : extent.bytes ≡ length (segment_of rows)
  pub place : place_for rows (catalog_of d merge) ≡ Some extent.first

-- the segment of these rows, and the directory that also lists it
pub record IsPrepared (d : DirectoryValue) (merge : Option Merge) (rows : List StampedRow)
    (p : Prepared) : Type 0 where
  pub index_is : p.index.rows ≡ rows
  pub bytes_are : p.bytes.items ≡ segment_in (form_in p.entry.sums) rows
  pub entry_is : IsEntry p.entry
  pub segment : IsSegmentOf p.entry rows
  pub sum : HasSumOf p.entry.sums (segment_in (form_in p.entry.sums) rows)
  pub listing : IsListing p.directory
  pub directory_is : p.directory ≡ with_entry (after_import d) p.entry
  pub placed : IsPlaced rows (catalog_of d merge) (catalog_of p.directory merge)
  pub at_fit : IsPlacedAt d merge rows (extent_of p.entry)

-- why no segment of these rows is prepared
abbrev pub IsUnprepared : Refusal → List StampedRow → Catalog → Type 0
IsUnprepared refusals.OutOfMemory rows catalog = Unit {0}
IsUnprepared refusals.TooManySegments rows catalog = HasNoEntry rows catalog
IsUnprepared refusals.Full rows catalog = HasNoPlace rows catalog
IsUnprepared _ rows catalog = ⊥

-- what is prepared fits the store, and its rows are of kinds that the next layout has
pub record IsPreparedFor {D : Type 0} (s : StoreValue D) (p : Prepared) : Type 0 where
  pub apart : AreLists (s.history.rows ∷ p.index.rows ∷ [])
  pub history : IsHistory (with_rows s.history p.index.rows)
  pub kinds : AreOfLayout (next_layout s.catalog.layout) p.index.rows
  pub prepared : IsPrepared (directory_of s) s.catalog.merge p.index.rows p
  pub words : p.index.words ≡ s.words
