-- The catalog of a store: where its segments are, and what an import adds to it. It contains no
-- rows.
use Rattle.std.specs.Prelude.{◌≡◌, ◌⊎◌, ℕ, ◌+◌, ◌^◌, ◌<◌, ◌≤◌, List, [], ◌∷◌, ◌++◌, length, sum_by}
use Rattle.std.specs.Prelude.{Option, Some, None}
use Rattle.blocks.specs.declared.extent.Extent.{Extent}
use Rattle.blocks.specs.Extents.{block_count}
use Rattle.history_model.specs.declared.stamped.StampedRow.{StampedRow}
use Rattle.directory.specs.declared.entry.Entry.{Entry}
use Rattle.directory.specs.declared.layout.Layout.{Layout}
use Rattle.directory.specs.Listings.{DirectoryValue, most_entries, next_layout}
use Rattle.directory.specs.Places.{extent_of}
use Rattle.directory.specs.Fit.{fit}
use Rattle.segment.specs.Records.{segment_of}
use Rattle.store_image.specs.Kept.{entry_at}

-- a merge in progress: the numbers of its two segments, from 0 on, the extent of its output, and how
-- many rows are left to merge
pub record Merge : Type 0 where
  pub i : ℕ
  pub j : ℕ
  pub output : Extent
  pub left : ℕ

pub record Catalog : Type 0 where
  pub layout : Layout
  pub epoch : ℕ
  pub entries : List Entry
  pub merge : Option Merge

-- the catalog of a directory and of the merge in progress
abbrev pub catalog_of : DirectoryValue → Option Merge → Catalog
catalog_of d merge =
    record { layout = d.layout; epoch = d.epoch; entries = d.entries; merge = merge }

-- how many blocks a store needs: those of the slots, one of which holds the directory, and those of
-- the listed segments
abbrev pub blocks_in_use : List Entry → ℕ
blocks_in_use entries = 4 + sum_by (λ entry. block_count (extent_of entry)) entries

-- the extent that a merge reserves
abbrev pub reserved_by : Option Merge → Option Extent
reserved_by None = None
reserved_by (Some merge) = Some merge.output

-- the first block of the first extent with room for a segment of these rows
abbrev pub place_for : List StampedRow → Catalog → Option ℕ
place_for rows catalog =
    fit (block_count (record { first = 0; bytes = length (segment_of rows) })) catalog.entries
    (reserved_by catalog.merge)

-- the catalog at the next epoch, in the layout of the next publication
abbrev pub next_catalog : Catalog → Catalog
next_catalog catalog =
    record catalog { layout = next_layout catalog.layout; epoch = catalog.epoch + 1 }

-- A segment of these rows is added at the first extent with room for it. The old layout decides how
-- many entries there may be and which checksums the segment has; the next catalog has the layout of
-- the next publication.
pub record IsPlaced (rows : List StampedRow) (catalog next : Catalog) : Type 0 where
  pub few : length catalog.entries < most_entries catalog.layout
  pub short : length (segment_of rows) < 2 ^ 32
  pub first : ℕ
  pub place : place_for rows catalog ≡ Some first
  pub next_is : next ≡ record (next_catalog catalog) {
    entries = catalog.entries ++ entry_at catalog.layout first rows ∷ [];
  }

-- the catalog after an import of these new rows; without any, no segment is added
abbrev pub IsCatalogAfter : List StampedRow → Catalog → Catalog → Type 0
IsCatalogAfter [] catalog next = next ≡ next_catalog catalog
IsCatalogAfter (s ∷ rows) catalog next = IsPlaced (s ∷ rows) catalog next

-- there are new rows, and the directory lists the greatest possible number of segments
pub record HasNoEntry (rows : List StampedRow) (catalog : Catalog) : Type 0 where
  pub some : 1 ≤ length rows
  pub all_taken : length catalog.entries ≡ most_entries catalog.layout

-- there are new rows, and their segment is too long or there is no extent for it
pub record HasNoPlace (rows : List StampedRow) (catalog : Catalog) : Type 0 where
  pub some : 1 ≤ length rows
  pub few : length catalog.entries < most_entries catalog.layout
  pub none : (2 ^ 32 ≤ length (segment_of rows)) ⊎ (place_for rows catalog ≡ None)
