-- The blocks of extents, and when extents are apart.
use Rattle.std.specs.Prelude.{ℕ, ◌+◌, ◌≤◌, ◌<◌, List, [], ◌∷◌, ◌++◌, map, Option}
use Rattle.std.specs.Option.{option_to_list}
use Rattle.std.specs.List.{AllByRecursion}
use Rattle.blocks.specs.Extents.{block_count, start_of}
use Rattle.blocks.specs.declared.extent.Extent.{Extent}
use Rattle.directory.specs.declared.entry.Entry.{Entry}

-- the block after its last one
abbrev pub end_block : Extent → ℕ
end_block extent = extent.first + block_count extent

-- the block belongs to the extent
abbrev pub Covers : Extent → ℕ → Type 0
Covers extent block = (extent.first ≤ block) × (block < end_block extent)

-- none of the `blocks` blocks from `first` on belongs to the extent
abbrev pub SharesNoBlock : ℕ → ℕ → Extent → Type 0
SharesNoBlock first blocks extent =
    (block : ℕ) → first ≤ block → block < first + blocks → Covers extent block → ⊥

-- the two extents share no block
abbrev pub AreBeside : Extent → Extent → Type 0
AreBeside a b = (block : ℕ) → Covers a block → Covers b block → ⊥

-- no two of the extents share a block
abbrev pub AreApart : List Extent → Type 0
AreApart [] = Unit {0}
AreApart (extent ∷ extents) = AllByRecursion (AreBeside extent) extents × AreApart extents

-- the offset on the disk is that of one of the extent's bytes
abbrev pub CoversByte : Extent → ℕ → Type 0
CoversByte extent place = (start_of extent ≤ place) × (place < start_of extent + extent.bytes)

-- the two extents share no byte of the disk
abbrev pub SharesNoByte : Extent → Extent → Type 0
SharesNoByte a b = (place : ℕ) → CoversByte a place → CoversByte b place → ⊥

-- the extent of a segment
abbrev pub extent_of : Entry → Extent
extent_of entry = record { first = entry.first; bytes = entry.bytes }

abbrev pub extents_of : List Entry → List Extent
extents_of entries = map extent_of entries

-- the extents of the listed segments, and the reserved one
abbrev pub taken : List Entry → Option Extent → List Extent
taken live reserved = extents_of live ++ option_to_list reserved
