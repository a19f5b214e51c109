-- Where there is room for a segment of a number of blocks.
use Rattle.std.specs.Prelude.{◌≡◌, ◌↔◌, ℕ, ◌+◌, ◌-◌, ◌≤◌, max, min, Bool, ◌&&◌, not, nat_lt, nat_le}
use Rattle.std.specs.Prelude.{List, Option, Some, None}
use Rattle.std.specs.List.{AllByRecursion, find, list_any, range_with_len}
use Rattle.blocks.specs.Extents.{block_count, block_limit}
use Rattle.blocks.specs.declared.extent.Extent.{Extent}
use Rattle.directory.specs.declared.entry.Entry.{Entry}
use Rattle.directory.specs.Places.{SharesNoBlock, SharesNoByte, AreBeside, end_block, taken}

-- one of the `blocks` blocks from `first` on belongs to the extent
abbrev pub meets : ℕ → ℕ → Extent → Bool
meets first blocks extent =
    nat_lt (max first extent.first) (min (first + blocks) (end_block extent))

-- the `blocks` blocks from `first` on are below the limit, and none is in use
abbrev pub is_free : ℕ → ℕ → List Extent → ℕ → Bool
is_free limit blocks extents first =
    nat_le (first + blocks) limit && not (list_any (meets first blocks) extents)

-- the first position after the slots from which `blocks` blocks are free
unfoldable pub fit_below : ℕ → ℕ → List Extent → Option ℕ
fit_below limit blocks extents = find (is_free limit blocks extents) (range_with_len 4 (limit - 4))

-- the first position after the slots from which `blocks` blocks are used neither by the listed
-- segments nor by the reserved extent, below the block after which no extent ends
unfoldable pub fit : ℕ → List Entry → Option Extent → Option ℕ
fit blocks live reserved = fit_below block_limit blocks (taken live reserved)

-- the `blocks` blocks from `first` on are after the slots and below the last block, and share none
-- with an extent in use
pub record IsFree (blocks : ℕ) (extents : List Extent) (first : ℕ) : Type 0 where
  pub start : 4 ≤ first
  pub end : first + blocks ≤ block_limit
  pub apart : AllByRecursion (SharesNoBlock first blocks) extents

-- the smallest position from which `blocks` blocks are free
pub record IsFit (blocks : ℕ) (extents : List Extent) (first : ℕ) : Type 0 where
  pub free : IsFree blocks extents first
  pub least : (other : ℕ) → IsFree blocks extents other → first ≤ other

-- the fit is the smallest free position
abbrev pub FitIsLeast : Type 0
FitIsLeast = (blocks : ℕ) (live : List Entry) (reserved : Option Extent) (first : ℕ)
    → (fit blocks live reserved ≡ Some first) ↔ IsFit blocks (taken live reserved) first

-- there is no fit exactly if no position is free
abbrev pub NoFitIsFull : Type 0
NoFitIsFull = (blocks : ℕ) (live : List Entry) (reserved : Option Extent)
    → (fit blocks live reserved ≡ None)
    ↔ ((first : ℕ) → IsFree blocks (taken live reserved) first → ⊥)

-- an extent at the fit for its blocks shares no block and no byte with one in use
abbrev pub FitIsApart : Type 0
FitIsApart = (extent : Extent) (live : List Entry) (reserved : Option Extent)
    → fit (block_count extent) live reserved ≡ Some extent.first
    → AllByRecursion (AreBeside extent) (taken live reserved)
    × AllByRecursion (SharesNoByte extent) (taken live reserved)
