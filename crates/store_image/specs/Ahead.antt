-- A segment that is written before any directory lists it.
use Rattle.std.specs.Prelude.{◌≡◌, ℕ, ◌≤◌, List, length, take, drop}
use Rattle.std.specs.List.{AllByRecursion}
use Rattle.blocks.specs.declared.extent.Extent.{Extent}
use Rattle.blocks.specs.Extents.{start_of}
use Rattle.directory.specs.declared.entry.Entry.{Entry}
use Rattle.directory.specs.Places.{AreBeside, extents_of}

-- the extent in the file begins with these bytes
abbrev pub BeginsWith : Extent → List ℕ → List ℕ → Type 0
BeginsWith extent bytes file = take (length bytes) (drop (start_of extent) file) ≡ bytes

-- a non-empty extent after the slots, which shares no block with a listed segment
pub record IsAhead (extent : Extent) (entries : List Entry) : Type 0 where
  pub first : 4 ≤ extent.first
  pub some : 1 ≤ extent.bytes
  pub beside : AllByRecursion (AreBeside extent) (extents_of entries)
