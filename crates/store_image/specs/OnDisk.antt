-- When a disk has the directory and the rows that are kept in memory.
use Rattle.std.specs.Prelude.{ℕ, List}
use Rattle.disk_model.specs.Disk.{DiskState, EachImage}
use Rattle.blocks.specs.declared.slots.Slot.{Slot}
use Rattle.blocks.specs.declared.slots.Current.{Current}
use Rattle.history_model.specs.declared.stamped.StampedRow.{StampedRow}
use Rattle.directory.specs.Listings.{DirectoryValue}
use Rattle.store_image.specs.Pieces.{HasPieces}
use Rattle.store_image.specs.Kept.{IsContentOf, history_of, pieces_of}
use Rattle.store_image.specs.Images.{OtherIsWhole, Represents}

-- the slot as the current one, at the directory's epoch
abbrev pub current_of : Slot → DirectoryValue → Current
current_of slot d = record { slot = slot; epoch = d.epoch }

-- the slot is the current one and has this content, the segments of these rows are in the entries'
-- extents, and the other slot is whole
pub record Shows (slot : Slot) (d : DirectoryValue) (lists : List (List StampedRow))
    (content file : List ℕ) : Type 0 where
  pub has_pieces : HasPieces (current_of slot d) content (pieces_of d.entries lists) file
  pub other_is_whole : OtherIsWhole d.layout d.epoch slot file

-- the slot is the current one, its content lists the directory, and the directory's segments are of
-- these rows
abbrev pub HasStore : Slot → DirectoryValue → List (List StampedRow) → List ℕ → Type 0
HasStore slot d lists file =
    (content : List ℕ) × IsContentOf content d lists × Shows slot d lists content file

-- every image that a crash may leave has them, all with the same content
abbrev pub IsOnDisk : DiskState → Slot → DirectoryValue → List (List StampedRow) → Type 0
IsOnDisk state slot d lists =
    (content : List ℕ) × IsContentOf content d lists × EachImage state (Shows slot d lists content)

-- bytes that have them represent their history
abbrev pub StoreIsRepresented : Type 0
StoreIsRepresented = (slot : Slot) (d : DirectoryValue) (lists : List (List StampedRow))
    (file : List ℕ)
    → HasStore slot d lists file → Represents file (history_of d lists) d.layout d.epoch d.entries

-- every image that a crash may leave of a disk that has them represents their history
abbrev pub OnDiskIsRepresented : Type 0
OnDiskIsRepresented = (state : DiskState) (slot : Slot) (d : DirectoryValue)
    (lists : List (List StampedRow)) → IsOnDisk state slot d lists
    → EachImage state (λ file. Represents file (history_of d lists) d.layout d.epoch d.entries)
