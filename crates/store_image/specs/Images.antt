-- What the bytes of a disk represent.
use Rattle.std.specs.Prelude.{◌≡◌, ℕ, List}
use Rattle.blocks.specs.declared.slots.Slot.{Slot}
use Rattle.blocks.specs.Slots.{IsOpen, content_of, other}
use Rattle.history_model.specs.declared.stamped.StampedRow.{StampedRow}
use Rattle.history_model.specs.History.{History}
use Rattle.history_model.specs.Lists.{listed}
use Rattle.directory.specs.declared.entry.Entry.{Entry}
use Rattle.directory.specs.declared.layout.Layout.{Layout}
use Rattle.directory.specs.Content.{MayPrecede}
use Rattle.store_image.specs.Pieces.{HasPieces}
use Rattle.store_image.specs.Kept.{IsContentOf, pieces_of}

-- If the other slot's gate is open, its content may have been published before a directory of this
-- layout and epoch. A publication closes a gate before it writes the content, and so no crash tears
-- the content behind an open gate.
abbrev pub OtherIsWhole : Layout → ℕ → Slot → List ℕ → Type 0
OtherIsWhole layout epoch slot file =
    IsOpen (other slot) file → MayPrecede layout epoch (content_of (other slot) file)

-- The bytes represent the history, with this layout, epoch and list of entries: the current slot's
-- content lists them, the other slot is whole, each entry's extent has the segment of some rows,
-- and all these rows together are the history's.
pub record Represents (file : List ℕ) (h : History) (layout : Layout) (epoch : ℕ)
    (entries : List Entry) : Type 0 where
  pub slot : Slot
  pub content : List ℕ
  pub lists : List (List StampedRow)
  pub stands :
      HasPieces (record { slot = slot; epoch = epoch }) content (pieces_of entries lists) file
  pub says : IsContentOf content
      (record { layout = layout; epoch = epoch; imports = h.imports; entries = entries }) lists
  pub other_is_whole : OtherIsWhole layout epoch slot file
  pub rows : h.rows ≡ listed lists

-- the bytes represent the history in this layout, at some epoch and with some entries
abbrev pub RepresentsAs : Layout → History → List ℕ → Type 0
RepresentsAs layout h file =
    (epoch : ℕ) × (entries : List Entry) × Represents file h layout epoch entries

-- the bytes represent the history in some layout
abbrev pub RepresentsHistory : History → List ℕ → Type 0
RepresentsHistory h file = (layout : Layout) × RepresentsAs layout h file

-- the bytes represent some history
abbrev pub IsStore : List ℕ → Type 0
IsStore file = (h : History) × RepresentsHistory h file

-- bytes represent at most one history, layout, epoch and list of entries
abbrev pub RepresentsOne : Type 0
RepresentsOne = (file : List ℕ) (h g : History) (layout other : Layout) (epoch others : ℕ)
    (entries lists : List Entry)
    → Represents file h layout epoch entries → Represents file g other others lists
    → (h ≡ g) × (layout ≡ other) × (epoch ≡ others) × (entries ≡ lists)
