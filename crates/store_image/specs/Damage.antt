-- Which part of a store is damaged.
use Rattle.std.specs.Prelude.{◌≡◌, ℕ, ◌+◌, List, ◌∷◌, ◌++◌, length, All}
use Rattle.std.specs.List.{AllByRecursion}
use Rattle.blocks.specs.declared.slots.Current.{Current}
use Rattle.blocks.specs.Slots.{IsCurrentWith}
use Rattle.history_model.specs.declared.stamped.StampedRow.{StampedRow}
use Rattle.history_model.specs.Lists.{AreLists}
use Rattle.directory.specs.declared.entry.Entry.{Entry}
use Rattle.directory.specs.Listings.{DirectoryValue}
use Rattle.directory.specs.Content.{Lists}
use Rattle.store_image.specs.declared.fault.Damage.{Damage}
use Rattle.store_image.specs.declared.fault.Damage.TheVariants as damages
use Rattle.store_image.specs.Pieces.{HoldsAll}
use Rattle.store_image.specs.Kept.{AreOfLayout, AreSegments, AreSummed, pieces_of}
use Rattle.store_image.specs.Images.{IsStore, OtherIsWhole}
use Rattle.store_image.specs.Reading.{AreNumbered, IsAt}

-- the current slot's content lists the directory, and the other slot is whole
pub record HasDirectory (d : DirectoryValue) (file : List ℕ) : Type 0 where
  pub current : Current
  pub content : List ℕ
  pub slot : IsCurrentWith current content file
  pub lists_it : Lists content d
  pub other_is_whole : OtherIsWhole d.layout d.epoch current.slot file

-- each entry's extent has the segment of these rows, with the checksum that the entry has, and no
-- import number is greater than `imports`
pub record AreThere (imports : ℕ) (entries : List Entry) (lists : List (List StampedRow))
    (file : List ℕ) : Type 0 where
  pub segments : AreSegments entries lists
  pub numbered : AllByRecursion (AreNumbered imports) lists
  pub held : HoldsAll (pieces_of entries lists) file
  pub sums : AreSummed entries lists

-- the entry's extent has no segment of rows whose import numbers are at most `imports`
abbrev pub IsBroken : ℕ → Entry → List ℕ → Type 0
IsBroken imports entry file =
    (rows : List StampedRow) → IsAt file entry rows → AreNumbered imports rows → ⊥

-- this is the first of the entries, counted from 1, that is broken
pub record IsFirstBroken (number imports : ℕ) (entries : List Entry)
    (file : List ℕ) : Type 0 where
  pub before : List Entry
  pub entry : Entry
  pub behind : List Entry
  pub entries_are : entries ≡ before ++ entry ∷ behind
  pub number_is : number ≡ length before + 1
  pub lists : List (List StampedRow)
  pub there : AreThere imports before lists file
  pub broken : IsBroken imports entry file

-- two segments share a key
pub record ShareKey (imports : ℕ) (entries : List Entry) (file : List ℕ) : Type 0 where
  pub lists : List (List StampedRow)
  pub there : AreThere imports entries lists file
  pub shared : ¬ (AreLists lists)

-- no two segments share a key, and a row is of a kind that the layout doesn't have
pub record HasStrangeKind (d : DirectoryValue) (file : List ℕ) : Type 0 where
  pub lists : List (List StampedRow)
  pub there : AreThere d.imports d.entries lists file
  pub apart : AreLists lists
  pub strange : ¬ (All (AreOfLayout d.layout) lists)

-- This part is damaged: no slot is current; or the current slot's content is no directory that goes
-- with the other slot; or a segment isn't as its entry says; or two segments share a key; or a row
-- is of a kind that the layout doesn't have.
abbrev pub IsDamaged : Damage → List ℕ → Type 0
IsDamaged damages.Slots file =
    (current : Current) (content : List ℕ) → IsCurrentWith current content file → ⊥
IsDamaged damages.Directory file = (current : Current) × (content : List ℕ)
    × IsCurrentWith current content file
    × ((d : DirectoryValue) → Lists content d → OtherIsWhole d.layout d.epoch current.slot file → ⊥)
IsDamaged (damages.Segment number) file =
    (d : DirectoryValue) × HasDirectory d file × IsFirstBroken number d.imports d.entries file
IsDamaged damages.SharedKey file =
    (d : DirectoryValue) × HasDirectory d file × ShareKey d.imports d.entries file
IsDamaged damages.Kind file = (d : DirectoryValue) × HasDirectory d file × HasStrangeKind d file

-- bytes that represent a history have no damaged part
abbrev pub RepresentedIsUndamaged : Type 0
RepresentedIsUndamaged =
    (file : List ℕ) (damage : Damage) → IsStore file → IsDamaged damage file → ⊥

-- at most one part of bytes is damaged
abbrev pub OneDamage : Type 0
OneDamage = (file : List ℕ) (damage other : Damage)
    → IsDamaged damage file → IsDamaged other file → damage ≡ other
