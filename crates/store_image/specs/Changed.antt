-- The effect of one changed byte in a store of layout 3.
use Rattle.std.specs.Prelude.{◌≡◌, ◌≢◌, ◌⊎◌, ℕ, ◌+◌, ◌<◌, ◌≤◌, List, ◌∷◌, ◌++◌, length, Some, slice_get}
use Rattle.std.specs.List.{AllByRecursion}
use Rattle.blocks.specs.Slots.{IsOpen, content_at, content_of, other}
use Rattle.blocks.specs.Extents.{start_of}
use Rattle.history_model.specs.declared.stamped.StampedRow.{StampedRow}
use Rattle.history_model.specs.History.{History}
use Rattle.directory.specs.declared.entry.Entry.{Entry}
use Rattle.checksum.specs.declared.form.Form.TheVariants as forms
use Rattle.directory.specs.declared.layout.Layout.TheVariants as layouts
use Rattle.directory.specs.Content.{HasMark}
use Rattle.directory.specs.Listings.{form_in}
use Rattle.directory.specs.Places.{extent_of}
use Rattle.segment.specs.Records.{IsOfLength, record_of, segment_of}
use Rattle.store_image.specs.declared.fault.Damage.TheVariants as damages
use Rattle.store_image.specs.Images.{IsStore, Represents}
use Rattle.store_image.specs.Damage.{IsDamaged}

-- the byte after `before` was changed to a different one
pub record IsChanged (before : List ℕ) (byte changed : ℕ) (after : List ℕ) : Type 0 where
  pub differs : byte ≢ changed
  pub small : changed < 256
  pub bytes : AllByRecursion (λ b. b < 256) (before ++ byte ∷ after)

-- the directory is damaged; or, if a byte of its epoch was changed, both slots have the same epoch
abbrev pub IsNoticed : ℕ → ℕ → List ℕ → Type 0
IsNoticed from place file = IsDamaged damages.Directory file
    ⊎ ((place < from + 8) × IsDamaged damages.Slots file)

-- a store of layout 3 is damaged if one byte of its current directory was changed
abbrev pub ChangedDirectoryIsDamaged : Type 0
ChangedDirectoryIsDamaged = (before after : List ℕ) (byte changed : ℕ) (h : History) (epoch : ℕ)
    (entries : List Entry)
    (stands : Represents (before ++ byte ∷ after) h layouts.Three epoch entries)
    → IsChanged before byte changed after
    → content_at stands.slot ≤ length before → length before < content_at stands.slot + 4096
    → IsNoticed (content_at stands.slot) (length before) (before ++ changed ∷ after)

-- So is one if a byte of its other slot was changed, and that slot is open and has a directory of
-- layout 3 as well.
abbrev pub ChangedOtherIsDamaged : Type 0
ChangedOtherIsDamaged = (before after : List ℕ) (byte changed : ℕ) (h : History) (epoch : ℕ)
    (entries : List Entry)
    (stands : Represents (before ++ byte ∷ after) h layouts.Three epoch entries)
    → IsChanged before byte changed after
    → IsOpen (other stands.slot) (before ++ byte ∷ after)
    → HasMark layouts.Three (content_of (other stands.slot) (before ++ byte ∷ after))
    → content_at (other stands.slot) ≤ length before
    → length before < content_at (other stands.slot) + 4096
    → IsNoticed (content_at (other stands.slot)) (length before) (before ++ changed ∷ after)

-- a byte is at this offset of a row's record, in a segment with checksums
pub record IsInRecord (entries : List Entry) (lists : List (List StampedRow)) (s : StampedRow)
    (at place : ℕ) : Type 0 where
  pub number : ℕ
  pub entry : Entry
  pub entry_is : slice_get entries number ≡ Some entry
  pub checked : form_in entry.sums ≡ forms.Checked
  pub front : List StampedRow
  pub behind : List StampedRow
  pub list_is : slice_get lists number ≡ Some (front ++ s ∷ behind)
  pub at_is : at ≡ start_of (extent_of entry) + length (segment_of front) + place
  pub within : place < length (record_of s)

-- Bytes that represented a history in layout 3 represent none after one byte of a record with a
-- checksum was changed, unless the record's length depends on that byte.
abbrev pub ChangedRecordIsNoStore : Type 0
ChangedRecordIsNoStore = (before after : List ℕ) (byte changed : ℕ) (h : History) (epoch : ℕ)
    (entries : List Entry) (s : StampedRow) (place : ℕ)
    (stands : Represents (before ++ byte ∷ after) h layouts.Three epoch entries)
    → IsChanged before byte changed after
    → IsInRecord entries stands.lists s (length before) place → (IsOfLength s place → ⊥)
    → IsStore (before ++ changed ∷ after) → ⊥
