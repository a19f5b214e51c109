-- What bytes represented before layout 2 existed, and before layout 3 did: a copy of the
-- definitions of those times, which uses no later ones. Rows were of four kinds in layout 1, and of
-- five in layout 2.
use Rattle.std.specs.Prelude.{◌≡◌, ◌↔◌, ℕ, ◌^◌, ◌<◌, ◌≤◌, List, ◌++◌, length, take, drop, replicate}
use Rattle.std.specs.Prelude.{codes, All}
use Rattle.std.specs.List.{AllByRecursion, flat_map}
use Rattle.std.specs.Int.{w32, w64, to_be_bytes}
use Rattle.blocks.specs.declared.slots.Slot.{Slot}
use Rattle.blocks.specs.Slots.{IsOpen, content_of, other}
use Rattle.rf2_values.specs.declared.row.Kind.{Kind}
use Rattle.rf2_values.specs.declared.row.Kind.TheVariants as kinds
use Rattle.rf2_values.specs.Row.{kind_of}
use Rattle.history_model.specs.declared.stamped.StampedRow.{StampedRow}
use Rattle.history_model.specs.History.{History, IsHistory}
use Rattle.history_model.specs.Lists.{AreLists, listed}
use Rattle.directory.specs.declared.sums.Sums.TheVariants as sums
use Rattle.directory.specs.declared.entry.Entry.{Entry}
use Rattle.directory.specs.declared.layout.Layout.TheVariants as layouts
use Rattle.directory.specs.Places.{AreApart, extents_of}
use Rattle.directory.specs.Listings.{IsEntry}
use Rattle.directory.specs.Content.{entry_bytes}
use Rattle.store_image.specs.Pieces.{HasPieces}
use Rattle.store_image.specs.Kept.{AreSegments, pieces_of}
use Rattle.store_image.specs.Images.{Represents}

-- the bytes of a content block with this mark that were decoded
abbrev pub bytes_then : List ℕ → ℕ → ℕ → List Entry → List ℕ
bytes_then mark epoch imports entries =
    to_be_bytes w64 epoch ++ (mark ++ (to_be_bytes w32 imports
    ++ (to_be_bytes w32 (length entries) ++ (replicate 8 0 ++ flat_map entry_bytes entries))))

-- the four kinds of layout 1
abbrev pub IsFirstKind : Kind → Type 0
IsFirstKind kinds.Concept = Unit {0}
IsFirstKind kinds.Description = Unit {0}
IsFirstKind kinds.Relationship = Unit {0}
IsFirstKind kinds.Association = Unit {0}
IsFirstKind kind = ⊥

-- the five kinds of layout 2
abbrev pub IsSecondKind : Kind → Type 0
IsSecondKind kinds.Concrete = Unit {0}
IsSecondKind kind = IsFirstKind kind

-- What bytes represented, when content blocks had this mark and at most `most` entries, and rows
-- were of these kinds. No segment had checksums, and no published content block had the mark of
-- layout 3.
pub record DidRepresentBy (mark : List ℕ) (most : ℕ) (WasKind : Kind → Type 0) (file : List ℕ)
    (h : History) (epoch : ℕ) (entries : List Entry) : Type 0 where
  pub slot : Slot
  pub content : List ℕ
  pub lists : List (List StampedRow)
  pub stands :
      HasPieces (record { slot = slot; epoch = epoch }) content (pieces_of entries lists) file
  pub no_third : IsOpen (other slot) file
      → take 8 (drop 8 (content_of (other slot) file)) ≡ codes "SCTSTOR3" → ⊥
  pub from_one : 1 ≤ epoch
  pub epoch_fits : epoch < 2 ^ 64
  pub imports_fit : h.imports < 2 ^ 32
  pub few : length entries ≤ most
  pub each : AllByRecursion IsEntry entries
  pub entries_apart : AreApart (extents_of entries)
  pub plain : AllByRecursion (λ (entry : Entry). entry.sums ≡ sums.Nowhere) entries
  pub front : take (length (bytes_then mark epoch h.imports entries)) content
      ≡ bytes_then mark epoch h.imports entries
  pub segments : AreSegments entries lists
  pub apart : AreLists lists
  pub kinds_were : All (All (λ (s : StampedRow). WasKind (kind_of s.row))) lists
  pub history : IsHistory (record { imports = h.imports; rows = listed lists })
  pub rows : h.rows ≡ listed lists

-- as above, with the marks, limits and kinds of layout 1 and of layout 2
abbrev pub DidRepresent : List ℕ → History → ℕ → List Entry → Type 0
DidRepresent = DidRepresentBy (codes "SCTHIST1") 128 IsFirstKind

abbrev pub DidRepresentSecond : List ℕ → History → ℕ → List Entry → Type 0
DidRepresentSecond = DidRepresentBy (codes "SCTHIST2") 250 IsSecondKind

-- bytes that represented a history then, and no others, do so in layout 1 now
abbrev pub FirstStillRepresents : Type 0
FirstStillRepresents = (file : List ℕ) (h : History) (epoch : ℕ) (entries : List Entry)
    → DidRepresent file h epoch entries ↔ Represents file h layouts.One epoch entries

-- bytes that represented one before layout 3 existed, and no others, do so in layout 2 now
abbrev pub SecondStillRepresents : Type 0
SecondStillRepresents = (file : List ℕ) (h : History) (epoch : ℕ) (entries : List Entry)
    → DidRepresentSecond file h epoch entries ↔ Represents file h layouts.Two epoch entries
