-- What a copy represents, and properties of the first imports of a history.
use Rattle.std.specs.Prelude.{◌≡◌, ◌↔◌, ℕ, ◌≤◌, Option, List, length, take, All}
use Rattle.rf2_values.specs.Row.{RowValue}
use Rattle.history_model.specs.History.{History, IsHistory, no_history, rows_at, then_all}
use Rattle.history_model.specs.Brought.{ImportReceiptOf}
use Rattle.disk_model.specs.Disk.{DiskState, EachImage}
use Rattle.directory.specs.declared.layout.Layout.{Layout}
use Rattle.directory.specs.declared.layout.Layout.TheVariants as layouts
use Rattle.directory.specs.declared.sums.Sums.TheVariants as sums
use Rattle.directory.specs.Listings.{DirectoryValue, number_of}
use Rattle.store_image.specs.Images.{RepresentsAs}
use Rattle.store_copy.specs.Copying.{chosen, first_imports}
use Rattle.store_copy.specs.Answers.{HasCopy, IsCopyOf}

-- a copy represents the history of the first imports, in the layout asked for, which isn't below
-- the store's, or in the store's
abbrev pub CopyRepresents : Type 0
CopyRepresents = (asked : Option ℕ) (in_layout : Option Layout) (file c : List ℕ) (h : History)
    (layout : Layout) → IsCopyOf asked in_layout file c → RepresentsAs layout h file
    → (chosen asked h.imports ≤ h.imports)
    × (number_of layout ≤ number_of (chosen in_layout layout))
    × RepresentsAs (chosen in_layout layout) (first_imports (chosen asked h.imports) h) c

-- every image that a crash may leave of a disk with a copy is a copy
abbrev pub EachCrashLeavesACopy : Type 0
EachCrashLeavesACopy = (asked : Option ℕ) (in_layout : Option Layout) (file : List ℕ)
    (copy : DirectoryValue) (state : DiskState) → HasCopy asked in_layout file copy state
    → EachImage state (IsCopyOf asked in_layout file)

-- in layout 3 each segment of a copy has a checksum of all its bytes
abbrev pub EachSegmentIsSummed : Type 0
EachSegmentIsSummed = (asked : Option ℕ) (in_layout : Option Layout) (file : List ℕ)
    (copy : DirectoryValue) (state : DiskState) → HasCopy asked in_layout file copy state
    → copy.layout ≡ layouts.Three
    → All (λ entry. (sum : ℕ) × (entry.sums ≡ sums.Whole sum)) copy.entries

-- the first imports of a history are those of the first releases
abbrev pub FirstImportsAreReleases : Type 0
FirstImportsAreReleases = (releases : List (List RowValue)) (n : ℕ) → n ≤ length releases
    → first_imports n (then_all no_history releases) ≡ then_all no_history (take n releases)

-- all imports of a history are the history
abbrev pub AllImportsAreAll : Type 0
AllImportsAreAll = (h : History) → IsHistory h → first_imports h.imports h ≡ h

-- a pin that is at most `n` shows the same in the first `n` imports
abbrev pub PinsStay : Type 0
PinsStay = (h : History) (n pin : ℕ) → pin ≤ n
    → rows_at pin (first_imports n h).rows ≡ rows_at pin h.rows

-- the receipt of one of the first `n` imports is the same in them
abbrev pub ReceiptsStay : Type 0
ReceiptsStay = (h : History) (n number new : ℕ) (latest : Option ℕ)
    → number ≤ n → n ≤ h.imports
    → ImportReceiptOf h number new latest ↔ ImportReceiptOf (first_imports n h) number new latest
