-- Files with a current slot, and with pieces of data after the slots.
use Rattle.std.specs.Prelude.{◌≡◌, ℕ, ◌+◌, ◌≤◌, List, length, take, drop, All}
use Rattle.blocks.specs.declared.slots.Current.{Current}
use Rattle.blocks.specs.Slots.{IsCurrentWith}

-- the piece, an offset and bytes, is after the slots and in the file
pub record Holds (piece : ℕ × List ℕ) (file : List ℕ) : Type 0 where
  pub behind : 16384 ≤ piece.0
  pub within : piece.0 + length piece.1 ≤ length file
  pub bytes : take (length piece.1) (drop piece.0 file) ≡ piece.1

abbrev pub HoldsAll : List (ℕ × List ℕ) → List ℕ → Type 0
HoldsAll pieces file = All (λ piece. Holds piece file) pieces

-- the slot is the current one and has this content, and the file has each piece
pub record HasPieces (current : Current) (content : List ℕ) (pieces : List (ℕ × List ℕ))
    (file : List ℕ) : Type 0 where
  pub slot : IsCurrentWith current content file
  pub pieces_are : HoldsAll pieces file
