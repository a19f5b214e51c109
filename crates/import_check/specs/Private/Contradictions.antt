-- Which contradictions a pass over lines in key order lists. No clause of a public function cites
-- these definitions.
use Rattle.std.specs.Prelude.{◌≡◌, ◌≢◌, ◌⊎◌, ◌-◌, ℕ, List, [], ◌∷◌, ◌++◌, length, take}
use Rattle.std.specs.Prelude.{Option, Some, IsSomeAnd}
use Rattle.std.specs.Option.{option_map}
use Rattle.rf2_values.specs.declared.key.Key.{Key}
use Rattle.rf2_values.specs.Row.{RowValue}
use Rattle.rf2_values.specs.Key.{key_of}
use Rattle.history_model.specs.InOrder.{Has, IsAscending}
use Rattle.import_check.specs.declared.release.PlacedLine.{PlacedLine}
use Rattle.import_check.specs.declared.contradicting.OtherRow.{OtherRow}
use Rattle.import_check.specs.declared.contradicting.OtherRow.TheVariants as others
use Rattle.import_check.specs.declared.contradicting.Counting.{Counting}
use Rattle.import_check.specs.declared.contradicting.ContradictingLine.{ContradictingLine}
use Rattle.import_check.specs.declared.contradicting.Contradictions.{Contradictions}
use Rattle.import_check.specs.Known.{IsUnknown}
use Rattle.import_check.specs.Contradictions.{rank_cmp}
use Rattle.import_check.specs.Release.{row_of}
use Rattle.import_check.specs.Private.Sweep.{IsEarliest}

-- for lines in any order: the row is one that `Knows` says is known; or its key isn't known, and
-- the row is that of the earliest line with the key
abbrev pub CountsAmong : (Knows : RowValue → Type 0) → List RowValue → List PlacedLine → OtherRow
    → Type 0
CountsAmong Knows known lines (others.Known row) = Knows row
CountsAmong Knows known lines (others.Line first) =
    IsUnknown known (key_of first.row) × IsEarliest lines first

-- the row that counts for the line's key, if no earlier line has the key
abbrev pub IsFoundFor : (Knows : RowValue → Type 0) → List RowValue → PlacedLine → OtherRow → Type 0
IsFoundFor Knows known line (others.Known row) = Knows row × (key_of row ≡ key_of line.row)
IsFoundFor Knows known line (others.Line first) =
    IsUnknown known (key_of line.row) × (first ≡ line)

-- the key of the previous line
abbrev pub last_key : Option Counting → Option Key
last_key last = option_map (λ counting. counting.key) last

-- the row that counts for the line's key: that of the previous line, or the one that was found if
-- that line had another key
abbrev pub IsCountingFor : (Knows : RowValue → Type 0) → List RowValue → PlacedLine
    → Option Counting → Counting → Type 0
IsCountingFor Knows known line last counting = (counting.key ≡ key_of line.row)
    × ((last ≡ Some counting)
    ⊎ ((IsSomeAnd last (λ c. c.key ≡ key_of line.row) → ⊥)
    × IsFoundFor Knows known line counting.other))

-- the first of all these are listed, up to the limit, and the others are counted
abbrev pub AreListed : ℕ → List ContradictingLine → Contradictions → Type 0
AreListed limit all found =
    (found.listed.items ≡ take limit all) × (found.further ≡ length all - limit)

-- one more contradiction, if the line's row differs
abbrev pub IsNoted : ℕ → OtherRow → PlacedLine → Contradictions → Contradictions → Type 0
IsNoted limit other line old new = ((row_of other ≡ line.row) × (new ≡ old))
    ⊎ ((row_of other ≢ line.row)
    × ((all : List ContradictingLine) → AreListed limit all old
    → AreListed limit (all ++ record { line = line; other = other } ∷ []) new))

-- of the lines in key order these have been compared so far, and these are all that contradict
pub record Sifted (Knows : RowValue → Type 0) (known : List RowValue) (lines done : List PlacedLine)
    (all : List ContradictingLine) : Type 0 where
  pub ascending : IsAscending (λ a b. rank_cmp a.line b.line) all
  pub from : (c : ContradictingLine) → Has all c → Has done c.line
      × CountsAmong Knows known lines c.other × (key_of (row_of c.other) ≡ key_of c.line.row)
      × (row_of c.other ≢ c.line.row)
  pub each : (line : PlacedLine) → Has done line → (other : OtherRow)
      × CountsAmong Knows known lines other × (key_of (row_of other) ≡ key_of line.row)
      × ((row_of other ≡ line.row) ⊎ Has all (record { line = line; other = other }))

-- the contradictions among these lines in key order are listed
abbrev pub AreSifted : (Knows : RowValue → Type 0) → List RowValue → ℕ → List PlacedLine
    → Contradictions → Type 0
AreSifted Knows known limit lines found = (all : List ContradictingLine)
    × Sifted Knows known lines lines all × AreListed limit all found
