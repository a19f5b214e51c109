-- What a pass over lines in key order has found so far. No clause of a public function cites these
-- definitions.
use Rattle.std.specs.Prelude.{◌≡◌, ◌≢◌, ℕ, ◌+◌, ◌-◌, ◌≤◌, ◌<◌, ◌⊎◌, false, List, [], ◌∷◌, ◌++◌}
use Rattle.std.specs.Prelude.{length}
use Rattle.std.specs.Prelude.{slice_get}
use Rattle.std.specs.Prelude.{Option, Some, None, MatchOption, IfSome, IsSomeAnd}
use Rattle.std.specs.Prelude.{Result, Err, IsOkAnd, ⊤}
use Rattle.std.specs.List.{AllByRecursion}
use Rattle.std.specs.Ordering.{is_gt}
use Rattle.std.specs.declared.cmp.Ordering.{Ordering}
use Rattle.std.specs.declared.cmp.Ordering.TheVariants.{Less}
use Rattle.rf2_values.specs.declared.key.Key.{Key}
use Rattle.rf2_values.specs.Row.{RowValue}
use Rattle.rf2_values.specs.Key.{key_of}
use Rattle.history_model.specs.InOrder.{Has, IsAscending}
use Rattle.history_model.specs.History.{row_cmp}
use Rattle.import_check.specs.declared.release.PlacedLine.{PlacedLine}
use Rattle.import_check.specs.declared.sweep.Contradiction.{Contradiction}
use Rattle.import_check.specs.declared.sweep.Sweep.{Sweep}
use Rattle.import_check.specs.declared.found.NewRows.{NewRows}
use Rattle.import_check.specs.declared.fault.ImportFault.{ImportFault}
use Rattle.import_check.specs.declared.fault.ImportFault.TheVariants as importfault
use Rattle.fault_counts.specs.declared.fault.ReadFault.TheVariants as readfault
use Rattle.import_check.specs.Release.{IsFirstContradiction, IsPossibleContradiction, row_of}
use Rattle.import_check.specs.declared.contradicting.OtherRow.{OtherRow}
use Rattle.import_check.specs.declared.contradicting.OtherRow.TheVariants as others
use Rattle.import_check.specs.Contradictions.{rank_cmp}
use Rattle.import_check.specs.Known.{IsUnknown, MayBeKnown, already_known}
use Rattle.import_check.specs.Release.{rows_of}

-- a line is the other one, or comes before it in the release
abbrev pub StandsBy : ℕ → ℕ → ℕ → ℕ → Type 0
StandsBy file line other_file other_line =
    (file < other_file) ⊎ ((file ≡ other_file) × (line ≤ other_line))

-- no item is greater than a later one
abbrev pub IsRising : {X : Type 0} → (X → X → Ordering) → List X → Type 0
IsRising cmp [] = Unit {0}
IsRising cmp (x ∷ xs) = AllByRecursion (λ y. is_gt (cmp x y) ≡ false) xs × IsRising cmp xs

-- no earlier line has its key
pub record IsEarliest (lines : List PlacedLine) (first : PlacedLine) : Type 0 where
  pub there : Has lines first
  pub least : (line : PlacedLine) → Has lines line → key_of line.row ≡ key_of first.row
      → StandsBy first.file first.line line.file line.line

-- the row of the earliest line with a key that no known row has
pub record IsNewRow (known : List RowValue) (lines : List PlacedLine) (row : RowValue)
    : Type 0 where
  pub unknown : IsUnknown known (key_of row)
  pub line : PlacedLine
  pub earliest : IsEarliest lines line
  pub row_is : line.row ≡ row

-- the row that lines with its key must have
abbrev pub Stands : List RowValue → List PlacedLine → RowValue → Type 0
Stands known lines row = Has known row ⊎ IsNewRow known lines row

-- a line whose row isn't the one that counts for its key
pub record IsContradiction (known : List RowValue) (lines : List PlacedLine)
    (c : Contradiction) : Type 0 where
  pub line : PlacedLine
  pub there : Has lines line
  pub standing : RowValue
  pub stands : Stands known lines standing
  pub same_key : key_of standing ≡ key_of line.row
  pub differs : standing ≢ line.row
  pub file_is : c.file ≡ line.file
  pub line_is : c.line ≡ line.line
  pub key_is : c.key ≡ key_of line.row

-- a contradiction on this line or an earlier one
abbrev pub IsBlamed : Option Contradiction → PlacedLine → Type 0
IsBlamed first line = MatchOption first ⊥ (λ c. StandsBy c.file c.line line.file line.line)

-- the line has the row that counts for its key, or a contradiction was found that comes no later
pub record IsCompared (known : List RowValue) (lines : List PlacedLine)
    (first : Option Contradiction) (line : PlacedLine) : Type 0 where
  pub standing : RowValue
  pub stands : Stands known lines standing
  pub same_key : key_of standing ≡ key_of line.row
  pub verdict : (standing ≡ line.row) ⊎ IsBlamed first line

-- the row that counts for the key of the last line: the known one, or else the last of the new rows
abbrev pub standing_row : Option RowValue → List RowValue → Option RowValue
standing_row None fresh = slice_get fresh (length fresh - 1)
standing_row (Some row) fresh = Some row

-- the row counts for its key, which is that of a line and the greatest so far
pub record IsLast (known : List RowValue) (lines done : List PlacedLine)
    (row : RowValue) : Type 0 where
  pub stands : Stands known lines row
  pub greatest : (line : PlacedLine) → Has done line → is_gt (row_cmp line.row row) ≡ false
  pub at : (line : PlacedLine) × Has done line × (key_of line.row ≡ key_of row)

-- how far the pass over all these lines is: some have been taken, and some compared
pub record Swept (known : List RowValue) (lines compared done : List PlacedLine)
    (known_row : Option RowValue) (fresh : List RowValue)
    (first : Option Contradiction) : Type 0 where
  pub standing : MatchOption (standing_row known_row fresh) (done ≡ []) (IsLast known lines done)
  pub each_compared : (line : PlacedLine) → Has compared line → IsCompared known lines first line
  pub contradiction : IfSome first (IsContradiction known lines)
  pub fresh_new : (row : RowValue) → Has fresh row → IsNewRow known lines row
  pub fresh_done : (row : RowValue) → Has fresh row
      → (line : PlacedLine) × Has done line × (line.row ≡ row)
  pub each_kept : (line : PlacedLine) → Has done line
      → (row : RowValue) × (key_of row ≡ key_of line.row) × (Has known row ⊎ Has fresh row)
  pub ascending : IsAscending row_cmp fresh

abbrev pub standing_of : Sweep → Option RowValue
standing_of s = standing_row s.known_row s.fresh.items

-- all lines taken so far have been compared
abbrev pub IsSwept : List RowValue → List PlacedLine → List PlacedLine → Sweep → Type 0
IsSwept known lines done s = Swept known lines done done s.known_row s.fresh.items s.first

-- the row that counts has the key of the last line
abbrev pub IsInStep : Sweep → Type 0
IsInStep s = MatchOption s.key (standing_of s ≡ None)
    (λ key. IsSomeAnd (standing_of s) (λ row. key_of row ≡ key))

-- What taking a line reads: nothing if the previous line had its key or no known row has it, and
-- otherwise no more than a known row with this key costs.
pub record AsksOnce (cost : RowValue → ℕ) (known : List RowValue) (last : Option Key)
    (line : PlacedLine) (old new : ℕ) : Type 0 where
  pub again : last ≡ Some (key_of line.row) → new ≤ old
  pub unknown : IsUnknown known (key_of line.row) → new ≤ old
  pub one : (row : RowValue) → Has known row → key_of row ≡ key_of line.row → new ≤ old + cost row

-- a later line with the key of a line that was taken has the key of the last line
abbrev pub IsAhead : List PlacedLine → Option Key → List PlacedLine → Type 0
IsAhead done last rest = (line later : PlacedLine) → Has done line → Has rest later
    → key_of line.row ≡ key_of later.row → last ≡ Some (key_of later.row)

-- one more line is taken
abbrev pub TakesLine : List RowValue → PlacedLine → Sweep → Sweep → Type 0
TakesLine known line old new =
    (lines done rest : List PlacedLine) → lines ≡ done ++ line ∷ rest → IsRising rank_cmp lines
    → IsSwept known lines done old → IsSwept known lines (done ++ line ∷ []) new

-- the one of the two that comes first in the release
abbrev pub IsEarlierOf : Option Contradiction → Contradiction → Contradiction → Type 0
IsEarlierOf None found result = result ≡ found
IsEarlierOf (Some first) found result =
    ((result ≡ first) × StandsBy first.file first.line found.file found.line)
    ⊎ ((result ≡ found) × StandsBy found.file found.line first.file first.line)

-- the line as a contradiction
abbrev pub contradiction_at : PlacedLine → Contradiction
contradiction_at line = record { file = line.file; line = line.line; key = key_of line.row }

-- the first contradiction after a line was compared: unchanged if its row is the one that counts
abbrev pub IsVerdict : Option RowValue → Option Contradiction → PlacedLine → Option Contradiction
    → Type 0
IsVerdict standing first line now =
    ((standing ≡ Some line.row) × (now ≡ first))
    ⊎
    ((standing ≢ Some line.row) × (c : Contradiction) × (now ≡ Some c)
    × IsEarlierOf first (contradiction_at line) c)

-- the first contradiction; or if there is none, the new rows, and how many other lines there were
abbrev pub IsOutcome : Sweep → ℕ → Result NewRows ImportFault → Type 0
IsOutcome s count result = MatchOption s.first
    (IsOkAnd result
    (λ fresh. (fresh.rows.items ≡ s.fresh.items)
    × (fresh.repeated ≡ count - length s.fresh.items)))
    (λ c. result ≡ Err (importfault.Contradiction c.file c.line c.key))

-- these rows are in ascending order, and none of their keys is known
pub record IsApart (known fresh : List RowValue) : Type 0 where
  pub ascending : IsAscending row_cmp fresh
  pub unknown : (row : RowValue) → Has fresh row → IsUnknown known (key_of row)

-- the new rows are in ascending order, none of their keys is known, and each is less than all later
-- lines, except lines with its key if it counts for them
pub record IsOwn (known : List RowValue) (rest : List PlacedLine) (s : Sweep) : Type 0 where
  pub apart : IsApart known s.fresh.items
  pub below : (row : RowValue) → Has s.fresh.items row → (line : PlacedLine) → Has rest line
      → (row_cmp row line.row ≡ Less)
      ⊎ ((key_of row ≡ key_of line.row) × (s.key ≡ Some (key_of row)))

-- The new rows are rows of the lines so far. If no line contradicts, each other row of the lines
-- may be known. `known_row` is only set to a row that may be known and has the last key; otherwise
-- the row that counts is that of a line with this key.
pub record IsGathered (known : List RowValue) (may_be : RowValue → Type 0) (done : List PlacedLine)
    (s : Sweep) : Type 0 where
  pub from_lines : (row : RowValue) → Has s.fresh.items row → Has (rows_of done) row
  pub each : s.first ≡ None → (row : RowValue) → Has (rows_of done) row
      → Has s.fresh.items row ⊎ MayBeKnown known may_be row
  pub known_row : (row : RowValue) → s.known_row ≡ Some row
      → IsSomeAnd s.key (λ key. key_of row ≡ key) × MayBeKnown known may_be row
  pub new_key : s.known_row ≡ None → IfSome s.key (λ key. (first : PlacedLine) × Has done first
      × (standing_row None s.fresh.items ≡ Some first.row) × (key_of first.row ≡ key))

-- the line has the key of the one before it, and is compared with the same row
pub record GoesOnWithKey (line : PlacedLine) (old new : Sweep) : Type 0 where
  pub at : IsSomeAnd old.key (λ last. last ≡ key_of line.row)
  pub kept : new ≡ record old { first = new.first }
  pub verdict : IsVerdict (standing_of old) old.first line new.first

-- a row that may be known was returned for the line's key, and the line is compared with it
pub record GoesOnWithKnown (known : List RowValue) (may_be : RowValue → Type 0) (line : PlacedLine)
    (old new : Sweep) : Type 0 where
  pub other : IsSomeAnd old.key (λ last. last ≡ key_of line.row) → ⊥
  pub found : RowValue
  pub may_be_known : MayBeKnown known may_be found
  pub same_key : key_of found ≡ key_of line.row
  pub known_row : new.known_row ≡ Some found
  pub fresh : new.fresh.items ≡ old.fresh.items
  pub key : new.key ≡ Some (key_of line.row)
  pub verdict : IsVerdict (Some found) old.first line new.first

-- no known row has the line's key, and its row is new
pub record GoesOnWithNew (known : List RowValue) (line : PlacedLine) (old new : Sweep)
    : Type 0 where
  pub other : IsSomeAnd old.key (λ last. last ≡ key_of line.row) → ⊥
  pub unknown : IsUnknown known (key_of line.row)
  pub known_row : new.known_row ≡ None
  pub fresh : new.fresh.items ≡ old.fresh.items ++ line.row ∷ []
  pub key : new.key ≡ Some (key_of line.row)
  pub first : new.first ≡ old.first

-- one more line is taken, whatever rows are returned for known keys
abbrev pub GoesOn : List RowValue → (RowValue → Type 0) → PlacedLine → Sweep → Sweep → Type 0
GoesOn known may_be line old new = GoesOnWithKey line old new
    ⊎ (GoesOnWithKnown known may_be line old new ⊎ GoesOnWithNew known line old new)

-- why taking lines ended early: memory ran out, or a known row couldn't be read
abbrev pub IsCutShort : (honest : Type 0) → ImportFault → Type 0
IsCutShort honest importfault.OutOfMemory = ⊤
IsCutShort honest (importfault.Known fault) = honest → fault ≢ readfault.Damaged
IsCutShort honest (importfault.Row file line fault) = ⊥
IsCutShort honest (importfault.Contradiction file line key) = ⊥

-- why lines give no new rows: memory ran out, a known row couldn't be read, or this line is the
-- first that contradicts
abbrev pub IsRefusalOf : (honest : Type 0) → List RowValue → List PlacedLine → ImportFault → Type 0
IsRefusalOf honest known lines importfault.OutOfMemory = ⊤
IsRefusalOf honest known lines (importfault.Known fault) = honest → fault ≢ readfault.Damaged
IsRefusalOf honest known lines (importfault.Row file line fault) = ⊥
IsRefusalOf honest known lines (importfault.Contradiction file line key) =
    honest → IsFirstContradiction known lines file line key

-- the row may be known, or is that of one of these lines, which comes no later than the line
abbrev pub MayCountFor : List RowValue → (RowValue → Type 0) → List PlacedLine → PlacedLine
    → OtherRow → Type 0
MayCountFor known may_be lines line (others.Known row) = MayBeKnown known may_be row
MayCountFor known may_be lines line (others.Line first) =
    Has lines first × StandsBy first.file first.line line.file line.line

-- a line whose row differs from one that may count for its key
pub record IsBlameable (known : List RowValue) (may_be : RowValue → Type 0)
    (lines : List PlacedLine) (c : Contradiction) : Type 0 where
  pub line : PlacedLine
  pub there : Has lines line
  pub other : OtherRow
  pub counts : MayCountFor known may_be lines line other
  pub same_key : key_of (row_of other) ≡ key_of line.row
  pub differs : row_of other ≢ line.row
  pub is : c ≡ contradiction_at line

-- if a known row couldn't be read, only because memory ran out
abbrev pub IsWithoutRead : ImportFault → Type 0
IsWithoutRead (importfault.Known fault) = fault ≡ readfault.OutOfMemory
IsWithoutRead _ = ⊤

-- why lines give no new rows, whatever rows are returned for known keys
abbrev pub IsRefusalOfByKey : List RowValue → (RowValue → Type 0) → List PlacedLine → ImportFault
    → Type 0
IsRefusalOfByKey known may_be lines (importfault.Known fault) =
    already_known known (rows_of lines) ≡ [] → fault ≡ readfault.OutOfMemory
IsRefusalOfByKey known may_be lines (importfault.Contradiction file line key) =
    IsPossibleContradiction known may_be lines file line key
IsRefusalOfByKey known may_be lines _ = ⊤
