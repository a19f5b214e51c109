-- The contradictions of a release: lines for whose key a different row is known, or on an earlier
-- line.
use Rattle.std.specs.Prelude.{◌≡◌, ◌≢◌, ◌↔◌, ◌⊎◌, ℕ, ◌-◌, List, [], ◌∷◌, ◌++◌, length, take}
use Rattle.std.specs.Ordering.{nat_cmp, ordering_then}
use Rattle.std.specs.declared.cmp.Ordering.{Ordering}
use Rattle.rf2_values.specs.Row.{RowValue}
use Rattle.rf2_values.specs.Key.{key_of}
use Rattle.history_model.specs.InOrder.{Has, IsAscending}
use Rattle.history_model.specs.History.{row_cmp}
use Rattle.import_check.specs.declared.release.Release.{Release}
use Rattle.import_check.specs.declared.release.PlacedLine.{PlacedLine}
use Rattle.import_check.specs.declared.contradicting.OtherRow.{OtherRow}
use Rattle.import_check.specs.declared.contradicting.OtherRow.TheVariants as others
use Rattle.import_check.specs.declared.contradicting.ContradictingLine.{ContradictingLine}
use Rattle.import_check.specs.declared.contradicting.Contradictions.{Contradictions}
use Rattle.import_check.specs.declared.fault.ImportFault.{ImportFault}
use Rattle.import_check.specs.declared.fault.ImportFault.TheVariants as importfault
use Rattle.import_check.specs.Known.{IsUnknown, MayBeKnown}
use Rattle.import_check.specs.Release.{SpellFiles, placed_lines, rows_of, row_of}
use Rattle.import_check.specs.Release.{MayContradict}
use Rattle.import_check.specs.NewRows.{IsRefusal}

-- the order of lines in the release: by file, then by line
abbrev pub place_cmp : PlacedLine → PlacedLine → Ordering
place_cmp a b = ordering_then (nat_cmp a.file b.file) (nat_cmp a.line b.line)

-- the order of lines by key, then by file and line
abbrev pub rank_cmp : PlacedLine → PlacedLine → Ordering
rank_cmp a b = ordering_then (row_cmp a.row b.row) (place_cmp a b)

-- The row counts for its key: either it is known, or it is that of a line, and its key is neither
-- known nor on an earlier line.
abbrev pub CountsForKey : List RowValue → List PlacedLine → OtherRow → Type 0
CountsForKey known lines (others.Known row) = Has known row
CountsForKey known lines (others.Line first) = (before : List PlacedLine)
    × (after : List PlacedLine) × (lines ≡ before ++ first ∷ after)
    × IsUnknown (known ++ rows_of before) (key_of first.row)

-- the line's row differs from the one that counts for its key
pub record IsContradiction (known : List RowValue) (lines : List PlacedLine)
    (c : ContradictingLine) : Type 0 where
  pub there : Has lines c.line
  pub counts : CountsForKey known lines c.other
  pub same_key : key_of (row_of c.other) ≡ key_of c.line.row
  pub differs : row_of c.other ≢ c.line.row

-- Each file is a valid release file. Of all contradictions of their lines, in the order of keys,
-- files and lines, the first are listed, up to the limit, and the others are counted.
pub record AreContradictionsOf (known : List RowValue) (release : Release) (limit : ℕ)
    (found : Contradictions) : Type 0 where
  pub lists : List (List RowValue)
  pub spelled : SpellFiles release.files.items lists
  pub all : List ContradictingLine
  pub ascending : IsAscending (λ a b. rank_cmp a.line b.line) all
  pub each : (c : ContradictingLine) → Has all c ↔ IsContradiction known (placed_lines lists) c
  pub listed : found.listed.items ≡ take limit all
  pub further : found.further ≡ length all - limit

-- the row may be known; or no known row has its key, and it is that of the first line with the key
abbrev pub MayAgree : List RowValue → (may_be : RowValue → Type 0) → List PlacedLine → RowValue
    → Type 0
MayAgree known may_be lines row = MayBeKnown known may_be row
    ⊎ ((first : PlacedLine) × CountsForKey known lines (others.Line first) × (first.row ≡ row))

-- The same whatever rows are returned for known keys: of lines that may contradict, in the order of
-- keys, files and lines, the first are listed, up to the limit, and the others are counted. Each
-- other line may agree.
pub record ArePossibleContradictions (known : List RowValue) (may_be : RowValue → Type 0)
    (release : Release) (limit : ℕ) (found : Contradictions) : Type 0 where
  pub lists : List (List RowValue)
  pub spelled : SpellFiles release.files.items lists
  pub all : List ContradictingLine
  pub ascending : IsAscending (λ a b. rank_cmp a.line b.line) all
  pub each : (c : ContradictingLine) → Has all c
      → MayContradict known may_be (placed_lines lists) c
  pub rest : (line : PlacedLine) → Has (placed_lines lists) line
      → ((c : ContradictingLine) × Has all c × (c.line ≡ line))
      ⊎ MayAgree known may_be (placed_lines lists) line.row
  pub listed : found.listed.items ≡ take limit all
  pub further : found.further ≡ length all - limit

-- why contradictions are not listed: for a reason for which a release is refused, except a
-- contradiction
abbrev pub IsNotListed : (honest : Type 0) → Release → ImportFault → Type 0
IsNotListed honest release (importfault.Contradiction file line key) = ⊥
IsNotListed honest release fault = IsRefusal honest [] release fault
