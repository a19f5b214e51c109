-- The index of the rows of two lists, while they are merged.
use Rattle.std.specs.Prelude.{◌≡◌, ℕ, ◌+◌, ◌-◌, ◌^◌, ◌<◌, min, List, [], ◌∷◌, length, take, drop}
use Rattle.std.specs.Prelude.{Option, IsSome, IfSome}
use Rattle.history_model.specs.declared.stamped.StampedRow.{StampedRow}
use Rattle.history_model.specs.Lists.{AreLists, union}
use Rattle.segment.specs.declared.place.RowPlace.{RowPlace}
use Rattle.segment.specs.Records.{segment_of}
use Rattle.segment.specs.Standing.{places_of}
use Rattle.merge.specs.Merged.{IsOf, count_left, rows_left}
use Rattle.term_prefix.specs.Pushed.{IsPosted}
use Rattle.links.specs.Laws.{ArePostingsOf}
use Rattle.segment_index.specs.declared.words.Words.{Words}
use Rattle.segment_index.specs.Indexed.{HasWords}
use Rattle.segment_index.specs.declared.output_postings.OutputPostings.{OutputPostings}
use Rattle.segment_index.specs.declared.index_merge.MergeMark.{MergeMark}

-- two lists of rows, how many rows of their union have been taken, and whether words are kept
pub record OutputRows : Type 0 where
  pub a : List StampedRow
  pub b : List StampedRow
  pub taken : ℕ
  pub words : Words

-- the rows that have been taken, and those that are left
abbrev pub taken_rows : OutputRows → List StampedRow
taken_rows m = take m.taken (union m.a m.b)

abbrev pub left_rows : OutputRows → List StampedRow
left_rows m = drop m.taken (union m.a m.b)

-- how many rows are left
abbrev pub left_count : OutputRows → ℕ
left_count m = length m.a + length m.b - m.taken

-- up to `n` more rows are taken
abbrev pub with_more : ℕ → OutputRows → OutputRows
with_more n m = record m { taken = m.taken + min n (left_count m) }

-- `p` has the postings of these rows, in any order
pub record HasPostings (words : Words) (rows : List StampedRow) (p : OutputPostings)
    : Type 0 where
  pub terms_are : IsPosted rows p.terms
  pub links_are : ArePostingsOf rows p.links
  pub words_are : HasWords words rows p.words

-- the mark says how many rows of each list have been taken, and how long their records are
pub record IsMarkOf (m : OutputRows) (mark : MergeMark) : Type 0 where
  pub lengths : IsOf mark.progress m.a m.b
  pub places_are : mark.progress.a_place + mark.progress.b_place ≡ m.taken
  pub left_are : rows_left mark.progress m.a m.b ≡ left_rows m
  pub rows_are : mark.rows ≡ m.taken
  pub bytes_are : mark.bytes ≡ length (segment_of (taken_rows m))

-- the output's index has the places of the rows taken so far, and once all are taken the postings
-- of all rows
pub record IsOutput (a b : List StampedRow) (words : Words) (mark : MergeMark)
    (places : List RowPlace) (postings : Option OutputPostings) : Type 0 where
  pub lists : AreLists (a ∷ b ∷ [])
  pub short : length (segment_of a) + length (segment_of b) < 2 ^ 32
  pub mark_is : IsMarkOf (record { a = a; b = b; taken = mark.rows; words = words }) mark
  pub places_are : places ≡ places_of (take mark.rows (union a b))
  pub posted : IfSome postings (HasPostings words (union a b))
  pub complete : count_left mark.progress ≡ 0 → IsSome postings
