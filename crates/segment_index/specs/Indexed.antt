-- The places and postings of segments' rows, whose records follow one another.
use Rattle.std.specs.Prelude.{◌≡◌, ℕ, List, length, map, Option, Some, None}
use Rattle.history_model.specs.declared.stamped.StampedRow.{StampedRow}
use Rattle.segment.specs.declared.place.RowPlace.{RowPlace}
use Rattle.segment.specs.Records.{segment_of}
use Rattle.segment.specs.Standing.{places_of}
use Rattle.as_of_index.specs.Places.{Lists}
use Rattle.as_of_index.specs.Postings.{posted_all}
use Rattle.term_prefix.specs.Terms.{TermAt}
use Rattle.term_prefix.specs.Pushed.{posted_term, IsPosted, ArePosted}
use Rattle.term_words.specs.Posted.{posted_words}
use Rattle.term_words.specs.Posted as by_words
use Rattle.links.specs.Edges.{Edges, posted_edges}
use Rattle.links.specs.Laws.{ArePostingsOf, EachPosted}
use Rattle.segment_index.specs.declared.words.Words.{Words}
use Rattle.segment_index.specs.declared.words.Words.TheVariants as words

-- the rows of a segment, and whether their words are kept
pub record SegmentRows : Type 0 where
  pub rows : List StampedRow
  pub words : Words

-- the rows of each segment of a store, and whether their words are kept
pub record StoreRows : Type 0 where
  pub lists : List (List StampedRow)
  pub words : Words

-- segments' rows, whether or not their words are kept
abbrev pub rows_of_all : List SegmentRows → List (List StampedRow)
rows_of_all segments = map (λ s. s.rows) segments

-- the postings of rows, each with its row's number, counted from 0
abbrev pub terms_of : List StampedRow → List TermAt
terms_of rows = posted_all posted_term 0 rows

abbrev pub words_of : List StampedRow → List TermAt
words_of rows = posted_all posted_words 0 rows

abbrev pub links_of : List StampedRow → Edges
links_of rows = posted_edges rows

-- if words are kept, these are the postings of the rows by words, in any order
abbrev pub HasWords : Words → List StampedRow → List TermAt → Type 0
HasWords keeps rows posted = keeps ≡ words.Kept → by_words.IsPosted rows posted

-- the same for each list of rows; if words are left out, there are as many lists of postings
pub record HaveWords (keeps : Words) (lists : List (List StampedRow))
    (posted : List (List TermAt)) : Type 0 where
  pub many : length posted ≡ length lists
  pub are : keeps ≡ words.Kept → by_words.ArePosted lists posted

-- the lists of postings by words, one for each list of rows, or nothing if words are left out
abbrev pub AreWordsOf : StoreRows → Option (List (List TermAt)) → Type 0
AreWordsOf index (Some posted) =
    (index.words ≡ words.Kept) × by_words.ArePosted index.lists posted
AreWordsOf index None = index.words ≡ words.LeftOut

-- the places and postings of the rows pushed so far, in their order, and the total length of their
-- records
pub record IsBuilt (index : SegmentRows) (places : List RowPlace) (terms : List TermAt)
    (links : Edges) (posted : List TermAt) (bytes : ℕ) : Type 0 where
  pub places_are : places ≡ places_of index.rows
  pub terms_are : terms ≡ terms_of index.rows
  pub links_are : links ≡ links_of index.rows
  pub words_are : index.words ≡ words.Kept → posted ≡ words_of index.rows
  pub bytes_are : bytes ≡ length (segment_of index.rows)

-- the place of each row, and the postings of the rows in any order
pub record IsIndexed (index : SegmentRows) (places : List RowPlace) (terms : List TermAt)
    (links : Edges) (posted : List TermAt) : Type 0 where
  pub places_are : places ≡ places_of index.rows
  pub terms_are : IsPosted index.rows terms
  pub links_are : ArePostingsOf index.rows links
  pub words_are : HasWords index.words index.rows posted

-- the same for each list of rows
pub record AreIndexed (index : StoreRows) (places : List (List RowPlace))
    (terms : List (List TermAt)) (links : List Edges) (posted : List (List TermAt))
    : Type 0 where
  pub places_are : Lists places index.lists
  pub terms_are : ArePosted index.lists terms
  pub links_are : EachPosted index.lists links
  pub words_are : HaveWords index.words index.lists posted
