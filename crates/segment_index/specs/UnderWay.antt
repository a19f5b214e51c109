-- Merging the postings of two of a store's segments, in steps.
use Rattle.std.specs.Prelude.{◌<◌, ℕ, List, [], length, slice_index_or, Option, Some, None}
use Rattle.segment.specs.declared.place.RowPlace.{RowPlace}
use Rattle.as_of_index.specs.Numbers.{TwoLists, AreKnown}
use Rattle.term_prefix.specs.Terms.{TermAt}
use Rattle.term_prefix.specs.Merged.{IsMergeOfTerms}
use Rattle.links.specs.Edges.{Edges, no_edges}
use Rattle.links.specs.MergedEdges.{IsMergeOf}
use Rattle.segment_index.specs.declared.postings_merge.PostingsMerge.{PostingsMerge}

-- the places of the rows of the two segments
abbrev pub places_at : List (List RowPlace) → PostingsMerge → TwoLists
places_at places m =
    record { first = slice_index_or places m.i []; second = slice_index_or places m.j [] }

-- the terms or words, and the other postings, of the segment with this number
abbrev pub terms_at : List (List TermAt) → ℕ → List TermAt
terms_at terms i = slice_index_or terms i []

abbrev pub edges_at : List Edges → ℕ → Edges
edges_at links i = slice_index_or links i no_edges

-- both segments are listed, the known numbers of their rows are right, and so are the postings
-- merged so far
pub record IsPostingsMerge (places : List (List RowPlace)) (terms : List (List TermAt))
    (links : List Edges) (words : List (List TermAt)) (m : PostingsMerge) : Type 0 where
  pub first_within : m.i < length places
  pub second_within : m.j < length places
  pub numbers_are : AreKnown (places_at places m) m.numbers
  pub terms_are :
      IsMergeOfTerms (places_at places m) (terms_at terms m.i) (terms_at terms m.j) m.terms
  pub links_are : IsMergeOf (places_at places m) (edges_at links m.i) (edges_at links m.j) m.links
  pub words_are :
      IsMergeOfTerms (places_at places m) (terms_at words m.i) (terms_at words m.j) m.words

-- a merge of postings is one of two listed segments
abbrev pub IsUnderWay : List (List RowPlace) → List (List TermAt) → List Edges
    → List (List TermAt) → Option PostingsMerge → Type 0
IsUnderWay places terms links words None = Unit {0}
IsUnderWay places terms links words (Some m) = IsPostingsMerge places terms links words m
