-- Merging the postings of two segments' rows, in steps.
use Rattle.std.specs.Prelude.{◌≤◌, ◌-◌, ◌*◌, ℕ, List, [], ◌∷◌, length}
use Rattle.history_model.specs.declared.stamped.StampedRow.{StampedRow}
use Rattle.history_model.specs.Lists.{AreLists, union}
use Rattle.segment.specs.Standing.{places_of}
use Rattle.as_of_index.specs.Numbers.{TwoLists}
use Rattle.as_of_index.specs.declared.merging.TakenCount.{TakenCount}
use Rattle.as_of_index.specs.Merging.{PostingKind, IsMerged, count_left}
use Rattle.links.specs.declared.posting.Posting.{Posting}
use Rattle.links.specs.declared.postings.Subject.{Subject}
use Rattle.links.specs.Edges.{Edges, EdgeCount, no_edges, count_of, subject_rank, rank_of}
use Rattle.links.specs.Laws.{ArePostingsOf}

-- subjects and postings, sorted as `IsSealed` says
abbrev pub subject_kind : PostingKind Subject
subject_kind =
    record {
      rank = λ x. subject_rank x.subject x.kind;
      number = λ x. x.row;
      renumbered = λ n x. record { subject = x.subject; kind = x.kind; row = n };
    }

abbrev pub posting_kind : PostingKind Posting
posting_kind =
    record {
      rank = rank_of;
      number = λ p. p.row;
      renumbered = λ n p. record {
        first = p.first;
        second = p.second;
        end = p.end;
        row = n;
        tag = p.tag;
        active = p.active;
      };
    }

-- the subjects and postings merged so far, and how many of each were taken from each of two
-- segments
pub record MergedEdges : Type 0 where
  pub edges : Edges
  pub subjects : TakenCount
  pub postings : TakenCount

abbrev pub none_taken : TakenCount
none_taken = record { first = 0; second = 0 }

-- the beginning of a merge
abbrev pub nothing_merged : MergedEdges
nothing_merged =
    record { edges = no_edges; subjects = none_taken; postings = none_taken }

-- this many of the subjects and postings of two segments are merged, with the numbers of their rows
-- among the rows of both segments
pub record IsMergeOf (lists : TwoLists) (a b : Edges) (m : MergedEdges) : Type 0 where
  pub subjects : IsMerged subject_kind lists a.subjects b.subjects m.subjects m.edges.subjects
  pub postings : IsMerged posting_kind lists a.postings b.postings m.postings m.edges.postings

-- how many subjects and postings aren't merged yet
abbrev pub edges_left : Edges → Edges → MergedEdges → EdgeCount
edges_left a b m =
    record {
      subjects = count_left a.subjects b.subjects m.subjects;
      postings = count_left a.postings b.postings m.postings;
    }

-- the counts without the most that `n` rows have: one subject for each row, and two postings
abbrev pub less_of_rows : ℕ → EdgeCount → EdgeCount
less_of_rows n count =
    record { subjects = count.subjects - n; postings = count.postings - 2 * n }

-- the counts are at most those of `n` rows
pub record AtMostOfRows (n : ℕ) (count : EdgeCount) : Type 0 where
  pub subjects : count.subjects ≤ n
  pub postings : count.postings ≤ 2 * n

-- a merge of any postings may begin with nothing merged
abbrev pub AnyMergeBegins : Type 0
AnyMergeBegins = (lists : TwoLists) (a b : Edges) → IsMergeOf lists a b nothing_merged

-- rows have at most as many subjects as there are rows, and at most twice as many postings
abbrev pub PostingsAreFew : Type 0
PostingsAreFew = (rows : List StampedRow) (e : Edges)
    → ArePostingsOf rows e → AtMostOfRows (length rows) (count_of e)

-- if no posting of two segments' rows is left, the merged ones are the postings of the rows of both
-- segments in key order
abbrev pub MergedArePosted : Type 0
MergedArePosted = (a_rows b_rows : List StampedRow) (a b : Edges) (m : MergedEdges)
    → AreLists (a_rows ∷ b_rows ∷ []) → ArePostingsOf a_rows a → ArePostingsOf b_rows b
    → IsMergeOf (record { first = places_of a_rows; second = places_of b_rows }) a b m
    → AtMostOfRows 0 (edges_left a b m)
    → ArePostingsOf (union a_rows b_rows) m.edges
