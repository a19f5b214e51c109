-- The postings of rows: what a row other than a concept is about, and by which two numbers a
-- relationship, an association or a member of a reference set is found.
use Rattle.std.specs.Prelude.{ℕ, ◌+◌, ◌*◌, ◌==◌, min, Bool, true, List, [], ◌∷◌, ◌++◌}
use Rattle.std.specs.Prelude.{if◌then◌else◌, length, map}
use Rattle.std.specs.Prelude.{Option, Some, None}
use Rattle.std.specs.List.Sorted.{IsNonDecreasingBy, IsPermutation}
use Rattle.rf2_values.specs.declared.row.Body.{Body}
use Rattle.rf2_values.specs.declared.row.Body.TheVariants as body
use Rattle.rf2_values.specs.declared.row.Kind.{Kind}
use Rattle.rf2_values.specs.Key.{kind_place}
use Rattle.rf2_values.specs.Row.{RowValue, kind_of}
use Rattle.history_model.specs.Queries.{is_a, subject_of}
use Rattle.history_model.specs.declared.stamped.StampedRow.{StampedRow}
use Rattle.as_of_index.specs.Postings.{posted_all}
use Rattle.links.specs.declared.posting.Tag.{Tag}
use Rattle.links.specs.declared.posting.Tag.TheVariants as tags
use Rattle.links.specs.declared.posting.Posting.{Posting}
use Rattle.links.specs.declared.postings.Subject.{Subject}

-- ---- by which numbers a row is found

-- a tag, two numbers that it explains, by which rows are found; what a relationship leads to then;
-- and whether the row is active
pub record RowKey : Type 0 where
  pub tag : Tag
  pub first : ℕ
  pub second : ℕ
  pub end : ℕ
  pub active : Bool

abbrev pub row_key : Tag → ℕ → ℕ → ℕ → Bool → RowKey
row_key tag first second end active =
    record { tag = tag; first = first; second = second; end = end; active = active }

-- the same of a row that isn't a relationship
abbrev pub plain_key : Tag → ℕ → ℕ → Bool → RowKey
plain_key tag first second active = row_key tag first second 0 active

-- an active relationship is found by its destination and its type, and leads to its source; if it
-- is an "is a" relationship, also by its source, and leads to its destination
abbrev pub keys_of_relationship : (source type_id destination : ℕ) → List RowKey
keys_of_relationship source type_id destination =
    row_key tags.Source destination type_id source true
    ∷ (if type_id == is_a then row_key tags.Parent source type_id destination true ∷ [] else [])

-- an active association is found by its target and its reference set; and a member, active or not,
-- by its reference set and the component that it refers to
abbrev pub keys_of_body : Bool → Body → List RowKey
keys_of_body active (body.Relationship r) =
    if active then keys_of_relationship r.source r.type_id r.destination else []
keys_of_body active (body.Association a) =
    if active then plain_key tags.Target a.target a.refset true ∷ [] else []
keys_of_body active (body.Member m) = plain_key tags.Member m.refset m.referenced active ∷ []
keys_of_body active _ = []

abbrev pub keys_of : RowValue → List RowKey
keys_of row = keys_of_body row.active row.body

-- ---- postings

-- the posting of row `i` by this key
abbrev pub posting : ℕ → RowKey → Posting
posting i k =
    record
    { first = k.first; second = k.second; end = k.end; row = i; tag = k.tag; active = k.active }

abbrev pub posted : RowValue → ℕ → List Posting
posted row i = map (posting i) (keys_of row)

-- the subject of row `i`, if it is about something, with its kind
abbrev pub subject_at : Option ℕ → Kind → ℕ → List Subject
subject_at None kind i = []
subject_at (Some id) kind i = record { subject = id; kind = kind; row = i } ∷ []

-- what row `i` is about, if it is active
abbrev pub posted_subject : RowValue → ℕ → List Subject
posted_subject row i = if row.active then subject_at (subject_of row) (kind_of row) i else []

-- subjects of rows, and their postings by two numbers
pub record Edges : Type 0 where
  pub subjects : List Subject
  pub postings : List Posting

abbrev pub no_edges : Edges
no_edges = record { subjects = []; postings = [] }

-- the postings of one, each list followed by that of the other
abbrev pub joined_edges : Edges → Edges → Edges
joined_edges a b =
    record { subjects = a.subjects ++ b.subjects; postings = a.postings ++ b.postings }

-- how many subjects and postings there are
pub record EdgeCount : Type 0 where
  pub subjects : ℕ
  pub postings : ℕ

abbrev pub count_of : Edges → EdgeCount
count_of e = record { subjects = length e.subjects; postings = length e.postings }

-- the same subjects and postings, in any order
pub record AreSameEdges (a b : Edges) : Type 0 where
  pub subjects : IsPermutation a.subjects b.subjects
  pub postings : IsPermutation a.postings b.postings

-- what is posted of row `i`
abbrev pub edges_of : RowValue → ℕ → Edges
edges_of row i = record { subjects = posted_subject row i; postings = posted row i }

-- the postings of rows, each with its row's number, counted from 0
abbrev pub posted_edges : List StampedRow → Edges
posted_edges rows =
    record { subjects = posted_all posted_subject 0 rows; postings = posted_all posted 0 rows }

-- ---- their order

-- the rank of rows of a kind that are about a component, by which subjects are sorted: by the
-- component, and then by the kind, of which there are six
abbrev pub subject_rank : ℕ → Kind → ℕ
subject_rank id kind = 6 * id + kind_place kind

-- the place of a tag among them
abbrev pub tag_place : Tag → ℕ
tag_place tags.Source = 0
tag_place tags.Parent = 1
tag_place tags.Target = 2
tag_place tags.Member = 3

-- the rank of postings, by which they are sorted: by the tag, then by the first number, then by the
-- second. Identifiers are less than 2^60 and than 2^64; greater numbers count as the greatest.
abbrev pub posting_rank : Tag → ℕ → ℕ → ℕ
posting_rank tag first second =
    (1152921504606846976 * tag_place tag + min first 1152921504606846975) * 18446744073709551616
    + min second 18446744073709551615

abbrev pub rank_of : Posting → ℕ
rank_of p = posting_rank p.tag p.first p.second

-- subjects and postings are sorted, each by their ranks
pub record IsSealed (e : Edges) : Type 0 where
  pub by_subject : IsNonDecreasingBy (λ x. subject_rank x.subject x.kind) e.subjects
  pub by_rank : IsNonDecreasingBy rank_of e.postings
