-- Which postings a question wants, and which rows it asks for, for private functions and proofs. No
-- public clause cites them.
use Rattle.std.specs.Prelude.{◌≡◌, ◌≤◌, ◌⊎◌, ◌==◌, ◌&&◌, ◌||◌, not, ℕ, Bool, true, false}
use Rattle.std.specs.Prelude.{List, length, nat_le, Option, Some, None}
use Rattle.std.specs.List.{filter, list_any}
use Rattle.std.specs.declared.cmp.Ordering.{Ordering}
use Rattle.rf2_values.specs.Row.{RowValue}
use Rattle.history_model.specs.declared.stamped.StampedRow.{StampedRow}
use Rattle.history_model.specs.InOrder.{Has}
use Rattle.history_model.specs.Queries.{is_above, snapshot}
use Rattle.segment.specs.declared.place.RowPlace.{RowPlace}
use Rattle.as_of_index.specs.declared.as_of.AsOf.{AsOf}
use Rattle.as_of_index.specs.declared.chosen.Chosen.{Chosen}
use Rattle.as_of_index.specs.Places.{place_cmp}
use Rattle.as_of_index.specs.Private.Once.{AreOnce}
use Rattle.as_of_index.specs.Current.{rows_seen, IsPlaceOfRow, IsCurrentAt}
use Rattle.links.specs.declared.posting.Tag.{Tag}
use Rattle.links.specs.declared.posting.Tag.TheVariants as tags
use Rattle.links.specs.declared.posting.Posting.{Posting}
use Rattle.links.specs.declared.wanted.Seconds.{Seconds}
use Rattle.links.specs.declared.wanted.Seconds.TheVariants as seconds
use Rattle.links.specs.declared.wanted.Wanted.{Wanted}
use Rattle.links.specs.declared.finding.Asked.{Asked}
use Rattle.links.specs.Edges.{RowKey, row_key, posting_rank}
use Rattle.links.specs.Selection.{is_between, is_wanted}

-- ---- postings

-- by which key the posting's row is found
abbrev pub key_of : Posting → RowKey
key_of p = row_key p.tag p.first p.second p.end p.active

-- the lowest and the highest rank that wanted postings may have
abbrev pub low_from : Tag → ℕ → Seconds → ℕ
low_from tag first (seconds.Between None last) = posting_rank tag first 0
low_from tag first (seconds.Between (Some after) last) = posting_rank tag first after
low_from tag first (seconds.Only number) = posting_rank tag first number

abbrev pub high_from : Tag → ℕ → Seconds → ℕ
high_from tag first (seconds.Between after None) = posting_rank tag first 18446744073709551615
high_from tag first (seconds.Between after (Some last)) = posting_rank tag first last
high_from tag first (seconds.Only number) = posting_rank tag first number

abbrev pub low_rank : Wanted → ℕ
low_rank w = low_from w.tag w.first w.seconds

abbrev pub high_rank : Wanted → ℕ
high_rank w = high_from w.tag w.first w.seconds

-- ---- rows

-- all postings of a tag and a first number
abbrev pub all_with : Tag → ℕ → Wanted
all_with tag first =
    record { tag = tag; first = first; seconds = seconds.Between None None; active = false }

-- the postings of active relationships of the type, if that is given, to the destination
abbrev pub sources_with : Option ℕ → ℕ → Wanted
sources_with None destination = all_with tags.Source destination
sources_with (Some type_id) destination = record
    { tag = tags.Source; first = destination; seconds = seconds.Only type_id; active = false }

-- all rows with a wanted posting
abbrev pub asked_for : Wanted → AsOf → Asked
asked_for wanted as_of =
    record { wanted = wanted; above = None; up_to = None; as_of = as_of }

-- the row is asked for, if the wanted postings are a path of the test
abbrev pub is_passed : Asked → (RowValue → Bool) → RowValue → Bool
is_passed asked test row = is_between asked.above asked.up_to row.id && test row

abbrev pub selected : Asked → (RowValue → Bool) → List (List StampedRow) → List RowValue
selected asked test lists =
    filter (is_passed asked test) (snapshot (rows_seen asked.as_of lists) asked.as_of.date)

-- a posting of a row with this id is asked for
abbrev pub is_asked : Asked → Posting → ℕ → Bool
is_asked asked p id = is_between asked.above asked.up_to id && is_wanted asked.wanted (key_of p)

-- the row to read for a posting of list `n`
abbrev pub placed : ℕ → Posting → RowPlace → Chosen
placed n p at = record { segment = n; at = at; first = p.first; second = p.second }

-- a posting of list `n` that is asked for and whose row is current gives an item, which is made
-- from the posting and from the row's place
pub record GivesAsked {Y : Type 0} (answer : ℕ → Posting → RowPlace → Y)
    (lists : List (List StampedRow)) (asked : Asked) (n : ℕ) (p : Posting) (y : Y) : Type 0 where
  pub at : RowPlace
  pub row_there : IsPlaceOfRow lists n p.row at × IsCurrentAt lists asked.as_of n at
  pub asked_so : is_asked asked p at.key.id ≡ true
  pub answer_is : answer n p at ≡ y

-- a row to read, or what the posting leads to
abbrev pub GivesPlace : List (List StampedRow) → Asked → ℕ → Posting → Chosen → Type 0
GivesPlace = GivesAsked placed

abbrev pub GivesEnd : List (List StampedRow) → Asked → ℕ → Posting → ℕ → Type 0
GivesEnd = GivesAsked (λ n p at. p.end)

-- the list has the items that the postings give, and no others; each posting comes with the number
-- of its list
pub record AreGiven {X Y : Type 0} (Gives : ℕ → X → Y → Type 0) (xs : List (ℕ × X)) (ys : List Y)
    : Type 0 where
  pub taken : (x : ℕ × X) (y : Y) → Has xs x → Gives x.0 x.1 y → Has ys y
  pub only : (y : Y) → Has ys y → (x : ℕ × X) × Has xs x × Gives x.0 x.1 y

-- the order of rows to be read: by key
abbrev pub placed_cmp : Chosen → Chosen → Ordering
placed_cmp a b = place_cmp a.at b.at

-- the places of the rows that are asked for, each once, in this order
abbrev pub AreFound : (Chosen → Chosen → Ordering) → List (List StampedRow) → Asked
    → List (ℕ × Posting) → List Chosen → Type 0
AreFound cmp lists asked xs kept =
    (all : List Chosen) × AreGiven (GivesPlace lists asked) xs all × AreOnce cmp all kept

-- the places of rows up to some limit, each once, in this order: all that are asked for, or enough
-- to include the first `limit`
abbrev pub AreEnough : (Chosen → Chosen → Ordering) → (Option ℕ → Asked) → ℕ
    → List (List StampedRow) → List (ℕ × Posting) → List Chosen → Type 0
AreEnough cmp up_to limit lists xs kept = (last : Option ℕ)
    × AreFound cmp lists (up_to last) xs kept × ((last ≡ None) ⊎ (limit ≤ length kept))
