-- Which components have a relationship to another one, and laws of the answer. `rows` are the rows
-- that a pin shows.
use Rattle.std.specs.Prelude.{◌≡◌, ◌↔◌, ◌≤◌, ℕ, Bool, true, false, ◌&&◌, ◌==◌, List, []}
use Rattle.std.specs.Prelude.{map, take, Option, Some, None}
use Rattle.std.specs.List.{filter}
use Rattle.std.specs.Ordering.{nat_cmp}
use Rattle.rf2_values.specs.declared.row.Body.{Body}
use Rattle.rf2_values.specs.declared.row.Body.TheVariants as body
use Rattle.rf2_values.specs.Row.{RowValue}
use Rattle.history_model.specs.InOrder.{Has, in_order, joined}
use Rattle.history_model.specs.Queries.{snapshot, is_above, is_a, source_of, children}
use Rattle.history_model.specs.Laws.{AreInTurn}

-- the type is the given one, if one is given
abbrev pub is_of_type : Option ℕ → ℕ → Bool
is_of_type None other = true
is_of_type (Some type_id) other = other == type_id

-- a relationship of the type, if that is given, to the destination
abbrev pub says_to : Option ℕ → ℕ → Body → Bool
says_to type_id destination (body.Relationship r) =
    r.destination == destination && is_of_type type_id r.type_id
says_to type_id destination _ = false

abbrev pub leads_to : Option ℕ → ℕ → RowValue → Bool
leads_to type_id destination row = row.active && says_to type_id destination row.body

-- the distinct sources of the active relationships of the type, if that is given, to the
-- destination at the date, ascending
unfoldable pub all_sources : Option ℕ → ℕ → ℕ → List RowValue → List ℕ
all_sources type_id destination date rows =
    in_order nat_cmp
    (map (λ row. source_of row.body) (filter (leads_to type_id destination) (snapshot rows date)))

-- those greater than `after`, if that is given
unfoldable pub sources_above : Option ℕ → ℕ → ℕ → Option ℕ → List RowValue → List ℕ
sources_above type_id destination date after rows =
    filter (is_above after) (all_sources type_id destination date rows)

-- the first `limit` of these
unfoldable pub sources : Option ℕ → ℕ → ℕ → Option ℕ → ℕ → List RowValue → List ℕ
sources type_id destination date after limit rows =
    take limit (sources_above type_id destination date after rows)

-- ---- laws

-- they are the sources of all such relationships in the Snapshot, and no others: with each type and
-- each destination, of all active relationships
abbrev pub SourcesAreAll : Type 0
SourcesAreAll = (type_id : Option ℕ) (destination date : ℕ) (after : Option ℕ)
    (rows : List RowValue) (id : ℕ)
    → Has (sources_above type_id destination date after rows) id ↔ ((is_above after id ≡ true)
    × ((row : RowValue) × Has (snapshot rows date) row
    × (leads_to type_id destination row ≡ true) × (source_of row.body ≡ id)))

-- the children of a concept are the sources of "is a"
abbrev pub ChildrenAreSources : Type 0
ChildrenAreSources = (concept date : ℕ) (rows : List RowValue)
    → sources_above (Some is_a) concept date None rows ≡ children concept date rows

-- answers of any limit except zero, each from after the last source of the one before, are all
-- sources
abbrev pub PagesOfSourcesAreAll : Type 0
PagesOfSourcesAreAll = (type_id : Option ℕ) (destination date : ℕ) (after : Option ℕ) (limit : ℕ)
    (rows : List RowValue) (pages : List (List ℕ)) → 1 ≤ limit
    → AreInTurn (λ id. id) (λ from. sources type_id destination date from limit rows) after pages
    → joined pages ≡ sources_above type_id destination date after rows

-- there is a sequence of such answers that ends, and none of them is empty
abbrev pub PagesOfSourcesEnd : Type 0
PagesOfSourcesEnd = (type_id : Option ℕ) (destination date : ℕ) (after : Option ℕ) (limit : ℕ)
    (rows : List RowValue) → 1 ≤ limit → (pages : List (List ℕ))
    × AreInTurn (λ id. id) (λ from. sources type_id destination date from limit rows) after pages
    × (Has pages [] → ⊥)
