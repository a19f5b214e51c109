-- Laws of the members of reference sets: of all members, of the active ones by the components that
-- they refer to, and of what a concept is called. `rows` are the rows that a pin shows.
use Rattle.std.specs.Prelude.{Option, Some, None, true, ◌≡◌, ◌↔◌, ◌⊎◌, ℕ, ◌≤◌}
use Rattle.std.specs.Prelude.{List, [], ◌∷◌, length, take}
use Rattle.std.specs.List.{filter}
use Rattle.rf2_values.specs.declared.row.Kind.TheVariants.{Description, Member}
use Rattle.rf2_values.specs.Row.{RowValue, kind_of}
use Rattle.history_model.specs.InOrder.{Has, IsAscending}
use Rattle.history_model.specs.History.{row_cmp}
use Rattle.history_model.specs.Queries.{snapshot, all_above, about}
use Rattle.history_model.specs.Queries.{is_member_of, members_above, members, component_of}
use Rattle.history_model.specs.Queries.{is_value_above, values_above, values, called}
use Rattle.history_model.specs.Laws.{IsActiveAt}

-- ---- all members of a reference set

-- they are those of all members that belong to it: so it has a member exactly if the page of all
-- members has it
abbrev pub MembersAreOfTheKind : Type 0
MembersAreOfTheKind = (refset date : ℕ) (after : Option ℕ) (rows : List RowValue)
    → members_above refset date after rows
    ≡ filter (λ row. is_member_of refset row.body) (all_above Member date after rows)

-- each member belongs to exactly one reference set
abbrev pub EachIsOfOneSet : Type 0
EachIsOfOneSet = (date : ℕ) (after : Option ℕ) (rows : List RowValue) (row : RowValue)
    → Has (all_above Member date after rows) row
    → (refset : ℕ) × Has (members_above refset date after rows) row
    × ((other : ℕ) → Has (members_above other date after rows) row → other ≡ refset)

-- ---- the active members, by the component that they refer to

-- none of them is missing
abbrev pub ValuesAreAll : Type 0
ValuesAreAll = (refset date : ℕ) (after : Option ℕ) (rows : List RowValue) (row : RowValue)
    → IsAscending row_cmp rows → Has (values_above refset date after rows) row
    ↔ (Has (snapshot rows date) row × (is_value_above refset after row ≡ true))

-- those of all reference sets together are the active members
abbrev pub ValuesAreTheActiveMembers : Type 0
ValuesAreTheActiveMembers = (date : ℕ) (rows : List RowValue) (row : RowValue)
    → IsAscending row_cmp rows → IsActiveAt Member date rows row
    ↔ ((refset : ℕ) × Has (values_above refset date None rows) row)

-- an answer is the first of them up to the limit, and all others that refer to the same components
abbrev pub ValuesAreTheFirstWithTies : Type 0
ValuesAreTheFirstWithTies =
    (refset date : ℕ) (after : Option ℕ) (limit : ℕ) (rows : List RowValue) (row : RowValue)
    → Has (values refset date after limit rows) row
    ↔ (Has (values_above refset date after rows) row × ((other : RowValue)
    × Has (take limit (values_above refset date after rows)) other
    × (component_of other ≡ component_of row)))

-- an answer has as many rows as its limit, if there are as many
abbrev pub ValuesFillTheLimit : Type 0
ValuesFillTheLimit = (refset date : ℕ) (after : Option ℕ) (limit : ℕ) (rows : List RowValue)
    → length (take limit (values_above refset date after rows))
    ≤ length (values refset date after limit rows)

-- the component of the last row; `after` if there is no row
abbrev pub last_component : Option ℕ → List RowValue → Option ℕ
last_component after [] = after
last_component after (row ∷ rows) = last_component (Some (component_of row)) rows

-- ---- what a concept is called

-- an active description about the concept, and an active member of the reference set about that
-- description
pub record IsName (concept date refset : ℕ) (rows : List RowValue) (description member : RowValue)
    : Type 0 where
  pub is_about : Has (about Description concept date rows) description
  pub is_member : Has (about Member description.id date rows) member
  pub of_refset : is_member_of refset member.body ≡ true

-- the rows are those of all such pairs, and no others: each is a description of the concept, or a
-- member about one
abbrev pub CalledAreNames : Type 0
CalledAreNames = (concept date refset : ℕ) (rows : List RowValue) (row : RowValue)
    → Has (called concept date refset rows) row
    ↔ ((description : RowValue) × (member : RowValue)
    × IsName concept date refset rows description member
    × ((description ≡ row) ⊎ (member ≡ row)))

-- the members are among the values of the reference set
abbrev pub CalledAreAmongValues : Type 0
CalledAreAmongValues = (concept date refset : ℕ) (rows : List RowValue) (row : RowValue)
    → IsAscending row_cmp rows → Has (called concept date refset rows) row
    → kind_of row ≡ Member → Has (values_above refset date None rows) row

-- ---- later imports
