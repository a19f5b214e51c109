-- Two lists that are merged in steps.
use Rattle.std.specs.Prelude.{◌≡◌, ℕ, ◌+◌, ◌-◌, List, [], ◌∷◌, length, drop, map, not}
use Rattle.std.specs.Prelude.{if◌then◌else◌}
use Rattle.std.specs.List.{filter}
use Rattle.history_model.specs.declared.stamped.StampedRow.{StampedRow}
use Rattle.history_model.specs.Lists.{union}
use Rattle.segment.specs.declared.place.RowPlace.{RowPlace}
use Rattle.segment.specs.Standing.{StandsAt}
use Rattle.merge.specs.declared.MergeProgress.{MergeProgress}
use Rattle.merge.specs.declared.Taken.{Taken}

-- the merge is of lists of these lengths, and nothing was taken yet
pub record IsNew (m : MergeProgress) (a_len b_len : ℕ) : Type 0 where
  pub a_len_is : m.a_len ≡ a_len
  pub b_len_is : m.b_len ≡ b_len
  pub a_place_is : m.a_place ≡ 0
  pub b_place_is : m.b_place ≡ 0

-- the lists have the lengths that the merge was made with
abbrev pub IsOf : {X : Type 0} → MergeProgress → List X → List X → Type 0
IsOf m a b = (length a ≡ m.a_len) × (length b ≡ m.b_len)

abbrev pub count_left : MergeProgress → ℕ
count_left m = (m.a_len - m.a_place) + (m.b_len - m.b_place)

-- the rows that are left of two lists, as one in key order
abbrev pub rows_left : MergeProgress → List StampedRow → List StampedRow → List StampedRow
rows_left m a b = union (drop m.a_place a) (drop m.b_place b)

-- the places that were taken from the first list, and those from the second
abbrev pub taken_of_a : List Taken → List RowPlace
taken_of_a taken = map (λ t. t.place) (filter (λ t. not t.second) taken)

abbrev pub taken_of_b : List Taken → List RowPlace
taken_of_b taken = map (λ t. t.place) (filter (λ t. t.second) taken)

-- the row is at the place, in the list from which the place was taken
abbrev pub StandsTaken : List StampedRow → List StampedRow → Taken → StampedRow → Type 0
StandsTaken a b t s = StandsAt (a ∷ b ∷ []) (if t.second then 1 else 0) t.place s
