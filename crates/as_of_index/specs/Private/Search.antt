-- Searches among places in key order.
use Rattle.std.specs.Prelude.{◌≡◌, ℕ, ◌+◌, ◌≤◌, Bool, true, false, ◌&&◌, ◌||◌, ◌==◌, not, List, []}
use Rattle.std.specs.Prelude.{◌∷◌, ◌++◌, nat_le, nat_lt, length, map, take, drop, Option, Some}
use Rattle.std.specs.Prelude.{None, if◌then◌else◌}
use Rattle.std.specs.List.{AllByRecursion}
use Rattle.std.specs.Ordering.{is_lt}
use Rattle.std.specs.declared.cmp.Ordering.TheVariants.{Less, Equal, Greater}
use Rattle.rf2_values.specs.declared.row.Kind.{Kind}
use Rattle.rf2_values.specs.declared.key.Key.{Key}
use Rattle.rf2_values.specs.Key.{kind_place, key_cmp}
use Rattle.history_model.specs.InOrder.{Has, ShareNone}
use Rattle.history_model.specs.Queries.{is_above}
use Rattle.segment.specs.declared.place.RowPlace.{RowPlace}
use Rattle.as_of_index.specs.declared.as_of.AsOf.{AsOf}
use Rattle.as_of_index.specs.declared.search.Start.{Start}
use Rattle.as_of_index.specs.declared.search.Start.TheVariants as start
use Rattle.as_of_index.specs.Places.{place_cmp, least_by, greatest_by}

-- no key is in both lists
abbrev pub ShareNoKey : List RowPlace → List RowPlace → Type 0
ShareNoKey xs ys = ShareNone (λ p. p.key) xs ys

-- the places of all lists, each with the number of its list
abbrev pub in_segment : ℕ → List RowPlace → List (ℕ × RowPlace)
in_segment n places = map (λ p. (n, p)) places

abbrev pub all_places : ℕ → List (List RowPlace) → List (ℕ × RowPlace)
all_places n [] = []
all_places n (places ∷ index) = in_segment n places ++ all_places (n + 1) index

abbrev pub is_of : Kind → ℕ → RowPlace → Bool
is_of kind id p = kind_place p.key.kind == kind_place kind && p.key.id == id

-- a version of the component up to the date, which the pin shows
abbrev pub is_candidate : Kind → ℕ → AsOf → RowPlace → Bool
is_candidate kind id as_of p =
    is_of kind id p && nat_le p.key.time as_of.date && nat_le p.import as_of.pin

-- the date and the pin show the place
abbrev pub is_shown : AsOf → RowPlace → Bool
is_shown as_of p = nat_le p.key.time as_of.date && nat_le p.import as_of.pin

-- whether some place may be shown: not all are of later times, and not all are of later imports
abbrev pub may_show : AsOf → List RowPlace → Bool
may_show as_of places = nat_le (least_by (λ p. p.key.time) places) as_of.date
    && nat_le (least_by (λ p. p.import) places) as_of.pin

-- the places; none if all are of later times, or all of later imports
abbrev pub shown_part : AsOf → List RowPlace → List RowPlace
shown_part as_of places = if may_show as_of places then places else []

-- the date and the pin show the place, and it is later than `from`, if that is given
abbrev pub is_changed : Option ℕ → AsOf → RowPlace → Bool
is_changed from as_of p = is_shown as_of p && is_above from p.key.time

-- whether some place may be changed: some may be shown, and not all are up to `from`, if that is
-- given
abbrev pub may_change : Option ℕ → AsOf → List RowPlace → Bool
may_change from as_of places =
    may_show as_of places && is_above from (greatest_by (λ p. p.key.time) places)

-- the places; none if none can be changed
abbrev pub changed_part : Option ℕ → AsOf → List RowPlace → List RowPlace
changed_part from as_of places = if may_change from as_of places then places else []

abbrev pub changed_parts : Option ℕ → AsOf → List (List RowPlace) → List (List RowPlace)
changed_parts from as_of lists = map (changed_part from as_of) lists

-- whether a search with this start skips the place
abbrev pub is_before : Start → RowPlace → Bool
is_before (start.AfterVersion kind id time) p = nat_lt (kind_place p.key.kind) (kind_place kind)
    || (kind_place p.key.kind == kind_place kind
    && (nat_lt p.key.id id || (p.key.id == id && nat_le p.key.time time)))
is_before (start.Later kind id after) p = nat_lt (kind_place p.key.kind) (kind_place kind)
    || (kind_place p.key.kind == kind_place kind
    && (nat_lt p.key.id id || (p.key.id == id && not (is_above after p.key.time))))
is_before (start.Components kind after) p = nat_lt (kind_place p.key.kind) (kind_place kind)
    || (kind_place p.key.kind == kind_place kind && not (is_above after p.key.id))

-- its key is less than `k`
abbrev pub is_under : {X : Type 0} → (X → Key) → Key → X → Bool
is_under key k x = is_lt (key_cmp (key x) k)

-- the items before number `i` pass the test, and those from it on don't
pub record SplitsAt {X : Type 0} (p : X → Bool) (places : List X) (i : ℕ) : Type 0 where
  pub before : AllByRecursion (λ x. p x ≡ true) (take i places)
  pub rest : AllByRecursion (λ x. p x ≡ false) (drop i places)

-- everything before the cursor is skipped
pub record IsPassed (start : Start) (places : List RowPlace) (cursor : ℕ) : Type 0 where
  pub within : cursor ≤ length places
  pub before : AllByRecursion (λ p. is_before start p ≡ true) (take cursor places)

-- there is one cursor for each list, and everything before it is skipped
abbrev pub ArePassed : Start → List (List RowPlace) → List ℕ → Type 0
ArePassed start [] [] = Unit {0}
ArePassed start [] (cursor ∷ cursors) = ⊥
ArePassed start (places ∷ lists) [] = ⊥
ArePassed start (places ∷ lists) (cursor ∷ cursors) =
    IsPassed start places cursor × ArePassed start lists cursors

-- a search back through the versions of a component ends here: the pin shows this version, or it
-- isn't one of the component
abbrev pub stops : Kind → ℕ → ℕ → RowPlace → Bool
stops kind id pin p = not (is_of kind id p) || nat_le p.import pin

-- `b` is the latest of the candidates among these
pub record IsLatestOf (kind : Kind) (id : ℕ) (as_of : AsOf) {X : Type 0} (place : X → RowPlace)
    (xs : List X) (b : X) : Type 0 where
  pub there : Has xs b
  pub passes : is_candidate kind id as_of (place b) ≡ true
  pub latest : (x : X) → Has xs x → is_candidate kind id as_of (place x) ≡ true
      → (place x).key.time ≤ (place b).key.time

unfoldable pub IsPick : Kind → ℕ → AsOf → {X : Type 0} → (X → RowPlace) → List X → Option X
    → Type 0
IsPick kind id as_of place xs None =
    (x : _) → Has xs x → is_candidate kind id as_of (place x) ≡ true → ⊥
IsPick kind id as_of place xs (Some b) = IsLatestOf kind id as_of place xs b

-- The latest candidate among these, if it is later than `from` or `from` isn't given; if none is
-- found, there is no candidate later than `from`.
unfoldable pub IsPickFrom : Kind → ℕ → Option ℕ → AsOf → {X : Type 0} → (X → RowPlace) → List X
    → Option X → Type 0
IsPickFrom kind id from as_of place xs None =
    (x : _) → Has xs x → is_candidate kind id as_of (place x) ≡ true
    → is_above from (place x).key.time ≡ true → ⊥
IsPickFrom kind id from as_of place xs (Some b) =
    IsLatestOf kind id as_of place xs b × (is_above from (place b).key.time ≡ true)

-- the place, if it is later than `from`, or if `from` isn't given
abbrev pub later_than : Option ℕ → Option RowPlace → Option RowPlace
later_than from None = None
later_than from (Some p) = elim (is_above from p.key.time) [ true ↦ Some p | false ↦ None ]

-- the later one of the best so far and the one of list `n`; the best so far if they tie
abbrev pub later_of : Option (ℕ × RowPlace) → ℕ → Option RowPlace → Option (ℕ × RowPlace)
later_of best n None = best
later_of None n (Some p) = Some (n, p)
later_of (Some b) n (Some p) =
    elim (nat_lt b.1.key.time p.key.time) [ true ↦ Some (n, p) | false ↦ Some b ]

-- `b` has the smallest key among those that a search with this start doesn't skip
pub record IsLeastOf (start : Start) {X : Type 0} (place : X → RowPlace) (xs : List X)
    (b : X) : Type 0 where
  pub there : Has xs b
  pub passes : is_before start (place b) ≡ false
  pub least : (x : X) → Has xs x → is_before start (place x) ≡ false
      → place_cmp (place x) (place b) ≡ Less → ⊥

unfoldable pub IsFirstFrom : Start → {X : Type 0} → (X → RowPlace) → List X → Option X → Type 0
IsFirstFrom start place xs None = (x : _) → Has xs x → is_before start (place x) ≡ true
IsFirstFrom start place xs (Some b) = IsLeastOf start place xs b

-- of the best so far and the one of list `n`, the one with the smaller key; the best so far if they
-- tie
abbrev pub sooner_of : Option (ℕ × RowPlace) → ℕ → Option RowPlace → Option (ℕ × RowPlace)
sooner_of best n None = best
sooner_of None n (Some p) = Some (n, p)
sooner_of (Some b) n (Some p) =
    elim (place_cmp p b.1) [ Less ↦ Some (n, p) | Equal ↦ Some b | Greater ↦ Some b ]

-- the place of a version of some component of the kind, with an id greater than `after`, if that is
-- given
abbrev pub is_kind_above : Kind → Option ℕ → RowPlace → Bool
is_kind_above kind after p = kind_place p.key.kind == kind_place kind && is_above after p.key.id

-- `id` is the smallest id of the kind greater than `after`, if that is given
pub record IsLeastId (kind : Kind) (after : Option ℕ) (xs : List (ℕ × RowPlace))
    (id : ℕ) : Type 0 where
  pub above : is_above after id ≡ true
  pub there : (x : ℕ × RowPlace) × Has xs x × (is_of kind id x.1 ≡ true)
  pub least : (x : ℕ × RowPlace) → Has xs x → is_kind_above kind after x.1 ≡ true → id ≤ x.1.key.id

unfoldable pub IsNextId : Kind → Option ℕ → List (ℕ × RowPlace) → Option ℕ → Type 0
IsNextId kind after xs None = (x : ℕ × RowPlace) → Has xs x → is_kind_above kind after x.1 ≡ true
    → ⊥
IsNextId kind after xs (Some id) = IsLeastId kind after xs id

-- `id` is that of a place of the kind, greater than `after`, and no changed place is between the
-- two
pub record IsFirstChanged (kind : Kind) (after from : Option ℕ) (as_of : AsOf)
    (xs : List (ℕ × RowPlace)) (id : ℕ) : Type 0 where
  pub above : is_above after id ≡ true
  pub there : (x : ℕ × RowPlace) × Has xs x × (is_of kind id x.1 ≡ true)
  pub first : (x : ℕ × RowPlace) → Has xs x → is_kind_above kind after x.1 ≡ true
      → is_changed from as_of x.1 ≡ true → id ≤ x.1.key.id

unfoldable pub IsNextChanged : Kind → Option ℕ → Option ℕ → AsOf → List (ℕ × RowPlace) → Option ℕ
    → Type 0
IsNextChanged kind after from as_of xs None = (x : ℕ × RowPlace) → Has xs x
    → is_kind_above kind after x.1 ≡ true → is_changed from as_of x.1 ≡ true → ⊥
IsNextChanged kind after from as_of xs (Some id) = IsFirstChanged kind after from as_of xs id

-- the id of the place, if there is one and it is of the kind
abbrev pub id_of_kind : Kind → Option RowPlace → Option ℕ
id_of_kind kind None = None
id_of_kind kind (Some p) =
    elim (kind_place p.key.kind == kind_place kind) [ true ↦ Some p.key.id | false ↦ None ]

-- the smaller of two ids, either of which may be missing
abbrev pub lesser_of : Option ℕ → Option ℕ → Option ℕ
lesser_of best None = best
lesser_of None (Some id) = Some id
lesser_of (Some least) (Some id) = elim (nat_lt id least) [ true ↦ Some id | false ↦ Some least ]

-- the place of a version of the component, later than `after`, if that is given
abbrev pub is_version_above : Kind → ℕ → Option ℕ → RowPlace → Bool
is_version_above kind id after p = is_of kind id p && is_above after p.key.time

-- `b` is the first version of the component later than `after`
pub record IsFirstVersion (kind : Kind) (id : ℕ) (after : Option ℕ) (xs : List (ℕ × RowPlace))
    (b : ℕ × RowPlace) : Type 0 where
  pub there : Has xs b
  pub version : is_version_above kind id after b.1 ≡ true
  pub first : (x : ℕ × RowPlace) → Has xs x → is_version_above kind id after x.1 ≡ true
      → b.1.key.time ≤ x.1.key.time

unfoldable pub IsNextVersion : Kind → ℕ → Option ℕ → List (ℕ × RowPlace) → Option (ℕ × RowPlace)
    → Type 0
IsNextVersion kind id after xs None =
    (x : ℕ × RowPlace) → Has xs x → is_version_above kind id after x.1 ≡ true → ⊥
IsNextVersion kind id after xs (Some b) = IsFirstVersion kind id after xs b
