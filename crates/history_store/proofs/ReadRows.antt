-- Rows that are read at places that were taken.
use Rattle.std.specs.Prelude.{Some, slice_get, if◌then◌else◌}
use Rattle.std.specs.List.{AllByRecursion, AllZip}
use Rattle.std.proofs.Common.{◌≡◌, ℕ, zero, suc, ◌+◌, ◌*◌, ◌<◌, ◌≤◌, Bool, true, false, List, [], ◌∷◌, ◌++◌, length, length-append, map, take, get_or, refl, sym, ap, subst, ◌∙◌, arith}
use Rattle.std.proofs.lemmas.List.{take_all}
use Rattle.std.proofs.lemmas.Slice.Zip.{AllZip-long}
use Rattle.std.proofs.lemmas.List.Sums.{sum_by-cons, sum_by-append}
use Rattle.std.specs.declared.cmp.Ordering.TheVariants.{Less}
use Rattle.rf2_values.specs.declared.key.Key.{Key}
use Rattle.rf2_values.specs.Key.{key_of, key_cmp}
use Rattle.history_model.specs.InOrder.{IsAscending}
use Rattle.history_model.specs.History.{stamped_cmp}
use Rattle.history_model.specs.declared.stamped.StampedRow.{StampedRow}
use Rattle.segment.specs.declared.place.RowPlace.{RowPlace}
use Rattle.segment.specs.Records.{IsStamped, record_of, segment_of}
use Rattle.as_of_index.specs.Places.{place_cmp}
use Rattle.segment.specs.Standing.{StandsAt}
use Rattle.segment.proofs.Posting.{says}
use Rattle.merge.specs.declared.Taken.{Taken}
use Rattle.merge.specs.Merged.{StandsTaken}
use Rattle.history_store.specs.Private.Stepping.{StandsIn, IsReadAt, AreAscending, bytes_at, cost_at}

pub from_one : (rows : List StampedRow) → AllByRecursion IsStamped rows → AllByRecursion (λ s. 1 ≤ s.import) rows
from_one [] all = tt
from_one (s ∷ rows) all = (all.0.from_one, from_one rows all.1)

-- ---- rows that are read where others stand

-- as many bytes as the places say
pub read_bytes : (taken : List Taken) (rows : List StampedRow) → AllZip IsReadAt taken rows → length (segment_of rows) ≡ bytes_at taken
unfolding segment_of
read_bytes [] [] read = refl
read_bytes [] (r ∷ rows) read = absurd read
read_bytes (t ∷ taken) [] read = absurd read
read_bytes (t ∷ taken) (r ∷ rows) read =
    omega (arith, read_bytes taken rows read.1, read.0.bytes, length-append (record_of r) (segment_of rows), sum_by-cons (λ (u : Taken). u.place.bytes) t taken)

below_each : (t : Taken) (r : StampedRow) (taken : List Taken) (rows : List StampedRow) → key_of r.row ≡ t.place.key → AllZip IsReadAt taken rows → AllByRecursion (λ p. place_cmp t.place p ≡ Less) (map (λ (u : Taken). u.place) taken) → AllByRecursion (λ s. stamped_cmp r s ≡ Less) rows
below_each t r [] [] same read all = tt
below_each t r [] (s ∷ rows) same read all = absurd read
below_each t r (u ∷ taken) [] same read all = absurd read
below_each t r (u ∷ taken) (s ∷ rows) same read all =
    (ap (λ (k : Key). key_cmp k (key_of s.row)) same ∙ ap (λ (k : Key). key_cmp t.place.key k) read.0.is.0 ∙ all.0, below_each t r taken rows same read.1 all.1)

-- in the order of the places
pub read_ascend : (taken : List Taken) (rows : List StampedRow) → AllZip IsReadAt taken rows → AreAscending taken → IsAscending stamped_cmp rows
read_ascend [] [] read up = tt
read_ascend [] (r ∷ rows) read up = absurd read
read_ascend (t ∷ taken) [] read up = absurd read
read_ascend (t ∷ taken) (r ∷ rows) read up = (below_each t r taken rows read.0.is.0 read.1 up.0, read_ascend taken rows read.1 up.1)

-- ---- places at which rows stand

place_key : (a b : List StampedRow) (t : Taken) (s : StampedRow) → StandsTaken a b t s → key_of s.row ≡ t.place.key
place_key a b t s stands = sym (says 0 stands.rows (s, t.place) stands.there).key_is

above_each : (a b : List StampedRow) (t : Taken) (r : StampedRow) (taken : List Taken) (rows : List StampedRow) → key_of r.row ≡ t.place.key → AllZip (StandsTaken a b) taken rows → AllByRecursion (λ s. stamped_cmp r s ≡ Less) rows → AllByRecursion (λ p. place_cmp t.place p ≡ Less) (map (λ (u : Taken). u.place) taken)
above_each a b t r [] [] same stand all = tt
above_each a b t r [] (s ∷ rows) same stand all = absurd stand
above_each a b t r (u ∷ taken) [] same stand all = absurd stand
above_each a b t r (u ∷ taken) (s ∷ rows) same stand all =
    (sym (ap (λ (k : Key). key_cmp k (key_of s.row)) same ∙ ap (λ (k : Key). key_cmp t.place.key k) (place_key a b u s stand.0)) ∙ all.0, above_each a b t r taken rows same stand.1 all.1)

pub places_ascend : (a b : List StampedRow) (taken : List Taken) (want : List StampedRow) → AllZip (StandsTaken a b) taken want → IsAscending stamped_cmp want → AreAscending taken
places_ascend a b [] [] stand up = tt
places_ascend a b [] (s ∷ want) stand up = absurd stand
places_ascend a b (t ∷ taken) [] stand up = absurd stand
places_ascend a b (t ∷ taken) (s ∷ want) stand up = (above_each a b t s taken want (place_key a b t s stand.0) stand.1 up.0, places_ascend a b taken want stand.1 up.1)

pub read_are_stamped : (taken : List Taken) (rows : List StampedRow) → AllZip IsReadAt taken rows → AllByRecursion IsStamped rows
read_are_stamped [] [] read = tt
read_are_stamped [] (r ∷ rows) read = absurd read
read_are_stamped (t ∷ taken) [] read = absurd read
read_are_stamped (t ∷ taken) (r ∷ rows) read = (read.0.stamped, read_are_stamped taken rows read.1)

-- the two lists are two of several
stands_at : (lists : List (List StampedRow)) (i j : ℕ) (a b : List StampedRow) (p : RowPlace) (s : StampedRow) → slice_get lists i ≡ Some a → slice_get lists j ≡ Some b
    → (second : Bool) → StandsAt (a ∷ b ∷ []) (if second then 1 else 0) p s → StandsAt lists (if second then j else i) p s
stands_at lists i j a b p s is_a is_b false w = record { rows = w.rows; list_is = is_a ∙ w.list_is; there = w.there }
stands_at lists i j a b p s is_a is_b true w = record { rows = w.rows; list_is = is_b ∙ w.list_is; there = w.there }

pub all_stand_in : (lists : List (List StampedRow)) (i j : ℕ) (a b : List StampedRow) (taken : List Taken) (want : List StampedRow) → slice_get lists i ≡ Some a → slice_get lists j ≡ Some b → AllZip (StandsTaken a b) taken want → AllZip (StandsIn lists i j) taken want
all_stand_in lists i j a b [] [] is_a is_b stand = tt
all_stand_in lists i j a b [] (s ∷ want) is_a is_b stand = absurd stand
all_stand_in lists i j a b (t ∷ taken) [] is_a is_b stand = absurd stand
all_stand_in lists i j a b (t ∷ taken) (s ∷ want) is_a is_b stand = (stands_at lists i j a b t.place s is_a is_b t.second stand.0, all_stand_in lists i j a b taken want is_a is_b stand.1)

-- ---- lists that are gone over together

-- an item and the one that goes with it
pub zip_at : {X Y : Type 0} (R : X → Y → Type 0) (xs : List X) (ys : List Y) (i : ℕ) (x : X) → AllZip R xs ys → i < length xs → x ≡ get_or xs i x → (y : Y) × R x y × (take (suc i) ys ≡ take i ys ++ y ∷ [])
zip_at R [] ys i x all lt is = absurd (omega arith)
zip_at R (a ∷ xs) [] i x all lt is = absurd all
zip_at R (a ∷ xs) (b ∷ ys) zero x all lt is = (b, subst (λ z. R z b) (sym is) all.0, refl)
zip_at R (a ∷ xs) (b ∷ ys) (suc i) x all lt is = let w = zip_at R xs ys i x all.1 (omega arith) is in (w.0, w.1, ap (λ l. b ∷ l) w.2)

pub zip_end : {X Y : Type 0} (R : X → Y → Type 0) (xs : List X) (ys : List Y) (i : ℕ) → AllZip R xs ys → length xs ≤ i → take i ys ≡ ys
zip_end R xs ys i all past = let long = AllZip-long R xs ys all in take_all i ys (omega (arith, long))

-- ---- what reading costs

abbrev cost_of : Taken → ℕ
cost_of t = t.place.bytes + 8192

pub cost_push : (taken : List Taken) (t : Taken) → cost_at (taken ++ t ∷ []) ≡ cost_at taken + (t.place.bytes + 8192)
cost_push taken t = omega (arith, sum_by-append cost_of taken (t ∷ []), sum_by-cons cost_of t [])

-- the first places cost no more than all
pub cost_take : (k : ℕ) (taken : List Taken) → cost_at (take k taken) ≤ cost_at taken
cost_take zero taken = omega arith
cost_take (suc k) [] = omega arith
cost_take (suc k) (t ∷ taken) = omega (arith, cost_take k taken, sum_by-cons cost_of t (take k taken), sum_by-cons cost_of t taken)

pub cost_sum : (taken : List Taken) → cost_at taken ≡ bytes_at taken + 8192 * length taken
cost_sum [] = refl
cost_sum (t ∷ taken) = omega (arith, cost_sum taken, sum_by-cons cost_of t taken, sum_by-cons (λ (u : Taken). u.place.bytes) t taken)
