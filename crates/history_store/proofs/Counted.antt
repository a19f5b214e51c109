-- How many rows a store lists.
use Rattle.std.proofs.Common.{◌≡◌, ◌+◌, ◌*◌, ◌<◌, ◌≤◌, Bool, true, false, cond, List, [], ◌∷◌, length, map, refl, sym, ap, inl, inr, ◌∙◌, arith, length-append}
use Rattle.std.specs.Prelude.{sum_by}
use Rattle.std.proofs.lemmas.List.Sums.{sum_by-cons}
use Rattle.std.specs.List.{IsDistinct, AllByRecursion, filter}
use Rattle.std.specs.Ordering.{is_eq, eq_by_cmp}
use Rattle.std.specs.declared.cmp.Ordering.{Ordering}
use Rattle.std.specs.declared.cmp.Ordering.TheVariants.{Less, Equal, Greater}
use Rattle.std.proofs.lemmas.Map.Keys.{IsDistinct-head, IsDistinct-tail}
use Rattle.history_model.specs.declared.stamped.StampedRow.{StampedRow}
use Rattle.history_model.specs.InOrder.{Has, joined, placed, put, put_all}
use Rattle.history_model.specs.History.{stamped_cmp}
use Rattle.history_model.specs.Lists.{listed, AreLists}
use Rattle.history_model.proofs.InOrder.{Has-all, Has-put_cases}
use Rattle.directory.specs.declared.entry.Entry.{Entry}
use Rattle.directory.specs.declared.layout.Layout.{Layout}
use Rattle.directory.specs.declared.layout.Layout.TheVariants as layouts
use Rattle.directory.specs.Listings.{DirectoryValue, IsEntry, most_entries}
use Rattle.segment.specs.declared.place.RowPlace.{RowPlace}
use Rattle.segment.specs.Standing.{places_of}
use Rattle.segment.proofs.Posting.{as_many_places}
use Rattle.as_of_index.specs.Places.{Lists}
use Rattle.store_image.specs.Kept.{AreSegments, IsKept}
use Rattle.history_store.proofs.Sorted.{flips, untied_joined}

pub length-more : {X : Type 0} (p : X → Bool) (x : X) (xs : List X) → length (filter p (x ∷ xs)) ≡ cond (p x) 1 0 + length (filter p xs)
length-more p x xs = elim (p x) as (λ b. length (cond b (x ∷ filter p xs) (filter p xs)) ≡ cond b 1 0 + length (filter p xs)) [ true ↦ omega arith | false ↦ omega arith ]

length-put : (p : StampedRow → Bool) (x : StampedRow) (ys : List StampedRow) → ((y : StampedRow) → Has ys y → stamped_cmp x y ≡ Equal → ⊥) → length (filter p (put stamped_cmp x ys)) ≡ length (filter p (x ∷ ys))
length-put p x [] apart = refl
length-put p x (y ∷ ys) apart = each (length-put p x ys (λ z h. apart z (inr h))) (stamped_cmp x y) refl where
  each : length (filter p (put stamped_cmp x ys)) ≡ length (filter p (x ∷ ys)) → (r : Ordering) → stamped_cmp x y ≡ r → length (filter p (placed r x y ys (put stamped_cmp x ys))) ≡ length (filter p (x ∷ y ∷ ys))
  each rest Less e = refl
  each rest Equal e = absurd (apart y (inl refl) e)
  each rest Greater e = omega (arith, rest, length-more p y (put stamped_cmp x ys), length-more p x ys, length-more p x (y ∷ ys), length-more p y ys)

tied : (x y : StampedRow) → stamped_cmp x y ≡ Equal → eq_by_cmp stamped_cmp y x ≡ false → ⊥
tied x y tie differ = let wrong : true ≡ false = sym (ap is_eq tie) ∙ flips x y ∙ differ in absurd (cc)

-- of rows no two of which tie, none is left out
length-put_all : (p : StampedRow → Bool) (xs ys : List StampedRow) → IsDistinct (eq_by_cmp stamped_cmp) xs → ((x y : StampedRow) → Has xs x → Has ys y → stamped_cmp x y ≡ Equal → ⊥) → length (filter p (put_all stamped_cmp xs ys)) ≡ length (filter p xs) + length (filter p ys)
length-put_all p [] ys own apart = omega arith
length-put_all p (x ∷ xs) ys own apart =
    let one = length-put p x ys (λ y h. apart x y (inl refl) h) in
    let rest = length-put_all p xs (put stamped_cmp x ys) (IsDistinct-tail (eq_by_cmp stamped_cmp) x xs own) (λ a y there h tie. elim (Has-put_cases stamped_cmp x ys y h) [
      | inl e ↦ tied a x (ap (λ z. stamped_cmp a z) e ∙ tie) (Has-all (λ t. eq_by_cmp stamped_cmp x t ≡ false) xs a (IsDistinct-head (eq_by_cmp stamped_cmp) x xs own) there)
      | inr k ↦ apart a y (inr there) k tie
    ]) in
    omega (arith, one, rest, length-more p x ys, length-more p x xs)

-- as many of what is listed pass a test as of the lists
pub length-passed : (p : StampedRow → Bool) (lists : List (List StampedRow)) → AreLists lists → length (filter p (listed lists)) ≡ length (filter p (joined lists))
unfolding listed
length-passed p lists are = let all = length-put_all p (joined lists) [] (untied_joined lists are) (λ x y h none. absurd none) in omega (arith, all)

all_pass : {X : Type 0} (xs : List X) → filter (λ x. true) xs ≡ xs
all_pass [] = refl
all_pass (x ∷ xs) = ap (λ t. x ∷ t) (all_pass xs)

length-listed : (lists : List (List StampedRow)) → AreLists lists → length (listed lists) ≡ length (joined lists)
length-listed lists are = ap length (sym (all_pass (listed lists))) ∙ length-passed (λ s. true) lists are ∙ ap length (all_pass (joined lists))

counted : (entries : List Entry) (lists : List (List StampedRow)) → AreSegments entries lists → sum_by (λ (e : Entry). e.rows) entries ≡ length (joined lists)
counted [] [] are = refl
counted [] (rows ∷ lists) are = absurd are
counted (e ∷ entries) [] are = absurd are
counted (e ∷ entries) (rows ∷ lists) are =
    let rest = counted entries lists are.1 in
    let one = are.0.count in
    let first = sum_by-cons (λ (x : Entry). x.rows) e entries in
    let both = length-append rows (joined lists) in
    omega (arith, rest, one, first, both)

-- the entries say how many rows there are
pub rows_counted : (entries : List Entry) (lists : List (List StampedRow)) → AreSegments entries lists → AreLists lists → sum_by (λ (e : Entry). e.rows) entries ≡ length (listed lists)
rows_counted entries lists segments are = counted entries lists segments ∙ sym (length-listed lists are)

-- ---- how many places there are

length-joined_places : (lists : List (List StampedRow)) → length (joined (map places_of lists)) ≡ length (joined lists)
length-joined_places [] = refl
length-joined_places (rows ∷ lists) =
    let first = as_many_places 0 rows in
    let rest = length-joined_places lists in
    omega (arith, first, rest, length-append rows (joined lists), length-append (places_of rows) (joined (map places_of lists)))

sum_below : (entries : List Entry) → AllByRecursion IsEntry entries → sum_by (λ (e : Entry). e.rows) entries ≤ length entries * 4294967296
sum_below [] each = omega arith
sum_below (e ∷ entries) each =
    let rest = sum_below entries each.1 in
    let one = each.0.rows_fit in
    omega (arith, rest, one, sum_by-cons (λ (x : Entry). x.rows) e entries)

few_entries : (layout : Layout) → most_entries layout ≤ 250
few_entries layouts.One = omega arith
few_entries layouts.Two = omega arith
few_entries layouts.Three = omega arith

-- they can be counted
pub few_places : (d : DirectoryValue) (index : List (List RowPlace)) (lists : List (List StampedRow)) → IsKept d lists → Lists index lists → length (joined index) < 18446744073709551616
few_places d index lists kept places =
    let all : length (joined index) ≡ sum_by (λ (e : Entry). e.rows) d.entries = ap (λ ps. length (joined ps)) places ∙ length-joined_places lists ∙ sym (counted d.entries lists kept.segments) in
    let below = sum_below d.entries kept.listing.entries in
    let few = few_entries d.layout in
    let count = kept.listing.count in
    omega (arith, all, below, few, count)
