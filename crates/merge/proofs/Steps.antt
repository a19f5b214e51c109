-- Lemmas on one step of a merge.
use Rattle.std.proofs.Common.{◌≡◌, ℕ, zero, suc, ◌+◌, ◌-◌, ◌<◌, ◌≤◌, Bool, true, false, List, [], ◌∷◌, ◌++◌, length, take, drop, map, not, refl, sym, ap, subst, inl, ◌∙◌, arith, add-one, append_assoc, append-nil, length-drop}
use Rattle.std.specs.Prelude.{Option, Some, None, slice_get, if◌then◌else◌}
use Rattle.std.specs.List.{AllByRecursion, AllZip, filter, drop-map}
use Rattle.std.proofs.lemmas.List.{map-append, take_rest}
use Rattle.std.proofs.lemmas.List.Elements.{filter-append}
use Rattle.std.specs.Ordering.{is_lt}
use Rattle.std.specs.declared.cmp.Ordering.TheVariants.{Less, Equal, Greater}
use Rattle.std.proofs.lemmas.Slice.Zip.{all_zipped_more}
use Rattle.rf2_values.specs.Key.{key_of, key_cmp}
use Rattle.history_model.specs.declared.stamped.StampedRow.{StampedRow}
use Rattle.history_model.specs.InOrder.{Has, IsAscending}
use Rattle.history_model.specs.History.{stamped_cmp}
use Rattle.history_model.specs.Lists.{AreLists, union}
use Rattle.history_model.proofs.InOrder.{above, below_all}
use Rattle.history_model.proofs.Keys.{stamped_total, same_key}
use Rattle.history_model.proofs.Items.{Has-drop}
use Rattle.history_model.proofs.Filtered.{IsAscending-drop}
use Rattle.history_model.proofs.Unions.{AreTwo, union_none, union_left, union_right}
use Rattle.segment.specs.declared.place.RowPlace.{RowPlace}
use Rattle.segment.specs.Standing.{record_len, row_place, with_places, places_of}
use Rattle.merge.specs.declared.Taken.{Taken}
use Rattle.merge.specs.Merged.{StandsTaken, taken_of_a, taken_of_b}
use Rattle.merge.specs.Private.{of_a, of_b, next_place}

are_apart : (xs ys : List StampedRow) → AreLists (xs ∷ ys ∷ []) → AreTwo xs ys
are_apart xs ys are = record { xs_ascend = are.ascending.0; ys_ascend = are.ascending.1.0; apart = are.apart.0.0 }

AreTwo-drop : (xs ys : List StampedRow) (i j : ℕ) → AreTwo xs ys → AreTwo (drop i xs) (drop j ys)
AreTwo-drop xs ys i j h = record {
  xs_ascend = IsAscending-drop stamped_cmp i xs h.xs_ascend;
  ys_ascend = IsAscending-drop stamped_cmp j ys h.ys_ascend;
  apart = λ s t p q. h.apart s t (Has-drop i xs s p) (Has-drop j ys t q);
}

-- ---- the first of the union

-- below the first, if there is one
abbrev IsFirst : StampedRow → List StampedRow → Type 0
IsFirst x [] = Unit {0}
IsFirst x (y ∷ ys) = stamped_cmp x y ≡ Less

below_each : (x : StampedRow) (ys : List StampedRow) → IsAscending stamped_cmp ys → IsFirst x ys → AllByRecursion (λ y. stamped_cmp x y ≡ Less) ys
below_each x [] up first = tt
below_each x (y ∷ ys) up first = (first, below_all stamped_total x y ys first up.0)

-- a row that isn't above another one with another key is below it
not_above : (x y : StampedRow) → (key_of x.row ≡ key_of y.row → ⊥) → is_lt (stamped_cmp y x) ≡ false → stamped_cmp x y ≡ Less
not_above x y differ not_below =
    elim (stamped_cmp y x) as (λ r. stamped_cmp y x ≡ r → is_lt r ≡ false → stamped_cmp x y ≡ Less) [
      | Less ↦ λ e off. absurd cc
      | Equal ↦ λ e off. absurd (differ (sym (same_key (key_of y.row) (key_of x.row) e)))
      | Greater ↦ λ e off. above stamped_total y x e
    ] refl not_below

below : (x y : StampedRow) → is_lt (stamped_cmp x y) ≡ true → stamped_cmp x y ≡ Less
below x y is = elim (stamped_cmp x y) as (λ r. is_lt r ≡ true → r ≡ Less) [ Less ↦ λ on. refl | Equal ↦ λ on. absurd cc | Greater ↦ λ on. absurd cc ] is

-- ---- the place that comes next

abbrev places_from : ℕ → List StampedRow → List RowPlace
places_from at rows = map (λ (x : StampedRow × RowPlace). x.1) (with_places at rows)

-- the first row of what is left of a list, and where it stands
record IsNextOf (p : RowPlace) (at : ℕ) (left both : List StampedRow) (joined : List StampedRow → List StampedRow) : Type 0 where
  row : StampedRow
  rest : List StampedRow
  left_is : left ≡ row ∷ rest
  place_is : p ≡ row_place row at
  first : both ≡ row ∷ joined rest

next_of_a : (xs ys : List StampedRow) (at to : ℕ) (t : Taken) → AreTwo xs ys → t.second ≡ false → next_place (places_from at xs) (places_from to ys) ≡ Some t
    → IsNextOf t.place at xs (union xs ys) (λ rest. union rest ys)
unfolding row_place
next_of_a [] [] at to t h side e = absurd cc
next_of_a [] (y ∷ ys) at to t h side e = absurd cc
next_of_a (x ∷ xs) [] at to t h side e = record { row = x; rest = xs; left_is = refl; place_is = (let same : of_a (row_place x at) ≡ t = cc in sym (ap (λ (u : Taken). u.place) same)); first = union_left x xs [] h (below_each x [] h.ys_ascend tt) }
next_of_a (x ∷ xs) (y ∷ ys) at to t h side e =
    elim (is_lt (stamped_cmp y x)) as (λ b. is_lt (stamped_cmp y x) ≡ b → Some (if b then of_b (row_place y to) else of_a (row_place x at)) ≡ Some t → IsNextOf t.place at (x ∷ xs) (union (x ∷ xs) (y ∷ ys)) (λ rest. union rest (y ∷ ys))) [
      | true ↦ λ is e. absurd (let same : of_b (row_place y to) ≡ t = cc in let sides = ap (λ (u : Taken). u.second) same in cc)
      | false ↦ λ is e. record {
        row = x;
        rest = xs;
        left_is = refl;
        place_is = (let same : of_a (row_place x at) ≡ t = cc in sym (ap (λ (u : Taken). u.place) same));
        first = union_left x xs (y ∷ ys) h (below_each x (y ∷ ys) h.ys_ascend (not_above x y (h.apart x y (inl refl) (inl refl)) is));
      }
    ] refl e

next_of_b : (xs ys : List StampedRow) (at to : ℕ) (t : Taken) → AreTwo xs ys → t.second ≡ true → next_place (places_from at xs) (places_from to ys) ≡ Some t
    → IsNextOf t.place to ys (union xs ys) (λ rest. union xs rest)
unfolding row_place
next_of_b [] [] at to t h side e = absurd cc
next_of_b (x ∷ xs) [] at to t h side e = absurd cc
next_of_b [] (y ∷ ys) at to t h side e = record { row = y; rest = ys; left_is = refl; place_is = (let same : of_b (row_place y to) ≡ t = cc in sym (ap (λ (u : Taken). u.place) same)); first = union_right y [] ys h (below_each y [] h.xs_ascend tt) }
next_of_b (x ∷ xs) (y ∷ ys) at to t h side e =
    elim (is_lt (stamped_cmp y x)) as (λ b. is_lt (stamped_cmp y x) ≡ b → Some (if b then of_b (row_place y to) else of_a (row_place x at)) ≡ Some t → IsNextOf t.place to (y ∷ ys) (union (x ∷ xs) (y ∷ ys)) (λ rest. union (x ∷ xs) rest)) [
      | false ↦ λ is e. absurd (let same : of_a (row_place x at) ≡ t = cc in let sides = ap (λ (u : Taken). u.second) same in cc)
      | true ↦ λ is e. record {
        row = y;
        rest = ys;
        left_is = refl;
        place_is = (let same : of_b (row_place y to) ≡ t = cc in sym (ap (λ (u : Taken). u.place) same));
        first = union_right y (x ∷ xs) ys h (below_each y (x ∷ xs) h.xs_ascend (below y x is));
      }
    ] refl e

-- the next of two slices from places on
pub next_from : (i j : ℕ) (a b : List RowPlace) (next : Option Taken) → next ≡ next_place (take (length a - i) (drop i a)) (take (length b - j) (drop j b)) → next_place (drop i a) (drop j b) ≡ next
next_from i j a b next is = sym (is ∙ ap (λ (l : List RowPlace). next_place l (take (length b - j) (drop j b))) (take_rest a i) ∙ ap (next_place (drop i a)) (take_rest b j))

-- ---- and where it stands in the whole list

left_places : (i at : ℕ) (rows : List StampedRow) → (to : ℕ) × (drop i (with_places at rows) ≡ with_places to (drop i rows))
left_places zero at rows = (at, refl)
left_places (suc i) at [] = (at, refl)
left_places (suc i) at (r ∷ rows) = left_places i (at + record_len r) rows

left_posted : (i to : ℕ) (rows : List StampedRow) → drop i (with_places 0 rows) ≡ with_places to (drop i rows) → drop i (places_of rows) ≡ places_from to (drop i rows)
left_posted i to rows e = drop-map (λ (x : StampedRow × RowPlace). x.1) i (with_places 0 rows) ∙ ap (map (λ (x : StampedRow × RowPlace). x.1)) e

one_less : {X : Type 0} (i : ℕ) (xs : List X) (x : X) (rest : List X) → drop i xs ≡ x ∷ rest → drop (suc i) xs ≡ rest
one_less zero [] x rest e = absurd cc
one_less zero (y ∷ xs) x rest e = cc
one_less (suc i) [] x rest e = absurd cc
one_less (suc i) (y ∷ xs) x rest e = one_less i xs x rest e

-- a row stands at the place, and is the first of those that were left; the others are left
pub record IsTurn (xs ys : List StampedRow) (t : Taken) (left after : List StampedRow) : Type 0 where
  pub row : StampedRow
  pub stands : StandsTaken xs ys t row
  pub left_is : left ≡ row ∷ after

stood : (xs : List StampedRow) (i to : ℕ) (p : RowPlace) (row : StampedRow) (rest : List StampedRow) → drop i (with_places 0 xs) ≡ with_places to (drop i xs) → drop i xs ≡ row ∷ rest → p ≡ row_place row to → Has (with_places 0 xs) (row, p)
stood xs i to p row rest from left place =
    Has-drop i (with_places 0 xs) (row, p) (subst (λ (l : List (StampedRow × RowPlace)). Has l (row, p)) (sym (from ∙ ap (with_places to) left)) (inl (ap (λ (q : RowPlace). (row, q)) (sym place))))

turn_a : (xs ys : List StampedRow) (i j : ℕ) (t : Taken) → AreLists (xs ∷ ys ∷ []) → t.second ≡ false → next_place (drop i (places_of xs)) (drop j (places_of ys)) ≡ Some t
    → IsTurn xs ys t (union (drop i xs) (drop j ys)) (union (drop (i + 1) xs) (drop j ys))
turn_a xs ys i j t are side e =
    let of_xs = left_places i 0 xs in
    let of_ys = left_places j 0 ys in
    let next = next_of_a (drop i xs) (drop j ys) of_xs.0 of_ys.0 t (AreTwo-drop xs ys i j (are_apart xs ys are)) side
    (subst (λ (l : List RowPlace). next_place l (places_from of_ys.0 (drop j ys)) ≡ Some t) (left_posted i of_xs.0 xs of_xs.1) (subst (λ (l : List RowPlace). next_place (drop i (places_of xs)) l ≡ Some t) (left_posted j of_ys.0 ys of_ys.1) e)) in
    record {
      row = next.row;
      stands = record {
        rows = xs;
        list_is = ap (λ (b : Bool). slice_get (xs ∷ ys ∷ []) (if b then 1 else 0)) side;
        there = stood xs i of_xs.0 t.place next.row next.rest of_xs.1 next.left_is next.place_is;
      };
      left_is = next.first ∙ ap (λ (l : List StampedRow). next.row ∷ union l (drop j ys)) (sym (one_less i xs next.row next.rest next.left_is) ∙ ap (λ (k : ℕ). drop k xs) (sym (add-one i)));
    }

turn_b : (xs ys : List StampedRow) (i j : ℕ) (t : Taken) → AreLists (xs ∷ ys ∷ []) → t.second ≡ true → next_place (drop i (places_of xs)) (drop j (places_of ys)) ≡ Some t
    → IsTurn xs ys t (union (drop i xs) (drop j ys)) (union (drop i xs) (drop (j + 1) ys))
turn_b xs ys i j t are side e =
    let of_xs = left_places i 0 xs in
    let of_ys = left_places j 0 ys in
    let next = next_of_b (drop i xs) (drop j ys) of_xs.0 of_ys.0 t (AreTwo-drop xs ys i j (are_apart xs ys are)) side
    (subst (λ (l : List RowPlace). next_place l (places_from of_ys.0 (drop j ys)) ≡ Some t) (left_posted i of_xs.0 xs of_xs.1) (subst (λ (l : List RowPlace). next_place (drop i (places_of xs)) l ≡ Some t) (left_posted j of_ys.0 ys of_ys.1) e)) in
    record {
      row = next.row;
      stands = record {
        rows = ys;
        list_is = ap (λ (b : Bool). slice_get (xs ∷ ys ∷ []) (if b then 1 else 0)) side;
        there = stood ys j of_ys.0 t.place next.row next.rest of_ys.1 next.left_is next.place_is;
      };
      left_is = next.first ∙ ap (λ (l : List StampedRow). next.row ∷ union (drop i xs) l) (sym (one_less j ys next.row next.rest next.left_is) ∙ ap (λ (k : ℕ). drop k ys) (sym (add-one j)));
    }

-- ---- the fronts of the lists

head_a : (a b : List RowPlace) (t : Taken) → t.second ≡ false → next_place a b ≡ Some t → (rest : List RowPlace) × (a ≡ t.place ∷ rest)
head_a [] [] t side e = absurd cc
head_a [] (q ∷ b) t side e = absurd cc
head_a (p ∷ a) [] t side e = (a, let same : of_a p ≡ t = cc in ap (λ (u : Taken). u.place ∷ a) same)
head_a (p ∷ a) (q ∷ b) t side e =
    elim (is_lt (key_cmp q.key p.key)) as (λ v. Some (if v then of_b q else of_a p) ≡ Some t → (rest : List RowPlace) × ((p ∷ a) ≡ t.place ∷ rest)) [
      | true ↦ λ e. absurd (let same : of_b q ≡ t = cc in let sides = ap (λ (u : Taken). u.second) same in cc)
      | false ↦ λ e. (a, let same : of_a p ≡ t = cc in ap (λ (u : Taken). u.place ∷ a) same)
    ] e

head_b : (a b : List RowPlace) (t : Taken) → t.second ≡ true → next_place a b ≡ Some t → (rest : List RowPlace) × (b ≡ t.place ∷ rest)
head_b [] [] t side e = absurd cc
head_b (p ∷ a) [] t side e = absurd cc
head_b [] (q ∷ b) t side e = (b, let same : of_b q ≡ t = cc in ap (λ (u : Taken). u.place ∷ b) same)
head_b (p ∷ a) (q ∷ b) t side e =
    elim (is_lt (key_cmp q.key p.key)) as (λ v. Some (if v then of_b q else of_a p) ≡ Some t → (rest : List RowPlace) × ((q ∷ b) ≡ t.place ∷ rest)) [
      | false ↦ λ e. absurd (let same : of_a p ≡ t = cc in let sides = ap (λ (u : Taken). u.second) same in cc)
      | true ↦ λ e. (b, let same : of_b q ≡ t = cc in ap (λ (u : Taken). u.place ∷ b) same)
    ] e

within : (i : ℕ) (a : List RowPlace) (p : RowPlace) (rest : List RowPlace) → drop i a ≡ p ∷ rest → i < length a
within i a p rest e = let l = ap length e in omega (arith, l, length-drop i a)

pub within_a : (a b : List RowPlace) (i j : ℕ) (t : Taken) → t.second ≡ false → next_place (drop i a) (drop j b) ≡ Some t → i < length a
within_a a b i j t side e = let h = head_a (drop i a) (drop j b) t side e in within i a t.place h.0 h.1

pub within_b : (a b : List RowPlace) (i j : ℕ) (t : Taken) → t.second ≡ true → next_place (drop i a) (drop j b) ≡ Some t → j < length b
within_b a b i j t side e = let h = head_b (drop i a) (drop j b) t side e in within j b t.place h.0 h.1

one_on : (i : ℕ) (a : List RowPlace) (p : RowPlace) (rest front : List RowPlace) → drop i a ≡ p ∷ rest → (front ++ p ∷ []) ++ drop (i + 1) a ≡ front ++ drop i a
one_on i a p rest front e =
    append_assoc front (p ∷ []) (drop (i + 1) a) ∙ ap (λ (l : List RowPlace). front ++ (p ∷ l)) (ap (λ (k : ℕ). drop k a) (add-one i) ∙ one_less i a p rest e) ∙ ap (λ (l : List RowPlace). front ++ l) (sym e)

of_a-push : (taken : List Taken) (t : Taken) → taken_of_a (taken ++ t ∷ []) ≡ taken_of_a taken ++ taken_of_a (t ∷ [])
of_a-push taken t = ap (map (λ (u : Taken). u.place)) (filter-append (λ (u : Taken). not u.second) taken (t ∷ [])) ∙ map-append (λ (u : Taken). u.place) (filter (λ (u : Taken). not u.second) taken) (filter (λ (u : Taken). not u.second) (t ∷ []))

of_b-push : (taken : List Taken) (t : Taken) → taken_of_b (taken ++ t ∷ []) ≡ taken_of_b taken ++ taken_of_b (t ∷ [])
of_b-push taken t = ap (map (λ (u : Taken). u.place)) (filter-append (λ (u : Taken). u.second) taken (t ∷ [])) ∙ map-append (λ (u : Taken). u.place) (filter (λ (u : Taken). u.second) taken) (filter (λ (u : Taken). u.second) (t ∷ []))

-- what is taken of the one list leaves the other as it is
pub a_stays : (taken : List Taken) (t : Taken) → t.second ≡ true → taken_of_a (taken ++ t ∷ []) ≡ taken_of_a taken
a_stays taken t side = of_a-push taken t ∙ ap (λ (l : List RowPlace). taken_of_a taken ++ l) none ∙ append-nil (taken_of_a taken) where
  none : taken_of_a (t ∷ []) ≡ []
  none = rw side refl

pub b_stays : (taken : List Taken) (t : Taken) → t.second ≡ false → taken_of_b (taken ++ t ∷ []) ≡ taken_of_b taken
b_stays taken t side = of_b-push taken t ∙ ap (λ (l : List RowPlace). taken_of_b taken ++ l) none ∙ append-nil (taken_of_b taken) where
  none : taken_of_b (t ∷ []) ≡ []
  none = rw side refl

pub a_grows : (a b : List RowPlace) (i j : ℕ) (taken : List Taken) (t : Taken) → t.second ≡ false → next_place (drop i a) (drop j b) ≡ Some t → taken_of_a (taken ++ t ∷ []) ++ drop (i + 1) a ≡ taken_of_a taken ++ drop i a
a_grows a b i j taken t side e =
    let h = head_a (drop i a) (drop j b) t side e in
    ap (λ (l : List RowPlace). l ++ drop (i + 1) a) (of_a-push taken t ∙ ap (λ (l : List RowPlace). taken_of_a taken ++ l) one) ∙ one_on i a t.place h.0 (taken_of_a taken) h.1 where
      one : taken_of_a (t ∷ []) ≡ t.place ∷ []
      one = rw side refl

pub b_grows : (a b : List RowPlace) (i j : ℕ) (taken : List Taken) (t : Taken) → t.second ≡ true → next_place (drop i a) (drop j b) ≡ Some t → taken_of_b (taken ++ t ∷ []) ++ drop (j + 1) b ≡ taken_of_b taken ++ drop j b
b_grows a b i j taken t side e =
    let h = head_b (drop i a) (drop j b) t side e in
    ap (λ (l : List RowPlace). l ++ drop (j + 1) b) (of_b-push taken t ∙ ap (λ (l : List RowPlace). taken_of_b taken ++ l) one) ∙ one_on j b t.place h.0 (taken_of_b taken) h.1 where
      one : taken_of_b (t ∷ []) ≡ t.place ∷ []
      one = rw side refl

-- ---- what was taken so far, and what is left

-- the first of the rows stand at the places, and the others are left
pub record AreTaken (xs ys : List StampedRow) (taken : List Taken) (left after : List StampedRow) : Type 0 where
  pub stand : AllZip (StandsTaken xs ys) taken (take (length taken) left)
  pub after_is : after ≡ drop (length taken) left

take_one : {X : Type 0} (k : ℕ) (xs : List X) (x : X) (rest : List X) → drop k xs ≡ x ∷ rest → take (suc k) xs ≡ take k xs ++ x ∷ []
take_one zero [] x rest e = absurd cc
take_one zero (y ∷ xs) x rest e = let same : y ≡ x = cc in ap (λ z. z ∷ []) same
take_one (suc k) [] x rest e = absurd cc
take_one (suc k) (y ∷ xs) x rest e = ap (λ l. y ∷ l) (take_one k xs x rest e)

length_push : {X : Type 0} (xs : List X) (x : X) → length (xs ++ x ∷ []) ≡ suc (length xs)
length_push [] x = refl
length_push (y ∷ xs) x = ap suc (length_push xs x)

taken_push : (xs ys : List StampedRow) (taken : List Taken) (left after : List StampedRow) (t : Taken) (next : List StampedRow) → AreTaken xs ys taken left after → IsTurn xs ys t after next → AreTaken xs ys (taken ++ t ∷ []) left next
taken_push xs ys taken left after t next so_far turn =
    let rest : drop (length taken) left ≡ turn.row ∷ next = sym so_far.after_is ∙ turn.left_is in
    let longer = length_push taken t in
    record {
      stand = subst (λ n. AllZip (StandsTaken xs ys) (taken ++ t ∷ []) (take n left)) (sym longer)
          (subst (λ l. AllZip (StandsTaken xs ys) (taken ++ t ∷ []) l) (sym (take_one (length taken) left turn.row next rest)) (all_zipped_more (StandsTaken xs ys) taken (take (length taken) left) t turn.row so_far.stand turn.stands));
      after_is = sym (one_less (length taken) left turn.row next rest) ∙ ap (λ n. drop n left) (sym longer);
    }

over_rows : (xs ys : List StampedRow) (a b : List RowPlace) (i j : ℕ) (next : Option Taken) → a ≡ places_of xs → b ≡ places_of ys → next_place (drop i a) (drop j b) ≡ next → next_place (drop i (places_of xs)) (drop j (places_of ys)) ≡ next
over_rows xs ys a b i j next is_a is_b e = sym (ap (λ (l : List RowPlace). next_place (drop i l) (drop j b)) is_a ∙ ap (λ (l : List RowPlace). next_place (drop i (places_of xs)) (drop j l)) is_b) ∙ e

pub taken_a : (xs ys : List StampedRow) (a b : List RowPlace) (i j : ℕ) (taken : List Taken) (left : List StampedRow) (t : Taken) → AreLists (xs ∷ ys ∷ []) → a ≡ places_of xs → b ≡ places_of ys → t.second ≡ false → next_place (drop i a) (drop j b) ≡ Some t
    → AreTaken xs ys taken left (union (drop i xs) (drop j ys)) → AreTaken xs ys (taken ++ t ∷ []) left (union (drop (i + 1) xs) (drop j ys))
taken_a xs ys a b i j taken left t are is_a is_b side e so_far =
    taken_push xs ys taken left (union (drop i xs) (drop j ys)) t (union (drop (i + 1) xs) (drop j ys)) so_far (turn_a xs ys i j t are side (over_rows xs ys a b i j (Some t) is_a is_b e))

pub taken_b : (xs ys : List StampedRow) (a b : List RowPlace) (i j : ℕ) (taken : List Taken) (left : List StampedRow) (t : Taken) → AreLists (xs ∷ ys ∷ []) → a ≡ places_of xs → b ≡ places_of ys → t.second ≡ true → next_place (drop i a) (drop j b) ≡ Some t
    → AreTaken xs ys taken left (union (drop i xs) (drop j ys)) → AreTaken xs ys (taken ++ t ∷ []) left (union (drop i xs) (drop (j + 1) ys))
taken_b xs ys a b i j taken left t are is_a is_b side e so_far =
    taken_push xs ys taken left (union (drop i xs) (drop j ys)) t (union (drop i xs) (drop (j + 1) ys)) so_far (turn_b xs ys i j t are side (over_rows xs ys a b i j (Some t) is_a is_b e))

-- ---- at the end

all_taken : {X : Type 0} (k n : ℕ) (xs : List X) → drop k xs ≡ [] → k ≤ n → (take n xs ≡ take k xs) × (drop n xs ≡ drop k xs)
all_taken zero zero [] e le = (refl, refl)
all_taken zero (suc n) [] e le = (refl, refl)
all_taken zero n (x ∷ xs) e le = absurd cc
all_taken (suc k) zero [] e le = (refl, refl)
all_taken (suc k) (suc n) [] e le = (refl, refl)
all_taken (suc k) zero (x ∷ xs) e le = absurd (omega arith)
all_taken (suc k) (suc n) (x ∷ xs) e le = let t = all_taken k n xs e (omega arith) in (ap (λ l. x ∷ l) t.0, t.1)

none_next : (a b : List RowPlace) → next_place a b ≡ None → (a ≡ []) × (b ≡ [])
none_next [] [] e = (refl, refl)
none_next (p ∷ a) [] e = absurd cc
none_next [] (q ∷ b) e = absurd cc
none_next (p ∷ a) (q ∷ b) e = absurd cc

none_left : (i : ℕ) (rows : List StampedRow) → drop i (places_of rows) ≡ [] → drop i rows ≡ []
none_left i rows e = let from = left_places i 0 rows in only from.0 (drop i rows) (sym (left_posted i from.0 rows from.1) ∙ e) where
  only : (at : ℕ) (l : List StampedRow) → places_from at l ≡ [] → l ≡ []
  only at [] e = refl
  only at (r ∷ l) e = absurd cc

-- so many are taken
pub taken_so_many : (xs ys : List StampedRow) (taken : List Taken) (left after : List StampedRow) (n : ℕ) → AreTaken xs ys taken left after → length taken ≡ n → AllZip (StandsTaken xs ys) taken (take n left) × (after ≡ drop n left)
taken_so_many xs ys taken left after n so_far e = (subst (λ k. AllZip (StandsTaken xs ys) taken (take k left)) e so_far.stand, so_far.after_is ∙ ap (λ k. drop k left) e)

-- no place is left, and so no row
pub taken_all : (xs ys : List StampedRow) (a b : List RowPlace) (i j n : ℕ) (taken : List Taken) (left : List StampedRow) → AreTaken xs ys taken left (union (drop i xs) (drop j ys)) → a ≡ places_of xs → b ≡ places_of ys → next_place (drop i a) (drop j b) ≡ None → length taken ≤ n
    → AllZip (StandsTaken xs ys) taken (take n left) × (union (drop i xs) (drop j ys) ≡ drop n left)
taken_all xs ys a b i j n taken left so_far is_a is_b e le =
    let none = none_next (drop i (places_of xs)) (drop j (places_of ys)) (over_rows xs ys a b i j None is_a is_b e) in
    let empty : union (drop i xs) (drop j ys) ≡ [] = ap (λ (l : List StampedRow). union l (drop j ys)) (none_left i xs none.0) ∙ ap (λ (l : List StampedRow). union [] l) (none_left j ys none.1) ∙ union_none in
    let all = all_taken (length taken) n left (sym so_far.after_is ∙ empty) le in
    (subst (λ (l : List StampedRow). AllZip (StandsTaken xs ys) taken l) (sym all.0) so_far.stand, so_far.after_is ∙ sym all.1)
