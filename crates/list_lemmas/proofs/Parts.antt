-- The first of a list, what is behind them, and lists that are put together.
use Rattle.std.proofs.Common.{◌≡◌, ℕ, zero, suc, ◌+◌, ◌-◌, ◌<◌, ◌≤◌, List, [], ◌∷◌, ◌++◌, length, take, drop, get_or, Some, refl, sym, ap, subst, ◌∙◌, append_assoc, arith}
use Rattle.std.specs.Prelude.{slice_get}
use Rattle.std.specs.List.{AllZip}
use Rattle.std.specs.List.Sorted.{IsPermutation}
use Rattle.std.proofs.lemmas.List.{take_all, drop_all, take_more, take-take, take-append-drop, drop-take, length-take, length-drop, length_push, ext_get_or, get_or-take, get_or-drop}
use Rattle.std.proofs.lemmas.List.Sorted.{IsPermutation-trans, IsPermutation-middle, IsPermutation-cons, IsPermutation-sym, IsPermutation-to_front}
use Rattle.std.proofs.lemmas.Slice.Zip.{AllZip-long}

-- ---- as much as there is, and nothing

-- as many as it has are the list
pub take_whole : {X : Type 0} (xs : List X) → take (length xs) xs ≡ xs
take_whole xs = take_all (length xs) xs (omega arith)

-- behind as many as it has is nothing
pub drop_whole : {X : Type 0} (xs : List X) → drop (length xs) xs ≡ []
drop_whole xs = drop_all (length xs) xs (omega arith)

-- behind none is the list
pub drop_none : {X : Type 0} (xs : List X) → drop 0 xs ≡ xs
drop_none [] = refl
drop_none (x ∷ xs) = refl

-- no more are taken than are asked for
pub taken_at_most : {X : Type 0} (n : ℕ) (xs : List X) → length (take n xs) ≤ n
taken_at_most n xs = omega (arith, length-take n xs)

-- before a place so many are taken as its number says, counted from 0
pub taken_before : {X : Type 0} (xs : List X) (i : ℕ) → i < length xs → 0 + length (take i xs) ≡ i
taken_before xs i within = omega (arith, within, length-take i xs)

-- ---- more

-- one more of the first, which was read
pub take_one_more : {X : Type 0} (xs : List X) (i : ℕ) (x : X) → i < length xs → x ≡ get_or xs i x
    → take (i + 1) xs ≡ take i xs ++ x ∷ []
take_one_more xs i x within read = take_more xs i x within ∙ ap (λ y. take i xs ++ y ∷ []) (sym read)

-- so many, and then so many more
pub take_sum : {X : Type 0} (n m : ℕ) (xs : List X)
    → take (n + m) xs ≡ take n xs ++ take m (drop n xs)
take_sum {X} n m xs =
    sym (take-append-drop n (take (n + m) xs))
    ∙ ap (λ (l : List X). l ++ drop n (take (n + m) xs)) (take-take n (n + m) xs (omega arith))
    ∙ ap (λ (l : List X). take n xs ++ l) (drop-take n m xs)

-- with one behind it a list is longer by one
pub one_longer : {X : Type 0} (xs ys : List X) (x : X) → xs ≡ ys ++ x ∷ []
    → length xs ≡ length ys + 1
one_longer {X} xs ys x pushed = ap (λ (l : List X). length l) pushed ∙ length_push ys x

-- and then it is no longer than the room that was left
pub room_for_one : {X : Type 0} (xs : List X) (x : X) (room : ℕ) → length xs < room
    → length (xs ++ x ∷ []) ≤ room
room_for_one xs x room less = omega (arith, less, length_push xs x)

-- what has a number keeps it, whatever comes behind
pub number_stays : {X : Type 0} (xs ys : List X) (i : ℕ) (x : X) → slice_get xs i ≡ Some x
    → slice_get (xs ++ ys) i ≡ Some x
number_stays [] ys i x found = absurd cc
number_stays (y ∷ xs) ys zero x found = found
number_stays (y ∷ xs) ys (suc i) x found = number_stays xs ys i x found

-- ---- one that stands in a list

-- lists that begin with one and have others behind it
pub same_first_and_rest : {X : Type 0} (x y : X) (xs ys : List X) → x ∷ xs ≡ y ∷ ys
    → (x ≡ y) × (xs ≡ ys)
same_first_and_rest x y xs ys same = (cc, cc)

-- behind its place a list is the same, whatever stands there
pub drop_beyond : {X : Type 0} (n : ℕ) (before after : List X) (x y : X) → length before < n
    → drop n (before ++ x ∷ after) ≡ drop n (before ++ y ∷ after)
drop_beyond zero before after x y short = absurd (omega (arith, short))
drop_beyond (suc n) [] after x y short = refl
drop_beyond (suc n) (z ∷ before) after x y short = drop_beyond n before after x y (omega (arith, short))

-- the first so many, where it is one of them
pub take_beyond : {X : Type 0} (n : ℕ) (before after : List X) (x : X) → length before < n
    → take n (before ++ x ∷ after) ≡ before ++ x ∷ take (n - (length before + 1)) after
take_beyond zero before after x short = absurd (omega (arith, short))
take_beyond (suc n) [] after x short = let e : suc n - (0 + 1) ≡ n = omega arith in ap (λ (m : ℕ). x ∷ take m after) (sym e)
take_beyond {X} (suc n) (z ∷ before) after x short =
    let e : suc n - (suc (length before) + 1) ≡ n - (length before + 1) = omega arith in
    ap (λ (l : List X). z ∷ l) (take_beyond n before after x (omega (arith, short)) ∙ ap (λ (m : ℕ). before ++ x ∷ take m after) (sym e))

-- a part of a piece of numbers is a part of all
pub part_of_piece : (place n j m : ℕ) (all piece : List ℕ) → take n (drop place all) ≡ piece
    → length piece ≡ n → place + n ≤ length all → j + m ≤ n
    → take m (drop (place + j) all) ≡ take m (drop j piece)
part_of_piece place n j m all piece is long there fits =
    ext_get_or 0 (take m (drop (place + j) all)) (take m (drop j piece)) (simp (length-take, length-drop) (omega (arith, long, there, fits))) (λ i lt.
    let here : i < m = omega (arith, length-take m (drop (place + j) all), lt) in
    get_or-take m (drop (place + j) all) i 0 here
    ∙ get_or-drop (place + j) all i 0
    ∙ ap (λ k. get_or all k 0) (omega arith)
    ∙ sym (get_or-drop place all (j + i) 0)
    ∙ sym (get_or-take n (drop place all) (j + i) 0 (omega (arith, here, fits)))
    ∙ ap (λ l. get_or l (j + i) 0) is
    ∙ sym (get_or-drop j piece i 0)
    ∙ sym (get_or-take m (drop j piece) i 0 here))

-- ---- two lists

-- lists whose elements belong together in turn are equally long
pub zip_lengths : {X Y : Type 0} (R : X → Y → Type 0) (xs : List X) (ys : List Y) → AllZip R xs ys
    → length xs ≡ length ys
zip_lengths R xs ys each = sym (AllZip-long R xs ys each)

-- two lists have what a third one has in another order; the first and the third get one more
pub permuted_with_last : {X : Type 0} (xs ys all : List X) (z : X) → IsPermutation (xs ++ ys) all
    → IsPermutation ((xs ++ z ∷ []) ++ ys) (all ++ z ∷ [])
permuted_with_last xs ys all z same =
    subst (λ l. IsPermutation l (all ++ z ∷ [])) (sym (append_assoc xs (z ∷ []) ys))
    (IsPermutation-trans (xs ++ z ∷ ys) (z ∷ (xs ++ ys)) (all ++ z ∷ []) (IsPermutation-middle xs z ys)
    (IsPermutation-trans (z ∷ (xs ++ ys)) (z ∷ all) (all ++ z ∷ []) (IsPermutation-cons z (xs ++ ys) all same)
    (IsPermutation-sym (all ++ z ∷ []) (z ∷ all) (IsPermutation-to_front all z))))
