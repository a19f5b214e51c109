-- The first so many of what is in order, and with the last of them all that tie with it.
use Rattle.std.proofs.Common.{◌≡◌, ℕ, zero, suc, ◌+◌, ◌<◌, ◌≤◌, Bool, true, false, cond, List, [], ◌∷◌, ◌++◌, length, take, drop, map, get_or, refl, sym, ap, subst, inl, inr, ◌∙◌, arith, take-append-drop, append-nil, ◌⊎◌}
use Rattle.std.specs.Prelude.{nat_lt, nat_le, Option, Some, None}
use Rattle.std.specs.List.{filter, AllByRecursion}
use Rattle.std.specs.List.Sorted.{IsNonDecreasingBy}
use Rattle.std.proofs.lemmas.Bool.Decides.{nat_tests}
use Rattle.history_model.specs.InOrder.{Has}
use Rattle.history_model.proofs.InOrder.{Has-all, all_from_has}
use Rattle.history_model.proofs.Filtered.{Has-map, Has-map_from, Has-filter, filter_none, filter_same}
use Rattle.history_model.proofs.Items.{Has-get_or, place_of_item}
use Rattle.std.proofs.lemmas.List.{take-map, drop-map, length-map, map-append, length-take-le, take-append-le}
use Rattle.std.proofs.lemmas.Bool.{lt-ltb, ltb-true, le-ltb, leb-true, leb-false}
use Rattle.std.proofs.lemmas.List.Elements.{filter-append}
use Rattle.list_lemmas.proofs.Parts.{take_whole, drop_whole, taken_at_most}
use Rattle.list_lemmas.proofs.Each.{each_of_mapped}
use Rattle.list_lemmas.proofs.Kept.{length-filter-map}
use Rattle.as_of_index.specs.Private.Search.{SplitsAt}
use Rattle.links.specs.Selection.{is_up_to}
use Rattle.links.specs.Private.Memberships.{count_lesser, IsCutAt}

-- ---- how many are below a number

step : (d e : ℕ) (ds : List ℕ) → count_lesser d (e ∷ ds) ≡ cond (nat_lt e d) (suc (count_lesser d ds)) (count_lesser d ds)
step d e ds = elim (nat_lt e d) as (λ t. length (cond t (e ∷ filter (λ other. nat_lt other d) ds) (filter (λ other. nat_lt other d) ds)) ≡ cond t (suc (count_lesser d ds)) (count_lesser d ds)) [ true ↦ refl | false ↦ refl ]

count_up : (d e : ℕ) (ds : List ℕ) → e < d → count_lesser d (e ∷ ds) ≡ suc (count_lesser d ds)
count_up d e ds lt = step d e ds ∙ ap (λ t. cond t (suc (count_lesser d ds)) (count_lesser d ds)) (lt-ltb e d lt)

count_same : (d e : ℕ) (ds : List ℕ) → d ≤ e → count_lesser d (e ∷ ds) ≡ count_lesser d ds
count_same d e ds le = step d e ds ∙ ap (λ t. cond t (suc (count_lesser d ds)) (count_lesser d ds)) (le-ltb e d le)

-- never more than one more, and never less
count_step : (d e : ℕ) (ds : List ℕ) → (count_lesser d ds ≤ count_lesser d (e ∷ ds)) × (count_lesser d (e ∷ ds) ≤ suc (count_lesser d ds))
count_step d e ds = subst (λ n. (count_lesser d ds ≤ n) × (n ≤ suc (count_lesser d ds))) (sym (step d e ds))
    (elim (nat_lt e d) as (λ t. (count_lesser d ds ≤ cond t (suc (count_lesser d ds)) (count_lesser d ds)) × (cond t (suc (count_lesser d ds)) (count_lesser d ds) ≤ suc (count_lesser d ds))) [
      | true ↦ (omega arith, omega arith)
      | false ↦ (omega arith, omega arith)
    ])

count_most : (d : ℕ) (ds : List ℕ) → count_lesser d ds ≤ length ds
count_most d [] = omega arith
count_most d (e ∷ ds) = let one = (count_step d e ds).1 in let rest = count_most d ds in omega (arith, one, rest)

-- one of the numbers isn't below itself
count_own : (d : ℕ) (ds : List ℕ) → Has ds d → count_lesser d ds < length ds
count_own d [] h = absurd h
count_own d (e ∷ ds) h = elim h [
  | inl same ↦ (
      let one = count_same d e ds (omega (arith, same)) in
      let rest = count_most d ds in
      omega (arith, one, rest))
  | inr t ↦ (
      let one = (count_step d e ds).1 in
      let rest = count_own d ds t in
      omega (arith, one, rest))
]

-- none of these is below it
count_none : (d : ℕ) (ds : List ℕ) → ((e : ℕ) → Has ds e → d ≤ e) → count_lesser d ds ≡ 0
count_none d [] all = refl
count_none d (e ∷ ds) all = count_same d e ds (all e (inl refl)) ∙ count_none d ds (λ f h. all f (inr h))

-- all of these are below it
count_all : (d : ℕ) (ds : List ℕ) → ((e : ℕ) → Has ds e → e < d) → count_lesser d ds ≡ length ds
count_all d [] all = refl
count_all d (e ∷ ds) all = count_up d e ds (all e (inl refl)) ∙ ap suc (count_all d ds (λ f h. all f (inr h)))

count_append : (d : ℕ) (ds es : List ℕ) → count_lesser d (ds ++ es) ≡ count_lesser d ds + count_lesser d es
count_append d [] es = omega arith
count_append d (e ∷ ds) es =
    step d e (ds ++ es) ∙ ap (λ n. cond (nat_lt e d) (suc n) n) (count_append d ds es)
    ∙ sum_of (nat_lt e d) (count_lesser d ds) (count_lesser d es) ∙ ap (λ n. n + count_lesser d es) (sym (step d e ds)) where
      sum_of : (t : Bool) (m n : ℕ) → cond t (suc (m + n)) (m + n) ≡ cond t (suc m) m + n
      sum_of true m n = omega arith
      sum_of false m n = refl

-- ---- lists

-- ---- numbers that never fall

abbrev pub Rising : List ℕ → Type 0
Rising [] = Unit {0}
Rising (d ∷ ds) = AllByRecursion (λ e. d ≤ e) ds × Rising ds

pub rising_by : {X : Type 0} (f : X → ℕ) (xs : List X) → IsNonDecreasingBy f xs → Rising (map f xs)
rising_by f [] up = tt
rising_by f (x ∷ xs) up = (
  all_from_has (λ e. f x ≤ e) (map f xs) (λ e h.
      let m = Has-map f xs e h in
      let w = place_of_item xs m.0 m.1 in
      let lt = w.1 in
      let le = up 0 (suc w.0) m.0 (omega arith) (omega (arith, lt)) in
      subst (λ n. f x ≤ n) (ap f (w.2 m.0) ∙ m.2) le),
  rising_by f xs (λ i j d le lt. up (suc i) (suc j) d (omega (arith, le)) (omega (arith, lt))),
)

-- those from a place on aren't below the one that stands there
from_place : (ds : List ℕ) (k d : ℕ) → Rising ds → k < length ds → (e : ℕ) → Has (drop k ds) e → get_or ds k d ≤ e
from_place [] k d up lt e h = absurd (omega (arith, lt))
from_place (x ∷ ds) zero d up lt e h = elim h [
  | inl same ↦ omega (arith, same)
  | inr t ↦ Has-all (λ y. x ≤ y) ds e up.0 t
]
from_place (x ∷ ds) (suc k) d up lt e h = from_place ds k d up.1 (omega (arith, lt)) e h

-- and those up to it aren't above
up_to_place : (ds : List ℕ) (k d : ℕ) → Rising ds → k < length ds → (e : ℕ) → Has (take (suc k) ds) e → e ≤ get_or ds k d
up_to_place [] k d up lt e h = absurd (omega (arith, lt))
up_to_place (x ∷ ds) zero d up lt e h = elim h [
  | inl same ↦ omega (arith, same)
  | inr t ↦ absurd t
]
up_to_place (x ∷ ds) (suc k) d up lt e h = elim h [
  | inl same ↦ (let le = Has-all (λ y. x ≤ y) ds (get_or ds k d) up.0 (Has-get_or ds k d (omega (arith, lt))) in omega (arith, same, le))
  | inr t ↦ up_to_place ds k d up.1 (omega (arith, lt)) e t
]

-- ---- where they are cut

count_grows : (d e : ℕ) (ds : List ℕ) → d ≤ e → count_lesser d ds ≤ count_lesser e ds
count_grows d e [] le = omega arith
count_grows d e (x ∷ ds) le =
    let rest = count_grows d e ds le in
    elim (nat_lt x d) as (λ t. nat_lt x d ≡ t → count_lesser d (x ∷ ds) ≤ count_lesser e (x ∷ ds)) [
      | true ↦ λ is. (
          let lt = ltb-true x d is in
          let a = count_up d x ds lt in
          let b = count_up e x ds (omega (arith, lt, le)) in
          omega (arith, a, b, rest))
      | false ↦ λ is. (
          let a : count_lesser d (x ∷ ds) ≡ count_lesser d ds = step d x ds ∙ ap (λ t. cond t (suc (count_lesser d ds)) (count_lesser d ds)) is in
          let b = (count_step e x ds).0 in
          omega (arith, a, b, rest))
    ] refl

pub cut_nothing : (ds : List ℕ) → IsCutAt 0 ds 0
cut_nothing ds = record { before = tt; behind = all_from_has (λ d. 0 ≤ count_lesser d ds) ds (λ d h. omega arith) }

pub cut_all : (limit : ℕ) (ds : List ℕ) → length ds ≤ limit → IsCutAt limit ds (length ds)
cut_all limit ds le = record {
  before = subst (λ es. AllByRecursion (λ d. count_lesser d ds < limit) es) (sym (take_whole ds)) (all_from_has (λ d. count_lesser d ds < limit) ds (λ d h. let lt = count_own d ds h in omega (arith, lt, le)));
  behind = subst (λ es. AllByRecursion (λ d. limit ≤ count_lesser d ds) es) (sym (drop_whole ds)) tt;
}

pub cut_behind : (k : ℕ) (ds : List ℕ) (d count : ℕ) → Rising ds → k < length ds → SplitsAt (λ e. nat_le e (get_or ds k d)) ds count → IsCutAt (suc k) ds count
cut_behind k ds d count up lt split =
    let last = get_or ds k d in
    let few : count_lesser last ds ≤ k =
    (let whole = ap (count_lesser last) (take-append-drop k ds) in
    let parts = count_append last (take k ds) (drop k ds) in
    let first = count_most last (take k ds) in
    let long = taken_at_most k ds in
    let none = count_none last (drop k ds) (from_place ds k d up lt) in
    omega (arith, whole, parts, first, long, none)) in
    record {
      before = all_from_has (λ e. count_lesser e ds < suc k) (take count ds) (λ e h.
          let le = leb-true e last (Has-all (λ y. nat_le y last ≡ true) (take count ds) e split.before h) in
          let grows = count_grows e last ds le in
          omega (arith, grows, few));
      behind = all_from_has (λ e. suc k ≤ count_lesser e ds) (drop count ds) (λ e h.
          let gt = leb-false e last (Has-all (λ y. nat_le y last ≡ false) (drop count ds) e split.rest h) in
          let whole = ap (count_lesser e) (take-append-drop (suc k) ds) in
          let parts = count_append e (take (suc k) ds) (drop (suc k) ds) in
          let all = count_all e (take (suc k) ds) (λ f there. let le = up_to_place ds k d up lt f there in omega (arith, gt, le)) in
          let long = length-take-le (suc k) ds (omega (arith, lt)) in
          omega (arith, whole, parts, all, long));
    }

-- ---- what is cut off

All_from_map : {X : Type 0} (f : X → ℕ) (P : ℕ → Type 0) (xs : List X) → AllByRecursion P (map f xs) → AllByRecursion (λ x. P (f x)) xs
All_from_map f P [] a = tt
All_from_map f P (x ∷ xs) a = (a.0, All_from_map f P xs a.1)

pub splits_by : {X : Type 0} (f : X → ℕ) (p : ℕ → Bool) (xs : List X) (i : ℕ) → SplitsAt (λ x. p (f x)) xs i → SplitsAt p (map f xs) i
splits_by f p xs i split = record {
  before = subst (λ ys. AllByRecursion (λ x. p x ≡ true) ys) (sym (take-map f i xs)) (each_of_mapped (λ n. p n ≡ true) f (take i xs) split.before);
  rest = subst (λ ys. AllByRecursion (λ x. p x ≡ false) ys) (sym (drop-map f i xs)) (each_of_mapped (λ n. p n ≡ false) f (drop i xs) split.rest);
}

filter_split : {X : Type 0} (p : X → Bool) (xs : List X) (n : ℕ) → AllByRecursion (λ x. p x ≡ true) (take n xs) → AllByRecursion (λ x. p x ≡ false) (drop n xs) → filter p xs ≡ take n xs
filter_split p [] zero a b = refl
filter_split p [] (suc n) a b = refl
filter_split p (x ∷ xs) zero a b =
    ap (λ t. cond t (x ∷ filter p xs) (filter p xs)) b.0 ∙ filter_split p xs zero tt b.1
filter_split p (x ∷ xs) (suc n) a b =
    ap (λ t. cond t (x ∷ filter p xs) (filter p xs)) a.0 ∙ ap (λ ys. x ∷ ys) (filter_split p xs n a.1 b)

-- those that fewer than the limit are below are the first ones up to the cut
pub filter_cut : {X : Type 0} (f : X → ℕ) (limit : ℕ) (xs : List X) (count : ℕ) → IsCutAt limit (map f xs) count → filter (λ x. nat_lt (length (filter (λ y. nat_lt (f y) (f x)) xs)) limit) xs ≡ take count xs
filter_cut {X} f limit xs count cut =
    filter_split (λ x. nat_lt (length (filter (λ y. nat_lt (f y) (f x)) xs)) limit) xs count
    (all_from_has (λ x. nat_lt (length (filter (λ y. nat_lt (f y) (f x)) xs)) limit ≡ true) (take count xs) (λ x h.
    let lt = Has-all (λ y. count_lesser (f y) (map f xs) < limit) (take count xs) x (All_from_map f (λ d. count_lesser d (map f xs) < limit) (take count xs) (subst (λ es. AllByRecursion (λ d. count_lesser d (map f xs) < limit) es) (take-map f count xs) cut.before)) h in
    let same = length-filter-map f (λ e. nat_lt e (f x)) xs in
    lt-ltb (length (filter (λ y. nat_lt (f y) (f x)) xs)) limit (omega (arith, lt, same))))
    (all_from_has (λ x. nat_lt (length (filter (λ y. nat_lt (f y) (f x)) xs)) limit ≡ false) (drop count xs) (λ x h.
    let le = Has-all (λ y. limit ≤ count_lesser (f y) (map f xs)) (drop count xs) x (All_from_map f (λ d. limit ≤ count_lesser d (map f xs)) (drop count xs) (subst (λ es. AllByRecursion (λ d. limit ≤ count_lesser d (map f xs)) es) (drop-map f count xs) cut.behind)) h in
    let same = length-filter-map f (λ e. nat_lt e (f x)) xs in
    le-ltb (length (filter (λ y. nat_lt (f y) (f x)) xs)) limit (omega (arith, le, same))))

-- ---- of what is up to some number the first ones are those of all

module _ {X : Type 0} (f : X → ℕ) where
  -- the first items, up to a number if one is given, and the others, which are behind them
  pub record HasFirst (last : Option ℕ) (xs : List X) : Type 0 where
    pub rest : List X
    pub parts : xs ≡ filter (λ x. is_up_to last (f x)) xs ++ rest
    pub behind : (x y : X) → Has (filter (λ x. is_up_to last (f x)) xs) x → Has rest y → f x < f y
    pub all : last ≡ None → rest ≡ []

  filter_whole : (xs : List X) → xs ≡ filter (λ x. true) xs
  filter_whole [] = refl
  filter_whole (x ∷ xs) = ap (λ ys. x ∷ ys) (filter_whole xs)

  parts_up_to : (last : ℕ) (xs : List X) → Rising (map f xs) → (rest : List X) × (xs ≡ filter (λ x. nat_le (f x) last) xs ++ rest) × ((y : X) → Has rest y → last < f y)
  parts_up_to last [] up = ([], refl, λ y h. absurd h)
  parts_up_to last (x ∷ xs) up =
      elim (nat_le (f x) last) as (λ t. nat_le (f x) last ≡ t → (rest : List X) × (x ∷ xs ≡ cond t (x ∷ filter (λ x. nat_le (f x) last) xs) (filter (λ x. nat_le (f x) last) xs) ++ rest) × ((y : X) → Has rest y → last < f y)) [
        | true ↦ λ e. (let w = parts_up_to last xs up.1 in (w.0, ap (λ ys. x ∷ ys) w.1, w.2))
        | false ↦ λ e. (
            let high : last < f x = leb-false (f x) last e in
            let above : (y : X) → Has xs y → last < f y = λ y h. (let le = Has-all (λ n. f x ≤ n) (map f xs) (f y) up.0 (Has-map_from f xs y h) in omega (arith, high, le)) in
            let none : filter (λ x. nat_le (f x) last) xs ≡ [] = filter_none (λ x. nat_le (f x) last) xs (λ y h. not_up_to (f y) last (above y h)) in
            (x ∷ xs, ap (λ ys. ys ++ (x ∷ xs)) (sym none), λ y h. elim h [ inl same ↦ subst (λ z. last < f z) same high | inr t ↦ above y t ]))
      ] refl where
        not_up_to : (m n : ℕ) → n < m → nat_le m n ≡ false
        not_up_to m n lt = grind (arith, nat_tests, lt)

  pub first_up_to : (last : Option ℕ) (xs : List X) → Rising (map f xs) → HasFirst last xs
  first_up_to None xs up = record {
    rest = [];
    parts = filter_whole xs ∙ sym (append-nil (filter (λ x. true) xs));
    behind = λ x y h k. absurd k;
    all = λ e. refl;
  }
  first_up_to (Some last) xs up =
      let w = parts_up_to last xs up in
      record {
        rest = w.0;
        parts = w.1;
        behind = λ x y h k.
            let low = leb-true (f x) last (Has-filter (λ x. nat_le (f x) last) xs x h).1 in
            let high = w.2 y k in
            omega (arith, low, high);
        all = λ e. absurd (cc);
      }

  -- enough items stand there, or all
  abbrev pub IsEnough : Option ℕ → ℕ → List X → Type 0
  IsEnough last limit part = (last ≡ None) ⊎ (limit ≤ length part)

  pub take_up_to : (last : Option ℕ) (limit : ℕ) (xs : List X) → Rising (map f xs) → IsEnough last limit (filter (λ x. is_up_to last (f x)) xs) → take limit xs ≡ take limit (filter (λ x. is_up_to last (f x)) xs)
  take_up_to last limit xs up enough =
      let w = first_up_to last xs up in
      let part = filter (λ x. is_up_to last (f x)) xs in
      ap (take limit) w.parts ∙ elim enough [
        | inl e ↦ ap (λ rest. take limit (part ++ rest)) (w.all e) ∙ ap (take limit) (append-nil part)
        | inr le ↦ take-append-le limit part w.rest le
      ]

  -- fewer than so many items are below x
  abbrev is_first : ℕ → List X → X → Bool
  is_first limit xs x = nat_lt (length (filter (λ y. nat_lt (f y) (f x)) xs)) limit

  lesser_of : (xs : List X) (x : X) → length (filter (λ y. nat_lt (f y) (f x)) xs) ≡ count_lesser (f x) (map f xs)
  lesser_of xs x = sym (length-filter-map f (λ n. nat_lt n (f x)) xs)

  lesser_parts : (part rest : List X) (x : X) → length (filter (λ y. nat_lt (f y) (f x)) (part ++ rest)) ≡ count_lesser (f x) (map f part) + count_lesser (f x) (map f rest)
  lesser_parts part rest x = lesser_of (part ++ rest) x ∙ ap (count_lesser (f x)) (map-append f part rest) ∙ count_append (f x) (map f part) (map f rest)

  cut_parts : (limit count : ℕ) (part rest : List X) → ((x y : X) → Has part x → Has rest y → f x < f y) → (rest ≡ []) ⊎ (limit ≤ length part) → IsCutAt limit (map f part) count → filter (is_first limit (part ++ rest)) (part ++ rest) ≡ take count part
  cut_parts limit count part rest behind enough cut =
      filter-append (is_first limit (part ++ rest)) part rest ∙ (λ i. first_ones i ++ others i) ∙ append-nil (take count part) where
        first_ones : filter (is_first limit (part ++ rest)) part ≡ take count part
        first_ones =
            filter_same (is_first limit (part ++ rest)) (is_first limit part) part (λ x h.
            let none = count_none (f x) (map f rest) (λ n k. let m = Has-map f rest n k in let lt = behind x m.0 h m.1 in omega (arith, lt, m.2)) in
            let whole = lesser_parts part rest x in
            let own = lesser_of part x in
            ap (λ n. nat_lt n limit) (omega (arith, whole, own, none)))
            ∙ filter_cut f limit part count cut

        others : filter (is_first limit (part ++ rest)) rest ≡ []
        others = elim enough [
          | inl e ↦ subst (λ (ys : List X). filter (is_first limit (part ++ rest)) ys ≡ []) (sym e) refl
          | inr le ↦ filter_none (is_first limit (part ++ rest)) rest (λ y k.
              let all = count_all (f y) (map f part) (λ n h. let m = Has-map f part n h in let lt = behind m.0 y m.1 k in omega (arith, lt, m.2)) in
              let whole = lesser_parts part rest y in
              let long = length-map part f in
              le-ltb (length (filter (λ z. nat_lt (f z) (f y)) (part ++ rest))) limit (omega (arith, whole, all, long, le)))
        ]

  pub cut_up_to : (last : Option ℕ) (limit count : ℕ) (xs : List X) → Rising (map f xs) → IsEnough last limit (filter (λ x. is_up_to last (f x)) xs) → IsCutAt limit (map f (filter (λ x. is_up_to last (f x)) xs)) count → filter (λ x. nat_lt (length (filter (λ y. nat_lt (f y) (f x)) xs)) limit) xs ≡ take count (filter (λ x. is_up_to last (f x)) xs)
  cut_up_to last limit count xs up enough cut =
      let w = first_up_to last xs up in
      let part = filter (λ x. is_up_to last (f x)) xs in
      ap (λ ys. filter (is_first limit ys) ys) w.parts ∙ cut_parts limit count part w.rest w.behind (elim enough [ inl e ↦ inl (w.all e) | inr le ↦ inr le ]) cut
