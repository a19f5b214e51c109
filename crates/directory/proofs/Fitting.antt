-- The least place that is free, and the places that a search passes on its way to it.
use Rattle.std.proofs.Common.{◌≡◌, lit<, lit≤, ◌⊎◌, inl, inr, ℕ, ◌+◌, ◌-◌, ◌/◌, ◌<◌, ◌≤◌, max, min, Bool, true, false, cond, ◌&&◌, ◌||◌, not, nat_lt, nat_le, List, [], ◌∷◌, Option, Some, None, zero, suc, refl, sym, ap, subst, ◌∙◌, arith}
use Rattle.std.proofs.lemmas.Bool.Decides.{nat_tests}
use Rattle.std.specs.List.{AllByRecursion, find, list_any, range_with_len}
use Rattle.std.proofs.lemmas.Bool.{cases_Bool, both_ways, or_right, ltb-true, ltb-false, and_parts, not-true, leb-true, le-leb, false_from_ne_true}
use Rattle.blocks.specs.Extents.{block_count, block_limit}
use Rattle.blocks.specs.declared.extent.Extent.{Extent}
use Rattle.directory.specs.Places.{Covers, CoversByte, SharesNoBlock, SharesNoByte, AreBeside, end_block, taken}
use Rattle.directory.specs.Fit.{meets, is_free, fit_below, fit, IsFree, IsFit, FitIsLeast, NoFitIsFull, FitIsApart}

-- what meets says, on numbers

pub lt_is : (a b c d : ℕ) → nat_lt (max a b) (min c d) ≡ true → (a < c) × (a < d) × (b < c) × (b < d)
lt_is a b c d h = (grind (arith, nat_tests), grind (arith, nat_tests), grind (arith, nat_tests), grind (arith, nat_tests))

pub lt_from : (a b c d : ℕ) → a < c → a < d → b < c → b < d → nat_lt (max a b) (min c d) ≡ true
lt_from a b c d ac ad bc bd = grind (arith, nat_tests)

pub none_shared : (first blocks : ℕ) (extent : Extent) → meets first blocks extent ≡ false → SharesNoBlock first blocks extent
none_shared first blocks extent fail block low high covers =
    let end = end_block extent in
    let start = extent.first in
    let below : block < end = covers.1 in
    let from : start ≤ block = covers.0 in
    both_ways (meets first blocks extent) fail (lt_from first start (first + blocks) end (omega arith) (omega arith) (omega arith) (omega arith))

-- the greatest of two starts lies below both ends
in_both : (a b c d : ℕ) → a < c → a < d → b < c → b < d → (block : ℕ) × (a ≤ block) × (block < c) × (b ≤ block) × (block < d)
in_both a b c d ac ad bc bd = (max a b, (omega arith), (omega arith), (omega arith), (omega arith))

pub not_met : (first blocks : ℕ) (extent : Extent) → SharesNoBlock first blocks extent → meets first blocks extent ≡ false
not_met first blocks extent none = elim (cases_Bool (meets first blocks extent)) [
  | inl pass ↦
      let is = lt_is first extent.first (first + blocks) (end_block extent) pass in
      let shared = in_both first extent.first (first + blocks) (end_block extent) is.0 is.1 is.2 is.3 in
      absurd (none shared.0 shared.1 shared.2 (shared.3, shared.4))
  | inr fail ↦ fail
]

pub all_shared_none : (first blocks : ℕ) (extents : List Extent) → list_any (meets first blocks) extents ≡ false → AllByRecursion (SharesNoBlock first blocks) extents
all_shared_none first blocks [] none = tt
all_shared_none first blocks (extent ∷ extents) none = elim (cases_Bool (meets first blocks extent)) [
  | inl pass ↦ absurd (both_ways true (sym (ap (λ b. b || list_any (meets first blocks) extents) pass) ∙ none) refl)
  | inr fail ↦ (none_shared first blocks extent fail, all_shared_none first blocks extents (sym (ap (λ b. b || list_any (meets first blocks) extents) fail) ∙ none))
]

pub none_met : (first blocks : ℕ) (extents : List Extent) → AllByRecursion (SharesNoBlock first blocks) extents → list_any (meets first blocks) extents ≡ false
none_met first blocks [] all = refl
none_met first blocks (extent ∷ extents) all = ap (λ b. b || list_any (meets first blocks) extents) (not_met first blocks extent all.0) ∙ none_met first blocks extents all.1

-- what the first that passes says

pub any_where_found : {X : Type 0} (p q : X → Bool) (xs : List X) (x : X) → find p xs ≡ Some x → q x ≡ true → list_any q xs ≡ true
any_where_found p q [] x e passes = absurd (cc)
any_where_found {X} p q (y ∷ xs) x e passes = elim (cases_Bool (p y)) [
  | inl pass ↦ let same : Some y ≡ Some x = sym (ap (λ b. cond b (Some y) (find p xs)) pass) ∙ e in let is : y ≡ x = cc in ap (λ b. b || list_any q xs) (ap q is ∙ passes)
  | inr fail ↦ or_right (q y) (list_any q xs) (any_where_found p q xs x (sym (ap (λ b. cond b (Some y) (find p xs)) fail) ∙ e) passes)
]

pub none_where_not_found : {X : Type 0} (p : X → Bool) (xs : List X) → find p xs ≡ None → list_any p xs ≡ false
none_where_not_found p [] e = refl
none_where_not_found {X} p (y ∷ xs) e = elim (cases_Bool (p y)) [
  | inl pass ↦ let same : Some y ≡ None = sym (ap (λ b. cond b (Some y) (find p xs)) pass) ∙ e in absurd (cc)
  | inr fail ↦ ap (λ b. b || list_any p xs) fail ∙ none_where_not_found p xs (sym (ap (λ b. cond b (Some y) (find p xs)) fail) ∙ e)
]

-- the first of a range of numbers

equal_or_below : (a b : ℕ) → a ≤ b → (a ≡ b) ⊎ (a < b)
equal_or_below a b h = elim (cases_Bool (nat_lt a b)) [ inl pass ↦ inr (ltb-true a b pass) | inr fail ↦ inl (omega (arith, ltb-false a b fail)) ]

-- of the so many numbers from start on, this is the first that passes
pub record IsFirst (p : ℕ → Bool) (start n x : ℕ) : Type 0 where
  pub low : start ≤ x
  pub high : x < start + n
  pub passes : p x ≡ true
  pub before : (y : ℕ) → start ≤ y → y < x → p y ≡ false

-- of the so many numbers from start on, none passes
abbrev pub NonePasses : (ℕ → Bool) → ℕ → ℕ → Type 0
NonePasses p start n = (y : ℕ) → start ≤ y → y < start + n → p y ≡ false

abbrev pub Scanned : (ℕ → Bool) → ℕ → ℕ → Option ℕ → Type 0
Scanned p start n found = ((x : ℕ) × IsFirst p start n x × (found ≡ Some x)) ⊎ (NonePasses p start n × (found ≡ None))

pub scanned : (p : ℕ → Bool) (start n : ℕ) → Scanned p start n (find p (range_with_len start n))
scanned p start zero = inr ((λ y l h. absurd (omega (arith, l, h))), refl)
scanned p start (suc n) = at (cases_Bool (p start)) (scanned p (start + 1) n) where
  rest : Option ℕ
  rest = find p (range_with_len (start + 1) n)

  from : (q : ℕ → Type 0) (y : ℕ) → q start → (start + 1 ≤ y → q y) → start ≤ y → q y
  from q y here above low = elim (equal_or_below start y low) [ inl is ↦ subst q is here | inr below ↦ above (omega (arith, below)) ]

  at : (p start ≡ true) ⊎ (p start ≡ false) → Scanned p (start + 1) n (find p (range_with_len (start + 1) n)) → Scanned p start (suc n) (find p (range_with_len start (suc n)))
  at (inl pass) _ =
      inl (start, record { low = omega arith; high = omega arith; passes = pass; before = λ y l h. absurd (omega (arith, l, h)) }, ap (λ b. cond b (Some start) (find p (range_with_len (start + 1) n))) pass)
  at (inr fail) (inl (x, is, e)) =
      inl (
        x,
        record { low = omega (arith, is.low); high = omega (arith, is.high); passes = is.passes; before = λ y l h. from (λ z. z < x → p z ≡ false) y (λ _. fail) (λ above. is.before y above) l h },
        ap (λ b. cond b (Some start) (find p (range_with_len (start + 1) n))) fail ∙ e,
      )
  at (inr fail) (inr (none, e)) =
      inr ((λ y l h. from (λ z. z < start + suc n → p z ≡ false) y (λ _. fail) (λ above below. none y above (omega (arith, below))) l h), ap (λ b. cond b (Some start) (find p (range_with_len (start + 1) n))) fail ∙ e)

-- the fit under a limit, by what it says

pub fit_scanned : (limit blocks : ℕ) (extents : List Extent) → Scanned (is_free limit blocks extents) 4 (limit - 4) (fit_below limit blocks extents)
unfolding fit_below
fit_scanned limit blocks extents = scanned (is_free limit blocks extents) 4 (limit - 4)

pub fit_below_some : (limit blocks : ℕ) (extents : List Extent) (first : ℕ) → IsFirst (is_free limit blocks extents) 4 (limit - 4) first → fit_below limit blocks extents ≡ Some first
fit_below_some limit blocks extents first is = at (fit_scanned limit blocks extents) where
  same : (x : ℕ) → IsFirst (is_free limit blocks extents) 4 (limit - 4) x → x ≡ first
  same x other = at (cases_Bool (nat_lt x first)) (cases_Bool (nat_lt first x)) where
    at : (nat_lt x first ≡ true) ⊎ (nat_lt x first ≡ false) → (nat_lt first x ≡ true) ⊎ (nat_lt first x ≡ false) → x ≡ first
    at (inl below) _ = absurd (both_ways (is_free limit blocks extents x) (is.before x other.low (ltb-true x first below)) other.passes)
    at (inr _) (inl above) = absurd (both_ways (is_free limit blocks extents first) (other.before first is.low (ltb-true first x above)) is.passes)
    at (inr a) (inr b) = omega (arith, ltb-false x first a, ltb-false first x b)

  at : Scanned (is_free limit blocks extents) 4 (limit - 4) (fit_below limit blocks extents) → fit_below limit blocks extents ≡ Some first
  at (inl (x, other, e)) = e ∙ ap (λ (y : ℕ). Some y) (same x other)
  at (inr (none, e)) = absurd (both_ways (is_free limit blocks extents first) (none first is.low is.high) is.passes)

pub fit_below_none : (limit blocks : ℕ) (extents : List Extent) → NonePasses (is_free limit blocks extents) 4 (limit - 4) → fit_below limit blocks extents ≡ None
fit_below_none limit blocks extents none = at (fit_scanned limit blocks extents) where
  at : Scanned (is_free limit blocks extents) 4 (limit - 4) (fit_below limit blocks extents) → fit_below limit blocks extents ≡ None
  at (inl (x, other, e)) = absurd (both_ways (is_free limit blocks extents x) (none x other.low other.high) other.passes)
  at (inr (_, e)) = e

pub first_from_fit : (limit blocks : ℕ) (extents : List Extent) (first : ℕ) → fit_below limit blocks extents ≡ Some first → IsFirst (is_free limit blocks extents) 4 (limit - 4) first
first_from_fit limit blocks extents first e = at (fit_scanned limit blocks extents) where
  at : Scanned (is_free limit blocks extents) 4 (limit - 4) (fit_below limit blocks extents) → IsFirst (is_free limit blocks extents) 4 (limit - 4) first
  at (inl (x, is, found)) = let same : Some x ≡ Some first = sym found ∙ e in let eq : x ≡ first = cc in subst (IsFirst (is_free limit blocks extents) 4 (limit - 4)) eq is
  at (inr (_, none)) = let same : Some first ≡ None = sym e ∙ none in absurd (cc)

pub none_from_fit : (limit blocks : ℕ) (extents : List Extent) → fit_below limit blocks extents ≡ None → NonePasses (is_free limit blocks extents) 4 (limit - 4)
none_from_fit limit blocks extents e = at (fit_scanned limit blocks extents) where
  at : Scanned (is_free limit blocks extents) 4 (limit - 4) (fit_below limit blocks extents) → NonePasses (is_free limit blocks extents) 4 (limit - 4)
  at (inl (x, _, found)) = let same : Some x ≡ None = sym found ∙ e in absurd (cc)
  at (inr (none, _)) = none

-- a place that is free, as a test and by what it says

pub free_at : (limit blocks : ℕ) (extents : List Extent) (first : ℕ) → first + blocks ≤ limit → list_any (meets first blocks) extents ≡ false → is_free limit blocks extents first ≡ true
free_at limit blocks extents first low none = ap (λ b. b && not (list_any (meets first blocks) extents)) (le-leb (first + blocks) limit low) ∙ ap not none

pub fits_from_free : (limit blocks : ℕ) (extents : List Extent) (first : ℕ) → is_free limit blocks extents first ≡ true → first + blocks ≤ limit
fits_from_free limit blocks extents first free = leb-true (first + blocks) limit (and_parts (nat_le (first + blocks) limit) (not (list_any (meets first blocks) extents)) free).0

pub none_met_from_free : (limit blocks : ℕ) (extents : List Extent) (first : ℕ) → is_free limit blocks extents first ≡ true → list_any (meets first blocks) extents ≡ false
none_met_from_free limit blocks extents first free = not-true (list_any (meets first blocks) extents) (and_parts (nat_le (first + blocks) limit) (not (list_any (meets first blocks) extents)) free).1

pub is_free_from : (blocks : ℕ) (extents : List Extent) (first : ℕ) → IsFree blocks extents first → is_free block_limit blocks extents first ≡ true
is_free_from blocks extents first free = free_at block_limit blocks extents first free.end (none_met first blocks extents free.apart)

pub free_from_test : (blocks : ℕ) (extents : List Extent) (first : ℕ) → 4 ≤ first → is_free block_limit blocks extents first ≡ true → IsFree blocks extents first
free_from_test blocks extents first start free = record { start = start; end = fits_from_free block_limit blocks extents first free; apart = all_shared_none first blocks extents (none_met_from_free block_limit blocks extents first free) }

-- no blocks are free everywhere
none_shared_by_none : (first : ℕ) (extents : List Extent) → AllByRecursion (SharesNoBlock first 0) extents
none_shared_by_none first [] = tt
none_shared_by_none first (extent ∷ extents) = ((λ block low high covers. absurd (omega (arith, low, high))), none_shared_by_none first extents)

four_for_none : (blocks : ℕ) (extents : List Extent) → blocks ≡ 0 → IsFree blocks extents 4
four_for_none blocks extents none = subst (λ (n : ℕ). IsFree n extents 4) (sym none) (record { start = lit≤ tt; end = lit≤ tt; apart = none_shared_by_none 4 extents })

-- a place that is free lies in the range that the fit goes through, but for no blocks at the last one
pub in_range_or_none : (blocks first : ℕ) → first + blocks ≤ block_limit → (first < 4 + (block_limit - 4)) ⊎ (blocks ≡ 0)
in_range_or_none blocks first h = elim (cases_Bool (nat_lt first block_limit)) [ inl pass ↦ inl (ltb-true first block_limit pass) | inr fail ↦ inr (omega (arith, h, ltb-false first block_limit fail)) ]

first_from_least : (blocks : ℕ) (extents : List Extent) (first : ℕ) → IsFit blocks extents first → IsFirst (is_free block_limit blocks extents) 4 (block_limit - 4) first
first_from_least blocks extents first is = record {
  low = is.free.start;
  high = elim (in_range_or_none blocks first is.free.end) [ inl high ↦ high | inr none ↦ omega (arith, is.least 4 (four_for_none blocks extents none)) ];
  passes = is_free_from blocks extents first is.free;
  before = λ y low below. false_from_ne_true (is_free block_limit blocks extents y) (λ free. absurd (omega (arith, below, is.least y (free_from_test blocks extents y low free))));
}

least_from_first : (blocks : ℕ) (extents : List Extent) (first : ℕ) → IsFirst (is_free block_limit blocks extents) 4 (block_limit - 4) first → IsFit blocks extents first
least_from_first blocks extents first is = record {
  free = free_from_test blocks extents first is.low is.passes;
  least = λ other free. elim (cases_Bool (nat_lt other first)) [
    | inl pass ↦ absurd (both_ways (is_free block_limit blocks extents other) (is.before other free.start (ltb-true other first pass)) (is_free_from blocks extents other free))
    | inr fail ↦ ltb-false other first fail
  ];
}

pub fit_is_least : FitIsLeast
unfolding fit
fit_is_least blocks live reserved first = (
  (λ e. least_from_first blocks (taken live reserved) first (first_from_fit block_limit blocks (taken live reserved) first e)),
  (λ is. fit_below_some block_limit blocks (taken live reserved) first (first_from_least blocks (taken live reserved) first is)),
)

pub no_fit_is_full : NoFitIsFull
unfolding fit
no_fit_is_full blocks live reserved =
    let extents = taken live reserved in (
      (λ e first free. elim (in_range_or_none blocks first free.end) [
        | inl high ↦ both_ways (is_free block_limit blocks extents first) (none_from_fit block_limit blocks extents e first free.start high) (is_free_from blocks extents first free)
        | inr none ↦ both_ways (is_free block_limit blocks extents 4) (none_from_fit block_limit blocks extents e 4 (lit≤ tt) (lit< tt)) (is_free_from blocks extents 4 (four_for_none blocks extents none))
      ]),
      (λ never. fit_below_none block_limit blocks extents (λ y low high. false_from_ne_true (is_free block_limit blocks extents y) (λ free. never y (free_from_test blocks extents y low free)))),
    )

-- an extent that shares no block shares no byte

covers_block : (extent : Extent) (place : ℕ) → CoversByte extent place → Covers extent (place / 4096)
covers_block extent place covers = let start = extent.first in let bytes = extent.bytes in (omega (arith, covers.0), omega (arith, covers.1))

no_byte_shared : (a b : Extent) → AreBeside a b → SharesNoByte a b
no_byte_shared a b beside place in_a in_b = beside (place / 4096) (covers_block a place in_a) (covers_block b place in_b)

pub beside_from_none : (extent : Extent) (extents : List Extent) → AllByRecursion (SharesNoBlock extent.first (block_count extent)) extents → AllByRecursion (AreBeside extent) extents
beside_from_none extent [] all = tt
beside_from_none extent (other ∷ others) all = ((λ block covers. all.0 block covers.0 covers.1), beside_from_none extent others all.1)

pub none_from_beside : (extent : Extent) (extents : List Extent) → AllByRecursion (AreBeside extent) extents → AllByRecursion (SharesNoBlock extent.first (block_count extent)) extents
none_from_beside extent [] all = tt
none_from_beside extent (other ∷ others) all = ((λ block low high. all.0 block (low, high)), none_from_beside extent others all.1)

no_bytes_shared : (extent : Extent) (extents : List Extent) → AllByRecursion (AreBeside extent) extents → AllByRecursion (SharesNoByte extent) extents
no_bytes_shared extent [] all = tt
no_bytes_shared extent (other ∷ others) all = (no_byte_shared extent other all.0, no_bytes_shared extent others all.1)

pub fit_is_apart : FitIsApart
fit_is_apart extent live reserved e =
    let is = (fit_is_least (block_count extent) live reserved extent.first).0 e in
    let beside = beside_from_none extent (taken live reserved) is.free.apart in
    (beside, no_bytes_shared extent (taken live reserved) beside)
