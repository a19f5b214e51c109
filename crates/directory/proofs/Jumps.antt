-- The search for a fit goes from one extent's end to the next: it passes no place that is free, and each extent once.
use Rattle.std.proofs.Common.{◌≡◌, ℕ, ◌+◌, ◌^◌, ◌<◌, ◌≤◌, Bool, true, false, cond, ◌&&◌, not, nat_lt, nat_le, List, [], ◌∷◌, Option, Some, None, refl, sym, ap, ◌∙◌, lit<, lit≤, inl, inr, arith}
use Rattle.std.proofs.lemmas.Bool.Decides.{nat_tests}
use Rattle.std.specs.List.{find, list_any}
use Rattle.std.proofs.lemmas.Bool.{cases_Bool, ltb-true, ltb-false}
use Rattle.list_lemmas.proofs.Kept.{found_passes}
use Rattle.blocks.specs.Extents.{block_limit}
use Rattle.blocks.specs.declared.extent.Extent.{Extent}
use Rattle.directory.specs.declared.entry.Entry.{Entry}
use Rattle.directory.specs.Places.{end_block, taken}
use Rattle.directory.specs.Fit.{meets, is_free, fit}
use Rattle.directory.proofs.Fitting.{lt_is, lt_from, any_where_found, none_where_not_found, free_at, in_range_or_none, fit_below_some, fit_below_none}

-- each place from the first data block up to this one meets an extent that is taken
pub record IsTried (blocks : ℕ) (extents : List Extent) (first : ℕ) : Type 0 where
  pub start : 4 ≤ first
  pub fits : first < 2 ^ 33
  pub passed : (place : ℕ) → 4 ≤ place → place < first → list_any (meets place blocks) extents ≡ true
  pub stays_for_none : blocks ≡ 0 → first ≡ 4

pub none_tried : (blocks : ℕ) (extents : List Extent) → IsTried blocks extents 4
none_tried blocks extents = record { start = lit≤ tt; fits = lit< tt; passed = λ place low high. absurd (omega (arith, low, high)); stays_for_none = λ _. refl }

pub jumped : (blocks : ℕ) (extents : List Extent) (first : ℕ) (extent : Extent) → IsTried blocks extents first → find (meets first blocks) extents ≡ Some extent → end_block extent < 2 ^ 33 → IsTried blocks extents (end_block extent)
jumped blocks extents first extent tried found fits =
    let end = end_block extent in
    let start = extent.first in
    let is = lt_is first start (first + blocks) end (found_passes (meets first blocks) extents extent found) in
    record {
      start = omega (arith, tried.start, is.1);
      fits = fits;
      passed = λ place low high. elim (cases_Bool (nat_lt place first)) [
        | inl pass ↦ tried.passed place low (ltb-true place first pass)
        | inr fail ↦ any_where_found (meets first blocks) (meets place blocks) extents extent found
            (lt_from place start (place + blocks) end (omega (arith, is.0)) high (omega (arith, is.2, ltb-false place first fail)) is.3)
      ];
      stays_for_none = λ none. absurd (omega (arith, none, is.0));
    }

not_free : (limit blocks : ℕ) (extents : List Extent) (first : ℕ) → list_any (meets first blocks) extents ≡ true → is_free limit blocks extents first ≡ false
not_free limit blocks extents first met = ap (λ b. nat_le (first + blocks) limit && not b) met ∙ and_false (nat_le (first + blocks) limit) where
  and_false : (b : Bool) → (b && false) ≡ false
  and_false true = refl
  and_false false = refl

past_limit : (limit blocks : ℕ) (extents : List Extent) (first : ℕ) → limit < first + blocks → is_free limit blocks extents first ≡ false
past_limit limit blocks extents first past = ap (λ b. b && not (list_any (meets first blocks) extents)) (not_at_most (first + blocks) limit past) where
  not_at_most : (a b : ℕ) → b < a → nat_le a b ≡ false
  not_at_most a b h = grind (arith, nat_tests)

pub fit_found : (blocks : ℕ) (live : List Entry) (reserved : Option Extent) (first : ℕ) → IsTried blocks (taken live reserved) first → find (meets first blocks) (taken live reserved) ≡ None → first + blocks ≤ block_limit → fit blocks live reserved ≡ Some first
unfolding fit
fit_found blocks live reserved first tried none low =
    let extents = taken live reserved in
    fit_below_some block_limit blocks extents first (record {
      low = tried.start;
      high = elim (in_range_or_none blocks first low) [ inl high ↦ high | inr nothing ↦ omega (arith, tried.stays_for_none nothing) ];
      passes = free_at block_limit blocks extents first low (none_where_not_found (meets first blocks) extents none);
      before = λ place from below. not_free block_limit blocks extents place (tried.passed place from below);
    })

pub fit_missing : (blocks : ℕ) (live : List Entry) (reserved : Option Extent) (first : ℕ) → IsTried blocks (taken live reserved) first → block_limit < first + blocks → fit blocks live reserved ≡ None
unfolding fit
fit_missing blocks live reserved first tried past =
    let extents = taken live reserved in
    fit_below_none block_limit blocks extents (λ place from below. elim (cases_Bool (nat_lt place first)) [
      | inl pass ↦ not_free block_limit blocks extents place (tried.passed place from (ltb-true place first pass))
      | inr fail ↦ past_limit block_limit blocks extents place (omega (arith, past, ltb-false place first fail))
    ])

-- how many of the extents end behind a place: each round of the search leaves fewer
pub ahead : ℕ → List Extent → ℕ
ahead first [] = 0
ahead first (extent ∷ extents) = cond (nat_lt first (end_block extent)) 1 0 + ahead first extents

step_ahead : (first end other : ℕ) → first ≤ end → cond (nat_lt end other) 1 0 ≤ cond (nat_lt first other) 1 0
step_ahead first end other h = grind (arith, nat_tests)

ahead_less : (first end : ℕ) (extents : List Extent) → first ≤ end → ahead end extents ≤ ahead first extents
unfolding ahead
ahead_less first end [] h = lit≤ tt
ahead_less first end (extent ∷ extents) h = omega (arith, step_ahead first end (end_block extent) h, ahead_less first end extents h)

not_behind_itself : (end : ℕ) → cond (nat_lt end end) 1 0 ≤ 0
not_behind_itself end = grind (arith, nat_tests)

is_behind : (first end : ℕ) → first < end → 1 ≤ cond (nat_lt first end) 1 0
is_behind first end h = grind (arith, nat_tests)

-- what an extent adds that ends at the new place
falls_here : (end first other : ℕ) (extents : List Extent) → other ≡ end → first < end → cond (nat_lt end other) 1 0 + ahead end extents < cond (nat_lt first other) 1 0 + ahead first extents
falls_here end first other extents is behind =
    let after : cond (nat_lt end other) 1 0 ≤ 0 = rw is (not_behind_itself end) in
    let before : 1 ≤ cond (nat_lt first other) 1 0 = rw is (is_behind first end behind) in
    omega (arith, after, before, ahead_less first end extents (omega (arith, behind)))

pub ahead_falls : (first blocks : ℕ) (extents : List Extent) (extent : Extent) → find (meets first blocks) extents ≡ Some extent → ahead (end_block extent) extents < ahead first extents
unfolding ahead
ahead_falls first blocks [] extent found = absurd (cc)
ahead_falls first blocks (other ∷ extents) extent found = elim (cases_Bool (meets first blocks other)) [
  | inl pass ↦
      let same : Some other ≡ Some extent = sym (ap (λ b. cond b (Some other) (find (meets first blocks) extents)) pass) ∙ found in
      let is : other ≡ extent = cc in
      let behind : first < end_block extent = (lt_is first extent.first (first + blocks) (end_block extent) (sym (ap (meets first blocks) is) ∙ pass)).1 in
      let end_is : end_block other ≡ end_block extent = ap end_block is in
      falls_here (end_block extent) first (end_block other) extents end_is behind
  | inr fail ↦
      let rest = sym (ap (λ b. cond b (Some other) (find (meets first blocks) extents)) fail) ∙ found in
      let behind : first < end_block extent = (lt_is first extent.first (first + blocks) (end_block extent) (found_passes (meets first blocks) extents extent rest)).1 in
      omega (arith, step_ahead first (end_block extent) (end_block other) (omega (arith, behind)), ahead_falls first blocks extents extent rest)
]
