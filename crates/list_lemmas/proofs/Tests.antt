-- What tests, options and orders say.
use Rattle.std.proofs.Common.{◌≡◌, ℕ, ◌<◌, Option, None, Some, Bool, true, false, Ordering, refl, sym, ◌∙◌, arith}
use Rattle.std.specs.Prelude.{◌==◌, ◌&&◌}
use Rattle.std.specs.Option.{is_some}
use Rattle.std.specs.Ordering.{nat_cmp, ordering_then, is_lt}
use Rattle.std.specs.declared.cmp.Ordering.TheVariants.{Less, Equal, Greater}
use Rattle.std.proofs.lemmas.Bool.{and_parts, and_from, eqb-true, eq-eqb}
use Rattle.std.proofs.lemmas.Cmp.{ranked}

-- two numbers are two others
pub both_numbers : (k l i j : ℕ) → (k == l && i == j) ≡ true → (k ≡ l) × (i ≡ j)
both_numbers k l i j same = let parts = and_parts (k == l) (i == j) same in (eqb-true k l parts.0, eqb-true i j parts.1)

-- and so the test says
pub both_numbers_from : (k l i j : ℕ) → k ≡ l → i ≡ j → (k == l && i == j) ≡ true
both_numbers_from k l i j first second = and_from (k == l) (i == j) (eq-eqb k l first) (eq-eqb i j second)

-- three tests that pass
pub all_three : (a b c : Bool) → a ≡ true → b ≡ true → c ≡ true → (a && b && c) ≡ true
all_three a b c first second third = and_from (a && b) c (and_from a b first second) third

-- an option has one value
pub one_value : {X : Type 0} (o : Option X) (x y : X) → o ≡ Some x → o ≡ Some y → x ≡ y
one_value o x y first second = let same = sym first ∙ second in cc

-- an option without a value
pub none_from_test : {X : Type 0} (o : Option X) → is_some o ≡ false → o ≡ None
none_from_test None lacks = refl
none_from_test (Some x) lacks = absurd cc

-- the lesser of two numbers
pub less_from_below : (m n : ℕ) → m < n → nat_cmp m n ≡ Less
less_from_below m n below = by (nat_cmp m n) refl where
  by : (r : Ordering) → r ≡ nat_cmp m n → nat_cmp m n ≡ Less
  by Less e = sym e
  by Equal e = absurd (let same = ranked m n Equal e in omega arith)
  by Greater e = absurd (let above = ranked m n Greater e in omega arith)

-- an order that passes the test for the lesser
pub less_from_test : (r : Ordering) → is_lt r ≡ true → r ≡ Less
less_from_test Less passes = refl
less_from_test Equal passes = absurd cc
less_from_test Greater passes = absurd cc

-- where one order and then another decide nothing, neither does
pub both_equal : (r s : Ordering) → ordering_then r s ≡ Equal → (r ≡ Equal) × (s ≡ Equal)
both_equal Less s tied = (tied, absurd cc)
both_equal Equal s tied = (refl, tied)
both_equal Greater s tied = (tied, absurd cc)
