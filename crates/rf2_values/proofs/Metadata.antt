-- Numbers that are found to be identifiers by computing.
use Rattle.std.proofs.Common.{◌≡◌, ◌⊎◌, ℕ, zero, suc, ◌+◌, ◌/◌, ◌%◌, Bool, true, false, cond, ◌&&◌, inl, inr, refl, sym, ap, subst, ◌∙◌, arith}
use Rattle.std.specs.Prelude.{◌==◌, nat_le, nat_lt}
use Rattle.std.proofs.lemmas.Bool.{and_parts}
use Rattle.std.proofs.lemmas.Bool.Decides.{nat_tests}
use Rattle.rf2_values.specs.Sctid.{IsSctid, check_from, entry, products, turns}
use Rattle.rf2_values.proofs.Digits.{from_right, check_step}

-- the check is 0 after at most so many digits, from the place i on
unfoldable pub ends_at_0 : ℕ → ℕ → ℕ → ℕ → Bool
ends_at_0 zero i check n = false
ends_at_0 (suc digits) i check n =
    cond (n == 0) (check == 0) (ends_at_0 digits (i + 1) (entry products check (entry turns (i % 8) (n % 10))) (n / 10))

checked : (digits i check n : ℕ) → ends_at_0 digits i check n ≡ true → check_from i check (from_right n) ≡ 0
unfolding ends_at_0 check_from
checked zero i check n e = absurd (cc)
checked (suc digits) i check n e =
    elim (n == 0) as (λ t. (n == 0) ≡ t → cond t (check == 0) (ends_at_0 digits (i + 1) (entry products check (entry turns (i % 8) (n % 10))) (n / 10)) ≡ true → check_from i check (from_right n) ≡ 0) [
      | true ↦ λ f g.
          let over : n ≡ 0 = grind (arith, nat_tests, f) in
          let right : check ≡ 0 = grind (arith, nat_tests, g) in
          ap (λ m. check_from i check (from_right m)) over ∙ right
      | false ↦ λ f g. check_step i check n (grind (arith, nat_tests, f)) ∙ checked digits (i + 1) (entry products check (entry turns (i % 8) (n % 10))) (n / 10) g
    ] refl e

unfoldable pub is_right : ℕ → Bool
is_right n = nat_le 100000 n && (nat_lt n 1000000000000000000 && ends_at_0 19 0 0 n)

right : (n : ℕ) → is_right n ≡ true → IsSctid n
unfolding is_right
right n e =
    let low = and_parts (nat_le 100000 n) (nat_lt n 1000000000000000000 && ends_at_0 19 0 0 n) e in
    let high = and_parts (nat_lt n 1000000000000000000) (ends_at_0 19 0 0 n) low.1 in
    record {
      low = grind (arith, nat_tests, low.0);
      high = grind (arith, nat_tests, high.0);
      checked = checked 19 0 0 n high.1;
    }

pub only : (n a : ℕ) → is_right a ≡ true → n ≡ a → IsSctid n
only n a e same = subst IsSctid (sym same) (right a e)

pub either : {R : Type 0} (n a : ℕ) → is_right a ≡ true → (R → IsSctid n) → (n ≡ a) ⊎ R → IsSctid n
either n a e others h = elim h [ inl same ↦ only n a e same | inr other ↦ others other ]
