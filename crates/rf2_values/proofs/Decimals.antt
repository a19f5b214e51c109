-- What `parse` reads is what decimal digits spell, but for a plus sign and leading zeros.
use Rattle.std.proofs.Common.{◌≡◌, ℕ, ◌<◌, ◌^◌, List, get_or, Result, Ok, Err, Some, refl, sym, ap, subst, ◌∙◌, arith, inl, inr}
use Rattle.std.specs.Prelude.{IfSome, decimal}
use Rattle.std.specs.Result.{result_ok}
use Rattle.std.specs.Str.{IsUtf8}
use Rattle.std.specs.Str.Parse.{ParsesUnsigned, AllDigits, digits_value}
use Rattle.rf2_values.specs.Private.{IsPlain}
use Rattle.rf2_values.specs.Time.{IsTime}
use Rattle.std.proofs.lemmas.Bool.{cases_eq}
use Rattle.std.proofs.lemmas.Str.{IsUtf8-from_ascii}
use Rattle.std.proofs.lemmas.Str.Parse.{IsNumeralModel, numerals_by_value, tells_digits, parse_plain}
use Rattle.std.proofs.lemmas.Fmt.{IsAscii-decimal, decimal_nonempty, first_decimal, decimal_digit, decimal-digits_value, parse-decimal}

pub own : IsNumeralModel (AllDigits 10) (digits_value 10)
own = numerals_by_value (AllDigits 10) tells_digits

-- a day is a number of 64 bits
pub time_below : (t : ℕ) → IsTime t → t < 2 ^ 64
time_below t h = let to = h.year_to in omega arith

pub decimal_is_plain : (n : ℕ) → n < 2 ^ 64 → IsPlain (decimal n)
decimal_is_plain n lt =
    elim (cases_eq n 0) [
      | inl zero ↦ subst IsPlain (sym (ap (λ (k : ℕ). decimal k) zero ∙ decimal_digit 0 (omega arith))) (record { some = omega arith; no_plus = omega arith; no_zero = λ _. refl })
      | inr other ↦
          let first : 48 < get_or (decimal n) 0 0 = first_decimal n (omega arith) lt in
          record { some = decimal_nonempty n lt; no_plus = omega arith; no_zero = λ e. absurd (omega arith) }
    ]

pub decimal_is_utf8 : (n : ℕ) → n < 2 ^ 64 → IsUtf8 (decimal n)
decimal_is_utf8 n lt = IsUtf8-from_ascii (decimal n) (IsAscii-decimal n lt)

read_plain : {E : Type 0} (text : List ℕ) (r : Result ℕ E) → IsPlain text → ParsesUnsigned 64 10 text r → IfSome (result_ok r) (λ n. text ≡ decimal n)
read_plain {E = E} text (Ok n) plain given =
    let parts = parse_plain own {E = E} 64 text (Ok n) given plain.no_plus in
    sym (ap (λ (k : ℕ). decimal k) parts.1 ∙ decimal-digits_value own text parts.0.0 plain.some plain.no_zero parts.0.2)
read_plain text (Err e) plain given = tt

pub parsed : {E : Type 0} (text digits : List ℕ) (r : Result ℕ E) → digits ≡ text → IsPlain text → ParsesUnsigned 64 10 digits r → IfSome (result_ok r) (λ n. text ≡ decimal n)
parsed text digits r e plain given = read_plain text r plain (rw e at given)

pub reads : {E : Type 0} (text digits : List ℕ) (r : Result ℕ E) (n : ℕ) → digits ≡ text → n < 2 ^ 64 → text ≡ decimal n → ParsesUnsigned 64 10 digits r → result_ok r ≡ Some n
reads text digits r n e lt is given = ap result_ok (parse-decimal 64 n digits r lt lt (e ∙ is) given)
