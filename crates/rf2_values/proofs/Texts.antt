-- Bytes in ASCII are UTF-8; and bytes in which neither a TAB nor an LF is found have none.
use Rattle.std.proofs.Common.{◌≡◌, ◌≢◌, ◌↔◌, ℕ, List, Option, Some, None, Bool, true, false, not, is_some, get_or, refl, arith}
use Rattle.std.specs.Prelude.{IsAscii}
use Rattle.std.specs.List.{All}
use Rattle.std.specs.Str.{IsUtf8}
use Rattle.std.proofs.lemmas.Bool.Decides.{nat_tests}
use Rattle.std.proofs.lemmas.List.Elements.{All-get_or, All-from_get_or}
use Rattle.std.proofs.lemmas.Str.{IsUtf8-from_ascii}
use Rattle.memchr.specs.Find.{IsFirstByte, is_byte2}

pub ascii_is_utf8 : (bytes : List ℕ) → IsAscii bytes → IsUtf8 bytes
ascii_is_utf8 bytes ascii = IsUtf8-from_ascii bytes ascii

passes_9 : (b : ℕ) → b ≡ 9 → is_byte2 9 10 b ≡ true
passes_9 b e = grind (arith, nat_tests, e)

passes_10 : (b : ℕ) → b ≡ 10 → is_byte2 9 10 b ≡ true
passes_10 b e = grind (arith, nat_tests, e)

passes_neither : (b : ℕ) → b ≢ 9 → b ≢ 10 → is_byte2 9 10 b ≡ true → ⊥
passes_neither b no_tab no_lf e = grind (arith, nat_tests, no_tab, no_lf, e)

pub neither : (bytes : List ℕ) (found : Option ℕ) (none : Bool) → IsFirstByte (is_byte2 9 10) bytes found → is_some found ≡ not none → none ≡ true ↔ (All (λ b. b ≢ 9) bytes × All (λ b. b ≢ 10) bytes)
neither bytes None true nowhere e = (
  λ is. (
    All-from_get_or (λ b. b ≢ 9) bytes 0 (λ i lt tab. nowhere i (omega arith) lt (passes_9 (get_or bytes i 0) tab)),
    All-from_get_or (λ b. b ≢ 10) bytes 0 (λ i lt lf. nowhere i (omega arith) lt (passes_10 (get_or bytes i 0) lf)),
  ),
  λ both. refl,
)
neither bytes None false nowhere e = absurd cc
neither bytes (Some i) true first e = absurd cc
neither bytes (Some i) false first e = (
  λ is. absurd cc,
  λ both.
      let lt = first.0.high in
      absurd (passes_neither (get_or bytes i 0) (All-get_or (λ b. b ≢ 9) bytes i 0 lt both.0) (All-get_or (λ b. b ≢ 10) bytes i 0 lt both.1) first.1),
)
