-- The laws of the checksum.
use Rattle.std.proofs.Common.{◌≡◌, ℕ, ◌<◌, ◌^◌, ◌∷◌, ◌++◌, List, ap, ◌∙◌, sym, arith}
use Rattle.std.specs.Prelude.{bit_xor}
use Rattle.std.specs.List.{fold}
use Rattle.std.proofs.lemmas.List.Sums.{fold-append}
use Rattle.std.proofs.lemmas.Nat.{xor_lt}
use Rattle.checksum.specs.Crc32c.{continued, crc32c, with_byte, GoesOn, OneByteIsNoticed, IsNumberOf32Bits}
use Rattle.checksum.proofs.Registers.{turned_back, xor_same_right, fold_same, fold_small, byte_same, taken_small}

-- after bytes and then others, the checksum is that after both at once
pub continued_on : (crc : ℕ) (bytes others : List ℕ) → continued (continued crc bytes) others ≡ continued crc (bytes ++ others)
unfolding continued
continued_on crc bytes others =
    let start = bit_xor crc 0xFFFFFFFF in
    ap (λ r. bit_xor (fold with_byte r others) 0xFFFFFFFF) (turned_back (fold with_byte start bytes))
    ∙ ap (λ r. bit_xor r 0xFFFFFFFF) (sym (fold-append with_byte start bytes others))

pub goes_on : GoesOn
unfolding crc32c
goes_on bytes others = continued_on 0 bytes others

pub one_byte_is_noticed : OneByteIsNoticed
unfolding continued crc32c
one_byte_is_noticed before after byte other bs bsA small smallO same =
    let start : ℕ = 0xFFFFFFFF in
    let r = fold with_byte start before in
    let smallR : r < 2 ^ 32 = fold_small before start (omega arith) bs in
    let folds : fold with_byte r (byte ∷ after) ≡ fold with_byte r (other ∷ after) =
    sym (fold-append with_byte start before (byte ∷ after))
    ∙ xor_same_right start (fold with_byte start (before ++ byte ∷ after)) (fold with_byte start (before ++ other ∷ after)) same
    ∙ fold-append with_byte start before (other ∷ after) in
    byte_same r byte other smallR small smallO
    (fold_same after (with_byte r byte) (with_byte r other) (taken_small r byte smallR small) (taken_small r other smallR smallO) bsA folds)

pub is_number_of_32_bits : IsNumberOf32Bits
unfolding continued crc32c
is_number_of_32_bits bytes all = xor_lt 32 (fold with_byte 0xFFFFFFFF bytes) 0xFFFFFFFF (fold_small bytes 0xFFFFFFFF (omega arith) all) (omega arith)
