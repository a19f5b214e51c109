use Rattle.std.proofs.Common.{rules, ◌≡◌, ◌<◌, ℕ, slice_index_or, length, ap, sym, ◌∙◌, arith}
use Rattle.std.specs.Prelude.{bit_xor}
use Rattle.std.specs.List.{fold}
use Rattle.std.proofs.lemmas.List.{at_drop_all}
use Rattle.checksum.specs.Crc32c.{shifted_by, with_byte}
use Rattle.checksum.proofs.Registers.{fold_two, word}
use Rattle.checksum.proofs.after_two.Goals as goal

pub returns : goal.returns
returns c =
    let r = c.args.register in
    let bs = c.args.bytes in
    let long : length bs ≡ 2 = search rules in
    let small : (j : ℕ) → slice_index_or bs j 0 < 256 = search rules in
    let b0 = slice_index_or bs 0 0 in
    let b1 = slice_index_or bs 1 0 in
    let word_is : c.from_le_bytes.result ≡ word b0 b1 0 0 = omega (arith, c.from_le_bytes.ensures) in
    c.after_few_zeros.ensures
    ∙ ap (λ (w : ℕ). shifted_by 16 (bit_xor r w)) word_is
    ∙ sym (fold_two bs r small (omega (arith, long))
    ∙ at_drop_all (fold with_byte (shifted_by 16 (bit_xor r (word b0 b1 0 0)))) bs 2 (omega (arith, long)))
