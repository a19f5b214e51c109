use Rattle.std.proofs.Common.{rules, ◌≡◌, ◌<◌, ℕ, slice_index_or, length, ap, sym, ◌∙◌, arith}
use Rattle.std.specs.Prelude.{bit_xor}
use Rattle.std.specs.List.{fold}
use Rattle.std.proofs.lemmas.List.{at_drop_all}
use Rattle.checksum.specs.Crc32c.{shifted_by, with_byte}
use Rattle.checksum.proofs.Registers.{fold_four, two_words, word_at}
use Rattle.checksum.proofs.after_eight.Goals as goal

pub returns : goal.returns
returns c =
    let r = c.args.register in
    let bs = c.args.bytes in
    let long : length bs ≡ 8 = search rules in
    let small : (j : ℕ) → slice_index_or bs j 0 < 256 = search rules in
    let w0 : c.from_le_bytes-w0.result ≡ word_at bs 0 = omega (arith, c.from_le_bytes-w0.ensures) in
    let w1 : c.from_le_bytes-w1.result ≡ word_at bs 4 = omega (arith, c.from_le_bytes-w1.ensures) in
    let r1 = shifted_by 32 (bit_xor r (word_at bs 0)) in
    let r2 = shifted_by 32 (bit_xor r1 (word_at bs 4)) in
    let e0 = c.after_few_zeros.ensures ∙ ap (λ (w : ℕ). shifted_by 64 (bit_xor r w)) w0 in
    let e1 = c.after_few_zeros-2.ensures ∙ ap (shifted_by 32) w1 in
    (λ i. bit_xor (e0 i) (e1 i))
    ∙ sym (fold_four bs r 0 small (omega (arith, long))
    ∙ fold_four bs r1 4 small (omega (arith, long))
    ∙ at_drop_all (fold with_byte r2) bs 8 (omega (arith, long))
    ∙ two_words (bit_xor r (word_at bs 0)) (word_at bs 4))
