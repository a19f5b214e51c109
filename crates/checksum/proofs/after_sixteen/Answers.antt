use Rattle.std.proofs.Common.{rules, ◌≡◌, ◌<◌, ℕ, slice_index_or, length, ap, sym, ◌∙◌, arith}
use Rattle.std.specs.Prelude.{bit_xor}
use Rattle.std.specs.List.{fold}
use Rattle.std.proofs.lemmas.List.{at_drop_all}
use Rattle.checksum.specs.Crc32c.{shifted_by, with_byte}
use Rattle.checksum.proofs.Registers.{fold_four, four_words, word_at}
use Rattle.checksum.proofs.after_sixteen.Goals as goal

pub returns : goal.returns
returns c =
    let r = c.args.register in
    let bs = c.args.bytes in
    let long : length bs ≡ 16 = search rules in
    let small : (j : ℕ) → slice_index_or bs j 0 < 256 = search rules in
    let w0 : c.from_le_bytes-w0.result ≡ word_at bs 0 = omega (arith, c.from_le_bytes-w0.ensures) in
    let w1 : c.from_le_bytes-w1.result ≡ word_at bs 4 = omega (arith, c.from_le_bytes-w1.ensures) in
    let w2 : c.from_le_bytes-w2.result ≡ word_at bs 8 = omega (arith, c.from_le_bytes-w2.ensures) in
    let w3 : c.from_le_bytes-w3.result ≡ word_at bs 12 = omega (arith, c.from_le_bytes-w3.ensures) in
    let r1 = shifted_by 32 (bit_xor r (word_at bs 0)) in
    let r2 = shifted_by 32 (bit_xor r1 (word_at bs 4)) in
    let r3 = shifted_by 32 (bit_xor r2 (word_at bs 8)) in
    let r4 = shifted_by 32 (bit_xor r3 (word_at bs 12)) in
    let e0 = c.after_few_zeros.ensures ∙ ap (λ (w : ℕ). shifted_by 128 (bit_xor r w)) w0 in
    let e1 = c.after_few_zeros-2.ensures ∙ ap (shifted_by 96) w1 in
    let e2 = c.after_few_zeros-3.ensures ∙ ap (shifted_by 64) w2 in
    let e3 = c.after_few_zeros-4.ensures ∙ ap (shifted_by 32) w3 in
    (λ i. bit_xor (e0 i) (bit_xor (e1 i) (bit_xor (e2 i) (e3 i))))
    ∙ sym (fold_four bs r 0 small (omega (arith, long))
    ∙ fold_four bs r1 4 small (omega (arith, long))
    ∙ fold_four bs r2 8 small (omega (arith, long))
    ∙ fold_four bs r3 12 small (omega (arith, long))
    ∙ at_drop_all (fold with_byte r4) bs 16 (omega (arith, long))
    ∙ four_words (bit_xor r (word_at bs 0)) (word_at bs 4) (word_at bs 8) (word_at bs 12))
