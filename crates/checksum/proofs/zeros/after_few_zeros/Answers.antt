use Rattle.std.proofs.Common.{◌≡◌, ◌+◌, ◌*◌, ◌^◌, List, ℕ, slice_index_or, ap, ◌∙◌, arith}
use Rattle.std.specs.Prelude.{bit_xor}
use Rattle.checksum.specs.Crc32c.{shifted_by}
use Rattle.checksum.proofs.Registers.{bytes_shifted}
use Rattle.checksum.proofs.zeros.after_few_zeros.Goals as goal

pub returns : goal.returns
returns c =
    let n = 8 * c.args.zeros in
    let bits3 : 8 * (c.args.zeros + 3) ≡ n + 24 = omega arith in
    let bits2 : 8 * (c.args.zeros + 2) ≡ n + 16 = omega arith in
    let bits1 : 8 * (c.args.zeros + 1) ≡ n + 8 = omega arith in
    let byte_is = λ (i : ℕ). ap (λ (l : List ℕ). slice_index_or l i 0 * 2 ^ 24) c.to_le_bytes.ensures in
    let e0 = c.highest_after.ensures ∙ (λ i. shifted_by (bits3 i) (byte_is 0 i)) in
    let e1 = c.highest_after-2.ensures ∙ (λ i. shifted_by (bits2 i) (byte_is 1 i)) in
    let e2 = c.highest_after-3.ensures ∙ (λ i. shifted_by (bits1 i) (byte_is 2 i)) in
    let e3 = c.highest_after-4.ensures ∙ (λ i. shifted_by n (byte_is 3 i)) in
    (λ i. bit_xor (e0 i) (bit_xor (e1 i) (bit_xor (e2 i) (e3 i))))
    ∙ bytes_shifted n c.args.register (omega (arith, c.ranges.register))
