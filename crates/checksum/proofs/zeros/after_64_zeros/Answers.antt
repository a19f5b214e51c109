use Rattle.std.proofs.Common.{◌*◌, ◌^◌, List, ℕ, slice_index_or, ap, ◌∙◌, arith}
use Rattle.std.specs.Prelude.{bit_xor}
use Rattle.checksum.specs.Crc32c.{shifted_by}
use Rattle.checksum.proofs.Registers.{bytes_shifted}
use Rattle.checksum.proofs.zeros.after_64_zeros.Goals as goal

pub returns : goal.returns
returns c =
    let byte_is = λ (i : ℕ). ap (λ (l : List ℕ). slice_index_or l i 0 * 2 ^ 24) c.to_le_bytes.ensures in
    let e0 = c.highest_after_64.ensures ∙ ap (shifted_by 536) (byte_is 0) in
    let e1 = c.highest_after_64-2.ensures ∙ ap (shifted_by 528) (byte_is 1) in
    let e2 = c.highest_after_64-3.ensures ∙ ap (shifted_by 520) (byte_is 2) in
    let e3 = c.highest_after_64-4.ensures ∙ ap (shifted_by 512) (byte_is 3) in
    (λ i. bit_xor (e0 i) (bit_xor (e1 i) (bit_xor (e2 i) (e3 i))))
    ∙ bytes_shifted 512 c.args.register (omega (arith, c.ranges.register))
