use Rattle.std.proofs.Common.{◌*◌, ℕ, length, ap, sym, ◌∙◌}
use Rattle.std.specs.Prelude.{bit_xor}
use Rattle.std.specs.List.{fold}
use Rattle.std.specs.Int.Bits.{xor_assoc}
use Rattle.checksum.specs.Crc32c.{continued, crc32c, shifted_by, with_byte}
use Rattle.checksum.proofs.Registers.{folded_apart}
use Rattle.checksum.proofs.joined.Goals as goal

pub returns : goal.returns
unfolding continued crc32c
returns c = λ bytes long sum.
    let start : ℕ = 0xFFFFFFFF in
    let first = c.args.first in
    let others = fold with_byte start bytes in
    ap (λ (x : ℕ). bit_xor x c.args.second) c.after_zeros.ensures
    ∙ ap (λ n. bit_xor (shifted_by (8 * n) first) c.args.second) (sym long)
    ∙ ap (bit_xor (shifted_by (8 * length bytes) first)) (sym sum)
    ∙ sym (xor_assoc (shifted_by (8 * length bytes) first) others start)
    ∙ ap (λ (x : ℕ). bit_xor x start) (sym (folded_apart bytes first start))
