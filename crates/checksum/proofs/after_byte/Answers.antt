use Rattle.std.proofs.Common.{◌≡◌, ◌+◌, ◌*◌, ◌/◌, ◌%◌, ◌^◌, List, ℕ, slice_index_or, ap, sym, ◌∙◌, arith}
use Rattle.std.specs.Prelude.{bit_xor}
use Rattle.std.proofs.lemmas.Nat.{xor_comm}
use Rattle.checksum.specs.Crc32c.{shifted_by, with_byte}
use Rattle.checksum.proofs.Registers.{byte_taken, from_first}
use Rattle.checksum.proofs.after_byte.Goals as goal

pub returns : goal.returns
returns c =
    let r = c.args.register in
    let b = c.args.byte in
    let split : r % 256 + r / 256 * 256 ≡ r = omega arith in
    let low =
    c.highest_after.ensures
    ∙ ap (λ (l : List ℕ). shifted_by 32 (bit_xor (slice_index_or l 0 0) b * 2 ^ 24)) c.to_le_bytes.ensures
    ∙ from_first 8 (bit_xor (r % 256) b) in
    ap (bit_xor (r / 256)) low ∙ xor_comm (r / 256) (shifted_by 8 (bit_xor (r % 256) b))
    ∙ sym (byte_taken (r / 256) (r % 256) b (omega arith))
    ∙ ap (λ (x : ℕ). with_byte x b) split
