-- The checksum of bytes that are taken in one after the other.
use Rattle.std.proofs.Common.{◌≡◌, ℕ, ◌^◌, ◌<◌, List, [], take, drop, refl, sym, ap, subst, ◌∙◌}
use Rattle.std.specs.Int.{w32, to_be_bytes, from_be_bytes}
use Rattle.std.proofs.lemmas.List.{take_at, drop_at}
use Rattle.std.proofs.lemmas.Nat.{from_be_bytes-to_be_bytes_4}
use Rattle.history_model.specs.declared.stamped.StampedRow.{StampedRow}
use Rattle.checksum.specs.declared.form.Form.TheVariants as forms
use Rattle.checksum.specs.Crc32c.{continued, crc32c}
use Rattle.checksum.proofs.ChecksumLaws.{is_number_of_32_bits}
use Rattle.segment.specs.Records.{field_bytes, spelled, fields_of, record_in}
use Rattle.segment.proofs.Numbers.{IsBytes, IsBytes-drop, number_length}
use Rattle.segment.proofs.Checksums.{bytes_all}

pub none_is : 0 ≡ crc32c []
unfolding continued crc32c
none_is = refl

-- a checked record begins with the checksum of its other bytes
pub head_is_sum : (bytes : List ℕ) (s : StampedRow) → IsBytes bytes → bytes ≡ record_in forms.Checked s → crc32c (drop 4 bytes) ≡ from_be_bytes w32 (take 4 bytes)
unfolding record_in field_bytes
head_is_sum bytes s fits is =
    let fields = spelled (fields_of s) in
    let head = to_be_bytes w32 (crc32c fields) in
    let behind : drop 4 bytes ≡ fields = ap (drop 4) is ∙ drop_at head fields 4 (number_length w32 (crc32c fields)) in
    let front : take 4 bytes ≡ head = ap (take 4) is ∙ take_at head fields 4 (number_length w32 (crc32c fields)) in
    let small : crc32c fields < 2 ^ 32 = is_number_of_32_bits fields (bytes_all fields (subst IsBytes behind (IsBytes-drop 4 bytes fits))) in
    ap crc32c behind ∙ sym (ap (from_be_bytes w32) front ∙ from_be_bytes-to_be_bytes_4 (crc32c fields) small)
