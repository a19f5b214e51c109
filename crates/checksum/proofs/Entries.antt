-- The tables have what becomes of a register of one byte as it takes in zero bytes, by computing.
use Rattle.std.proofs.Common.{◌≡◌, ℕ, ◌+◌, ◌*◌, ◌/◌, ◌%◌, ◌^◌, ◌<◌, List, get_or, map, refl, ap, ◌∙◌, arith}
use Rattle.std.specs.List.{range_with_len}
use Rattle.std.proofs.lemmas.List.FromFn.{get_or-map-range_with_len}
use Rattle.checksum.specs.Crc32c.{shifted, shifted_by}
use Rattle.checksum.specs.declared.tables.TheConstants.{AFTER_ZEROS, AFTER_64_ZEROS}

-- what a table has at each place that begins with `bits`: 256 numbers for each count of zero bytes
abbrev entry_at : ℕ → ℕ → ℕ
entry_at bits place = shifted_by (bits + 8 * (place / 256)) (place % 256 * 2 ^ 24)

entry : (table : List ℕ) (bits len zeros byte d : ℕ) → table ≡ map (entry_at bits) (range_with_len 0 len) → byte < 256 → 256 * zeros + byte < len → get_or table (256 * zeros + byte) d ≡ shifted_by (bits + 8 * zeros) (byte * 2 ^ 24)
entry table bits len zeros byte d is small within =
    let row : (256 * zeros + byte) / 256 ≡ zeros = omega (arith, small) in
    let column : (256 * zeros + byte) % 256 ≡ byte = omega (arith, small) in
    ap (λ (t : List ℕ). get_or t (256 * zeros + byte) d) is
    ∙ get_or-map-range_with_len (entry_at bits) 0 len (256 * zeros + byte) (256 * zeros + byte) d within (omega arith)
    ∙ ap (λ n. shifted_by (bits + 8 * n) ((256 * zeros + byte) % 256 * 2 ^ 24)) row
    ∙ ap (λ n. shifted_by (bits + 8 * zeros) (n * 2 ^ 24)) column

near_table : AFTER_ZEROS ≡ map (entry_at 0) (range_with_len 0 5120)
unfolding shifted shifted_by
near_table = refl

far_table : AFTER_64_ZEROS ≡ map (entry_at 512) (range_with_len 0 1024)
unfolding shifted shifted_by
far_table = refl

pub near_entry : (zeros byte d : ℕ) → zeros < 20 → byte < 256 → get_or AFTER_ZEROS (256 * zeros + byte) d ≡ shifted_by (8 * zeros) (byte * 2 ^ 24)
near_entry zeros byte d few small =
    let bits : 0 + 8 * zeros ≡ 8 * zeros = omega arith in
    entry AFTER_ZEROS 0 5120 zeros byte d near_table small (omega (arith, few, small)) ∙ ap (λ n. shifted_by n (byte * 2 ^ 24)) bits

pub far_entry : (more byte d : ℕ) → more < 4 → byte < 256 → get_or AFTER_64_ZEROS (256 * more + byte) d ≡ shifted_by (512 + 8 * more) (byte * 2 ^ 24)
far_entry more byte d few small = entry AFTER_64_ZEROS 512 1024 more byte d far_table small (omega (arith, few, small))
