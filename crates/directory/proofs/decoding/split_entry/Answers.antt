use Rattle.std.proofs.Common.{◌≡◌, true, false, sym, ◌∙◌}
use Rattle.directory.proofs.Spelled.{AreNumbers, numbers_joined, entry_from_numbers, numbers_from_entry}
use Rattle.directory.proofs.decoding.split_entry.Goals as goal

pub returns-then-is_allowed-clause-found : goal.returns-then-is_allowed-clause-found
returns-then-is_allowed-clause-found c =
    let first = c.split_u32-first.ensures in
    let bytes = c.split_u32-bytes.ensures in
    let rows = c.split_u32-rows.ensures in
    let last = c.split_u32-code.ensures in
    entry_from_numbers c.args.bytes.now _ _ _ _ c.with_code-sums.result c.split_u32-code.result.1.now
    (record { bytes_are = numbers_joined c.args.bytes.now _ _ _ _ _ _ _ _ first.bytes bytes.bytes rows.bytes last.bytes; a_fits = first.fits; b_fits = bytes.fits; c_fits = rows.fits; d_fits = last.fits })
    c.with_code-sums.ensures.is

pub returns-else-is_allowed-clause-only : goal.returns-else-is_allowed-clause-only
returns-else-is_allowed-clause-only c entry rest is e =
    let first = c.split_u32-first.ensures in
    let bytes = c.split_u32-bytes.ensures in
    let rows = c.split_u32-rows.ensures in
    let last = c.split_u32-code.ensures in
    let spelled = numbers_from_entry c.args.bytes.now c.split_u32-first.result.0 c.split_u32-bytes.result.0 c.split_u32-rows.result.0 c.split_u32-code.result.0 c.split_u32-code.result.1.now entry rest
    (record { bytes_are = numbers_joined c.args.bytes.now _ _ _ _ _ _ _ _ first.bytes bytes.bytes rows.bytes last.bytes; a_fits = first.fits; b_fits = bytes.fits; c_fits = rows.fits; d_fits = last.fits })
    is e c.with_code-sums.result (c.with_code-sums.ensures.allowed last.fits) c.with_code-sums.ensures.is in
    let wrong : true ≡ false = sym (c.is_allowed.ensures.1 spelled) ∙ c.if-is_allowed.false in
    absurd cc
