use Rattle.std.proofs.Common.{arith}
use Rattle.store_image.proofs.Windowed.{record_ends}
use Rattle.store_image.proofs.window.Window.row_in.Goals as goal

pub overflow_add-result : goal.overflow_add-result
overflow_add-result c =
    let ends = record_ends c.args.self.now.form c.args.self.now.len _ c.in_ok-row.next c.as_slice.result.now c.in_ok-row.row c.in_ok-row.ensures.found in
    let fits = c.args.self.now.fits in
    omega (arith, ends, fits)

pub returns-clause-within : goal.returns-clause-within
returns-clause-within c =
    let ends = record_ends c.args.self.now.form c.args.self.now.len _ c.in_ok-row.next c.as_slice.result.now c.in_ok-row.row c.in_ok-row.ensures.found in
    let within = c.args.self.now.within in
    omega (arith, ends, within)

pub returns-clause-reached : goal.returns-clause-reached
returns-clause-reached c =
    let ends = record_ends c.args.self.now.form c.args.self.now.len _ c.in_ok-row.next c.as_slice.result.now c.in_ok-row.row c.in_ok-row.ensures.found in
    omega (arith, ends)

pub overflow_cast-result : goal.overflow_cast-result
overflow_cast-result c =
    let ends = record_ends c.args.self.now.form c.args.self.now.len _ c.in_ok-row.next c.as_slice.result.now c.in_ok-row.row c.in_ok-row.ensures.found in
    let short = c.args.self.now.short in
    omega (arith, ends, short)
