use Rattle.std.proofs.Common.{length, ap, arith}
use Rattle.history_model.proofs.Receipts.{length-after_release}
use Rattle.plain_history.proofs.releases.receipt.Goals as goal

pub overflow_sub-new : goal.overflow_sub-new
overflow_sub-new c =
    let a = c.args in
    let bounds = length-after_release (record { imports = a.imports; rows = a.rows.now }) a.release.now in
    let same = ap length c.in_ok-after.ensures in
    omega (arith, bounds.0, c.in_ok-after.after.ok.0)

pub overflow_sub-repeated : goal.overflow_sub-repeated
overflow_sub-repeated c =
    let a = c.args in
    let bounds = length-after_release (record { imports = a.imports; rows = a.rows.now }) a.release.now in
    let same = ap length c.in_ok-after.ensures in
    omega (arith, bounds.1, c.in_ok-after.after.ok.0)

pub returns : goal.returns
returns c =
    let a = c.args in
    let bounds = length-after_release (record { imports = a.imports; rows = a.rows.now }) a.release.now in
    let same = ap length c.in_ok-after.ensures in
    record {
      number_is = omega arith;
      new_is = omega (arith, bounds.0, bounds.1, c.in_ok-after.after.ok.0);
      repeated_is = omega (arith, bounds.0, bounds.1, c.in_ok-after.after.ok.0);
    }
