use Rattle.std.proofs.Common.{◌≡◌, length, drop, sym, ap, ◌∙◌, arith}
use Rattle.std.proofs.lemmas.List.{take_rest}
use Rattle.rf2_rows.specs.Line.{own_columns, FirstFault, IsFaultOfColumns}
use Rattle.rf2_rows.specs.Private.{texts}
use Rattle.std.proofs.lemmas.Result.{err_from_is_err_and}
use Rattle.rf2_rows.proofs.Faults.{fault_in_common, fault_in_own, given_map, later_free, row_of_columns, shape_of_columns, wrong_count}
use Rattle.rf2_rows.proofs.line.read_columns.Goals as goal

pub returns-in_err-common : goal.returns-in_err-common
returns-in_err-common c =
    let own = take_rest c.args.columns.now 4 in
    let own_len : length (drop 4 c.args.columns.now) ≡ length (own_columns c.args.shape) = ap length (sym own) ∙ c.has_own_count.ensures.0 c.if-not-has_own_count.false in
    let p = err_from_is_err_and c.from_residual.result c.from_residual.ensures.1 in
    rw (p.1, p.2) (fault_in_common c.args.shape c.args.columns.now c.in_err-common.field-0.0 (omega arith) own_len c.in_err-common.ensures)

pub returns-in_err-body : goal.returns-in_err-body
returns-in_err-body c =
    let own = take_rest c.args.columns.now 4 in
    let own_len : length (drop 4 c.args.columns.now) ≡ length (own_columns c.args.shape) = ap length (sym own) ∙ c.has_own_count.ensures.0 c.if-not-has_own_count.false in
    let p = err_from_is_err_and c.from_residual-in_err-body.result c.from_residual-in_err-body.ensures.1 in
    let common = c.in_ok-common.common in
    let h = c.in_ok-common.ensures in
    rw (p.1, p.2) (given_map (FirstFault (own_columns c.args.shape) (texts (drop 4 c.args.columns.now))) (IsFaultOfColumns c.args.shape (texts c.args.columns.now))
    (λ f. fault_in_own c.args.shape c.args.columns.now f (omega arith) own_len
    ((common.id, h.0, h.1), ((common.time, h.2, h.3), ((common.active, h.4), ((common.module_id, h.5, h.6), tt))))) c.in_err-body.field-0.0 (rw own at c.in_err-body.ensures))

pub new-requires : goal.new-requires
new-requires c =
    let own = take_rest c.args.columns.now 4 in
    let common = c.in_ok-common.common in
    let h = c.in_ok-common.ensures in
    let b = c.in_ok-body.ensures in
    row_of_columns c.args.shape.kind c.args.columns.now common.id common.time common.active common.module_id c.in_ok-body.body (omega arith)
    h.0 h.1 h.2 h.3 h.4 h.5 h.6 b.0 b.1 (sym (ap texts own) ∙ b.2) c.requires.short
