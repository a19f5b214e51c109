use Rattle.std.proofs.Common.{arith}
use Rattle.std.proofs.lemmas.Result.{err_from_is_err_and}
use Rattle.segment.proofs.Found.{record_found, record_refused}
use Rattle.segment.proofs.decoding.next_record.Goals as goal

pub returns-in_err-row : goal.returns-in_err-row
returns-in_err-row c =
    record_refused c.args.form c.args.bytes.now c.in-Some.record.now c.in-Some.rest.now c.from_residual.result c.in_err-row.field-0.0 c.in-Some.ensures
    (err_from_is_err_and c.from_residual.result c.from_residual.ensures.1) c.in_err-row.ensures

pub returns : goal.returns
returns c = record_found c.args.form c.args.bytes.now c.in-Some.record.now c.in-Some.rest.now c.in_ok-row.row c.in-Some.ensures c.in_ok-row.ensures
