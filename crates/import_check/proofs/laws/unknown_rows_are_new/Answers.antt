use Rattle.import_check.proofs.Receipts.{unknown_rows_are_new}
use Rattle.import_check.proofs.laws.unknown_rows_are_new.Goals as goal

pub returns : goal.returns
returns c = unknown_rows_are_new
