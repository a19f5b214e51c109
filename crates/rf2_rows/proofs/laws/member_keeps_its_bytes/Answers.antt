use Rattle.rf2_rows.proofs.RowLaws.{member_keeps_its_bytes}
use Rattle.rf2_rows.proofs.laws.member_keeps_its_bytes.Goals as goal

pub returns : goal.returns
returns c = member_keeps_its_bytes
