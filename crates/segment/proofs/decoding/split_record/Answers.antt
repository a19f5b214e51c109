use Rattle.std.proofs.Common.{arith}
use Rattle.segment.proofs.Found.{plain_splits}
use Rattle.segment.proofs.decoding.split_record.Goals as goal

pub returns-in-Plain : goal.returns-in-Plain
returns-in-Plain c = rw c.in-Plain.is (plain_splits c.args.bytes.now _ (λ i. omega (arith, c.type_inv.bytes i)) c.read_record_bytes.ensures)
