use Rattle.line_server.proofs.Received.{receipt_undisturbed}
use Rattle.line_server.proofs.laws.pinned_receipt_is_undisturbed.Goals as goal

pub returns : goal.returns
returns g c = receipt_undisturbed _ g.D.Disk.view
