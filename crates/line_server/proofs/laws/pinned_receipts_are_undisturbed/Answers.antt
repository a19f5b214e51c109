use Rattle.line_server.proofs.Undisturbed.{receipts_undisturbed}
use Rattle.line_server.proofs.laws.pinned_receipts_are_undisturbed.Goals as goal

pub returns : goal.returns
returns g c = receipts_undisturbed _ g.D.Disk.view g.met.D.Disk.now_is_image
