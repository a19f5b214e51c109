use Rattle.line_server.proofs.Undisturbed.{pinned_sees_receipts}
use Rattle.line_server.proofs.laws.pinned_sees_its_receipts.Goals as goal

pub returns : goal.returns
returns g c = pinned_sees_receipts _ g.D.Disk.view g.met.D.Disk.now_is_image
