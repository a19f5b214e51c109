use Rattle.line_server.proofs.Pinned.{undisturbed}
use Rattle.line_server.proofs.laws.pinned_is_undisturbed.Goals as goal

pub returns : goal.returns
returns g c = undisturbed _ g.D.Disk.view
