use Rattle.line_server.proofs.OneReplies.{one_reply}
use Rattle.line_server.proofs.laws.one_reply.Goals as goal

pub returns : goal.returns
returns g c = one_reply _ g.D.Disk.view
