use Rattle.line_server.proofs.Later.{only_members_need_later}
use Rattle.line_server.proofs.laws.only_members_need_later.Goals as goal

pub returns : goal.returns
returns g c = only_members_need_later _ g.D.Disk.view
