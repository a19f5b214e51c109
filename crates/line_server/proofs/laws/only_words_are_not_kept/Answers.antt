use Rattle.line_server.proofs.Later.{only_words_are_not_kept}
use Rattle.line_server.proofs.laws.only_words_are_not_kept.Goals as goal

pub returns : goal.returns
returns g c = only_words_are_not_kept _ g.D.Disk.view
