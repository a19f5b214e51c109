use Rattle.command_line.proofs.OnlyRead.{not_read}
use Rattle.command_line.proofs.folder_source.FolderSource.tell_warnings.Goals as goal

pub returns-in-None : goal.returns-in-None
returns-in-None g c = not_read g.D.Disk.view _
