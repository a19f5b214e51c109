use Rattle.line_server.proofs.Called.{run_called}
use Rattle.line_server.specs.Sources.{source_view}
use Rattle.line_server.proofs.laws.lines_are_calls.Goals as goal

pub returns : goal.returns
returns g c = λ source old new turns run. run_called g.D.Disk.view (source_view (g.S.Source.is_honest source) (g.S.Source.releases source)) old new turns run
