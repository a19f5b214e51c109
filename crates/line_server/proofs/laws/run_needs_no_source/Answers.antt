use Rattle.line_server.proofs.Alike.{run_of_none}
use Rattle.line_server.specs.Sources.{source_view}
use Rattle.line_server.proofs.laws.run_needs_no_source.Goals as goal

pub returns : goal.returns
returns g c = λ source has old new turns run. run_of_none (source_view (g.S.Source.is_honest source) (g.S.Source.releases source)) has g.D.Disk.view turns old new run
