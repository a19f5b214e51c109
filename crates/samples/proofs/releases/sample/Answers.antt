use Rattle.std.proofs.Common.{Some, sym, ap, ◌∙◌}
use Rattle.samples.specs.Sample.{sample_files}
use Rattle.samples.proofs.releases.sample.Goals as goal

pub returns-in_ok-release_of-in-r1 : goal.returns-in_ok-release_of-in-r1
returns-in_ok-release_of-in-r1 c = ap Some c.in_ok-release_of-in-r1.ensures ∙ sym (ap sample_files c.in-r1.is)
