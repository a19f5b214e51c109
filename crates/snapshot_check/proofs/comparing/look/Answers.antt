use Rattle.std.proofs.Common.{subst}
use Rattle.std.specs.Prelude.{IfOk}
use Rattle.rf2_values.specs.declared.key.Key.{Key}
use Rattle.snapshot_check.specs.Differences.{shown_component}
use Rattle.snapshot_check.specs.Reading.{IsReadOf}
use Rattle.snapshot_check.proofs.comparing.look.Goals as goal

pub returns-clause-found : goal.returns-clause-found
returns-clause-found g c = subst (λ (k : Key). IfOk c.row.result (IsReadOf (g.S.Shown.reads c.args.shown.now) (shown_component (g.S.Shown.at_date c.args.shown.now) k.kind k.id))) c.key-key.ensures.key c.row.ensures.found
