use Rattle.std.proofs.Common.{sym, ◌∙◌}
use Rattle.std.specs.Prelude.{Some, None}
use Rattle.std.proofs.lemmas.Bool.{not-true}
use Rattle.as_of_index.proofs.Hinted.{all_ahead}
use Rattle.as_of_index.proofs.hints.is_ahead.Goals as goal

pub returns-in-Some : goal.returns-in-Some
returns-in-Some c = λ up t.
    all_ahead c.args.start.now c.args.list.now c.args.place (Some c.in-Some.p.now) up c.in-Some.ensures (sym c.is_before.ensures ∙ not-true c.is_before.result t)

pub returns-in-None : goal.returns-in-None
returns-in-None c = λ up t. all_ahead c.args.start.now c.args.list.now c.args.place None up c.in-None.ensures tt
