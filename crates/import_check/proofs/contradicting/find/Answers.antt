use Rattle.std.proofs.Common.{◌∙◌}
use Rattle.import_check.proofs.Asking.{returned_known}
use Rattle.import_check.proofs.contradicting.find.Goals as goal

pub returns-in-Some-clause-possible : goal.returns-in-Some-clause-possible
returns-in-Some-clause-possible g c = λ sound.
    let is = returned_known (g.K.Known.view c.args.known.now) c.key-key.result _ c.in-Some.row c.in-Some.is c.in_ok-row.ensures.returned (c.in_ok-row.ensures.absent sound) in
    (is.0, is.1 ∙ c.key-key.ensures.key)
