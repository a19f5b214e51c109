use Rattle.std.proofs.Common.{sym, subst, arith}
use Rattle.std.proofs.lemmas.Bool.Decides.{nat_tests}
use Rattle.history_model.specs.InOrder.{Has}
use Rattle.history_model.proofs.Items.{Has-get_or}
use Rattle.as_of_index.proofs.dates.is_noted.Goals as goal

pub returns-then-eq : goal.returns-then-eq
returns-then-eq c = λ same_import.
    let entries = c.args.entries.now in
    let entry = c.in-Some.entry.now in
    let place = c.args.place.now in
    let k = c.in-Some.ensures.lookup in
    let same_time = c.if-eq.ensures in (
      entry,
      subst (λ x. Has entries x) (sym k.1) (Has-get_or entries c.args.number entry k.3.0),
      record { time_is = grind (arith, nat_tests, same_time); import_is = grind (arith, nat_tests, same_import) },
    )
