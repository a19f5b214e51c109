use Rattle.std.proofs.Common.{rules, ◌++◌, ◌∷◌, [], refl, subst, sym}
use Rattle.as_of_index.specs.declared.dates.DateEntry.{DateEntry}
use Rattle.as_of_index.specs.Dates.{AreEntries}
use Rattle.as_of_index.proofs.Noted.{noted_now}
use Rattle.as_of_index.proofs.dates.note.Goals as goal

pub returns-in_err-insert-clause-err : goal.returns-in_err-insert-clause-err
returns-in_err-insert-clause-err c = search rules

pub returns-clause-ok : goal.returns-clause-ok
returns-clause-ok c = λ places count a.
    let place = c.args.place.now in
    let entry : DateEntry = record { time = place.key.time; import = place.import; first = c.args.number } in
    subst (λ es. AreEntries (places ++ place ∷ []) es) (sym c.in_ok-insert.ensures.items) (noted_now places c.args.entries.now.items c.partition_point-at.result place entry a (record { time_is = refl; import_is = refl }) (sym count))
