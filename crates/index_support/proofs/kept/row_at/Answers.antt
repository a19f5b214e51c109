use Rattle.std.proofs.Common.{◌-◌, ◌≤◌, length, drop, take_all, ap, ◌∙◌, arith}
use Rattle.std.specs.List.{find}
use Rattle.std.proofs.lemmas.List.{length-drop}
use Rattle.index_support.specs.Private.{is_row_at}
use Rattle.index_support.proofs.Keeping.{find_drop, found_key}
use Rattle.index_support.proofs.kept.row_at.Goals as goal

pub returns-clause-first : goal.returns-clause-first
returns-clause-first c = λ up.
    let key = c.args.key.now in
    let rows = c.args.rows.now in
    let place = c.place_of_key-place.result in
    let rest : length (drop place rows) ≤ length rows - place = omega (arith, length-drop place rows) in
    c.first_row.ensures ∙ ap (find (is_row_at key)) (take_all (length rows - place) (drop place rows) rest) ∙ find_drop key rows place (c.place_of_key-place.ensures.split up).before

pub returns-clause-keyed : goal.returns-clause-keyed
returns-clause-keyed c = found_key c.args.key.now _ _ c.first_row.ensures
