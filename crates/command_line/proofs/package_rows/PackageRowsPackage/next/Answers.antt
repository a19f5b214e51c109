use Rattle.std.proofs.Common.{◌++◌, ◌∷◌, [], map, refl, sym, ap, ◌∙◌, append-nil}
use Rattle.std.proofs.lemmas.List.{map_push}
use Rattle.rf2_values.specs.declared.row.Row.{Row}
use Rattle.history_model.specs.declared.stamped.StampedRow.{StampedRow}
use Rattle.command_line.proofs.package_rows.PackageRowsPackage.next.Goals as goal

abbrev row_of : StampedRow → Row
row_of stamped = stamped.row

pub loop-init : goal.loop-init
loop-init g c = refl

pub returns-in-Some-next-clause-given : goal.returns-in-Some-next-clause-given
returns-in-Some-next-clause-given g c =
    ap (map row_of) c.in_ok-push.ensures.ok ∙ map_push row_of c.loop.self.given (record { row = c.in-Some-next.row; import = 0 }) ∙ ap (λ xs. map row_of xs ++ c.in-Some-next.row ∷ []) c.loop.invariant

pub returns-then-not-branch-clause-given : goal.returns-then-not-branch-clause-given
returns-then-not-branch-clause-given g c =
    ap (map row_of) (c.in_ok-read_piece.ensures.given ∙ c.loop.invariant) ∙ sym (append-nil (map row_of c.args.self.now.given))

pub loop-preserved : goal.loop-preserved
loop-preserved g c = c.in_ok-read_piece.ensures.given ∙ c.loop.invariant
