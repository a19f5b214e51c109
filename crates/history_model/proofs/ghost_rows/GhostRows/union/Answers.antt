use Rattle.std.proofs.Common.{◌≡◌, ◌∙◌, List, length, ap, arith}
use Rattle.history_model.specs.declared.stamped.StampedRow.{StampedRow}
use Rattle.history_model.specs.Lists.{union}
use Rattle.history_model.proofs.Unions.{length-union}
use Rattle.history_model.proofs.ghost_rows.GhostRows.union.Goals as goal

pub invariant_of-result : goal.invariant_of-result
invariant_of-result c =
    let both = length-union c.args.a c.args.b c.requires.lists.ascending.0 c.requires.lists.ascending.1.0 c.requires.lists.apart.0.0 in
    let is : c.any.result.rows ≡ union c.args.a c.args.b =
    c.any.ensures ∙ ap (λ (l : List StampedRow). union l c.of-2.result.value) c.of.ensures ∙ ap (union c.args.a) c.of-2.ensures in
    omega (arith, both, ap length is, c.a.invariant, c.b.invariant, ap length c.a.view_is, ap length c.b.view_is)
