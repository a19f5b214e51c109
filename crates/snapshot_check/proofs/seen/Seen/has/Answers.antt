use Rattle.std.proofs.Common.{sym, ap, subst, ◌∙◌}
use Rattle.std.specs.Prelude.{◌==◌}
use Rattle.std.specs.List.{list_any}
use Rattle.std.specs.List.Sorted.{IsSorted}
use Rattle.std.specs.Ordering.{nat_cmp}
use Rattle.snapshot_check.proofs.Searching.{found_or_not}
use Rattle.snapshot_check.proofs.seen.Seen.has.Goals as goal

pub returns : goal.returns
returns c = λ sorted.
    c.is_ok.ensures.value
    ∙ found_or_not c.ids.result.now c.args.id c.binary_search.result c.binary_search.ensures.position (subst (IsSorted nat_cmp) (sym c.ids.ensures) sorted)
    ∙ ap (λ xs. list_any (λ other. other == c.args.id) xs) c.ids.ensures
