use Rattle.std.specs.Prelude.{nat_eq}
use Rattle.std.specs.Cmp.{nat_cmp_total, unsigned_ties}
use Rattle.std.proofs.lemmas.List.Filters.{dedup_is}
use Rattle.as_of_index.proofs.Once.{sorted_once}
use Rattle.links.proofs.incoming.sort_once.Goals as goal

pub returns : goal.returns
returns c = sorted_once nat_cmp_total nat_eq unsigned_ties c.args.ids.now.items _ _ c.sort_unstable.ensures.permutation c.sort_unstable.ensures.sorted (dedup_is nat_eq _ _ c.dedup.ensures.filtered)
