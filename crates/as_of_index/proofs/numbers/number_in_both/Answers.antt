use Rattle.std.proofs.Common.{◌≡◌, ◌<◌, sym, ap, ◌∙◌, length, arith}
use Rattle.std.specs.Prelude.{slice_get, Some}
use Rattle.std.specs.Option.{option_copied}
use Rattle.std.proofs.lemmas.List.Sums.{count_by-le-length}
use Rattle.std.proofs.lemmas.Option.{slice_get_within}
use Rattle.segment.specs.declared.place.RowPlace.{RowPlace}
use Rattle.as_of_index.specs.Private.Search.{is_under}
use Rattle.as_of_index.proofs.numbers.number_in_both.Goals as goal

pub overflow_add-result : goal.overflow_add-result
overflow_add-result c =
    let there : slice_get c.args.own.now c.args.row ≡ Some c.in-Some.p.now = sym c.lent_at.ensures ∙ ap option_copied c.in-Some.is in
    let within : c.args.row < length c.args.own.now = slice_get_within c.args.own.now c.args.row c.in-Some.p.now there in
    let count = c.count_under.ensures in
    let most = count_by-le-length (is_under (λ (p : RowPlace). p.key) c.in-Some.p.now.key) c.args.other.now in
    let few = c.requires.few in
    omega (arith, within, count, most, few)
