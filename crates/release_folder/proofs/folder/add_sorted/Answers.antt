use Rattle.std.proofs.Common.{◌≡◌, rules, arith, ap, length, vec_len}
use Rattle.std.proofs.lemmas.Bool.Decides.{nat_tests}
use Rattle.release_folder.proofs.Parts.{none_after}
use Rattle.release_folder.proofs.folder.add_sorted.Goals as goal

pub returns-clause-some : goal.returns-clause-some
returns-clause-some c = λ failed none.
    let later = c.sort_by_name.new.files in
    let len : vec_len later ≡ length later.items = search (rules) in
    let gone : length later.items ≡ 0 = ap length (none_after c.args.later.items later.items c.sort_by_name.ensures.permutation none) in
    grind (arith, nat_tests, len, gone, c.is_empty.ensures, c.if-is_empty.false)
