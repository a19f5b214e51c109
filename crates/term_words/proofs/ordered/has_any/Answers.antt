use Rattle.std.proofs.Common.{arith}
use Rattle.std.proofs.lemmas.Bool.Decides.{nat_tests}
use Rattle.term_words.proofs.Splits.{nothing_of}
use Rattle.term_words.proofs.ordered.has_any.Goals as goal

pub returns : goal.returns
returns c = λ none.
    let count = c.len.ensures in
    nothing_of c.args.list.now (grind (arith, nat_tests, none, count))
