use Rattle.std.proofs.Common.{length, ap, arith}
use Rattle.std.specs.Prelude.{List}
use Rattle.term_prefix.specs.Terms.{TermAt}
use Rattle.term_words.proofs.Splits.{seen_length}
use Rattle.term_words.proofs.ordered.Ordered.len.Goals as goal

pub overflow_add-result : goal.overflow_add-result
overflow_add-result c =
    let a = c.len.ensures in
    let b = c.len-2.ensures in
    let few = c.self.invariant.few in
    omega (arith, a, b, few)

pub returns-clause-count : goal.returns-clause-count
returns-clause-count c =
    let self = c.self.inside in
    let a = c.len.ensures in
    let b = c.len-2.ensures in
    let both = seen_length self.sizes self.words in
    let same = ap (λ (ts : List TermAt). length ts) c.self.view_is in
    omega (arith, a, b, both, same)

pub returns-clause-few : goal.returns-clause-few
returns-clause-few c =
    let a = c.len.ensures in
    let b = c.len-2.ensures in
    let few = c.self.invariant.few in
    omega (arith, a, b, few)
