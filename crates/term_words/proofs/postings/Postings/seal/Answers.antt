use Rattle.std.proofs.Common.{List, subst}
use Rattle.std.specs.List.Sorted.{IsPermutation}
use Rattle.term_prefix.specs.Terms.{TermAt}
use Rattle.term_words.proofs.postings.Postings.seal.Goals as goal

pub listed-requires : goal.listed-requires
listed-requires c = rw (c.as_slice.ensures.value, c.as_slice-2.ensures.value, c.as_slice-3.ensures.value) c.self.invariant

pub returns-clause-permutation : goal.returns-clause-permutation
returns-clause-permutation c = subst (λ (xs : List TermAt). IsPermutation xs c.in_ok-list.list) c.self.view_is (rw (c.as_slice.ensures.value, c.as_slice-2.ensures.value, c.as_slice-3.ensures.value) at c.in_ok-list.ensures.permutation)
