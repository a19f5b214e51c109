use Rattle.std.proofs.Common.{subst, List}
use Rattle.std.specs.List.Sorted.{IsPermutation}
use Rattle.std.proofs.lemmas.List.Sorted.{IsPermutation-map}
use Rattle.term_prefix.specs.Terms.{TermAt}
use Rattle.term_prefix.specs.Laid.{term_at, terms_at}
use Rattle.term_prefix.proofs.postings.Postings.seal.Goals as goal

pub returns-clause-permutation : goal.returns-clause-permutation
returns-clause-permutation c = subst (λ (xs : List TermAt). IsPermutation xs (terms_at c.self.inside.text.items c.sort.new.terms.items)) c.self.view_is
    (IsPermutation-map (term_at c.self.inside.text.items) c.self.inside.terms.items c.sort.new.terms.items c.sort.ensures.permutation)
