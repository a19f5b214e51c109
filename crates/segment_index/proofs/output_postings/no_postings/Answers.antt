use Rattle.std.proofs.Common.{List, [], sym, ap, subst, ◌∙◌}
use Rattle.std.specs.List.Sorted.{IsPermutation}
use Rattle.std.proofs.lemmas.List.Sorted.{IsPermutation-refl}
use Rattle.term_prefix.specs.Terms.{TermAt}
use Rattle.term_prefix.specs.Merged.{MergedTerms}
use Rattle.links.specs.Edges.{Edges, AreSameEdges}
use Rattle.segment_index.proofs.output_postings.no_postings.Goals as goal

pub returns : goal.returns
returns c = λ words. record {
  terms_are = subst (λ (ts : List TermAt). IsPermutation ts c.seal.result) c.new.ensures c.seal.ensures.permutation;
  links_are = subst (λ (e : Edges). AreSameEdges e c.seal-2.result) c.new-2.ensures c.seal-2.ensures.same;
  words_are = λ kept. subst (λ (ts : List TermAt). IsPermutation [] ts)
      (sym (c.seal-3.ensures ∙ ap (λ (m : MergedTerms). m.terms) c.new-3.ensures.none)) (IsPermutation-refl []);
}
