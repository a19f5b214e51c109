use Rattle.std.proofs.Common.{sym, subst, ◌∙◌}
use Rattle.term_words.specs.Laid.{seen_in, AreParted}
use Rattle.term_words.specs.Private.{all_in}
use Rattle.term_words.proofs.ordered.Ordered.split.Goals as goal

pub returns : goal.returns
returns c =
    let self = c.self.inside in
    let first = c.parts.ensures.same in
    let second = c.parts-2.ensures.same in
    record {
      same = (λ i. seen_in (first i) (second i)) ∙ c.self.view_is;
      parted = subst (λ xs. AreParted xs (all_in c.parts-2.result)) (sym first) (subst (AreParted self.sizes) (sym second) c.self.invariant);
      sizes_are = c.parts.ensures.entries;
      words_are = c.parts-2.ensures.entries;
    }
