use Rattle.std.proofs.Common.{refl, rules}
use Rattle.std.specs.Ordering.{eq_by_cmp, is_lt}
use Rattle.std.proofs.lemmas.Fn.{dedup_same}
use Rattle.std.proofs.lemmas.List.Sorted.{answers_always, ranks_by}
use Rattle.as_of_index.specs.declared.chosen.Chosen.{Chosen}
use Rattle.as_of_index.specs.Private.Chosen.{ranked_cmp}
use Rattle.as_of_index.proofs.Once.{sorted_once}
use Rattle.term_words.proofs.Found.{ranked_total}
use Rattle.term_words.proofs.search.sort_once.Goals as goal

pub returns : goal.returns
returns c =
    let sorted = c.sort_unstable_by.ensures.sorted (λ a b. is_lt (ranked_cmp a b)) (ranks_by ranked_total (λ (k : Chosen). k)) (answers_always _ _ _ (λ f a r g h. search rules)) in
    let once = dedup_same _ (eq_by_cmp ranked_cmp) _ (λ x y b f' x' y' k. search rules) _ _ c.dedup_by.ensures.filtered in
    sorted_once ranked_total (eq_by_cmp ranked_cmp) (λ x y. refl) c.args.kept.now.items _ _ c.sort_unstable_by.ensures.permutation sorted once
