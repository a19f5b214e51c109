use Rattle.std.proofs.Common.{rules}
use Rattle.std.proofs.lemmas.List.Sorted.{ranks_by}
use Rattle.std.specs.String.{string_cmp_total}
use Rattle.std.proofs.lemmas.List.Sorted.{answers_always}
use Rattle.release_folder.specs.declared.part.Part.{Part}
use Rattle.release_folder.specs.Names.{has_lesser_folder}
use Rattle.release_folder.proofs.folder.sort_by_folder.Goals as goal

pub returns-clause-sorted : goal.returns-clause-sorted
returns-clause-sorted c = c.sort_unstable_by.ensures.sorted has_lesser_folder (ranks_by string_cmp_total (λ (p : Part). p.folder)) (answers_always _ _ _ (λ f a r g h. search rules))
