use Rattle.std.proofs.Common.{◌∙◌, sym, ap, not, inl, inr}
use Rattle.std.proofs.lemmas.Bool.{cases_Bool, true≢false, not-true}
use Rattle.import_check.specs.declared.release.ReleaseFile.{ReleaseFile}
use Rattle.release_folder.specs.Names.{BeginsSo}
use Rattle.release_folder.proofs.Among.{none_found, none_of_none}
use Rattle.release_folder.proofs.lacking.lacks.Goals as goal

pub returns-then-has_concepts : goal.returns-then-has_concepts
returns-then-has_concepts c =
    let files = c.args.files.now in
    let P : ReleaseFile → Type 0 = BeginsSo c.args.beginning.now in (
      (λ fine. record {
        concepts = c.has_concepts.ensures.0 c.if-has_concepts.true;
        none = none_of_none P files (λ some. true≢false (sym (c.has_named.ensures.1 some) ∙ not-true _ fine));
      }),
      (λ lacks. elim (cases_Bool c.has_named.result) [
        | inl has ↦ absurd (none_found P files lacks.none (c.has_named.ensures.0 has))
        | inr lacking ↦ ap not lacking
      ]),
    )
