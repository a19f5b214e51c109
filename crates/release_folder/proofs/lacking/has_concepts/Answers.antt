use Rattle.std.proofs.Common.{refl, arith, ◌∙◌, sym}
use Rattle.std.proofs.lemmas.Bool.{false≢true}
use Rattle.release_folder.specs.Names.{IsOfConcepts}
use Rattle.release_folder.proofs.Among.{found, none_more, none_found, none_of_all}
use Rattle.release_folder.proofs.lacking.has_concepts.Goals as goal

pub returns-then-is_of_concepts : goal.returns-then-is_of_concepts
returns-then-is_of_concepts c = (
  (λ _. found (IsOfConcepts c.args.mark.now) c.args.files.now c.loop-file.file-index c.file-item.result c.loop-file-test.true c.file-item.is (c.is_of_concepts.ensures.0 c.if-is_of_concepts.true)),
  (λ _. refl),
)

pub loop-file-preserved : goal.loop-file-preserved
loop-file-preserved c =
    none_more (IsOfConcepts c.args.mark.now) c.args.files.now c.loop-file.file-index c.file-item.result c.loop-file-test.true c.file-item.is
    (λ is. absurd (false≢true (sym c.if-is_of_concepts.false ∙ c.is_of_concepts.ensures.1 is))) c.loop-file.invariant

pub returns : goal.returns
returns c = (
  (λ lie. absurd (false≢true lie)),
  (λ some. absurd (none_found (IsOfConcepts c.args.mark.now) c.args.files.now (none_of_all (IsOfConcepts c.args.mark.now) c.args.files.now c.loop-file.file-index (omega (arith, c.loop-file-test.false)) c.loop-file.invariant) some)),
)
