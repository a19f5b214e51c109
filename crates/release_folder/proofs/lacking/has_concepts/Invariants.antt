use Rattle.std.proofs.Common.{All, take}
use Rattle.release_folder.specs.Names.{IsOfConcepts}
use Rattle.release_folder.proofs.lacking.has_concepts.Given as goal

abbrev pub invariant-loop-file : goal.invariant-loop-file
invariant-loop-file l = All (λ file. IsOfConcepts l.mark file → ⊥) (take l.file-index l.files)
