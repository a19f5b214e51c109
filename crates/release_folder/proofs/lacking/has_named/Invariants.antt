use Rattle.std.proofs.Common.{All, take}
use Rattle.release_folder.specs.Names.{BeginsSo}
use Rattle.release_folder.proofs.lacking.has_named.Given as goal

abbrev pub invariant-loop-file : goal.invariant-loop-file
invariant-loop-file l = All (λ file. BeginsSo l.beginning file → ⊥) (take l.file-index l.files)
