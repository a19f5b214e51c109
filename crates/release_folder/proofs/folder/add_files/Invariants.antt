use Rattle.std.proofs.Common.{All}
use Rattle.release_folder.specs.Names.{IsTakenFile}
use Rattle.release_folder.proofs.folder.add_files.Given as goal

abbrev pub invariant-loop-name : goal.invariant-loop-name
invariant-loop-name g l =
    All (IsTakenFile l.scope) l.initial.files.items → All (IsTakenFile l.scope) l.files.items
