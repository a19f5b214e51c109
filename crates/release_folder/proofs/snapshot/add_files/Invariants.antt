use Rattle.std.proofs.Common.{All}
use Rattle.release_folder.specs.Names.{IsOfSnapshot}
use Rattle.release_folder.proofs.snapshot.add_files.Given as goal

abbrev pub invariant-loop-name : goal.invariant-loop-name
invariant-loop-name g l =
    All (IsOfSnapshot l.scope) l.initial.files.items → All (IsOfSnapshot l.scope) l.files.items
