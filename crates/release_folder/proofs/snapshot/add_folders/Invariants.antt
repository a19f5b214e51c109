use Rattle.std.proofs.Common.{All}
use Rattle.release_folder.specs.Names.{IsOfSnapshot}
use Rattle.release_folder.proofs.snapshot.add_folders.Given as goal

abbrev pub invariant-loop-folder : goal.invariant-loop-folder
invariant-loop-folder g l = record {
  can : (goal.iterator-loop-folder g).can_next l.folder-iterator;
  finite : (goal.iterator-loop-folder g).is_finite l.folder-iterator;
  named : All (IsOfSnapshot l.scope) l.initial.files.items → All (IsOfSnapshot l.scope) l.files.items;
}
