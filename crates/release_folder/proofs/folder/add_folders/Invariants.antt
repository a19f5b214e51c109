use Rattle.std.proofs.Common.{◌≡◌, ◌++◌}
use Rattle.std.specs.Vec.Iter.{into_iter_items}
use Rattle.release_folder.specs.Private.{AddFolders}
use Rattle.release_folder.proofs.folder.add_folders.Given as goal

-- the files of the folders so far are added, and the others are to come
abbrev pub invariant-loop-part : goal.invariant-loop-part
invariant-loop-part l = record {
  can : (goal.iterator-loop-part).can_next l.part-iterator;
  finite : (goal.iterator-loop-part).is_finite l.part-iterator;
  added : AddFolders l.yielded l.initial.files.items l.files.items;
  split : l.fn.folders.items ≡ l.yielded ++ into_iter_items l.part-iterator;
}
