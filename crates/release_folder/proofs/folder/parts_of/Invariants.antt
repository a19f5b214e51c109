use Rattle.std.proofs.Common.{◌≡◌, ◌+◌, All, length}
use Rattle.std.specs.Vec.Iter.{into_iter_items}
use Rattle.release_folder.specs.Private.{IsTakenPart}
use Rattle.release_folder.proofs.folder.parts_of.Given as goal

-- the folders so far are read, and the others are to come
abbrev pub invariant-loop-folder : goal.invariant-loop-folder
invariant-loop-folder g l = record {
  can : (goal.iterator-loop-folder g).can_next l.folder-iterator;
  finite : (goal.iterator-loop-folder g).is_finite l.folder-iterator;
  taken : All (IsTakenPart l.scope) l.parts.items;
  count : length l.parts.items + length (into_iter_items l.folder-iterator) ≡ length l.fn.folders.items;
}
