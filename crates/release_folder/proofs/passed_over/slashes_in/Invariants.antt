use Rattle.std.proofs.Common.{◌≡◌, ◌≤◌, take}
use Rattle.std.specs.List.{count_by}
use Rattle.release_folder.specs.Private.{is_slash}
use Rattle.release_folder.proofs.passed_over.slashes_in.Given as goal

abbrev pub invariant-loop-byte : goal.invariant-loop-byte
invariant-loop-byte l =
    (l.count ≡ count_by is_slash (take l.byte-index l.path)) × (l.count ≤ l.byte-index)
