use Rattle.std.proofs.Common.{All, take}
use Rattle.release_folder.specs.Names.{IsColumnLetter}
use Rattle.release_folder.proofs.names.begins_as_refset.Given as goal

abbrev pub invariant-loop-i : goal.invariant-loop-i
invariant-loop-i l = All IsColumnLetter (take l.i l.name)
