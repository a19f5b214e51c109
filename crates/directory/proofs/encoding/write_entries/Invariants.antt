use Rattle.std.proofs.Common.{◌*◌, take}
use Rattle.std.specs.List.{flat_map}
use Rattle.directory.specs.Content.{entry_bytes}
use Rattle.directory.proofs.Written.{IsWritten}
use Rattle.directory.proofs.encoding.write_entries.Given as goal

abbrev pub invariant-loop-i : goal.invariant-loop-i
invariant-loop-i l = IsWritten (flat_map entry_bytes (take l.i l.entries)) (16 * l.i) l.initial.out l.out
