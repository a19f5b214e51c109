use Rattle.std.proofs.Common.{map, take}
use Rattle.import_check.specs.Known.{IsUnknown}
use Rattle.plain_history.proofs.known.row_with.Given as goal

-- none of the rows so far has the key
abbrev pub invariant-loop-s : goal.invariant-loop-s
invariant-loop-s l = IsUnknown (map (λ s. s.row) (take l.s-index l.rows)) l.key
