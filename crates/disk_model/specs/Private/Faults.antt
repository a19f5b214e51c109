-- Definitions that complete those of `Faults`. No public clause cites them.
use Rattle.std.specs.Prelude.{ℕ, min}
use Rattle.disk_model.specs.declared.memory.faults.Fate.{Fate}
use Rattle.disk_model.specs.declared.memory.faults.Fate.TheVariants.{Passes, Fails}

-- how many of `n` bytes are written
abbrev pub part_of : Fate → ℕ → ℕ
part_of Passes n = n
part_of (Fails part) n = min n part
