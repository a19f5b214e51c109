-- Definitions that complete those of `Entry`. No public clause cites them.
use Rattle.std.specs.Prelude.{ℕ, ◌+◌, ◌-◌, ◌≤◌, Bool, true, false}
use Rattle.disk_model.specs.declared.disk.TheConstants.{MAX_END}
use Rattle.disk_model.specs.declared.memory.record.Entry.{Entry}
use Rattle.disk_model.specs.declared.memory.record.Entry.TheVariants.{Written, Shortened, Synced}
use Rattle.disk_model.specs.declared.memory.record.Entry.TheVariants.{WriteFailed, CutFailed}

abbrev pub is_made_entry : Entry → Bool
is_made_entry (Written at from end) = true
is_made_entry (Shortened len) = true
is_made_entry Synced = true
is_made_entry (WriteFailed at from end part) = false
is_made_entry (CutFailed len is_made) = false

pub record IsRange (n at from end : ℕ) : Type 0 where
  pub ordered : from ≤ end
  pub within : end ≤ n
  pub limit : at + (end - from) ≤ MAX_END

abbrev pub at_of : Entry → ℕ
at_of (Written at from end) = at
at_of (Shortened len) = 0
at_of Synced = 0
at_of (WriteFailed at from end part) = at
at_of (CutFailed len is_made) = 0

abbrev pub from_of : Entry → ℕ
from_of (Written at from end) = from
from_of (Shortened len) = 0
from_of Synced = 0
from_of (WriteFailed at from end part) = from
from_of (CutFailed len is_made) = 0

abbrev pub end_of : Entry → ℕ
end_of (Written at from end) = end
end_of (Shortened len) = 0
end_of Synced = 0
end_of (WriteFailed at from end part) = end
end_of (CutFailed len is_made) = 0

-- the bytes of a write are among the first `n`, and on the disk they end where a write may end
abbrev pub IsWithin : ℕ → Entry → Type 0
IsWithin n entry = IsRange n (at_of entry) (from_of entry) (end_of entry)
