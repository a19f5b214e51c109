-- What a disk shows, and how calls change its counts of failures, reads and other calls.
use Rattle.std.specs.Prelude.{◌≡◌, ◌↔◌, ℕ, ◌+◌, ◌≤◌, List}
use Rattle.disk_model.specs.Disk.{Moments, raised_by}

-- a disk at one time, as clauses see it
pub record DiskView : Type 1 where
  -- it keeps what its calls promise about bytes and crashes; of a disk that doesn't, only the
  -- clauses that don't assume this are known
  pub is_honest : Type 0
  -- the state now and at each earlier moment: what a read returns, and what a crash may leave
  pub moments : Moments
  -- its reads return the bytes of this file, honest or not, until a call that isn't a read; there
  -- is no such file if they return now this, now that
  pub reads_as : List ℕ → Type 0
  -- how many calls have failed; a count of 64 bits, which stays at its greatest value
  pub failures : ℕ
  -- how many bytes its reads requested, whatever their results; also a count of 64 bits
  pub bytes_read : ℕ
  -- how many calls other than reads were made, whatever their results; also a count of 64 bits
  pub other_calls : ℕ

-- no call was counted yet
pub record IsUnused (view : DiskView) : Type 0 where
  pub failures : view.failures ≡ 0
  pub bytes_read : view.bytes_read ≡ 0
  pub other_calls : view.other_calls ≡ 0

-- the count is unchanged
abbrev pub Stays : ℕ → ℕ → Type 0
Stays old new = new ≡ old

-- the count of 64 bits rises by `n`, or to its greatest value
abbrev pub RisesBy : ℕ → ℕ → ℕ → Type 0
RisesBy n old new = new ≡ raised_by old n

-- the count rises by at most `n`
abbrev pub AtMost : ℕ → ℕ → ℕ → Type 0
AtMost n old new = new ≤ old + n

-- nothing is said about the count
abbrev pub Unsaid : ℕ → ℕ → Type 0
Unsaid old new = Unit {0}

-- The disk was only read. `fails` and `reads` say how the counts of failures and of requested bytes
-- changed.
pub record OnlyReads (fails reads : ℕ → ℕ → Type 0) (old new : DiskView) : Type 0 where
  pub moments : old.is_honest → new.moments ≡ old.moments
  pub honesty : old.is_honest ↔ new.is_honest
  pub failures : fails old.failures new.failures
  pub bytes_read : reads old.bytes_read new.bytes_read
  pub other_calls : new.other_calls ≡ old.other_calls

-- Calls were made on the disk. `fails`, `reads` and `calls` say how the counts of failures, of
-- requested bytes and of other calls changed.
pub record Calls (fails reads calls : ℕ → ℕ → Type 0) (old new : DiskView) : Type 0 where
  pub honesty : old.is_honest ↔ new.is_honest
  pub failures : fails old.failures new.failures
  pub bytes_read : reads old.bytes_read new.bytes_read
  pub other_calls : calls old.other_calls new.other_calls
