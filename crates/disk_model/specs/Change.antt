-- The record of a disk in memory, and the moments that follow from it.
use Rattle.std.specs.Prelude.{ℕ, zero, suc, ◌+◌, Bool, true, false, List, [], ◌∷◌, take}
use Rattle.std.specs.Prelude.{if◌then◌else◌, count_by}
use Rattle.disk_model.specs.Disk.{DiskState, Moments, followed_by, settled, put, after_write}
use Rattle.disk_model.specs.Disk.{after_cut, reading}

-- a call that changed the disk, or that failed where it may have changed it
pub data Change : Type 0 where
  -- a write of bytes at an offset
  Write : (at : ℕ) (bytes : List ℕ) → Change
  Cut : (len : ℕ) → Change
  Sync : Change
  -- a write that failed when this many of its bytes were written
  FailedWrite : (at : ℕ) (bytes : List ℕ) (part : ℕ) → Change
  -- a cut that failed, and was made or wasn't
  FailedCut : (len : ℕ) (is_made : Bool) → Change

-- a file after a write; a write of no bytes changes nothing
abbrev pub written : List ℕ → ℕ → List ℕ → List ℕ
written file at [] = file
written file at (byte ∷ bytes) = put file at (byte ∷ bytes)

-- the state after a call; for what a crash may leave, a call that failed counts as made, whatever a
-- read returns after it
abbrev pub after_change : DiskState → Change → DiskState
after_change s (Write at bytes) = after_write s at bytes
after_change s (Cut len) = after_cut s len
after_change s Sync = settled s.now
after_change s (FailedWrite at bytes part) =
    reading (after_write s at bytes) (written s.now at (take part bytes))
after_change s (FailedCut len is_made) =
    reading (after_cut s len) (if is_made then take len s.now else s.now)

-- the moments after these further calls
abbrev pub replayed : Moments → List Change → Moments
replayed m [] = m
replayed m (change ∷ changes) = replayed (followed_by m (after_change m.state change)) changes

-- the moments of a disk that was just made
abbrev pub made : List ℕ → Moments
made bytes = record { state = settled bytes; past = [] }

-- the call returned `Ok`
abbrev pub is_made : Change → Bool
is_made (Write at bytes) = true
is_made (Cut len) = true
is_made Sync = true
is_made (FailedWrite at bytes part) = false
is_made (FailedCut len cut) = false

-- how many calls returned `Ok`
abbrev pub count_made : List Change → ℕ
count_made changes = count_by is_made changes

-- how many calls there are up to the one with this number among those that returned `Ok`; none up
-- to number 0
abbrev pub place_of : List Change → ℕ → ℕ
place_of [] number = 0
place_of (change ∷ changes) zero = 0
place_of (change ∷ changes) (suc number) =
    place_of changes (if is_made change then number else suc number) + 1
