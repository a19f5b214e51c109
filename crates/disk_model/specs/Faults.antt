-- The failures that a disk in memory was asked for, and their effect on calls.
use Rattle.std.specs.Prelude.{ℕ, zero, suc, nat_lt, Bool, true, false, if◌then◌else◌, Option, Some}
use Rattle.std.specs.Prelude.{None, List, [], ◌∷◌}
use Rattle.disk_model.specs.Change.{Change, Write, Cut, Sync, FailedWrite, FailedCut}
use Rattle.disk_model.specs.declared.memory.faults.Faults.{Faults}
use Rattle.disk_model.specs.declared.memory.faults.Fate.{Fate}
use Rattle.disk_model.specs.declared.memory.faults.Fate.TheVariants.{Passes, Fails}

abbrev pub no_faults : Faults
no_faults = record { fuse = None; change_break = None; read_break = None }

-- a fuse after one more call: at 0 it stays
abbrev pub fuse_after : Option ℕ → Option ℕ
fuse_after None = None
fuse_after (Some zero) = Some 0
fuse_after (Some (suc left)) = Some left

-- a break after one more call: it lets only one call fail
abbrev pub break_after : Option (ℕ × ℕ) → Option (ℕ × ℕ)
break_after None = None
break_after (Some (zero, part)) = None
break_after (Some (suc left, part)) = Some (left, part)

abbrev pub read_break_after : Option ℕ → Option ℕ
read_break_after None = None
read_break_after (Some zero) = None
read_break_after (Some (suc left)) = Some left

abbrev pub is_spent : Option ℕ → Bool
is_spent None = false
is_spent (Some zero) = true
is_spent (Some (suc left)) = false

abbrev pub fate_by_break : Option (ℕ × ℕ) → Fate
fate_by_break None = Passes
fate_by_break (Some (zero, part)) = Fails part
fate_by_break (Some (suc left, part)) = Passes

-- the fate of the next changing call
abbrev pub fate_of : Faults → Fate
fate_of f = if is_spent f.fuse then Fails 0 else fate_by_break f.change_break

abbrev pub after_change_call : Faults → Faults
after_change_call f = record {
  fuse = fuse_after f.fuse;
  change_break = if is_spent f.fuse then f.change_break else break_after f.change_break;
  read_break = f.read_break;
}

-- the next call of `len` or `read_at` succeeds
abbrev pub passes_read : Faults → Bool
passes_read f = if is_spent f.fuse then false else if is_spent f.read_break then false else true

abbrev pub after_read_call : Faults → Faults
after_read_call f = record {
  fuse = fuse_after f.fuse;
  change_break = f.change_break;
  read_break = if is_spent f.fuse then f.read_break else read_break_after f.read_break;
}

-- the entry of a call in the record
abbrev pub written_as : Fate → ℕ → List ℕ → Change
written_as Passes at bytes = Write at bytes
written_as (Fails part) at bytes = FailedWrite at bytes part

abbrev pub cut_as : Fate → ℕ → Change
cut_as Passes len = Cut len
cut_as (Fails part) len = FailedCut len (nat_lt 0 part)

abbrev pub synced_as : Fate → List Change
synced_as Passes = Sync ∷ []
synced_as (Fails part) = []
