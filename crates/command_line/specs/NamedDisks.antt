-- Writes to a disk that was opened by a name.
use Rattle.std.specs.Prelude.{◌≡◌, ◌⊎◌, ℕ, ◌+◌, List, [], ◌∷◌, length, max, Result, IsErr}
use Rattle.disk_model.specs.Disk.{raised_by}
use Rattle.disk_model.specs.View.{DiskView}
use Rattle.command_line.specs.declared.named_disk.NamedDisk.{NamedDisk}

-- the disk as it shows itself under a name: it counts failures and calls of its own
abbrev pub named_view : {D N : Type 0} → (D → DiskView) → NamedDisk D N → DiskView
named_view view named =
    record {
      is_honest = (view named.disk).is_honest;
      moments = (view named.disk).moments;
      reads_as = (view named.disk).reads_as;
      failures = named.failures;
      bytes_read = (view named.disk).bytes_read;
      other_calls = named.other_calls;
    }

-- The write went to the disk, after the name was seen to still refer to it. Or it wasn't seen, the
-- write failed, and the disk is unchanged.
abbrev pub WritesNamed : {D N T E : Type 0} → (leads misses : N → ℕ → Type 0) → (D → DiskView)
    → Result T E → NamedDisk D N → NamedDisk D N → Type 0
WritesNamed leads misses view result old new =
    (leads old.name old.length
    × ((view new.disk).other_calls ≡ raised_by (view old.disk).other_calls 1))
    ⊎ (misses old.name old.length × IsErr result × (new.disk ≡ old.disk))

-- the length that a disk has after a write from offset `at` on, if it had this length: that of no
-- bytes changes nothing
abbrev pub length_after : ℕ → ℕ → List ℕ → ℕ
length_after old at [] = old
length_after old at (byte ∷ bytes) = max old (at + length (byte ∷ bytes))
