-- How much of a disk an opening reads, whatever its result.
use Rattle.std.specs.Prelude.{◌≡◌, ℕ, ◌+◌, ◌≤◌, List, [], ◌++◌, length}
use Rattle.blocks.specs.Slots.{slots_read}
use Rattle.directory.specs.declared.entry.Entry.{Entry}
use Rattle.directory.specs.Listings.{DirectoryValue, IsListing}
use Rattle.store_image.specs.declared.fault.Damage.TheVariants as damages
use Rattle.store_image.specs.declared.fault.LoadFault.{LoadFault}
use Rattle.store_image.specs.declared.fault.LoadFault.TheVariants as loading
use Rattle.store_image.specs.Kept.{bytes_listed}
use Rattle.store_image.specs.Damage.{HasDirectory}

-- a directory may list these entries, followed by others
abbrev pub MayBeListed : List Entry → Type 0
MayBeListed entries = (d : DirectoryValue) × (behind : List Entry)
    × IsListing d × (d.entries ≡ entries ++ behind)

-- the entries that were visited before a fault: none if no directory was read; those up to the
-- damaged segment, counted from 1, if one is damaged
abbrev pub AreGoneOver : LoadFault → List Entry → Type 0
AreGoneOver loading.OutOfMemory entries = MayBeListed entries
AreGoneOver loading.DiskFault entries = MayBeListed entries
AreGoneOver loading.NotAStore entries = entries ≡ []
AreGoneOver (loading.Damaged damages.Slots) entries = entries ≡ []
AreGoneOver (loading.Damaged damages.Directory) entries = entries ≡ []
AreGoneOver (loading.Damaged (damages.Segment number)) entries =
    (length entries ≡ number) × MayBeListed entries
AreGoneOver (loading.Damaged damages.SharedKey) entries = MayBeListed entries
AreGoneOver (loading.Damaged damages.Kind) entries = MayBeListed entries

-- An opening failed. Compared with the counts before it, it requested no more bytes than the slots
-- and the segments of the visited entries have, and made no more other calls than one sync, one
-- request for the length before the slots are read, and one before each of these segments is read.
pub record StopsAt (e : LoadFault) (bytes_before bytes calls_before calls : ℕ) : Type 0 where
  pub entries : List Entry
  pub gone_over : AreGoneOver e entries
  pub reads : bytes ≤ bytes_before + slots_read + bytes_listed entries
  pub others : calls ≤ calls_before + 2 + length entries

-- If the file has a directory, no more bytes are requested than the slots and its segments have; if
-- it has none, no more than the slots have.
pub record AsksWithin (file : List ℕ) (before after : ℕ) : Type 0 where
  pub listed : (d : DirectoryValue) → HasDirectory d file
      → after ≤ before + slots_read + bytes_listed d.entries
  pub none : ((d : DirectoryValue) → HasDirectory d file → ⊥) → after ≤ before + slots_read
