-- What the functions that begin a merge return. Only private functions cite these definitions.
use Rattle.std.specs.Prelude.{◌≡◌, ◌+◌, ◌^◌, ◌<◌, ◌≤◌, List, [], Some, None, slice_get}
use Rattle.std.specs.Int.{div_ceil}
use Rattle.std.specs.List.{AllByRecursion}
use Rattle.directory.specs.declared.entry.Entry.{Entry}
use Rattle.checksum.specs.Crc32c.{crc32c}
use Rattle.directory.specs.Listings.{DirectoryValue, sums_of}
use Rattle.directory.specs.Fit.{fit}
use Rattle.history_store.specs.declared.merge_in_progress.MergeInProgress.{MergeInProgress}
use Rattle.history_store.specs.Merging.{AreFewest}

-- no segment has more rows than bytes
abbrev pub AreLong : List Entry → Type 0
AreLong entries = AllByRecursion (λ (e : Entry). e.rows ≤ e.bytes) entries

-- a merge of the two segments with the fewest rows, of which no row is merged yet
pub record IsNewMerge (d : DirectoryValue) (m : MergeInProgress) : Type 0 where
  pub a : Entry
  pub b : Entry
  pub fewest : AreFewest d.entries m.i m.j
  pub a_is : slice_get d.entries m.i ≡ Some a
  pub b_is : slice_get d.entries m.j ≡ Some b
  pub bytes : m.entry.bytes ≡ a.bytes + b.bytes
  pub bytes_fit : m.entry.bytes < 2 ^ 32
  pub rows_are : m.entry.rows ≡ a.rows + b.rows
  pub rows_fit : m.entry.rows < 2 ^ 32
  pub place : fit (div_ceil m.entry.bytes 4096) d.entries None ≡ Some m.entry.first
  pub sums : m.entry.sums ≡ sums_of d.layout 0
  pub crc : m.crc ≡ crc32c []
  pub none_taken : m.output.taken ≡ 0
