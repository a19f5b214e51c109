-- Definitions for private functions, of this crate or of one above it. No public clause cites them.
use Rattle.std.specs.Prelude.{◌≡◌, ℕ, ◌+◌, List, ◌++◌, length}
use Rattle.std.specs.List.{AllByRecursion, flat_map}
use Rattle.directory.specs.declared.entry.Entry.{Entry}
use Rattle.directory.specs.Places.{AreApart, extents_of}
use Rattle.directory.specs.Listings.{DirectoryValue, IsEntry, next_layout, with_two_replaced}
use Rattle.directory.specs.Content.{entry_bytes}

-- the bytes begin with `count` entries, which a directory may list
pub record IsTable (bytes : List ℕ) (count : ℕ) (entries : List Entry) : Type 0 where
  pub rest : List ℕ
  pub bytes_are : bytes ≡ flat_map entry_bytes entries ++ rest
  pub count_is : length entries ≡ count
  pub each : AllByRecursion IsEntry entries
  pub apart : AreApart (extents_of entries)

-- the directory at the next epoch, in the layout of the next publication
abbrev pub next_in : DirectoryValue → DirectoryValue
next_in d = record d { layout = next_layout d.layout; epoch = d.epoch + 1 }

-- the directory after an import that brings no new row
abbrev pub after_import : DirectoryValue → DirectoryValue
after_import d = record (next_in d) { imports = d.imports + 1 }

-- the directory after a merge, with the entry of the output at position `i`, and without the one at
-- position `j`
abbrev pub after_merge : DirectoryValue → ℕ → ℕ → Entry → DirectoryValue
after_merge d i j entry = with_two_replaced (next_in d) i j entry
