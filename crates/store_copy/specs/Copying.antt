-- The contents of a copy of a store: the rows that its first imports brought.
use Rattle.std.specs.Prelude.{ℕ, ◌+◌, Option, Some, None, List, [], ◌∷◌, length, nat_le}
use Rattle.std.specs.Int.{div_ceil}
use Rattle.std.specs.List.{filter}
use Rattle.history_model.specs.declared.stamped.StampedRow.{StampedRow}
use Rattle.history_model.specs.History.{History}
use Rattle.directory.specs.declared.entry.Entry.{Entry}
use Rattle.directory.specs.declared.layout.Layout.{Layout}
use Rattle.directory.specs.Listings.{DirectoryValue}
use Rattle.directory.specs.Places.{end_block, extent_of}
use Rattle.segment.specs.Records.{segment_of}
use Rattle.store_image.specs.Kept.{entry_at}

-- the rows that the first `n` imports brought, each with its import number
unfoldable pub up_to : ℕ → List StampedRow → List StampedRow
up_to n rows = filter (λ s. nat_le s.import n) rows

-- the history of the first n imports
abbrev pub first_imports : ℕ → History → History
first_imports n h = record { imports = n; rows = up_to n h.rows }

-- what is asked for, or the store's own
abbrev pub chosen : {X : Type 0} → Option X → X → X
chosen None own = own
chosen (Some x) own = x

-- a list of rows before other lists, unless it is empty
abbrev pub before : List StampedRow → List (List StampedRow) → List (List StampedRow)
before [] lists = lists
before (s ∷ rows) lists = (s ∷ rows) ∷ lists

-- of each segment the rows that the first `n` imports brought, if there are any
abbrev pub lists_up_to : ℕ → List (List StampedRow) → List (List StampedRow)
lists_up_to n [] = []
lists_up_to n (rows ∷ lists) = before (up_to n rows) (lists_up_to n lists)

-- the entries of new segments of these rows in a layout, from block `first` on, without a block
-- between them
abbrev pub entries_from : Layout → ℕ → List (List StampedRow) → List Entry
entries_from layout first [] = []
entries_from layout first (rows ∷ lists) = entry_at layout first rows
    ∷ entries_from layout (end_block (extent_of (entry_at layout first rows))) lists

-- the block after these segments
abbrev pub end_from : ℕ → List (List StampedRow) → ℕ
end_from first [] = first
end_from first (rows ∷ lists) = end_from (first + div_ceil (length (segment_of rows)) 4096) lists

-- the directory of a copy in this layout, with the first `n` imports of a store whose segments have
-- these rows: in layout 3 each segment has a checksum of all its bytes
abbrev pub copied_listing : Layout → ℕ → List (List StampedRow) → DirectoryValue
copied_listing layout n lists =
    record {
      layout = layout;
      epoch = 2;
      imports = n;
      entries = entries_from layout 4 (lists_up_to n lists);
    }
