-- The directory of a copy, one segment after the other.
use Rattle.std.proofs.Common.{◌≡◌, ℕ, ◌+◌, ◌^◌, ◌<◌, ◌≤◌, List, [], ◌∷◌, ◌++◌, length, get_or, take, drop, sym, ap, subst, ◌∙◌, arith, length-take}
use Rattle.std.specs.Int.{div_ceil}
use Rattle.std.proofs.lemmas.List.{take_all, take-append-drop}
use Rattle.list_lemmas.proofs.Each.{each_of_taken}
use Rattle.blocks.specs.Extents.{block_limit}
use Rattle.checksum.specs.Crc32c.{crc32c}
use Rattle.history_model.specs.declared.stamped.StampedRow.{StampedRow}
use Rattle.directory.specs.declared.layout.Layout.{Layout}
use Rattle.directory.specs.Listings.{DirectoryValue, IsListing, form_of, sums_of, with_entry}
use Rattle.segment.specs.Records.{segment_in, segment_of}
use Rattle.segment.proofs.Posting.{rows_at_most_bytes}
use Rattle.segment.proofs.SegmentLaws.{no_rows_plain}
use Rattle.store_image.specs.Kept.{entry_at}
use Rattle.store_copy.specs.declared.planning.Size.{Size}
use Rattle.store_copy.specs.Copying.{copied_listing, end_from, entries_from, lists_up_to, up_to}
use Rattle.store_copy.specs.Private.Writing.{AreEntriesFrom, IsBlank, IsEntryFrom, MayBeListed, MayBeSegment, next_entry}
use Rattle.store_copy.proofs.UpTo.{lists-join}
use Rattle.store_copy.proofs.Listing.{end-append, end_grows, entries-append, from-append, listed_so_far}
use Rattle.store_copy.proofs.Done.{done_none, done_some}

-- ---- where the segments end

no_bytes : (rows : List StampedRow) → length rows ≡ 0 → length (segment_of rows) ≡ 0
no_bytes [] none = ap length no_rows_plain
no_bytes (s ∷ rows) none = absurd (omega (arith, none))

-- a segment of some rows has some bytes
pub some_bytes_of : (rows : List StampedRow) → 1 ≤ length rows → 1 ≤ length (segment_of rows)
some_bytes_of rows some = omega (arith, some, rows_at_most_bytes rows)

some_or_none : (rows : List StampedRow) (P : Type 0) → (length rows ≡ 0 → P) → (1 ≤ length rows → P) → P
some_or_none [] P none some = none (omega arith)
some_or_none (s ∷ rows) P none some = some (omega arith)

-- those of the first segments end before those of all
pub front_ends : (n : ℕ) (lists : List (List StampedRow)) (k : ℕ) → end_from 4 (lists_up_to n (take k lists)) ≤ end_from 4 (lists_up_to n lists)
front_ends n lists k =
    let whole = ap (lists_up_to n) (sym (take-append-drop k lists)) ∙ lists-join n (take k lists) (drop k lists) in
    let same = ap (end_from 4) whole in
    omega (arith, same, end_grows 4 (lists_up_to n (take k lists)) (lists_up_to n (drop k lists)))

module _ (n : ℕ) (lists : List (List StampedRow)) (i : ℕ) (rows : List StampedRow) (lt : i < length lists) (is : rows ≡ get_or lists i rows) where
  pub ends_more : end_from 4 (lists_up_to n (take (i + 1) lists)) ≡ end_from 4 (lists_up_to n (take i lists)) + div_ceil (length (segment_of (up_to n rows))) 4096
  ends_more = some_or_none (up_to n rows) (end_from 4 (lists_up_to n (take (i + 1) lists)) ≡ end_from 4 (lists_up_to n (take i lists)) + div_ceil (length (segment_of (up_to n rows))) 4096)
      (λ none.
      let same = ap (end_from 4) (done_none n lists i rows lt is none) in
      let empty = ap (λ k. div_ceil k 4096) (no_bytes (up_to n rows) none) in
      omega (arith, same, empty))
      (λ some. ap (end_from 4) (done_some n lists i rows lt is some) ∙ end-append 4 (lists_up_to n (take i lists)) (up_to n rows))

  module _ (first bytes : ℕ) (first_is : first ≡ end_from 4 (lists_up_to n (take i lists))) (bytes_are : bytes ≡ length (segment_of (up_to n rows))) where
    pub first_more : first + div_ceil bytes 4096 ≡ end_from 4 (lists_up_to n (take (i + 1) lists))
    first_more = (λ k. first_is k + div_ceil (bytes_are k) 4096) ∙ sym ends_more

    pub too_large : block_limit < first + div_ceil bytes 4096 → block_limit < end_from 4 (lists_up_to n lists)
    too_large large = omega (arith, large, first_more, front_ends n lists (i + 1))

    pub has_room : end_from 4 (lists_up_to n lists) ≤ block_limit → first + div_ceil bytes 4096 ≤ block_limit
    has_room fits = omega (arith, fits, first_more, front_ends n lists (i + 1))

pub front_may : (layout : Layout) (n : ℕ) (lists : List (List StampedRow)) (k : ℕ) → MayBeListed layout n lists → MayBeListed layout n (take k lists)
front_may layout n lists k may =
    let few = may.few in
    let fits = may.fits in record {
      imports = may.imports;
      few = omega (arith, few, length-take k lists);
      small = each_of_taken MayBeSegment k lists may.small;
      fits = omega (arith, fits, front_ends n lists k);
    }

-- ---- what is listed of the first i segments

pub record SoFar (layout : Layout) (n : ℕ) (lists : List (List StampedRow)) (i : ℕ) (copy : DirectoryValue) (first : ℕ) : Type 0 where
  pub layout_is : copy.layout ≡ layout
  pub epoch_is : copy.epoch ≡ 2
  pub imports_are : copy.imports ≡ n
  pub entries : AreEntriesFrom layout 4 (lists_up_to n (take i lists)) copy.entries
  pub first_is : first ≡ end_from 4 (lists_up_to n (take i lists))

pub begun : (layout : Layout) (n : ℕ) (lists : List (List StampedRow)) (copy : DirectoryValue) → IsBlank copy layout n → SoFar layout n lists 0 copy 4
begun layout n lists copy blank = record {
  layout_is = blank.layout_is;
  epoch_is = blank.epoch_is;
  imports_are = blank.imports_are;
  entries = subst (AreEntriesFrom layout 4 []) (sym blank.none) tt;
  first_is = omega arith;
}

pub so_far_listed : (layout : Layout) (n : ℕ) (lists : List (List StampedRow)) (i : ℕ) (copy : DirectoryValue) (first : ℕ) → SoFar layout n lists i copy first → MayBeListed layout n lists → IsListing copy
so_far_listed layout n lists i copy first so_far may =
    listed_so_far layout n (take i lists) copy so_far.layout_is so_far.epoch_is so_far.imports_are so_far.entries (front_may layout n lists i may)

-- on honest disks the entries have the checksums of the segments
abbrev pub IsExact : Layout → ℕ → List (List StampedRow) → ℕ → DirectoryValue → Type 0
IsExact layout n lists i copy = copy.entries ≡ entries_from layout 4 (lists_up_to n (take i lists))

pub all_exact : (layout : Layout) (n : ℕ) (lists : List (List StampedRow)) (i : ℕ) (copy : DirectoryValue) (first : ℕ) → length lists ≤ i → SoFar layout n lists i copy first → IsExact layout n lists i copy → copy ≡ copied_listing layout n lists
all_exact layout n lists i copy first past so_far exact =
    let entries : copy.entries ≡ entries_from layout 4 (lists_up_to n lists) = exact ∙ ap (λ (l : List (List StampedRow)). entries_from layout 4 (lists_up_to n l)) (take_all i lists past) in
    let layout_is = so_far.layout_is in
    let epoch_is = so_far.epoch_is in
    let imports_are = so_far.imports_are in
    λ k. record { layout = layout_is k; epoch = epoch_is k; imports = imports_are k; entries = entries k }

module _ (layout : Layout) (n : ℕ) (lists : List (List StampedRow)) (i : ℕ) (rows : List StampedRow) (lt : i < length lists) (is : rows ≡ get_or lists i rows) (copy : DirectoryValue) (first : ℕ) (so_far : SoFar layout n lists i copy first) where
  -- nothing of a segment is copied
  module _ (none : length (up_to n rows) ≡ 0) where
    pub skipped : SoFar layout n lists (i + 1) copy first
    skipped = record {
      layout_is = so_far.layout_is;
      epoch_is = so_far.epoch_is;
      imports_are = so_far.imports_are;
      entries = subst (λ (l : List (List StampedRow)). AreEntriesFrom layout 4 l copy.entries) (sym (done_none n lists i rows lt is none)) so_far.entries;
      first_is = so_far.first_is ∙ ap (end_from 4) (sym (done_none n lists i rows lt is none));
    }

    pub exact_none : IsExact layout n lists i copy → IsExact layout n lists (i + 1) copy
    exact_none exact = exact ∙ ap (entries_from layout 4) (sym (done_none n lists i rows lt is none))

  -- its rows of the first imports are copied
  module _ (size : Size) (bytes_are : size.bytes ≡ length (segment_of (up_to n rows))) (rows_are : size.rows ≡ length (up_to n rows)) (some : 1 ≤ length (up_to n rows)) (crc : ℕ) (crc_fits : crc < 2 ^ 32) where
    abbrev pub WithIt : DirectoryValue
    WithIt = with_entry copy (next_entry copy.layout first size crc)

    next_is_from : IsEntryFrom layout (end_from 4 (lists_up_to n (take i lists))) (up_to n rows) (next_entry copy.layout first size crc)
    next_is_from = record {
      first_is = so_far.first_is;
      bytes_are = bytes_are;
      rows_are = rows_are;
      crc = crc;
      crc_fits = crc_fits;
      sums_are = ap (λ (l : Layout). sums_of l crc) so_far.layout_is;
    }

    pub one_more : SoFar layout n lists (i + 1) WithIt (first + div_ceil size.bytes 4096)
    one_more = record {
      layout_is = so_far.layout_is;
      epoch_is = so_far.epoch_is;
      imports_are = so_far.imports_are;
      entries = subst (λ (l : List (List StampedRow)). AreEntriesFrom layout 4 l (copy.entries ++ next_entry copy.layout first size crc ∷ [])) (sym (done_some n lists i rows lt is some))
          (from-append layout 4 (lists_up_to n (take i lists)) copy.entries (up_to n rows) (next_entry copy.layout first size crc) so_far.entries next_is_from);
      first_is = first_more n lists i rows lt is first size.bytes so_far.first_is bytes_are;
    }

    pub exact_more : crc ≡ crc32c (segment_in (form_of layout) (up_to n rows)) → IsExact layout n lists i copy → IsExact layout n lists (i + 1) WithIt
    exact_more crc_is exact =
        let layout_is = so_far.layout_is in
        let first_is = so_far.first_is in
        let same : next_entry copy.layout first size crc ≡ entry_at layout (end_from 4 (lists_up_to n (take i lists))) (up_to n rows) =
        λ k. record { first = first_is k; bytes = bytes_are k; rows = rows_are k; sums = sums_of (layout_is k) (crc_is k) } in
        (λ k. exact k ++ same k ∷ [])
        ∙ sym (ap (entries_from layout 4) (done_some n lists i rows lt is some) ∙ entries-append layout 4 (lists_up_to n (take i lists)) (up_to n rows))
