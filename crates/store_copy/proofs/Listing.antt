-- The directory of a copy.
use Rattle.std.proofs.Common.{◌≡◌, ℕ, ◌+◌, ◌≤◌, List, [], ◌∷◌, ◌++◌, length, cond, true, false, refl, sym, ap, subst, ◌∙◌, arith, length-append}
use Rattle.std.specs.Prelude.{All, nat_le}
use Rattle.std.specs.List.{AllByRecursion}
use Rattle.std.specs.Int.{div_ceil}
use Rattle.rf2_values.specs.declared.row.Kind.{Kind}
use Rattle.rf2_values.specs.declared.row.Kind.TheVariants as kinds
use Rattle.history_model.specs.declared.stamped.StampedRow.{StampedRow}
use Rattle.history_model.specs.History.{IsHistory}
use Rattle.history_model.specs.Lists.{listed}
use Rattle.blocks.specs.declared.extent.Extent.{Extent}
use Rattle.checksum.specs.Crc32c.{crc32c}
use Rattle.checksum.specs.declared.form.Form.{Form}
use Rattle.blocks.specs.Extents.{block_limit}
use Rattle.directory.specs.declared.entry.Entry.{Entry}
use Rattle.directory.specs.declared.layout.Layout.{Layout}
use Rattle.directory.specs.declared.layout.Layout.TheVariants as layouts
use Rattle.directory.specs.Listings.{AreSums, DirectoryValue, HasSumOf, IsEntry, IsListing, HasForm, form_in, form_of, most_entries, number_of}
use Rattle.directory.proofs.Adding.{has_written_form, written_are_sums, written_sum}
use Rattle.directory.specs.Places.{AreApart, AreBeside, end_block, extent_of, extents_of}
use Rattle.segment.specs.Records.{IsSegment, segment_in, segment_of, record_of}
use Rattle.segment.proofs.Posting.{segment_length_more}
use Rattle.store_image.specs.Kept.{AreOfLayout, AreSegments, AreSummed, HasKind, IsKept, entry_at, segment_with}
use Rattle.store_image.proofs.Windowed.{record_least}
use Rattle.store_copy.specs.Copying.{up_to, before, lists_up_to, entries_from, end_from, copied_listing}
use Rattle.store_copy.specs.Private.Writing.{AreEntriesFrom, IsEntryFrom, MayBeListed, MayBeSegment}
use Rattle.store_copy.proofs.UpTo.{up_to_ascends, up_to_all, lists_all, lists_are, listed_up_to, up_to_is_history, lists_kinds, lists_count}

-- ---- segments one behind the other

pub entries-append : (layout : Layout) (first : ℕ) (lists : List (List StampedRow)) (rows : List StampedRow) → entries_from layout first (lists ++ rows ∷ []) ≡ entries_from layout first lists ++ entry_at layout (end_from first lists) rows ∷ []
entries-append layout first [] rows = refl
entries-append layout first (o ∷ lists) rows = ap (λ (es : List Entry). entry_at layout first o ∷ es) (entries-append layout (end_block (extent_of (entry_at layout first o))) lists rows)

pub end-append : (first : ℕ) (lists : List (List StampedRow)) (rows : List StampedRow) → end_from first (lists ++ rows ∷ []) ≡ end_from first lists + div_ceil (length (segment_of rows)) 4096
end-append first [] rows = refl
end-append first (o ∷ lists) rows = end-append (first + div_ceil (length (segment_of o)) 4096) lists rows

pub end_least : (first : ℕ) (lists : List (List StampedRow)) → first ≤ end_from first lists
end_least first [] = omega arith
end_least first (rows ∷ lists) = omega (arith, end_least (first + div_ceil (length (segment_of rows)) 4096) lists)

pub end_grows : (first : ℕ) (lists more : List (List StampedRow)) → end_from first lists ≤ end_from first (lists ++ more)
end_grows first [] more = end_least first more
end_grows first (rows ∷ lists) more = end_grows (first + div_ceil (length (segment_of rows)) 4096) lists more

-- ---- entries of such segments, with any checksums

-- one more
pub from-append : (layout : Layout) (first : ℕ) (lists : List (List StampedRow)) (entries : List Entry) (rows : List StampedRow) (entry : Entry) → AreEntriesFrom layout first lists entries → IsEntryFrom layout (end_from first lists) rows entry → AreEntriesFrom layout first (lists ++ rows ∷ []) (entries ++ entry ∷ [])
from-append layout first [] [] rows entry are is = (is, tt)
from-append layout first [] (e ∷ entries) rows entry are is = absurd are
from-append layout first (o ∷ lists) [] rows entry are is = absurd are
from-append layout first (o ∷ lists) (e ∷ entries) rows entry are is = (are.0, from-append layout (first + div_ceil (length (segment_of o)) 4096) lists entries rows entry are.1 is)

from_count : (layout : Layout) (first : ℕ) (lists : List (List StampedRow)) (entries : List Entry) → AreEntriesFrom layout first lists entries → length entries ≡ length lists
from_count layout first [] [] are = refl
from_count layout first [] (e ∷ entries) are = absurd are
from_count layout first (rows ∷ lists) [] are = absurd are
from_count layout first (rows ∷ lists) (e ∷ entries) are = let rest = from_count layout (first + div_ceil (length (segment_of rows)) 4096) lists entries are.1 in omega (arith, rest)

starts : (layout : Layout) (low first : ℕ) (lists : List (List StampedRow)) (entries : List Entry) → low ≤ first → AreEntriesFrom layout first lists entries → AllByRecursion (λ (e : Extent). low ≤ e.first) (extents_of entries)
starts layout low first [] [] le are = tt
starts layout low first [] (e ∷ entries) le are = absurd are
starts layout low first (rows ∷ lists) [] le are = absurd are
starts layout low first (rows ∷ lists) (e ∷ entries) le are =
    let place = are.0.first_is in
    (omega (arith, le, place), starts layout low (first + div_ceil (length (segment_of rows)) 4096) lists entries (omega (arith, le)) are.1)

beside_above : (extent : Extent) (extents : List Extent) → AllByRecursion (λ (e : Extent). end_block extent ≤ e.first) extents → AllByRecursion (AreBeside extent) extents
beside_above extent [] all = tt
beside_above extent (e ∷ extents) all = (λ block here there. let above = all.0 in let below = here.1 in let from = there.0 in omega (arith, above, below, from), beside_above extent extents all.1)

-- where the segment of an entry ends
ends_at : (layout : Layout) (first : ℕ) (rows : List StampedRow) (e : Entry) → IsEntryFrom layout first rows e → end_block (extent_of e) ≡ first + div_ceil (length (segment_of rows)) 4096
ends_at layout first rows e is = let p = is.first_is in let q = is.bytes_are in λ k. p k + div_ceil (q k) 4096

from_apart : (layout : Layout) (first : ℕ) (lists : List (List StampedRow)) (entries : List Entry) → AreEntriesFrom layout first lists entries → AreApart (extents_of entries)
from_apart layout first [] [] are = tt
from_apart layout first [] (e ∷ entries) are = absurd are
from_apart layout first (rows ∷ lists) [] are = absurd are
from_apart layout first (rows ∷ lists) (e ∷ entries) are =
    let next = first + div_ceil (length (segment_of rows)) 4096 in
    let ends = ends_at layout first rows e are.0 in
    (beside_above (extent_of e) (extents_of entries) (starts layout (end_block (extent_of e)) next lists entries (omega (arith, ends)) are.1), from_apart layout next lists entries are.1)

from_forms : (layout : Layout) (first : ℕ) (lists : List (List StampedRow)) (entries : List Entry) → AreEntriesFrom layout first lists entries → AllByRecursion (HasForm layout) entries
from_forms layout first [] [] are = tt
from_forms layout first [] (e ∷ entries) are = absurd are
from_forms layout first (rows ∷ lists) [] are = absurd are
from_forms layout first (rows ∷ lists) (e ∷ entries) are =
    (ap form_in are.0.sums_are ∙ has_written_form layout are.0.crc, from_forms layout (first + div_ceil (length (segment_of rows)) 4096) lists entries are.1)

-- ---- rows that a segment may have

some_bytes : (s : StampedRow) (rows : List StampedRow) → 1 ≤ length (segment_of (s ∷ rows))
unfolding segment_of
some_bytes s rows = omega (arith, record_least s, length-append (record_of s) (segment_of rows))

each_entry : (layout : Layout) (first : ℕ) (lists : List (List StampedRow)) (entries : List Entry) → 4 ≤ first → AllByRecursion (λ rows. 1 ≤ length rows) lists → AllByRecursion MayBeSegment lists → end_from first lists ≤ block_limit → AreEntriesFrom layout first lists entries → AllByRecursion IsEntry entries
each_entry layout first [] [] from some small fits are = tt
each_entry layout first [] (e ∷ entries) from some small fits are = absurd are
each_entry layout first (rows ∷ lists) [] from some small fits are = absurd are
each_entry layout first ([] ∷ lists) (e ∷ entries) from some small fits are = absurd (omega (arith, some.0))
each_entry layout first ((s ∷ rows) ∷ lists) (e ∷ entries) from some small fits are =
    let next = first + div_ceil (length (segment_of (s ∷ rows))) 4096 in
    let below = end_least next lists in
    let is = are.0 in
    let place = is.first_is in
    let bytes = is.bytes_are in
    let count = is.rows_are in
    let ends = ends_at layout first (s ∷ rows) e is in (
      record {
        first = omega (arith, from, place);
        bytes = omega (arith, some_bytes s rows, bytes);
        rows = omega (arith, count);
        bytes_fit = omega (arith, small.0.0, bytes);
        rows_fit = omega (arith, small.0.1, count);
        sums = subst AreSums (sym is.sums_are) (written_are_sums layout is.crc is.crc_fits);
        end_is = omega (arith, below, fits, ends);
      },
      each_entry layout next lists entries (omega (arith, from)) some.1 small.1 fits are.1,
    )

-- ---- what is copied of a segment

before_some : (rows : List StampedRow) (lists : List (List StampedRow)) → AllByRecursion (λ (r : List StampedRow). 1 ≤ length r) lists → AllByRecursion (λ (r : List StampedRow). 1 ≤ length r) (before rows lists)
before_some [] lists all = all
before_some (s ∷ rows) lists all = (omega arith, all)

lists_some : (n : ℕ) (lists : List (List StampedRow)) → AllByRecursion (λ (r : List StampedRow). 1 ≤ length r) (lists_up_to n lists)
lists_some n [] = tt
lists_some n (rows ∷ lists) = before_some (up_to n rows) (lists_up_to n lists) (lists_some n lists)

-- some rows of a segment are no more than all, and have no more bytes
module _ (n : ℕ) where
  pub fewer : (rows : List StampedRow) → (length (segment_of (up_to n rows)) ≤ length (segment_of rows)) × (length (up_to n rows) ≤ length rows)
  unfolding up_to
  fewer [] = (omega arith, omega arith)
  fewer (s ∷ rows) =
      let rest = fewer rows in
      let all = segment_length_more s rows in
      elim (nat_le s.import n) as (λ b. (length (segment_of (cond b (s ∷ up_to n rows) (up_to n rows))) ≤ length (segment_of (s ∷ rows))) × (length (cond b (s ∷ up_to n rows) (up_to n rows)) ≤ length (s ∷ rows))) [
        | true ↦ (omega (arith, rest.0, all, segment_length_more s (up_to n rows)), omega (arith, rest.1))
        | false ↦ (omega (arith, rest.0, all), omega (arith, rest.1))
      ]

  may_be : (rows : List StampedRow) → MayBeSegment rows → MayBeSegment (up_to n rows)
  may_be rows is = let few = fewer rows in (omega (arith, few.0, is.0), omega (arith, few.1, is.1))

pub segments_small : (entries : List Entry) (lists : List (List StampedRow)) → AllByRecursion IsEntry entries → AreSegments entries lists → AllByRecursion MayBeSegment lists
segments_small [] [] each are = tt
segments_small [] (rows ∷ lists) each are = absurd are
segments_small (entry ∷ entries) [] each are = absurd are
segments_small (entry ∷ entries) (rows ∷ lists) each are =
    let bytes = are.0.bytes in
    let count = are.0.count in
    let few = each.0.bytes_fit in
    let rows_fit = each.0.rows_fit in
    ((omega (arith, bytes, few), omega (arith, count, rows_fit)), segments_small entries lists each.1 are.1)

-- rows that are a segment
abbrev IsSome : List StampedRow → Type 0
IsSome rows = IsSegment rows (segment_of rows)

segments_are : (entries : List Entry) (lists : List (List StampedRow)) → AreSegments entries lists → AllByRecursion IsSome lists
segments_are [] [] are = tt
segments_are [] (rows ∷ lists) are = absurd are
segments_are (entry ∷ entries) [] are = absurd are
segments_are (entry ∷ entries) (rows ∷ lists) are = (are.0.is, segments_are entries lists are.1)

some_up_to : (n : ℕ) (rows : List StampedRow) → IsSome rows → IsSome (up_to n rows)
some_up_to n rows is = record { each = up_to_all n _ rows is.each; ascending = up_to_ascends n rows is.ascending; bytes_are = refl }

entries_segments : (layout : Layout) (first : ℕ) (lists : List (List StampedRow)) → AllByRecursion IsSome lists → AreSegments (entries_from layout first lists) lists
entries_segments layout first [] all = tt
entries_segments layout first (rows ∷ lists) all =
    (record { is = all.0; bytes = refl; count = refl }, entries_segments layout (end_block (extent_of (entry_at layout first rows))) lists all.1)

-- the form of a new segment
pub new_segment : (layout : Layout) (first : ℕ) (rows : List StampedRow) → segment_with (entry_at layout first rows) rows ≡ segment_in (form_of layout) rows
new_segment layout first rows = ap (λ (f : Form). segment_in f rows) (has_written_form layout (crc32c (segment_in (form_of layout) rows)))

-- each entry has the checksum of its segment
pub entries_summed : (layout : Layout) (first : ℕ) (lists : List (List StampedRow)) → AreSummed (entries_from layout first lists) lists
entries_summed layout first [] = tt
entries_summed layout first (rows ∷ lists) = (
  subst (HasSumOf (entry_at layout first rows).sums) (sym (new_segment layout first rows)) (written_sum layout (segment_in (form_of layout) rows)),
  entries_summed layout (end_block (extent_of (entry_at layout first rows))) lists,
)

-- ---- the directory

-- of the first lists, too
pub listed_so_far : (layout : Layout) (n : ℕ) (lists : List (List StampedRow)) (d : DirectoryValue) → d.layout ≡ layout → d.epoch ≡ 2 → d.imports ≡ n → AreEntriesFrom layout 4 (lists_up_to n lists) d.entries → MayBeListed layout n lists → IsListing d
listed_so_far layout n lists d layout_is epoch_is imports_are are may =
    let few = may.few in
    let small = may.imports in
    let most = ap most_entries layout_is in
    record {
      epoch = omega (arith, epoch_is);
      epoch_fits = omega (arith, epoch_is);
      imports = omega (arith, imports_are, small);
      count = omega (arith, few, most, lists_count n lists, from_count layout 4 (lists_up_to n lists) d.entries are);
      entries = each_entry layout 4 (lists_up_to n lists) d.entries (omega arith) (lists_some n lists) (lists_all n MayBeSegment lists (may_be n) may.small) may.fits are;
      apart = from_apart layout 4 (lists_up_to n lists) d.entries are;
      forms = subst (λ (l : Layout). AllByRecursion (HasForm l) d.entries) (sym layout_is) (from_forms layout 4 (lists_up_to n lists) d.entries are);
    }

-- ---- a layout has the kinds of the lower ones

kinds_rise : (own layout : Layout) (kind : Kind) → number_of own ≤ number_of layout → HasKind own kind → HasKind layout kind
kinds_rise layouts.One layouts.One kind le has = has
kinds_rise layouts.One layouts.Two kinds.Concept le has = tt
kinds_rise layouts.One layouts.Two kinds.Description le has = tt
kinds_rise layouts.One layouts.Two kinds.Relationship le has = tt
kinds_rise layouts.One layouts.Two kinds.Association le has = tt
kinds_rise layouts.One layouts.Two kinds.Concrete le has = tt
kinds_rise layouts.One layouts.Two kinds.Member le has = absurd has
kinds_rise layouts.One layouts.Three kind le has = tt
kinds_rise layouts.Two layouts.One kind le has = absurd (omega (arith, le))
kinds_rise layouts.Two layouts.Two kind le has = has
kinds_rise layouts.Two layouts.Three kind le has = tt
kinds_rise layouts.Three layouts.One kind le has = absurd (omega (arith, le))
kinds_rise layouts.Three layouts.Two kind le has = absurd (omega (arith, le))
kinds_rise layouts.Three layouts.Three kind le has = has

lists_rise : (own layout : Layout) (lists : List (List StampedRow)) → number_of own ≤ number_of layout → All (AreOfLayout own) lists → All (AreOfLayout layout) lists
lists_rise own layout lists le all = λ k d lt. λ i s below. kinds_rise own layout _ le (all k d lt i s below)

-- nor has it fewer entries
pub entries_rise : (own layout : Layout) → number_of own ≤ number_of layout → most_entries own ≤ most_entries layout
entries_rise layouts.One layouts.One le = omega arith
entries_rise layouts.One layouts.Two le = omega arith
entries_rise layouts.One layouts.Three le = omega arith
entries_rise layouts.Two layouts.One le = absurd (omega (arith, le))
entries_rise layouts.Two layouts.Two le = omega arith
entries_rise layouts.Two layouts.Three le = omega arith
entries_rise layouts.Three layouts.One le = absurd (omega (arith, le))
entries_rise layouts.Three layouts.Two le = absurd (omega (arith, le))
entries_rise layouts.Three layouts.Three le = omega arith

-- what the directory lists fits together
pub copied_is_kept : (d : DirectoryValue) (layout : Layout) (n : ℕ) (lists : List (List StampedRow)) → number_of d.layout ≤ number_of layout → IsKept d lists → IsListing (copied_listing layout n lists) → IsKept (copied_listing layout n lists) (lists_up_to n lists)
copied_is_kept d layout n lists le kept listing = record {
  listing = listing;
  segments = entries_segments layout 4 (lists_up_to n lists) (lists_all n IsSome lists (some_up_to n) (segments_are d.entries lists kept.segments));
  apart = lists_are n lists kept.apart;
  history = subst (λ (rows : List StampedRow). IsHistory (record { imports = n; rows = rows })) (sym (listed_up_to n lists kept.apart)) (up_to_is_history n d.imports (listed lists) kept.history);
  kinds = lists_rise d.layout layout (lists_up_to n lists) le (lists_kinds n d.layout lists kept.kinds);
}
