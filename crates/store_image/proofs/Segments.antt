-- Segments, as their entries say.
use Rattle.std.proofs.Common.{◌≡◌, ℕ, zero, suc, ◌+◌, ◌*◌, ◌<◌, ◌≤◌, ◌++◌, List, [], ◌∷◌, length, get_or, take, drop, refl, sym, ap, ◌∙◌, subst, arith, length-take, length-drop, length-append}
use Rattle.std.specs.Prelude.{None}
use Rattle.std.specs.List.{AllByRecursion}
use Rattle.std.proofs.lemmas.List.Sums.{sum_by_push, sum_by-take-le}
use Rattle.std.proofs.lemmas.List.{append-nil, take_more, nil_from_length}
use Rattle.std.proofs.lemmas.List.Elements.{All-nil, All-push, All-head, All-tail}
use Rattle.list_lemmas.proofs.Each.{each_of_pushed}
use Rattle.blocks.specs.Extents.{start_of}
use Rattle.store_image.specs.Reader.{bytes_of}
use Rattle.directory.specs.declared.entry.Entry.{Entry}
use Rattle.directory.specs.Listings.{IsEntry}
use Rattle.directory.specs.Places.{extent_of}
use Rattle.history_model.specs.declared.stamped.StampedRow.{StampedRow}
use Rattle.checksum.specs.declared.form.Form.{Form}
use Rattle.segment.specs.Records.{record_of, segment_in, segment_of, IsSegmentIn}
use Rattle.segment.proofs.SegmentLaws.{no_rows, no_rows_plain, goes_on, length-segment_in}
use Rattle.store_image.specs.declared.fault.RowsFault.{RowsFault}
use Rattle.store_image.specs.declared.fault.RowsFault.TheVariants as faults
use Rattle.store_image.specs.declared.reading.ReadTo.{ReadTo}
use Rattle.store_image.specs.Pieces.{Holds, HoldsAll}
use Rattle.store_image.specs.Kept.{IsSegmentOf, AreSegments, bytes_listed, pieces_of}
use Rattle.store_image.specs.Reading.{AreNumbered, IsAt, AreReadTo}
use Rattle.store_image.specs.Private.Reading.{BeginsWith, IsNotNext, IsNotReadAt}
use Rattle.store_image.proofs.Added.{AreSegments-push, AreSummed-push, pieces_of-push}
use Rattle.store_image.proofs.Windowed.{record_least}
use Rattle.store_image.specs.Kept.{segment_with, AreSummed}
use Rattle.directory.specs.Listings.{form_in, HasSumOf}
use Rattle.checksum.specs.Crc32c.{crc32c}
use Rattle.store_image.proofs.Summed.{none_is}

-- ---- room for an entry

segment_least : (rows : List StampedRow) → 46 * length rows ≤ length (segment_of rows)
unfolding segment_of
segment_least [] = omega arith
segment_least (s ∷ rows) = omega (arith, record_least s, segment_least rows, length-append (record_of s) (segment_of rows))

pub disk_ends : (imports : ℕ) (entry : Entry) (file : List ℕ) → length file < 4096 * entry.first + entry.bytes → IsNotReadAt faults.Damaged imports entry file
disk_ends imports entry file short rows is numbered =
    let within = is.1.within in
    let long = is.0.bytes in
    absurd (omega (arith, short, within, long, length-segment_in (form_in entry.sums) rows))

pub too_many_rows : (imports : ℕ) (entry : Entry) (file : List ℕ) → entry.bytes < 46 * entry.rows → IsNotReadAt faults.Damaged imports entry file
too_many_rows imports entry file many rows is numbered =
    let long = is.0.bytes in
    let count = is.0.count in
    absurd (omega (arith, many, long, count, segment_least rows))

-- ---- one segment

at_segment : (file : List ℕ) (entry : Entry) (rows : List StampedRow) → IsAt file entry rows → IsSegmentIn (form_in entry.sums) rows (bytes_of (extent_of entry) file)
at_segment file entry rows is = record {
  each = is.0.is.each;
  ascending = is.0.is.ascending;
  bytes_are = ap (λ n. take n (drop (start_of (extent_of entry)) file)) (sym (length-segment_in (form_in entry.sums) rows ∙ is.0.bytes)) ∙ is.1.bytes;
}

pub none_read : (imports : ℕ) (rows : List StampedRow) → rows ≡ [] → AreReadTo (record { at = 0; last = None; crc = 0 }) imports rows
none_read imports rows none =
    subst (λ (r : List StampedRow). AreReadTo (record { at = 0; last = None; crc = 0 }) imports r) (sym none) (record {
      last_is = refl;
      at_is = sym (ap length no_rows_plain);
      each = tt;
      ascending = tt;
      numbered = All-nil (λ (s : StampedRow). s.import ≤ imports);
    })

pub none_begins : (form : Form) (rows : List StampedRow) (bytes : List ℕ) → rows ≡ [] → BeginsWith form rows bytes
none_begins form rows bytes none = (bytes, sym (ap (λ (l : List ℕ). l ++ bytes) (ap (segment_in form) none ∙ no_rows form)))

pub not_next : (e : RowsFault) (imports : ℕ) (entry : Entry) (rows : List StampedRow) (file : List ℕ) → IsNotNext (form_in entry.sums) e imports rows (bytes_of (extent_of entry) file) → BeginsWith (form_in entry.sums) rows (bytes_of (extent_of entry) file) → length rows < entry.rows → IsNotReadAt e imports entry file
not_next faults.OutOfMemory imports entry rows file why begins more = tt
not_next faults.DiskFault imports entry rows file why begins more = tt
not_next faults.Damaged imports entry rows file why begins more = λ others is numbered.
    let count = is.0.count in
    why begins others (at_segment file entry others is) numbered (omega (arith, more, count))

-- where as many rows were read as the entry says, its segment has no others
same_rows : (to : ReadTo) (imports : ℕ) (entry : Entry) (rows : List StampedRow) (file : List ℕ) → AreReadTo to imports rows → length rows ≡ entry.rows → BeginsWith (form_in entry.sums) rows (bytes_of (extent_of entry) file) → (others : List StampedRow) → IsAt file entry others → others ≡ rows
same_rows to imports entry rows file read count begins others is =
    let segment = at_segment file entry others is in
    let on = goes_on (form_in entry.sums) rows others begins.0 read.each segment.each (sym begins.1 ∙ segment.bytes_are) in
    let others_count = is.0.count in
    let long = ap length on.1 in
    let none = nil_from_length on.0 (omega (arith, count, others_count, long, length-append rows on.0)) in
    on.1 ∙ ap (λ (l : List StampedRow). rows ++ l) none ∙ append-nil rows

pub wrong_end : (to : ReadTo) (imports : ℕ) (entry : Entry) (rows : List StampedRow) (file : List ℕ) → AreReadTo to imports rows → length rows ≡ entry.rows → (to.at ≡ entry.bytes → ⊥) → BeginsWith (form_in entry.sums) rows (bytes_of (extent_of entry) file)
    → IsNotReadAt faults.Damaged imports entry file
wrong_end to imports entry rows file read count wrong begins others is numbered =
    let same = same_rows to imports entry rows file read count begins others is in
    wrong (read.at_is ∙ sym (ap (λ (l : List StampedRow). length (segment_of l)) same) ∙ is.0.bytes)

-- the rows of the segment are those that were read, and have another checksum than the entry
pub wrong_sum : (to : ReadTo) (imports : ℕ) (entry : Entry) (rows : List StampedRow) (file : List ℕ) → AreReadTo to imports rows → length rows ≡ entry.rows → (HasSumOf entry.sums (segment_with entry rows) → ⊥) → BeginsWith (form_in entry.sums) rows (bytes_of (extent_of entry) file)
    → IsNotReadAt faults.Damaged imports entry file
wrong_sum to imports entry rows file read count wrong begins others is numbered =
    wrong (subst (λ (l : List StampedRow). HasSumOf entry.sums (segment_with entry l)) (same_rows to imports entry rows file read count begins others is) is.2)

-- the checksum of no rows, and of one row more
pub none_summed : (form : Form) (rows : List StampedRow) → rows ≡ [] → 0 ≡ crc32c (segment_in form rows)
none_summed form rows none = none_is ∙ sym (ap crc32c (ap (segment_in form) none ∙ no_rows form))

pub segment_found : (to : ReadTo) (imports : ℕ) (entry : Entry) (rows : List StampedRow) → AreReadTo to imports rows → to.at ≡ entry.bytes → length rows ≡ entry.rows → IsSegmentOf entry rows
segment_found to imports entry rows read whole count = record {
  is = record { each = read.each; ascending = read.ascending; bytes_are = refl };
  bytes = sym read.at_is ∙ whole;
  count = count;
}

pub at_found : (file : List ℕ) (entry : Entry) (rows : List StampedRow) → IsEntry entry → IsSegmentOf entry rows → HasSumOf entry.sums (segment_with entry rows) → BeginsWith (form_in entry.sums) rows (bytes_of (extent_of entry) file) → IsAt file entry rows
at_found file entry rows is found sum begins =
    let start = start_of (extent_of entry) in
    let long = ap length begins.1 in
    let bytes : length (segment_with entry rows) ≡ entry.bytes = length-segment_in (form_in entry.sums) rows ∙ found.bytes in
    let most = length-take entry.bytes (drop start file) in
    let rest_none = nil_from_length begins.0 (omega (arith, long, most, bytes, length-append (segment_with entry rows) begins.0, length-segment_in (form_in entry.sums) rows)) in
    let same : bytes_of (extent_of entry) file ≡ segment_with entry rows = begins.1 ∙ ap (λ (l : List ℕ). segment_with entry rows ++ l) rest_none ∙ append-nil (segment_with entry rows) in
    let whole = ap length same in
    let first = is.first in
    let some = is.bytes in (
      found,
      record {
        behind = omega (arith, first);
        within = omega (arith, whole, most, bytes, some, length-drop start file);
        bytes = ap (λ n. take n (drop start file)) bytes ∙ same;
      },
      sum,
    )

-- ---- all segments

pub record IsThere (imports : ℕ) (file : List ℕ) (entry : Entry) : Type 0 where
  pub rows : List StampedRow
  pub at : IsAt file entry rows
  pub numbered : AreNumbered imports rows

pub entry_there : (imports : ℕ) (file : List ℕ) (entries : List Entry) (lists : List (List StampedRow)) (i : ℕ) (d : Entry) → i < length entries → AreSegments entries lists → AllByRecursion (AreNumbered imports) lists → HoldsAll (pieces_of entries lists) file → AreSummed entries lists
    → IsThere imports file (get_or entries i d)
entry_there imports file [] lists i d lt are numbered held sums = absurd (omega (arith, lt))
entry_there imports file (e ∷ entries) [] i d lt are numbered held sums = absurd are
entry_there imports file (e ∷ entries) (rows ∷ lists) zero d lt are numbered held sums =
    record { rows = rows; at = (are.0, All-head (λ piece. Holds piece file) (start_of (extent_of e), segment_with e rows) (pieces_of entries lists) held, sums.0); numbered = numbered.0 }
entry_there imports file (e ∷ entries) (rows ∷ lists) (suc i) d lt are numbered held sums =
    entry_there imports file entries lists i d (omega (arith, lt)) are.1 numbered.1 (All-tail (λ piece. Holds piece file) (start_of (extent_of e), segment_with e rows) (pieces_of entries lists) held) sums.1

-- the bytes of the entries so far, and of one more
pub bytes_more : (entries : List Entry) (i : ℕ) (d : Entry) → i < length entries → bytes_listed (take (i + 1) entries) ≡ bytes_listed (take i entries) + (get_or entries i d).bytes
bytes_more entries i d lt =
    ap bytes_listed (take_more entries i d lt) ∙ sum_by_push (λ (entry : Entry). entry.bytes) (take i entries) (get_or entries i d)

pub bytes_within : (entries : List Entry) (i : ℕ) → bytes_listed (take i entries) ≤ bytes_listed entries
bytes_within entries i = sum_by-take-le (λ (entry : Entry). entry.bytes) entries i

pub bytes_up_to : (entries : List Entry) (i : ℕ) (d : Entry) → i < length entries → bytes_listed (take i entries) + (get_or entries i d).bytes ≤ bytes_listed entries
bytes_up_to entries i d lt = omega (arith, bytes_more entries i d lt, bytes_within entries (i + 1))

module _ (entries : List Entry) (i : ℕ) (d : Entry) (lists more : List (List StampedRow)) (rows : List StampedRow) (lt : i < length entries) (more_is : more ≡ lists ++ rows ∷ []) where
  front : take (i + 1) entries ≡ take i entries ++ get_or entries i d ∷ []
  front = take_more entries i d lt

  pub more_segments : AreSegments (take i entries) lists → IsSegmentOf (get_or entries i d) rows → AreSegments (take (i + 1) entries) more
  more_segments are is =
      subst (λ l. AreSegments (take (i + 1) entries) l) (sym more_is)
      (subst (λ (l : List Entry). AreSegments l (lists ++ rows ∷ [])) (sym front) (AreSegments-push (take i entries) lists (get_or entries i d) rows are is))

  pub more_summed : AreSummed (take i entries) lists → HasSumOf (get_or entries i d).sums (segment_with (get_or entries i d) rows) → AreSummed (take (i + 1) entries) more
  more_summed are is =
      subst (λ l. AreSummed (take (i + 1) entries) l) (sym more_is)
      (subst (λ (l : List Entry). AreSummed l (lists ++ rows ∷ [])) (sym front) (AreSummed-push (take i entries) lists (get_or entries i d) rows are is))

  pub more_numbered : (imports : ℕ) → AllByRecursion (AreNumbered imports) lists → AreNumbered imports rows → AllByRecursion (AreNumbered imports) more
  more_numbered imports all low = subst (λ l. AllByRecursion (AreNumbered imports) l) (sym more_is) (each_of_pushed (AreNumbered imports) lists rows all low)

  pub more_held : (file : List ℕ) → AreSegments (take i entries) lists → HoldsAll (pieces_of (take i entries) lists) file → IsAt file (get_or entries i d) rows → HoldsAll (pieces_of (take (i + 1) entries) more) file
  more_held file are held is =
      let P : List (ℕ × List ℕ) → Type 0 = λ l. HoldsAll l file in
      let pieces = ap (λ l. pieces_of (take (i + 1) entries) l) more_is ∙ ap (λ (l : List Entry). pieces_of l (lists ++ rows ∷ [])) front ∙ pieces_of-push (take i entries) lists (get_or entries i d) rows are in
      subst P (sym pieces) (All-push (λ piece. Holds piece file) (pieces_of (take i entries) lists) (start_of (extent_of (get_or entries i d)), segment_with (get_or entries i d) rows) held is.1)
