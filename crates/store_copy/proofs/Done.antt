-- The segments of a copy that are written, one after the other.
use Rattle.std.proofs.Common.{◌≡◌, inl, ℕ, zero, suc, ◌+◌, ◌*◌, ◌<◌, ◌≤◌, List, [], ◌∷◌, ◌++◌, length, get_or, take, refl, sym, ap, subst, ◌∙◌, arith}
use Rattle.std.specs.Int.{div_ceil}
use Rattle.std.proofs.lemmas.List.{append-nil, take_all, take_more, get_or_default}
use Rattle.std.proofs.lemmas.List.Elements.{All-nil, All-cons, All-head, All-tail}
use Rattle.disk_model.specs.Disk.{DiskState, IsOutside, Moments, LeavesOnly, EachImage}
use Rattle.disk_model.proofs.MomentSteps.{joined, weaker, at_end}
use Rattle.blocks.specs.declared.extent.Extent.{Extent}
use Rattle.blocks.specs.Extents.{byte_range, start_of}
use Rattle.blocks.specs.Outside.{SameOutside, StemsWithin}
use Rattle.blocks.proofs.Windows.{window_elsewhere}
use Rattle.directory.specs.declared.layout.Layout.{Layout}
use Rattle.history_model.specs.declared.stamped.StampedRow.{StampedRow}
use Rattle.directory.specs.declared.entry.Entry.{Entry}
use Rattle.directory.specs.Places.{extent_of}
use Rattle.segment.specs.Records.{segment_in, segment_of}
use Rattle.segment.proofs.SegmentLaws.{length-segment_in}
use Rattle.store_image.specs.Pieces.{Holds, HoldsAll}
use Rattle.store_image.specs.Ahead.{BeginsWith}
use Rattle.store_image.specs.Kept.{AreSegments, entry_at, pieces_of, segment_with}
use Rattle.store_image.proofs.Damaged.{segments_count}
use Rattle.store_copy.specs.Private.Writing.{IsSegmentAt}
use Rattle.store_image.proofs.Unlisted.{begins_holds}
use Rattle.store_image.proofs.Beside.{blocks_cover}
use Rattle.store_copy.specs.Copying.{before, end_from, entries_from, lists_up_to, up_to}
use Rattle.fault_counts.specs.declared.fault.ReadFault.{ReadFault}
use Rattle.fault_counts.specs.declared.fault.ReadFault.TheVariants as reading
use Rattle.store_copy.specs.Answers.{IsFailure}
use Rattle.store_copy.specs.declared.fault.SegmentCopyFault.{SegmentCopyFault}
use Rattle.store_copy.specs.declared.fault.SegmentCopyFault.TheVariants.{Read, Write}
use Rattle.blocks.specs.Slots.{IsShut}
use Rattle.store_copy.specs.Private.Writing.{IsNoDamage, in_segment}
use Rattle.blocks.proofs.Shut.{shut_beyond}
use Rattle.store_copy.proofs.Listing.{end_least, new_segment}
use Rattle.store_copy.proofs.UpTo.{lists-append}
use Rattle.directory.specs.Listings.{form_in, form_of}

-- ---- the pieces of segments one behind the other

piece_elsewhere : (range : ℕ × ℕ) (piece : ℕ × List ℕ) (old new : List ℕ) → SameOutside (range ∷ []) old new → piece.0 + length piece.1 ≤ range.0 → Holds piece old → Holds piece new
piece_elsewhere range piece old new same below holds = record {
  behind = holds.behind;
  within = omega (arith, holds.within, same.no_shorter);
  bytes = window_elsewhere (range ∷ []) piece.0 (length piece.1) old new same holds.within (λ i ge lt. All-cons (IsOutside i) range [] (inl (omega (arith, lt, below))) (All-nil (IsOutside i))) ∙ holds.bytes;
}

pub held_elsewhere : (layout : Layout) (first : ℕ) (lists : List (List StampedRow)) (range : ℕ × ℕ) (old new : List ℕ) → SameOutside (range ∷ []) old new → 4096 * end_from first lists ≤ range.0 → HoldsAll (pieces_of (entries_from layout first lists) lists) old → HoldsAll (pieces_of (entries_from layout first lists) lists) new
held_elsewhere layout first [] range old new same below held = All-nil (λ p. Holds p new)
held_elsewhere layout first (rows ∷ lists) range old new same below held =
    let next = first + div_ceil (length (segment_of rows)) 4096 in
    let entry = entry_at layout first rows in
    let piece : ℕ × List ℕ = (4096 * first, segment_with entry rows) in
    let rest = pieces_of (entries_from layout next lists) lists in
    All-cons (λ p. Holds p new) piece rest
    (piece_elsewhere range piece old new same (omega (arith, below, end_least next lists, blocks_cover (length (segment_of rows)), length-segment_in (form_in entry.sums) rows)) (All-head (λ p. Holds p old) piece rest held))
    (held_elsewhere layout next lists range old new same below (All-tail (λ p. Holds p old) piece rest held))

pub held_more : (layout : Layout) (first : ℕ) (lists : List (List StampedRow)) (rows : List StampedRow) (file : List ℕ) → HoldsAll (pieces_of (entries_from layout first lists) lists) file → Holds (4096 * end_from first lists, segment_with (entry_at layout (end_from first lists) rows) rows) file
    → HoldsAll (pieces_of (entries_from layout first (lists ++ rows ∷ [])) (lists ++ rows ∷ [])) file
held_more layout first [] rows file held last =
    let piece : ℕ × List ℕ = (4096 * first, segment_with (entry_at layout first rows) rows) in All-cons (λ p. Holds p file) piece [] last (All-nil (λ p. Holds p file))
held_more layout first (o ∷ lists) rows file held last =
    let next = first + div_ceil (length (segment_of o)) 4096 in
    let piece : ℕ × List ℕ = (4096 * first, segment_with (entry_at layout first o) o) in
    All-cons (λ p. Holds p file) piece (pieces_of (entries_from layout next (lists ++ rows ∷ [])) (lists ++ rows ∷ []))
    (All-head (λ p. Holds p file) piece (pieces_of (entries_from layout next lists) lists) held)
    (held_more layout next lists rows file (All-tail (λ p. Holds p file) piece (pieces_of (entries_from layout next lists) lists) held) last)

-- ---- one segment of the store after the other

module _ (n : ℕ) (lists : List (List StampedRow)) (i : ℕ) (rows : List StampedRow) (lt : i < length lists) (is : rows ≡ get_or lists i rows) where
  pub lists_done : lists_up_to n (take (i + 1) lists) ≡ lists_up_to n (take i lists) ++ before (up_to n rows) []
  lists_done =
      ap (lists_up_to n) (take_more lists i rows lt ∙ ap (λ (r : List StampedRow). take i lists ++ r ∷ []) (sym is)) ∙ lists-append n (take i lists) rows

before_none : (rows : List StampedRow) (lists : List (List StampedRow)) → length rows ≡ 0 → before rows lists ≡ lists
before_none [] lists none = refl
before_none (s ∷ rows) lists none = absurd (omega (arith, none))

before_some : (rows : List StampedRow) (lists : List (List StampedRow)) → 1 ≤ length rows → before rows lists ≡ rows ∷ lists
before_some [] lists some = absurd (omega (arith, some))
before_some (s ∷ rows) lists some = refl

module _ (n : ℕ) (lists : List (List StampedRow)) (i : ℕ) (rows : List StampedRow) (lt : i < length lists) (is : rows ≡ get_or lists i rows) where
  pub done_none : length (up_to n rows) ≡ 0 → lists_up_to n (take (i + 1) lists) ≡ lists_up_to n (take i lists)
  done_none none = lists_done n lists i rows lt is ∙ ap (λ (l : List (List StampedRow)). lists_up_to n (take i lists) ++ l) (before_none (up_to n rows) [] none) ∙ append-nil (lists_up_to n (take i lists))

  pub done_some : 1 ≤ length (up_to n rows) → lists_up_to n (take (i + 1) lists) ≡ lists_up_to n (take i lists) ++ up_to n rows ∷ []
  done_some some = lists_done n lists i rows lt is ∙ ap (λ (l : List (List StampedRow)). lists_up_to n (take i lists) ++ l) (before_some (up_to n rows) [] some)

  pub held_none : (layout : Layout) (file : List ℕ) → length (up_to n rows) ≡ 0 → HoldsAll (pieces_of (entries_from layout 4 (lists_up_to n (take i lists))) (lists_up_to n (take i lists))) file → HoldsAll (pieces_of (entries_from layout 4 (lists_up_to n (take (i + 1) lists))) (lists_up_to n (take (i + 1) lists))) file
  held_none layout file none held = subst (λ (l : List (List StampedRow)). HoldsAll (pieces_of (entries_from layout 4 l) l) file) (sym (done_none none)) held

-- the gates, while segments are written
pub stems_shut : (old : DiskState) (range : ℕ × ℕ) → EachImage old IsShut → 16384 ≤ range.0 → (c : List ℕ) → StemsWithin old range c → IsShut c
stems_shut old range each from c (d, image, same) = shut_beyond range.0 range.1 d c same (each d image) from

pub run_shut : (old mid new : Moments) (range : ℕ × ℕ) → 16384 ≤ range.0 → LeavesOnly old mid IsShut → LeavesOnly mid new (StemsWithin mid.state range) → LeavesOnly old new IsShut
run_shut old mid new range from so_far run =
    joined old mid new IsShut so_far (weaker mid new (StemsWithin mid.state range) IsShut (stems_shut mid.state range (at_end old mid IsShut so_far) from) run)

-- ---- a segment more is written

module _ (layout : Layout) (n : ℕ) (lists : List (List StampedRow)) (i : ℕ) (rows : List StampedRow) (lt : i < length lists) (is : rows ≡ get_or lists i rows) (some : 1 ≤ length (up_to n rows)) where
  abbrev pub Before : List (List StampedRow)
  Before = lists_up_to n (take i lists)

  abbrev pub ThisOne : Extent
  ThisOne = extent_of (entry_at layout (end_from 4 Before) (up_to n rows))

  pub held_some : (extent : Extent) (old new : List ℕ) → extent ≡ ThisOne → 1 ≤ length (segment_of (up_to n rows)) → SameOutside (byte_range extent ∷ []) old new → BeginsWith extent (segment_in (form_of layout) (up_to n rows)) new
      → HoldsAll (pieces_of (entries_from layout 4 Before) Before) old → HoldsAll (pieces_of (entries_from layout 4 (lists_up_to n (take (i + 1) lists))) (lists_up_to n (take (i + 1) lists))) new
  held_some extent old new same bytes elsewhere begins held =
      let beside : SameOutside (byte_range ThisOne ∷ []) old new = subst (λ (e : Extent). SameOutside (byte_range e ∷ []) old new) same elsewhere in
      let piece = segment_with (entry_at layout (end_from 4 Before) (up_to n rows)) (up_to n rows) in
      let whole : piece ≡ segment_in (form_of layout) (up_to n rows) = new_segment layout (end_from 4 Before) (up_to n rows) in
      let there : BeginsWith ThisOne piece new = subst (λ (l : List ℕ). BeginsWith ThisOne l new) (sym whole) (subst (λ (e : Extent). BeginsWith e (segment_in (form_of layout) (up_to n rows)) new) same begins) in
      let long = ap length whole in
      let last = begins_holds ThisOne piece new (end_least 4 Before) (omega (arith, bytes, long, length-segment_in (form_of layout) (up_to n rows))) there in
      subst (λ (l : List (List StampedRow)). HoldsAll (pieces_of (entries_from layout 4 l) l) new) (sym (done_some n lists i rows lt is some))
      (held_more layout 4 Before (up_to n rows) new (held_elsewhere layout 4 Before (byte_range ThisOne) old new beside (omega arith) held) last)

pub all_done : (layout : Layout) (n : ℕ) (lists : List (List StampedRow)) (i : ℕ) (entries : List Entry) (file : List ℕ) → length lists ≤ i → entries ≡ entries_from layout 4 (lists_up_to n (take i lists))
    → HoldsAll (pieces_of (entries_from layout 4 (lists_up_to n (take i lists))) (lists_up_to n (take i lists))) file → HoldsAll (pieces_of entries (lists_up_to n lists)) file
all_done layout n lists i entries file past is held =
    subst (λ (l : List (List StampedRow)). HoldsAll (pieces_of entries (lists_up_to n l)) file) (take_all i lists past)
    (subst (λ (es : List Entry). HoldsAll (pieces_of es (lists_up_to n (take i lists))) file) (sym is) held)

pub none_held : (layout : Layout) (n : ℕ) (lists : List (List StampedRow)) (file : List ℕ) → HoldsAll (pieces_of (entries_from layout 4 (lists_up_to n (take 0 lists))) (lists_up_to n (take 0 lists))) file
none_held layout n lists file = All-nil (λ p. Holds p file)

-- ---- an item of lists that go together

-- where a segment of the store is
pub segment_at : (file : List ℕ) (entries : List Entry) (lists : List (List StampedRow)) (i : ℕ) (e : Entry) (rows : List StampedRow) → AreSegments entries lists → HoldsAll (pieces_of entries lists) file → i < length lists → e ≡ get_or entries i e → rows ≡ get_or lists i rows → IsSegmentAt file e rows
segment_at file [] [] i e rows are held lt is_e is_rows = absurd (omega (arith, lt))
segment_at file [] (l ∷ lists) i e rows are held lt is_e is_rows = absurd are
segment_at file (f ∷ entries) [] i e rows are held lt is_e is_rows = absurd are
segment_at file (f ∷ entries) (l ∷ lists) zero e rows are held lt is_e is_rows =
    let one : IsSegmentAt file f l = (are.0, All-head (λ p. Holds p file) (start_of (extent_of f), segment_in (form_in f.sums) l) (pieces_of entries lists) held) in
    subst (λ (r : List StampedRow). IsSegmentAt file e r) (sym is_rows) (subst (λ (g : Entry). IsSegmentAt file g l) (sym is_e) one)
segment_at file (f ∷ entries) (l ∷ lists) (suc i) e rows are held lt is_e is_rows =
    segment_at file entries lists i e rows are.1 (All-tail (λ p. Holds p file) (start_of (extent_of f), segment_in (form_in f.sums) l) (pieces_of entries lists) held) (omega (arith, lt)) is_e is_rows

-- it is still there, whatever stands for an entry that isn't listed
pub segment_still : (old new : Moments) (entries : List Entry) (lists : List (List StampedRow)) (i : ℕ) (d : Entry) (rows : List StampedRow) → new ≡ old → AreSegments entries lists → HoldsAll (pieces_of entries lists) old.state.now → i < length lists → rows ≡ get_or lists i rows → IsSegmentAt new.state.now (get_or entries i d) rows
segment_still old new entries lists i d rows same are held lt is =
    let e = get_or entries i d in
    let listed : i < length entries = omega (arith, lt, segments_count entries lists are) in
    let at = segment_at old.state.now entries lists i e rows are held lt (get_or_default entries i d e listed) is in
    subst (λ (m : Moments). IsSegmentAt m.state.now e rows) (sym same) at

-- ---- a fault in a segment

pub fails_in : (number : ℕ) (fault : SegmentCopyFault) → IsNoDamage fault → IsFailure (in_segment number fault)
fails_in number (Read reading.OutOfMemory) none = tt
fails_in number (Read reading.DiskFault) none = tt
fails_in number (Read reading.Damaged) none = absurd none
fails_in number Write none = tt

-- a row that couldn't be read isn't damaged
pub is_no_damage : (fault : ReadFault) → (fault ≡ reading.Damaged → ⊥) → IsNoDamage (Read fault)
is_no_damage reading.OutOfMemory other = tt
is_no_damage reading.DiskFault other = tt
is_no_damage reading.Damaged other = absurd (other refl)
