-- What a decoder has read of bytes, and what its refusals say of the whole.
use Rattle.std.proofs.Common.{◌≡◌, ℕ, ◌<◌, List, [], ◌∷◌, ◌++◌, length, drop, Result, Err, refl, sym, ap, subst, ◌∙◌, append_assoc, arith, true, false, eqb}
use Rattle.std.specs.Prelude.{MatchResult}
use Rattle.std.specs.List.{AllByRecursion}
use Rattle.std.proofs.lemmas.Bool.{eqb-true, eqb-false}
use Rattle.std.proofs.lemmas.List.{append-nil, length-append, nil_from_length}
use Rattle.history_model.specs.declared.stamped.StampedRow.{StampedRow}
use Rattle.history_model.specs.InOrder.{IsAscending}
use Rattle.history_model.specs.History.{stamped_cmp}
use Rattle.segment.specs.declared.fault.SegmentFault.{SegmentFault}
use Rattle.segment.specs.declared.fault.SegmentFault.TheVariants as faults
use Rattle.checksum.specs.declared.form.Form.{Form}
use Rattle.checksum.specs.declared.form.Form.TheVariants as forms
use Rattle.segment.specs.Records.{record_of, record_in, segment_in, IsStamped, IsSegmentIn, IsRecordAt}
use Rattle.segment.specs.Private.Finding.{FindsRecord}
use Rattle.segment.proofs.RecordLaws.{same_records, length-record, length-record_in}
use Rattle.segment.proofs.SegmentLaws.{goes_on, same_segment, segment_push}
use Rattle.segment.proofs.Ascending.{ascends_front}
use Rattle.segment.proofs.Places.{at_place}

-- a refusal that is passed on, where only memory can have run out
pub only_memory : {X : Type 0} (r : Result X SegmentFault) (P : X → Type 0) (f : SegmentFault) → (e : SegmentFault) × (r ≡ Err e) × (e ≡ f) → f ≡ faults.OutOfMemory → MatchResult r P (λ e. e ≡ faults.OutOfMemory)
only_memory {X} r P f same is = subst (λ (q : Result X SegmentFault). MatchResult q P (λ e. e ≡ faults.OutOfMemory)) (sym same.1) (same.2 ∙ is)

pub some_left : (rest : List ℕ) → false ≡ eqb (length rest) 0 → 0 < length rest
some_left rest e = let not_none = eqb-false (length rest) 0 (sym e) in omega (arith, not_none)

pub none_left : (rest : List ℕ) → true ≡ eqb (length rest) 0 → length rest ≡ 0
none_left rest e = eqb-true (length rest) 0 (sym e)

-- the first of the rows that are still to be read
record Next (form : Form) (rows others : List StampedRow) (rest : List ℕ) : Type 0 where
  first : StampedRow
  later : List StampedRow
  whole : others ≡ rows ++ first ∷ later
  bytes : rest ≡ record_in form first ++ segment_in form later
  is : IsStamped first

first_of_more : (form : Form) (rows others more : List StampedRow) (rest : List ℕ) → 0 < length rest → others ≡ rows ++ more → rest ≡ segment_in form more → AllByRecursion IsStamped more → Next form rows others rest
unfolding segment_in
first_of_more form rows others [] rest some whole bytes all = let none = ap length bytes in absurd (omega (arith, none, some))
first_of_more form rows others (m ∷ more) rest some whole bytes all = record { first = m; later = more; whole = whole; bytes = bytes; is = all.0 }

next_of : (form : Form) (rows others : List StampedRow) (bytes rest : List ℕ) → bytes ≡ segment_in form rows ++ rest → AllByRecursion IsStamped rows → IsSegmentIn form others bytes → 0 < length rest → Next form rows others rest
next_of form rows others bytes rest e each is some =
    let more = goes_on form rows others rest each is.each (sym e ∙ is.bytes_are) in
    first_of_more form rows others more.0 rest some more.1 more.2 more.3

-- where a segment goes on there is a record
pub record_goes_on : (form : Form) (rows others : List StampedRow) (bytes rest : List ℕ) → bytes ≡ segment_in form rows ++ rest → AllByRecursion IsStamped rows → IsSegmentIn form others bytes → 0 < length rest
    → (f : SegmentFault) → FindsRecord form rest (Err f) → f ≡ faults.OutOfMemory
record_goes_on form rows others bytes rest e each is some faults.OutOfMemory none = refl
record_goes_on form rows others bytes rest e each is some faults.BadSegment none =
    let next = next_of form rows others bytes rest e each is some in absurd (none next.first (segment_in form next.later) next.is next.bytes)

-- where a segment goes on its next row is above those before it
pub order_goes_on : (form : Form) (rows others : List StampedRow) (bytes rest : List ℕ) → bytes ≡ segment_in form rows ++ rest → AllByRecursion IsStamped rows → IsSegmentIn form others bytes → 0 < length rest
    → (s : StampedRow) (after : List ℕ) → IsStamped s → rest ≡ record_in form s ++ after → IsAscending stamped_cmp (rows ++ s ∷ [])
order_goes_on form rows others bytes rest e each is some s after stamped read =
    let next = next_of form rows others bytes rest e each is some in
    let same = same_records form next.first s (segment_in form next.later) after next.is stamped (sym next.bytes ∙ read) in
    let up : IsAscending stamped_cmp (rows ++ next.first ∷ next.later) = subst (λ (l : List StampedRow). IsAscending stamped_cmp l) next.whole is.ascending in
    subst (λ (t : StampedRow). IsAscending stamped_cmp (rows ++ t ∷ [])) same.0 (ascends_front stamped_cmp rows next.first next.later up)

-- where nothing is left the segment is of the rows that were read
pub ends : (form : Form) (rows others : List StampedRow) (bytes rest : List ℕ) → bytes ≡ segment_in form rows ++ rest → AllByRecursion IsStamped rows → IsSegmentIn form others bytes → length rest ≡ 0 → rows ≡ others
ends form rows others bytes rest e each is none =
    sym (same_segment form rows others each is.each (sym (append-nil (segment_in form rows)) ∙ ap (λ (l : List ℕ). segment_in form rows ++ l) (sym (nil_from_length rest none)) ∙ sym e ∙ is.bytes_are))

-- one record more
pub reads_on : (form : Form) (rows : List StampedRow) (bytes rest after : List ℕ) (s : StampedRow) → bytes ≡ segment_in form rows ++ rest → rest ≡ record_in form s ++ after → bytes ≡ segment_in form (rows ++ s ∷ []) ++ after
reads_on form rows bytes rest after s e read =
    e ∙ ap (λ (l : List ℕ). segment_in form rows ++ l) read ∙ sym (append_assoc (segment_in form rows) (record_in form s) after) ∙ ap (λ (l : List ℕ). l ++ after) (sym (segment_push form rows s))

pub grows_shorter : (form : Form) (rest after : List ℕ) (s : StampedRow) → rest ≡ record_in form s ++ after → length after < length rest
grows_shorter form rest after s e = let len = ap length e in omega (arith, len, length-append (record_in form s) after, length-record s, length-record_in form s)

-- where a record stands at a place one is found there
pub record_stands : (form : Form) (bytes : List ℕ) (place : ℕ) (s : StampedRow) (next : ℕ) → IsRecordAt form bytes place s next → (f : SegmentFault) → FindsRecord form (drop place bytes) (Err f) → f ≡ faults.OutOfMemory
record_stands form bytes place s next is faults.OutOfMemory none = refl
record_stands form bytes place s next is faults.BadSegment none = absurd (none s (drop (length (record_of s)) (drop place bytes)) is.is (at_place form bytes place s next is))
