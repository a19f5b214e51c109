-- Records at places.
use Rattle.std.proofs.Common.{◌≡◌, ℕ, ◌+◌, ◌-◌, ◌≤◌, List, ◌∷◌, ◌++◌, length, take, drop, refl, sym, ap, ◌∙◌, arith}
use Rattle.std.proofs.lemmas.List.{take-append-drop, length-append, length-drop, take_at, drop_at}
use Rattle.list_lemmas.proofs.Each.{each_at_middle}
use Rattle.history_model.specs.declared.stamped.StampedRow.{StampedRow}
use Rattle.checksum.specs.declared.form.Form.{Form}
use Rattle.checksum.specs.declared.form.Form.TheVariants as forms
use Rattle.segment.specs.Records.{record_of, record_in, segment_of, segment_in, IsStamped, IsRecordAt, OneRecord, EachAtItsPlace}
use Rattle.segment.proofs.RecordLaws.{same_records, length-record, length-record_in}
use Rattle.segment.proofs.SegmentLaws.{push_plain, pieces_join, length-segment_in}

-- what stands at a place is the record and what follows it
pub at_place : (form : Form) (bytes : List ℕ) (place : ℕ) (s : StampedRow) (next : ℕ) → IsRecordAt form bytes place s next → drop place bytes ≡ record_in form s ++ drop (length (record_of s)) (drop place bytes)
at_place form bytes place s next is =
    sym (take-append-drop (length (record_of s)) (drop place bytes)) ∙ ap (λ (front : List ℕ). front ++ drop (length (record_of s)) (drop place bytes)) is.bytes_are

-- no record stands past the end
pub within : (form : Form) (bytes : List ℕ) (place : ℕ) (s : StampedRow) (next : ℕ) → IsRecordAt form bytes place s next → place ≤ length bytes
within form bytes place s next is =
    let len = ap length (at_place form bytes place s next is) in
    omega (arith, len, length-append (record_in form s) (drop (length (record_of s)) (drop place bytes)), length-drop place bytes, length-record s, length-record_in form s)

pub one_record : OneRecord
one_record form bytes place s other next after is others =
    let same = same_records form s other (drop (length (record_of s)) (drop place bytes)) (drop (length (record_of other)) (drop place bytes)) is.is others.is (sym (at_place form bytes place s next is) ∙ at_place form bytes place other after others) in
    (same.0, is.next_is ∙ ap (λ (t : StampedRow). place + length (record_of t)) same.0 ∙ sym others.next_is)

-- a record that stands after a front
pub place_found : (form : Form) (bytes : List ℕ) (place : ℕ) (s : StampedRow) (after : List ℕ) → place ≤ length bytes → IsStamped s → drop place bytes ≡ record_in form s ++ after → IsRecordAt form bytes place s (length bytes - length after)
place_found form bytes place s after in_range is e =
    let len = ap length e in
    record {
      is = is;
      next_is = omega (arith, len, length-append (record_in form s) after, length-drop place bytes, length-record_in form s);
      bytes_are = ap (take (length (record_of s))) e ∙ take_at (record_in form s) after (length (record_of s)) (length-record_in form s);
    }

-- the first record, and those behind it
pub first_record : (form : Form) (s : StampedRow) (after : List StampedRow) → segment_in form (s ∷ after) ≡ record_in form s ++ segment_in form after
unfolding segment_in
first_record form s after = refl

pub each_at_its_place : EachAtItsPlace
each_at_its_place form before after s bytes is =
    let front = segment_in form before in
    let whole : bytes ≡ front ++ (record_in form s ++ segment_in form after) = is.bytes_are ∙ pieces_join form before (s ∷ after) ∙ ap (λ (l : List ℕ). front ++ l) (first_record form s after) in
    let rest : drop (length (segment_of before)) bytes ≡ record_in form s ++ segment_in form after = ap (drop (length (segment_of before))) whole ∙ drop_at front (record_in form s ++ segment_in form after) (length (segment_of before)) (length-segment_in form before) in
    record {
      is = each_at_middle IsStamped before s after is.each;
      next_is = ap length (push_plain before s) ∙ length-append (segment_of before) (record_of s);
      bytes_are = ap (take (length (record_of s))) rest ∙ take_at (record_in form s) (segment_in form after) (length (record_of s)) (length-record_in form s);
    }
