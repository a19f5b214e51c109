-- The record of a row, in a file that has the segment.
use Rattle.std.proofs.Common.{◌≡◌, inl, inr, ℕ, zero, suc, ◌+◌, ◌<◌, ◌++◌, List, [], ◌∷◌, length, get_or, map, take, drop, refl, sym, ap, ◌∙◌, arith}
use Rattle.blocks.specs.Extents.{start_of}
use Rattle.directory.specs.declared.entry.Entry.{Entry}
use Rattle.directory.specs.Listings.{form_in}
use Rattle.directory.specs.Places.{extent_of}
use Rattle.rf2_values.specs.Key.{key_of}
use Rattle.history_model.specs.declared.stamped.StampedRow.{StampedRow}
use Rattle.history_model.specs.InOrder.{Has}
use Rattle.segment.specs.declared.place.RowPlace.{RowPlace}
use Rattle.segment.specs.Records.{IsSegmentIn, IsStamped, record_of, segment_of}
use Rattle.segment.specs.Standing.{IsPlaceIn, record_len, row_place, with_places}
use Rattle.segment.proofs.Posting.{place_at, says, record_there, segment_length_more}
use Rattle.segment.proofs.SegmentLaws.{length-segment_in, no_rows_plain}
use Rattle.store_image.specs.Reader.{segment_bytes}
use Rattle.store_image.specs.Private.Reading.{IsOfPlace}
use Rattle.store_copy.specs.Private.Writing.{IsSegmentAt}

-- the bytes of an entry that has the segment of these rows
segment_is : (file : List ℕ) (entry : Entry) (rows : List StampedRow) → IsSegmentAt file entry rows → IsSegmentIn (form_in entry.sums) rows (segment_bytes entry file)
segment_is file entry rows at = record {
  each = at.0.is.each;
  ascending = at.0.is.ascending;
  bytes_are = ap (λ n. take n (drop (start_of (extent_of entry)) file)) (sym (length-segment_in (form_in entry.sums) rows ∙ at.0.bytes)) ∙ at.1.bytes;
}

pub there_at : (file : List ℕ) (entry : Entry) (rows : List StampedRow) (s : StampedRow) (p : RowPlace) → IsSegmentAt file entry rows → Has (with_places 0 rows) (s, p) → IsPlaceIn (form_in entry.sums) (segment_bytes entry file) p s
there_at file entry rows s p at h =
    let told = says 0 rows (s, p) h in
    record {
      key_is = told.key_is;
      import_is = told.import_is;
      record_is = record_there (form_in entry.sums) rows (segment_bytes entry file) s p (segment_is file entry rows at) h;
    }

-- the place at an index is that of a row, which is behind those before it
pub at_index : (from : ℕ) (rows : List StampedRow) (i : ℕ) (p : RowPlace) → i < length (map (λ (x : StampedRow × RowPlace). x.1) (with_places from rows)) → p ≡ get_or (map (λ (x : StampedRow × RowPlace). x.1) (with_places from rows)) i p
    → (s : StampedRow) × Has (with_places from rows) (s, p) × (take (suc i) rows ≡ take i rows ++ s ∷ []) × (p.at ≡ from + length (segment_of (take i rows)))
at_index from [] i p lt is = absurd (omega (arith, lt))
at_index from (x ∷ rows) zero p lt is =
    let none = ap length no_rows_plain in
    let place = ap (λ (q : RowPlace). q.at) is ∙ place_at x from in
    (x, inl (ap (λ (q : RowPlace). (x, q)) (sym is)), refl, omega (arith, place, none))
at_index from (x ∷ rows) (suc i) p lt is =
    let w = at_index (from + record_len x) rows i p (omega (arith, lt)) is in
    let place = w.3 in
    (w.0, inr w.1, ap (λ (l : List StampedRow). x ∷ l) w.2, omega (arith, place, segment_length_more x (take i rows)))

-- the row has one place, and the key, the import number and the length of another
abbrev pub IsAlike : RowPlace → RowPlace → Type 0
IsAlike place p = (place.key ≡ p.key) × (place.import ≡ p.import) × (place.bytes ≡ p.bytes)

pub of_place : (s : StampedRow) (place p : RowPlace) → IsStamped s → place ≡ row_place s p.at → IsAlike place p → IsOfPlace s p
unfolding row_place
of_place s place p stamped is alike = record {
  stamped = stamped;
  is = (sym (ap (λ (q : RowPlace). q.key) is) ∙ alike.0, sym (ap (λ (q : RowPlace). q.import) is) ∙ alike.1);
  bytes = sym (ap (λ (q : RowPlace). q.bytes) is) ∙ alike.2;
}

-- the row that is there is like its place
pub is_like : (s : StampedRow) (place p : RowPlace) (next : ℕ) → place ≡ row_place s p.at → p.key ≡ key_of s.row → p.import ≡ s.import → next ≡ p.at + length (record_of s) → next ≡ p.at + p.bytes → IsAlike place p
unfolding row_place
is_like s place p next is key import ends whole = (
  ap (λ (q : RowPlace). q.key) is ∙ sym key,
  ap (λ (q : RowPlace). q.import) is ∙ sym import,
  ap (λ (q : RowPlace). q.bytes) is ∙ omega (arith, ends, whole),
)
