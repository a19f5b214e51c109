-- Rows and their places.
use Rattle.std.proofs.Common.{◌≡◌, ℕ, ◌+◌, ◌≤◌, List, [], ◌∷◌, ◌++◌, length, map, refl, sym, ap, subst, inl, inr, ◌∙◌, arith}
use Rattle.std.proofs.lemmas.List.{length-append}
use Rattle.rf2_values.specs.Key.{key_of}
use Rattle.history_model.specs.declared.stamped.StampedRow.{StampedRow}
use Rattle.history_model.specs.InOrder.{Has}
use Rattle.segment.specs.declared.place.RowPlace.{RowPlace}
use Rattle.checksum.specs.declared.form.Form.{Form}
use Rattle.checksum.specs.declared.form.Form.TheVariants as forms
use Rattle.segment.specs.Records.{record_of, segment_of, IsSegmentIn, IsRecordAt}
use Rattle.segment.specs.Standing.{record_len, row_place, with_places, EachStandsAtItsByte}
use Rattle.segment.proofs.Places.{each_at_its_place}
use Rattle.segment.proofs.RecordLaws.{length-record}
use Rattle.segment.proofs.SegmentLaws.{push_plain, no_rows_plain}

-- what a place says of its row
pub record Says (p : RowPlace) (s : StampedRow) : Type 0 where
  pub key_is : p.key ≡ key_of s.row
  pub import_is : p.import ≡ s.import
  pub bytes_are : p.bytes ≡ record_len s

pub says_posted : (s : StampedRow) (at : ℕ) → Says (row_place s at) s
unfolding row_place
says_posted s at = record { key_is = refl; import_is = refl; bytes_are = refl }

pub placed : (at : ℕ) (rows : List StampedRow) (s : StampedRow) → Has rows s → (p : RowPlace) × Has (with_places at rows) (s, p)
placed at [] s h = absurd h
placed at (r ∷ rows) s h = elim h [
  | inl e ↦ (row_place r at, inl (ap (λ (t : StampedRow). (t, row_place r at)) e))
  | inr t ↦ let w = placed (at + record_len r) rows s t in (w.0, inr w.1)
]

pub row_there : (at : ℕ) (rows : List StampedRow) (x : StampedRow × RowPlace) → Has (with_places at rows) x → Has rows x.0
row_there at [] x h = absurd h
row_there at (r ∷ rows) x h = elim h [ inl e ↦ inl (ap (λ (y : StampedRow × RowPlace). y.0) e) | inr t ↦ inr (row_there (at + record_len r) rows x t) ]

pub says : (at : ℕ) (rows : List StampedRow) (x : StampedRow × RowPlace) → Has (with_places at rows) x → Says x.1 x.0
says at [] x h = absurd h
says at (r ∷ rows) x h = elim h [ inl e ↦ subst (λ (y : StampedRow × RowPlace). Says y.1 y.0) e (says_posted r at) | inr t ↦ says (at + record_len r) rows x t ]

-- ---- where its record is

-- a row's place has the byte that it was made with
pub place_at : (s : StampedRow) (at : ℕ) → (row_place s at).at ≡ at
unfolding row_place
place_at s at = refl

-- and as many bytes as the row's record
pub place_bytes : (s : StampedRow) (at : ℕ) → (row_place s at).bytes ≡ length (record_of s)
unfolding row_place
place_bytes s at = refl

-- there is a place for each row
pub as_many_places : (at : ℕ) (rows : List StampedRow) → length (map (λ (x : StampedRow × RowPlace). x.1) (with_places at rows)) ≡ length rows
as_many_places at [] = refl
as_many_places at (s ∷ rows) = let rest = as_many_places (at + record_len s) rows in omega (arith, rest)

-- the rows before one, and those after it
pub record Between (at : ℕ) (rows : List StampedRow) (x : StampedRow × RowPlace) : Type 0 where
  pub before : List StampedRow
  pub after : List StampedRow
  pub rows_are : rows ≡ before ++ x.0 ∷ after
  pub at_is : x.1.at ≡ at + length (segment_of before)

-- how long the records of one row and of others are
pub segment_length_more : (r : StampedRow) (rows : List StampedRow) → length (segment_of (r ∷ rows)) ≡ length (record_of r) + length (segment_of rows)
unfolding segment_of
segment_length_more r rows = length-append (record_of r) (segment_of rows)

-- each record has some bytes
pub rows_at_most_bytes : (rows : List StampedRow) → length rows ≤ length (segment_of rows)
rows_at_most_bytes [] = omega arith
rows_at_most_bytes (r ∷ rows) = let rest = rows_at_most_bytes rows in omega (arith, rest, segment_length_more r rows, length-record r)

-- the record of one row more stands behind those of the others
pub with_places_push : (at : ℕ) (rows : List StampedRow) (s : StampedRow) → with_places at (rows ++ s ∷ []) ≡ with_places at rows ++ (s, row_place s (at + length (segment_of rows))) ∷ []
with_places_push at [] s =
    let none = ap length no_rows_plain in
    let same : at ≡ at + length (segment_of []) = omega (arith, none) in
    ap (λ n. (s, row_place s n) ∷ []) same
with_places_push at (r ∷ rows) s =
    let same : at + record_len r + length (segment_of rows) ≡ at + length (segment_of (r ∷ rows)) = omega (arith, segment_length_more r rows) in
    ap (λ l. (r, row_place r at) ∷ l) (with_places_push (at + record_len r) rows s ∙ ap (λ n. with_places (at + record_len r) rows ++ (s, row_place s n) ∷ []) same)

-- and ends where the records of all do
pub record_ends : (rows : List StampedRow) (s : StampedRow) (at : ℕ) (place : RowPlace) → at ≡ length (segment_of rows) → place ≡ row_place s at → at + place.bytes ≡ length (segment_of (rows ++ s ∷ []))
record_ends rows s at place here is =
    let long = ap (λ (p : RowPlace). p.bytes) is ∙ place_bytes s at in
    let whole = ap length (push_plain rows s) ∙ length-append (segment_of rows) (record_of s) in
    omega (arith, long, whole, here)

pub between : (at : ℕ) (rows : List StampedRow) (x : StampedRow × RowPlace) → Has (with_places at rows) x → Between at rows x
between at [] x h = absurd h
between at (r ∷ rows) x h = elim h [
  | inl e ↦ subst (λ (y : StampedRow × RowPlace). Between at (r ∷ rows) y) e (record {
    before = [];
    after = rows;
    rows_are = refl;
    at_is = (let a = place_at r at in let none = ap length no_rows_plain in omega arith);
  })
  | inr t ↦
      let w = between (at + record_len r) rows x t in
      record {
        before = r ∷ w.before;
        after = w.after;
        rows_are = ap (λ (l : List StampedRow). r ∷ l) w.rows_are;
        at_is = (let a = w.at_is in let l = segment_length_more r w.before in omega arith);
      }
]

pub record_there : (form : Form) (rows : List StampedRow) (bytes : List ℕ) (s : StampedRow) (p : RowPlace) → IsSegmentIn form rows bytes → Has (with_places 0 rows) (s, p) → IsRecordAt form bytes p.at s (p.at + p.bytes)
record_there form rows bytes s p is h =
    let w = between 0 rows (s, p) h in
    let b = says 0 rows (s, p) h in
    let there = each_at_its_place form w.before w.after s bytes (subst (λ l. IsSegmentIn form l bytes) w.rows_are is) in
    let at_is : p.at ≡ length (segment_of w.before) = (let e = w.at_is in omega arith) in
    let next_is : length (segment_of (w.before ++ s ∷ [])) ≡ p.at + p.bytes = (
    let e = ap length (push_plain w.before s) ∙ length-append (segment_of w.before) (record_of s) in
    let l = b.bytes_are in
    omega arith) in
    subst (λ n. IsRecordAt form bytes n s (p.at + p.bytes)) (sym at_is) (subst (λ n. IsRecordAt form bytes (length (segment_of w.before)) s n) next_is there)

pub each_stands_at_its_byte : EachStandsAtItsByte
each_stands_at_its_byte form lists segment at s rows bytes stands list_is is =
    let same : rows ≡ stands.rows = (let e = sym list_is ∙ stands.list_is in cc) in
    let b = says 0 stands.rows (s, at) stands.there in
    record { key_is = b.key_is; import_is = b.import_is; record_is = record_there form stands.rows bytes s at (subst (λ l. IsSegmentIn form l bytes) same is) stands.there }
