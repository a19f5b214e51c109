-- Segments: one record after the other.
use Rattle.std.proofs.Common.{◌≡◌, ℕ, ◌+◌, ◌<◌, List, [], ◌∷◌, ◌++◌, length, take, get_or, refl, sym, ap, ◌∙◌, append_assoc, arith}
use Rattle.std.specs.List.{AllByRecursion, flat_map}
use Rattle.std.proofs.lemmas.List.{append-nil, length-append, map-append}
use Rattle.std.proofs.lemmas.List.Concat.{flat_map-append}
use Rattle.list_lemmas.proofs.Parts.{take_one_more}
use Rattle.rf2_values.specs.Row.{RowValue}
use Rattle.history_model.specs.declared.stamped.StampedRow.{StampedRow}
use Rattle.history_model.specs.History.{stamped}
use Rattle.checksum.specs.declared.form.Form.{Form}
use Rattle.checksum.specs.declared.form.Form.TheVariants as forms
use Rattle.segment.specs.Records.{record_of, record_in, segment_of, segment_in, IsStamped, IsSegment, IsSegmentIn, OneSegment, PiecesJoin, EquallyLong, PlainIsAsBefore}
use Rattle.segment.proofs.RecordLaws.{same_records, length-record, length-record_in, plain_record}

-- ---- one more record

pub segment_push : (form : Form) (rows : List StampedRow) (s : StampedRow) → segment_in form (rows ++ s ∷ []) ≡ segment_in form rows ++ record_in form s
unfolding segment_in
segment_push form rows s = flat_map-append (record_in form) rows (s ∷ []) ∙ ap (λ (end : List ℕ). flat_map (record_in form) rows ++ end) (append-nil (record_in form s))

pub segment_more : (form : Form) (rows : List StampedRow) (i : ℕ) (s : StampedRow) → i < length rows → s ≡ get_or rows i s → segment_in form (take (i + 1) rows) ≡ segment_in form (take i rows) ++ record_in form s
segment_more form rows i s lt is = ap (segment_in form) (take_one_more rows i s lt is) ∙ segment_push form (take i rows) s

pub no_rows : (form : Form) → segment_in form [] ≡ []
unfolding segment_in
no_rows form = refl

-- ---- bytes are one segment

some_bytes : (form : Form) (s : StampedRow) (rest : List ℕ) → 0 < length (record_in form s ++ rest)
some_bytes form s rest = omega (arith, length-append (record_in form s) rest, length-record s, length-record_in form s)

pub no_record : (form : Form) (s : StampedRow) (rest : List ℕ) → record_in form s ++ rest ≡ [] → ⊥
no_record form s rest e = let none = ap length e in omega (arith, some_bytes form s rest, none)

-- where bytes begin with the records of some rows, they are the first of the segment
pub goes_on : (form : Form) (rows others : List StampedRow) (rest : List ℕ) → AllByRecursion IsStamped rows → AllByRecursion IsStamped others → segment_in form rows ++ rest ≡ segment_in form others
    → (more : List StampedRow) × (others ≡ rows ++ more) × (rest ≡ segment_in form more) × AllByRecursion IsStamped more
unfolding segment_in
goes_on form [] others rest each all e = (others, refl, e, all)
goes_on form (r ∷ rows) [] rest each all e = absurd (no_record form r (flat_map (record_in form) rows ++ rest) (sym (append_assoc (record_in form r) (flat_map (record_in form) rows) rest) ∙ e))
goes_on form (r ∷ rows) (o ∷ others) rest each all e =
    let same = same_records form r o (flat_map (record_in form) rows ++ rest) (flat_map (record_in form) others) each.0 all.0 (sym (append_assoc (record_in form r) (flat_map (record_in form) rows) rest) ∙ e) in
    let tail = goes_on form rows others rest each.1 all.1 same.1 in
    (tail.0, ap (λ (t : StampedRow). t ∷ others) (sym same.0) ∙ ap (λ (l : List StampedRow). r ∷ l) tail.1, tail.2, tail.3)

pub nothing_more : (form : Form) (more : List StampedRow) → [] ≡ segment_in form more → more ≡ []
unfolding segment_in
nothing_more form [] e = refl
nothing_more form (m ∷ more) e = absurd (no_record form m (flat_map (record_in form) more) (sym e))

-- a segment whose bytes are the records of some rows is of these rows
pub same_segment : (form : Form) (rows others : List StampedRow) → AllByRecursion IsStamped rows → AllByRecursion IsStamped others → segment_in form rows ≡ segment_in form others → others ≡ rows
same_segment form rows others each all e =
    let more = goes_on form rows others [] each all (append-nil (segment_in form rows) ∙ e) in
    more.1 ∙ ap (λ (l : List StampedRow). rows ++ l) (nothing_more form more.0 more.2) ∙ append-nil rows

pub one_segment : OneSegment
one_segment form rows others bytes is other = sym (same_segment form rows others is.each other.each (sym is.bytes_are ∙ other.bytes_are))

pub pieces_join : PiecesJoin
unfolding segment_in
pieces_join form rows others = flat_map-append (record_in form) rows others

-- ---- both forms

pub plain_segment : (rows : List StampedRow) → segment_in forms.Plain rows ≡ segment_of rows
unfolding segment_in segment_of
plain_segment [] = refl
plain_segment (s ∷ rows) = ap (λ (l : List ℕ). l ++ segment_in forms.Plain rows) (plain_record s) ∙ ap (λ (l : List ℕ). record_of s ++ l) (plain_segment rows)

-- how long the records of both of two lists are
pub segment_length_both : (xs ys : List StampedRow) → length (segment_of (xs ++ ys)) ≡ length (segment_of xs) + length (segment_of ys)
unfolding segment_of
segment_length_both xs ys = ap length (flat_map-append record_of xs ys) ∙ length-append (flat_map record_of xs) (flat_map record_of ys)

pub length-segment_in : (form : Form) (rows : List StampedRow) → length (segment_in form rows) ≡ length (segment_of rows)
unfolding segment_in segment_of
length-segment_in form [] = refl
length-segment_in form (s ∷ rows) =
    let rest = length-segment_in form rows in
    omega (arith, rest, length-record_in form s, length-append (record_in form s) (segment_in form rows), length-append (record_of s) (segment_of rows))

each_equally : (form : Form) (rows : List StampedRow) → AllByRecursion (λ s. length (record_in form s) ≡ length (record_of s)) rows
each_equally form [] = tt
each_equally form (s ∷ rows) = (length-record_in form s, each_equally form rows)

pub equally_long : EquallyLong
equally_long form rows = (each_equally form rows, length-segment_in form rows)

pub plain_is_as_before : PlainIsAsBefore
plain_is_as_before rows bytes = (
  λ is. record { each = is.each; ascending = is.ascending; bytes_are = is.bytes_are ∙ plain_segment rows },
  λ is. record { each = is.each; ascending = is.ascending; bytes_are = is.bytes_are ∙ sym (plain_segment rows) },
)

-- the same of plain segments under their own names
pub push_plain : (rows : List StampedRow) (s : StampedRow) → segment_of (rows ++ s ∷ []) ≡ segment_of rows ++ record_of s
unfolding segment_of
push_plain rows s = flat_map-append record_of rows (s ∷ []) ∙ ap (λ (end : List ℕ). flat_map record_of rows ++ end) (append-nil (record_of s))

pub more_plain : (rows : List StampedRow) (i : ℕ) (s : StampedRow) → i < length rows → s ≡ get_or rows i s → segment_of (take (i + 1) rows) ≡ segment_of (take i rows) ++ record_of s
more_plain rows i s lt is = ap segment_of (take_one_more rows i s lt is) ∙ push_plain (take i rows) s

-- of rows of one import
pub more_stamped : (import : ℕ) (rows : List RowValue) (i : ℕ) (row : RowValue) → i < length rows → row ≡ get_or rows i row
    → segment_of (stamped import (take (i + 1) rows)) ≡ segment_of (stamped import (take i rows)) ++ record_of (record { row = row; import = import })
more_stamped import rows i row lt is =
    let of : RowValue → StampedRow = λ r. record { row = r; import = import } in
    ap (λ (l : List RowValue). segment_of (stamped import l)) (take_one_more rows i row lt is) ∙ ap segment_of (map-append of (take i rows) (row ∷ [])) ∙ push_plain (stamped import (take i rows)) (of row)

pub no_rows_plain : segment_of [] ≡ []
unfolding segment_of
no_rows_plain = refl
