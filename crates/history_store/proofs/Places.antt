-- Rows, their places, and lists of them.
use Rattle.std.proofs.Common.{◌≡◌, ℕ, zero, suc, ◌+◌, ◌≤◌, List, [], ◌∷◌, ◌++◌, length, take, map, slice_get, Some, inl, inr, sym, ap, subst, ◌∙◌, arith, length-append, append-nil}
use Rattle.std.specs.List.{AllByRecursion}
use Rattle.std.proofs.lemmas.List.{append_assoc}
use Rattle.list_lemmas.proofs.Each.{each_of_pushed}
use Rattle.history_model.specs.declared.stamped.StampedRow.{StampedRow}
use Rattle.history_model.specs.InOrder.{Has, joined}
use Rattle.history_model.proofs.InOrder.{Has-append_left, Has-append_right, Has-append_cases}
use Rattle.history_model.proofs.Filtered.{Has-map, Has-map_from}
use Rattle.segment.proofs.Posting.{Says, placed, row_there, says}
use Rattle.checksum.specs.declared.form.Form.{Form}
use Rattle.checksum.specs.declared.form.Form.TheVariants as forms
use Rattle.segment.specs.Records.{record_in, segment_in, segment_of, IsStamped}
use Rattle.segment.proofs.SegmentLaws.{pieces_join, plain_segment, segment_push}
use Rattle.segment.specs.Standing.{with_places, places_of}
use Rattle.segment.specs.declared.place.RowPlace.{RowPlace}

-- ---- rows that are taken one after the other

-- the first of some rows have no more bytes than all of them
pub segment_begins : (rows done left : List StampedRow) → rows ≡ done ++ left → length (segment_of done) ≤ length (segment_of rows)
segment_begins rows done left split =
    let both = ap (λ (l : List StampedRow). length (segment_of l)) split ∙ ap length (sym (plain_segment (done ++ left)) ∙ pieces_join forms.Plain done left ∙ (λ i. plain_segment done i ++ plain_segment left i)) ∙ length-append (segment_of done) (segment_of left) in
    omega (arith, both)

-- with the record of one row more
pub more_placed : (form : Form) (rows placed next left rest : List StampedRow) (bytes more : List ℕ) (s : StampedRow) → rows ≡ placed ++ left → left ≡ s ∷ rest → bytes ≡ segment_in form placed → AllByRecursion IsStamped placed → next ≡ placed ++ s ∷ [] → more ≡ bytes ++ record_in form s → IsStamped s
    → (rows ≡ next ++ rest) × (more ≡ segment_in form next) × AllByRecursion IsStamped next
more_placed form rows placed next left rest bytes more s split steps bytes_are each next_is more_is stamped =
    let grown = sym next_is in (
      split ∙ ap (λ (l : List StampedRow). placed ++ l) steps ∙ sym (append_assoc placed (s ∷ []) rest) ∙ ap (λ (l : List StampedRow). l ++ rest) grown,
      more_is ∙ ap (λ (b : List ℕ). b ++ record_in form s) bytes_are ∙ sym (segment_push form placed s) ∙ ap (segment_in form) grown,
      subst (AllByRecursion IsStamped) grown (each_of_pushed IsStamped placed s each stamped),
    )

-- ---- rows of lists, and their places

-- with one list more
pub joined_more : {X : Type 0} (xss : List (List X)) (i : ℕ) (xs : List X) → slice_get xss i ≡ Some xs → joined (take (i + 1) xss) ≡ joined (take i xss) ++ xs
joined_more {X = X} xss i xs e = let on : i + 1 ≡ suc i = omega arith in ap (λ n. joined (take n xss)) on ∙ next xss i e where
  next : (xss : List (List X)) (i : ℕ) → slice_get xss i ≡ Some xs → joined (take (suc i) xss) ≡ joined (take i xss) ++ xs
  next [] i e = absurd (cc)
  next (ys ∷ xss) zero e = let same : ys ≡ xs = cc in append-nil ys ∙ same
  next (ys ∷ xss) (suc i) e = ap (λ t. ys ++ t) (next xss i e) ∙ sym (append_assoc ys (joined (take i xss)) xs)

pub place_of_row : (lists : List (List StampedRow)) (s : StampedRow) → Has (joined lists) s → (p : RowPlace) × Has (joined (map places_of lists)) p × Says p s
place_of_row [] s h = absurd h
place_of_row (rows ∷ lists) s h = elim (Has-append_cases rows (joined lists) s h) [
  | inl l ↦
      let w = placed 0 rows s l in
      let there = Has-map_from (λ (x : StampedRow × RowPlace). x.1) (with_places 0 rows) (s, w.0) w.1 in
      (w.0, Has-append_left (places_of rows) (joined (map places_of lists)) w.0 there, says 0 rows (s, w.0) w.1)
  | inr r ↦ let w = place_of_row lists s r in (w.0, Has-append_right (places_of rows) (joined (map places_of lists)) w.0 w.1, w.2)
]

pub row_of_place : (lists : List (List StampedRow)) (p : RowPlace) → Has (joined (map places_of lists)) p → (s : StampedRow) × Has (joined lists) s × Says p s
row_of_place [] p h = absurd h
row_of_place (rows ∷ lists) p h = elim (Has-append_cases (places_of rows) (joined (map places_of lists)) p h) [
  | inl l ↦
      let w = Has-map (λ (x : StampedRow × RowPlace). x.1) (with_places 0 rows) p l in
      (w.0.0, Has-append_left rows (joined lists) w.0.0 (row_there 0 rows w.0 w.1), subst (λ (q : RowPlace). Says q w.0.0) w.2 (says 0 rows w.0 w.1))
  | inr r ↦ let w = row_of_place lists p r in (w.0, Has-append_right rows (joined lists) w.0 w.1, w.2)
]
