-- The rows so far, row by row, and the bytes of them that are written.
use Rattle.std.specs.Prelude.{nat_le, Result, Ok}
use Rattle.std.proofs.Common.{◌≡◌, ℕ, suc, ◌+◌, ◌<◌, ◌≤◌, true, false, cond, List, [], ◌∷◌, ◌++◌, length, get_or, take, drop, refl, sym, ap, subst, ◌∙◌, arith, length-append, append_assoc}
use Rattle.std.proofs.lemmas.Bool.Decides.{nat_tests}
use Rattle.std.proofs.lemmas.List.{append-nil, take-append-drop}
use Rattle.std.proofs.lemmas.List.Concat.{flat_map-append}
use Rattle.disk_model.specs.Disk.{Moments, followed_by, after_write}
use Rattle.blocks.specs.declared.extent.Extent.{Extent}
use Rattle.blocks.specs.Extents.{start_of}
use Rattle.history_model.specs.declared.stamped.StampedRow.{StampedRow}
use Rattle.history_model.specs.InOrder.{Has}
use Rattle.checksum.specs.Crc32c.{continued, crc32c}
use Rattle.checksum.specs.declared.form.Form.{Form}
use Rattle.segment.specs.declared.place.RowPlace.{RowPlace}
use Rattle.segment.specs.Records.{record_in, record_of, segment_in, segment_of}
use Rattle.segment.specs.Standing.{places_of, with_places}
use Rattle.segment.proofs.Posting.{says}
use Rattle.segment.proofs.SegmentLaws.{no_rows, no_rows_plain, push_plain, segment_push}
use Rattle.store_image.specs.Ahead.{BeginsWith}
use Rattle.checksum.proofs.ChecksumLaws.{goes_on as crc_goes_on}
use Rattle.store_image.proofs.Summed.{none_is}
use Rattle.store_image.proofs.Unlisted.{ahead_written}
use Rattle.store_copy.specs.Copying.{up_to}
use Rattle.store_copy.specs.Private.Writing.{ArePending}
use Rattle.store_copy.proofs.Records.{at_index}
use Rattle.store_copy.proofs.UpTo.{up_to-append, up_to_none}

-- ---- one place more

-- the row of a place, which comes next
pub record Step (rows : List StampedRow) (i : ℕ) (p : RowPlace) : Type 0 where
  pub row : StampedRow
  pub there : Has (with_places 0 rows) (row, p)
  pub import_is : p.import ≡ row.import
  pub bytes_are : p.bytes ≡ length (record_of row)
  pub at_is : p.at ≡ length (segment_of (take i rows))
  pub taken : take (i + 1) rows ≡ take i rows ++ row ∷ []

pub step_at : (rows : List StampedRow) (places : List RowPlace) (i : ℕ) (p : RowPlace) → places ≡ places_of rows → i < length places → p ≡ get_or places i p → Step rows i p
step_at rows places i p same lt is =
    let w = at_index 0 rows i p (subst (λ (l : List RowPlace). i < length l) same lt) (subst (λ (l : List RowPlace). p ≡ get_or l i p) same is) in
    let told = says 0 rows (w.0, p) w.1 in
    let next : suc i ≡ i + 1 = omega arith in
    let place = w.3 in
    record { row = w.0; there = w.1; import_is = told.import_is; bytes_are = told.bytes_are; at_is = omega (arith, place); taken = subst (λ n. take n rows ≡ take i rows ++ w.0 ∷ []) next w.2 }

one_in : (n : ℕ) (s : StampedRow) → s.import ≤ n → up_to n (s ∷ []) ≡ s ∷ []
unfolding up_to
one_in n s small = let t : nat_le s.import n ≡ true = grind (arith, nat_tests, small) in ap (λ b. cond b (s ∷ []) []) t

one_out : (n : ℕ) (s : StampedRow) → n < s.import → up_to n (s ∷ []) ≡ []
unfolding up_to
one_out n s large = let t : nat_le s.import n ≡ false = grind (arith, nat_tests, large) in ap (λ b. cond b (s ∷ []) []) t

module _ (n : ℕ) (rows : List StampedRow) (i : ℕ) (p : RowPlace) (step : Step rows i p) where
  pub kept : p.import ≤ n → up_to n (take (i + 1) rows) ≡ up_to n (take i rows) ++ step.row ∷ []
  kept small =
      ap (up_to n) step.taken ∙ up_to-append n (take i rows) (step.row ∷ [])
      ∙ ap (λ (l : List StampedRow). up_to n (take i rows) ++ l) (one_in n step.row (omega (arith, step.import_is, small)))

  pub left_out : n < p.import → up_to n (take (i + 1) rows) ≡ up_to n (take i rows)
  left_out large =
      ap (up_to n) step.taken ∙ up_to-append n (take i rows) (step.row ∷ [])
      ∙ ap (λ (l : List StampedRow). up_to n (take i rows) ++ l) (one_out n step.row (omega (arith, step.import_is, large)))
      ∙ append-nil (up_to n (take i rows))

  pub kept_bytes : p.import ≤ n → length (segment_of (up_to n (take (i + 1) rows))) ≡ length (segment_of (up_to n (take i rows))) + p.bytes
  kept_bytes small =
      let is = ap (λ (l : List StampedRow). length (segment_of l)) (kept small) ∙ ap length (push_plain (up_to n (take i rows)) step.row) in
      omega (arith, is, length-append (segment_of (up_to n (take i rows))) (record_of step.row), step.bytes_are)

  -- the next place is behind the row's record
  pub place_more : p.at + p.bytes ≡ length (segment_of (take (i + 1) rows))
  place_more =
      let is = ap (λ (l : List StampedRow). length (segment_of l)) step.taken ∙ ap length (push_plain (take i rows) step.row) in
      omega (arith, is, length-append (segment_of (take i rows)) (record_of step.row), step.bytes_are, step.at_is)

  pub kept_rows : p.import ≤ n → length (up_to n (take (i + 1) rows)) ≡ length (up_to n (take i rows)) + 1
  kept_rows small = let is = ap length (kept small) in omega (arith, is, length-append (up_to n (take i rows)) (step.row ∷ []))

joins_plain : (rows more : List StampedRow) → segment_of (rows ++ more) ≡ segment_of rows ++ segment_of more
unfolding segment_of
joins_plain rows more = flat_map-append record_of rows more

-- those of the first rows are no more than those of all
pub taken_fewer : (n : ℕ) (rows : List StampedRow) (k : ℕ) → (length (segment_of (up_to n (take k rows))) ≤ length (segment_of (up_to n rows))) × (length (up_to n (take k rows)) ≤ length (up_to n rows))
taken_fewer n rows k =
    let whole : up_to n rows ≡ up_to n (take k rows) ++ up_to n (drop k rows) = ap (up_to n) (sym (take-append-drop k rows)) ∙ up_to-append n (take k rows) (drop k rows) in
    let long = ap length whole in
    let bytes = ap (λ (l : List StampedRow). length (segment_of l)) whole ∙ ap length (joins_plain (up_to n (take k rows)) (up_to n (drop k rows))) in (
      omega (arith, bytes, length-append (segment_of (up_to n (take k rows))) (segment_of (up_to n (drop k rows)))),
      omega (arith, long, length-append (up_to n (take k rows)) (up_to n (drop k rows))),
    )

pub none_bytes : (n : ℕ) → 0 ≡ length (segment_of (up_to n []))
none_bytes n = sym (ap (λ (l : List StampedRow). length (segment_of l)) (up_to_none n) ∙ ap length no_rows_plain)

pub none_rows : (n : ℕ) → 0 ≡ length (up_to n [])
none_rows n = sym (ap length (up_to_none n))

-- ---- what is written of them

pub no_pending : (form : Form) (extent : Extent) (n : ℕ) (rows : List StampedRow) (written crc : ℕ) (bytes file : List ℕ) → rows ≡ [] → written ≡ 0 → crc ≡ 0 → bytes ≡ [] → ArePending form extent (up_to n rows) written crc bytes file
no_pending form extent n rows written crc bytes file none first zero nothing = record {
  front = [];
  front_is = sym first;
  summed = zero ∙ none_is;
  there = refl;
  all = nothing ∙ sym (ap (λ (l : List StampedRow). segment_in form (up_to n l)) none ∙ ap (segment_in form) (up_to_none n) ∙ no_rows form);
}

pub more_pending : (form : Form) (extent : Extent) (rows : List StampedRow) (written crc : ℕ) (bytes next file : List ℕ) (s : StampedRow) → ArePending form extent rows written crc bytes file → next ≡ bytes ++ record_in form s → ArePending form extent (rows ++ s ∷ []) written crc next file
more_pending form extent rows written crc bytes next file s are is = record {
  front = are.front;
  front_is = are.front_is;
  summed = are.summed;
  there = are.there;
  all = ap (λ (l : List ℕ). are.front ++ l) is ∙ sym (append_assoc are.front bytes (record_in form s)) ∙ ap (λ (l : List ℕ). l ++ record_in form s) are.all ∙ sym (segment_push form rows s);
}

pub flushed : (form : Form) (extent : Extent) (rows : List StampedRow) (written next crc sum : ℕ) (bytes none : List ℕ) (old new : Moments) → new ≡ followed_by old (after_write old.state (start_of extent + written) bytes) → next ≡ written + length bytes → sum ≡ continued crc bytes → none ≡ []
    → ArePending form extent rows written crc bytes old.state.now → ArePending form extent rows next sum none new.state.now
flushed form extent rows written next crc sum bytes none old new made next_is sum_is none_is are =
    let done : Result ℕ ℕ = Ok 0 in
    record {
      front = are.front ++ bytes;
      front_is = let front = are.front_is in omega (arith, length-append are.front bytes, front, next_is);
      summed = sum_is ∙ ap (λ c. continued c bytes) are.summed ∙ crc_goes_on are.front bytes;
      there = ahead_written done old new extent written are.front bytes made are.front_is are.there;
      all = ap (λ (l : List ℕ). (are.front ++ bytes) ++ l) none_is ∙ append-nil (are.front ++ bytes) ∙ are.all;
    }

-- none is pending
module _ (form : Form) (extent : Extent) (rows : List StampedRow) (written crc : ℕ) (bytes file : List ℕ) (none : bytes ≡ []) (are : ArePending form extent rows written crc bytes file) where
  whole : are.front ≡ segment_in form rows
  whole = sym (append-nil are.front) ∙ ap (λ (l : List ℕ). are.front ++ l) (sym none) ∙ are.all

  pub all_written : BeginsWith extent (segment_in form rows) file
  all_written = subst (λ (l : List ℕ). BeginsWith extent l file) whole are.there

  pub all_summed : crc ≡ crc32c (segment_in form rows)
  all_summed = are.summed ∙ ap crc32c whole
