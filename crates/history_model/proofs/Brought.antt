-- What the receipts of imports count.
use Rattle.std.proofs.Common.{◌≡◌, ℕ, zero, suc, ◌+◌, ◌≤◌, Bool, true, false, cond, List, [], ◌∷◌, length, map, refl, sym, ap, subst, inl, inr, ◌∙◌, arith, add-one}
use Rattle.std.specs.Prelude.{◌==◌, nat_le, Option, Some, None}
use Rattle.std.specs.List.{filter, sum, range_with_len}
use Rattle.std.proofs.lemmas.Bool.Decides.{nat_tests, leb_tells}
use Rattle.std.proofs.lemmas.List.{length-map}
use Rattle.std.proofs.lemmas.List.FromFn.{sum_by-map-range_with_len_more}
use Rattle.rf2_values.specs.Row.{RowValue}
use Rattle.history_model.specs.declared.stamped.StampedRow.{StampedRow}
use Rattle.history_model.specs.InOrder.{Has}
use Rattle.history_model.specs.History.{History, IsHistory, stamped_cmp, after_release, rows_at}
use Rattle.history_model.specs.Brought.{brought_by, IsLatestDay}
use Rattle.history_model.specs.Laws.{ImportReceiptStays, EachImportHasAReceipt, OneReceiptForAnImport, BothReceiptsCountTheSame, ReceiptsCountWhatIsShown, ReceiptsCountTheRows}
use Rattle.history_model.proofs.InOrder.{same_ascending}
use Rattle.history_model.proofs.Keys.{stamped_total}
use Rattle.history_model.proofs.Filtered.{Has-filter, Has-filter_from, IsAscending-filter, filter_none}
use Rattle.history_model.proofs.Releases.{then_is_history}
use Rattle.history_model.proofs.Chains.{imports_then, numbered}
use Rattle.history_model.proofs.Receipts.{after_cases, after_old, is_new, length-parts, old_rows}

-- ---- the last day

-- with one row before the others
with_first : (s : StampedRow) (rows : List StampedRow) → (day : Option ℕ) × IsLatestDay day rows → (day : Option ℕ) × IsLatestDay day (s ∷ rows)
with_first s rows (None, e) = (
  Some s.row.time,
  (
    (s, inl refl, refl),
    λ r h. elim h [
      | inl same ↦ let times = ap (λ (u : StampedRow). u.row.time) same in omega (arith, times)
      | inr k ↦ absurd (subst (λ rs. Has rs r) e k)
    ],
  ),
)
with_first s rows (Some day, e) = elim (leb_tells s.row.time day) [
  | inl t ↦ (
    Some day,
    (
      (e.0.0, inr e.0.1, e.0.2),
      λ r h. elim h [
        | inl same ↦ let times = ap (λ (u : StampedRow). u.row.time) same in omega (arith, times, t.1)
        | inr k ↦ e.1 r k
      ],
    ),
  )
  | inr t ↦ (
    Some s.row.time,
    (
      (s, inl refl, refl),
      λ r h. elim h [
        | inl same ↦ let times = ap (λ (u : StampedRow). u.row.time) same in omega (arith, times)
        | inr k ↦ let low = e.1 r k in omega (arith, low, t.1)
      ],
    ),
  )
]

latest_of : (rows : List StampedRow) → (day : Option ℕ) × IsLatestDay day rows
latest_of [] = (None, refl)
latest_of (s ∷ rows) = with_first s rows (latest_of rows)

one_latest : (rows : List StampedRow) (a b : Option ℕ) → IsLatestDay a rows → IsLatestDay b rows → a ≡ b
one_latest rows None None p q = refl
one_latest rows None (Some n) p q = absurd (subst (λ rs. Has rs q.0.0) p q.0.1)
one_latest rows (Some m) None p q = absurd (subst (λ rs. Has rs p.0.0) q p.0.1)
one_latest rows (Some m) (Some n) p q =
    let low = q.1 p.0.0 p.0.1 in
    let high = p.1 q.0.0 q.0.1 in
    let same : m ≡ n = omega (arith, low, high, p.0.2, q.0.2) in
    ap Some same

-- ---- the rows of an import

pub each_import_has_a_receipt : EachImportHasAReceipt
each_import_has_a_receipt h number low high =
    let latest = latest_of (brought_by number h.rows) in
    (length (brought_by number h.rows), latest.0, record { imported = (low, high); new_is = refl; latest_is = latest.1 })

pub one_receipt_for_an_import : OneReceiptForAnImport
one_receipt_for_an_import h number new n latest day a b =
    (a.new_is ∙ sym b.new_is, one_latest (brought_by number h.rows) latest day a.latest_is b.latest_is)

pub brought_stays : (h : History) (release : List RowValue) (number : ℕ) → IsHistory h → number ≤ h.imports → brought_by number (after_release h release).rows ≡ brought_by number h.rows
unfolding brought_by
brought_stays h release number is le =
    let after = after_release h release in
    same_ascending stamped_total (filter (λ s. s.import == number) after.rows) (filter (λ s. s.import == number) h.rows)
    (IsAscending-filter (λ s. s.import == number) stamped_cmp after.rows (then_is_history h release is).ascending)
    (IsAscending-filter (λ s. s.import == number) stamped_cmp h.rows is.ascending)
    (λ s there.
    let f = Has-filter (λ s. s.import == number) after.rows s there in
    let own : s.import ≡ number = grind (arith, nat_tests, f.1) in
    elim (after_cases h release s is f.0).origin [
      | inl a ↦ absurd (let late = a.0 in omega (arith, late, own, le))
      | inr b ↦ Has-filter_from (λ s. s.import == number) h.rows s b.1 f.1
    ])
    (λ s there.
    let f = Has-filter (λ s. s.import == number) h.rows s there in
    Has-filter_from (λ s. s.import == number) after.rows s (after_old h release s f.0) f.1)

pub import_receipt_stays : ImportReceiptStays
import_receipt_stays h release number new latest is le =
    let same = brought_stays h release number is le in (
      λ r. record {
        imported = (r.imported.0, omega (arith, le, imports_then h release));
        new_is = r.new_is ∙ ap length (sym same);
        latest_is = subst (λ rows. IsLatestDay latest rows) (sym same) r.latest_is;
      },
      λ r. record {
        imported = (r.imported.0, le);
        new_is = r.new_is ∙ ap length same;
        latest_is = subst (λ rows. IsLatestDay latest rows) same r.latest_is;
      },
    )

brought_is_new : (h : History) (release : List RowValue) → length (brought_by (h.imports + 1) (after_release h release).rows) ≡ length (filter (is_new h) (after_release h release).rows)
unfolding brought_by
brought_is_new h release = refl

pub both_receipts_count_the_same : BothReceiptsCountTheSame
both_receipts_count_the_same h release number new repeated n latest is a b =
    let after = after_release h release in
    let counted = b.new_is ∙ ap (λ k. length (brought_by k after.rows)) a.number_is ∙ brought_is_new h release in
    omega (arith, counted, ap length (old_rows h release is), length-parts (is_new h) after.rows, a.new_is)

-- ---- sums

-- one row, which the last of the imports brought, or one before it, or none of them
one_more : (m k : ℕ) (s : StampedRow) (earlier own all : List StampedRow) → length all ≡ length earlier + length own → length (cond (nat_le m (k + 1)) (s ∷ all) all) ≡ length (cond (nat_le m k) (s ∷ earlier) earlier) + length (cond (m == k + 1) (s ∷ own) own)
one_more m k s earlier own all e =
    elim (nat_le m k) as (λ t. nat_le m k ≡ t → length (cond (nat_le m (k + 1)) (s ∷ all) all) ≡ length (cond t (s ∷ earlier) earlier) + length (cond (m == k + 1) (s ∷ own) own)) [
      | true ↦ λ f.
          let up : nat_le m (k + 1) ≡ true = grind (arith, nat_tests, f) in
          let no : (m == k + 1) ≡ false = grind (arith, nat_tests, f) in
          rw (up, no) (omega (arith, e))
      | false ↦ λ f. elim (m == k + 1) as (λ t. (m == k + 1) ≡ t → length (cond (nat_le m (k + 1)) (s ∷ all) all) ≡ length earlier + length (cond t (s ∷ own) own)) [
        | true ↦ λ g. let up : nat_le m (k + 1) ≡ true = grind (arith, nat_tests, g) in rw up (omega (arith, e))
        | false ↦ λ g. let no : nat_le m (k + 1) ≡ false = grind (arith, nat_tests, f, g) in rw no e
      ] refl
    ] refl

up_to_next : (k : ℕ) (rows : List StampedRow) → length (filter (λ s. nat_le s.import (k + 1)) rows) ≡ length (filter (λ s. nat_le s.import k) rows) + length (filter (λ s. s.import == k + 1) rows)
up_to_next k [] = refl
up_to_next k (s ∷ rows) =
    one_more s.import k s (filter (λ s. nat_le s.import k) rows) (filter (λ s. s.import == k + 1) rows) (filter (λ s. nat_le s.import (k + 1)) rows) (up_to_next k rows)

length-rows_at : (k : ℕ) (rows : List StampedRow) → length (rows_at k rows) ≡ length (filter (λ s. nat_le s.import k) rows)
unfolding rows_at
length-rows_at k rows = length-map (filter (λ s. nat_le s.import k) rows) (λ s. s.row)

next_shown : (k : ℕ) (rows : List StampedRow) → length (rows_at (k + 1) rows) ≡ length (rows_at k rows) + length (brought_by (k + 1) rows)
unfolding brought_by
next_shown k rows = omega (arith, length-rows_at (k + 1) rows, length-rows_at k rows, up_to_next k rows)

none_shown : (h : History) → IsHistory h → length (rows_at 0 h.rows) ≡ 0
none_shown h is =
    length-rows_at 0 h.rows
    ∙ ap length (filter_none (λ s. nat_le s.import 0) h.rows (λ s there. let low = (numbered h s is there).0 in grind (arith, nat_tests, low)))

pub receipts_count_what_is_shown : ReceiptsCountWhatIsShown
receipts_count_what_is_shown h zero new is are = sym (none_shown h is)
receipts_count_what_is_shown h (suc k) new is are =
    let last : new (k + 1) ≡ length (brought_by (k + 1) h.rows) = (are (k + 1) (omega arith) (omega arith)).1.new_is in
    let before = receipts_count_what_is_shown h k new is (λ number low high. are number low (omega (arith, high))) in
    let sums = sum_by-map-range_with_len_more (λ n. n) new 1 k (k + 1) (omega arith) in
    subst (λ (n : ℕ). sum (map new (range_with_len 1 n)) ≡ length (rows_at n h.rows)) (add-one k) (omega (arith, sums, before, last, next_shown k h.rows))

filter_all : {X : Type 0} (p : X → Bool) (xs : List X) → ((x : X) → Has xs x → p x ≡ true) → filter p xs ≡ xs
filter_all p [] each = refl
filter_all p (x ∷ xs) each = ap (λ t. cond t (x ∷ filter p xs) (filter p xs)) (each x (inl refl)) ∙ ap (λ ys. x ∷ ys) (filter_all p xs (λ y h. each y (inr h)))

all_shown : (h : History) → IsHistory h → length (rows_at h.imports h.rows) ≡ length h.rows
all_shown h is =
    length-rows_at h.imports h.rows
    ∙ ap length (filter_all (λ s. nat_le s.import h.imports) h.rows (λ s there. let high = (numbered h s is there).1 in grind (arith, nat_tests, high)))

pub receipts_count_the_rows : ReceiptsCountTheRows
receipts_count_the_rows h new is are = receipts_count_what_is_shown h h.imports new is are ∙ all_shown h is
