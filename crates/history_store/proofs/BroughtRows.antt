-- What an import brought: of places that are counted, and of rows where it is known of their places.
use Rattle.std.proofs.Common.{◌≡◌, ◌≢◌, ℕ, suc, zero, ◌+◌, ◌<◌, ◌≤◌, Bool, true, false, cond, List, [], ◌∷◌, ◌++◌, map, take, length, get_or, slice_get, Option, Some, refl, sym, ap, subst, ◌∙◌, arith, append-nil, length-append}
use Rattle.std.specs.Prelude.{◌==◌}
use Rattle.std.specs.List.{filter}
use Rattle.std.proofs.lemmas.Bool.Decides.{nat_tests}
use Rattle.std.proofs.lemmas.List.Elements.{filter-append, filter_more}
use Rattle.list_lemmas.proofs.Kept.{kept_at_most}
use Rattle.history_model.specs.declared.receipt.ImportReceipt.{ImportReceipt}
use Rattle.history_model.specs.declared.stamped.StampedRow.{StampedRow}
use Rattle.history_model.specs.InOrder.{joined}
use Rattle.history_model.specs.History.{History}
use Rattle.history_model.specs.Lists.{AreLists, listed}
use Rattle.history_model.specs.Brought.{brought_by, IsLatestDay, ImportReceiptOf}
use Rattle.history_model.proofs.Filtered.{Has-filter, Has-filter_from}
use Rattle.history_model.proofs.Snapshots.{Has-listed_cases, Has-listed_from}
use Rattle.segment.specs.declared.place.RowPlace.{RowPlace}
use Rattle.segment.specs.Standing.{record_len, row_place, with_places, places_of}
use Rattle.history_store.specs.Private.{IsLatest, later, row_time, place_time, places_brought, IsReceiptOf}
use Rattle.history_store.proofs.Counted.{length-more, length-passed}
use Rattle.history_store.proofs.LatestTimes.{latest_append, latest_one, latest_alike, latest_day, same_time}
use Rattle.history_store.proofs.Places.{joined_more, place_of_row, row_of_place}

-- ---- one place more

next_brought : (number : ℕ) (places : List RowPlace) (i : ℕ) (p : RowPlace) (t : Bool) → i < length places → p ≡ get_or places i p → (p.import == number) ≡ t → places_brought number (take (i + 1) places) ≡ places_brought number (take i places) ++ cond t (p ∷ []) []
next_brought number places i p t lt is e =
    filter_more (λ q. q.import == number) places i p lt
    ∙ ap (λ (q : RowPlace). places_brought number (take i places) ++ cond (q.import == number) (q ∷ []) []) (sym is)
    ∙ ap (λ b. places_brought number (take i places) ++ cond b (p ∷ []) []) e

-- of a row that the import brought
pub receipt_more : (number : ℕ) (places : List RowPlace) (i : ℕ) (p : RowPlace) (new : ℕ) (day : Option ℕ) → i < length places → p ≡ get_or places i p → p.import ≡ number → IsReceiptOf number (take i places) (record { new = new; latest = day })
    → IsReceiptOf number (take (i + 1) places) (record { new = new + 1; latest = later day (Some p.key.time) })
receipt_more number places i p new day lt is own so =
    let next = next_brought number places i p true lt is (grind (arith, nat_tests, own)) in
    record {
      new_is = let count = so.new_is in omega (arith, count, ap length next, length-append (places_brought number (take i places)) (p ∷ []));
      latest_is = subst (λ (ps : List RowPlace). IsLatest place_time (later day (Some p.key.time)) ps) (sym next) (latest_append place_time day (Some p.key.time) (places_brought number (take i places)) (p ∷ []) so.latest_is (latest_one place_time p));
    }

-- and of another
pub receipt_same : (number : ℕ) (places : List RowPlace) (i : ℕ) (p : RowPlace) (r : ImportReceipt) → i < length places → p ≡ get_or places i p → p.import ≢ number → IsReceiptOf number (take i places) r → IsReceiptOf number (take (i + 1) places) r
receipt_same number places i p r lt is other so =
    let next = next_brought number places i p false lt is (grind (arith, nat_tests, other)) ∙ append-nil (places_brought number (take i places)) in
    record {
      new_is = so.new_is ∙ ap length (sym next);
      latest_is = subst (λ (ps : List RowPlace). IsLatest place_time r.latest ps) (sym next) so.latest_is;
    }

-- ---- one list more

next_list : (number : ℕ) (index : List (List RowPlace)) (i : ℕ) (places : List RowPlace) → slice_get index i ≡ Some places → places_brought number (joined (take (i + 1) index)) ≡ places_brought number (joined (take i index)) ++ places_brought number places
next_list number index i places e =
    ap (places_brought number) (joined_more index i places e) ∙ filter-append (λ p. p.import == number) (joined (take i index)) places

pub receipt_list : (number : ℕ) (index : List (List RowPlace)) (i : ℕ) (places : List RowPlace) (new : ℕ) (day : Option ℕ) (r : ImportReceipt) → slice_get index i ≡ Some places → IsReceiptOf number (joined (take i index)) (record { new = new; latest = day }) → IsReceiptOf number places r
    → IsReceiptOf number (joined (take (i + 1) index)) (record { new = new + r.new; latest = later day r.latest })
receipt_list number index i places new day r e so own =
    let next = next_list number index i places e in
    record {
      new_is = let before = so.new_is in let more = own.new_is in omega (arith, before, more, ap length next, length-append (places_brought number (joined (take i index))) (places_brought number places));
      latest_is = subst (λ (ps : List RowPlace). IsLatest place_time (later day r.latest) ps) (sym next) (latest_append place_time day r.latest (places_brought number (joined (take i index))) (places_brought number places) so.latest_is own.latest_is);
    }

few_joined : (index : List (List RowPlace)) (n : ℕ) → length (joined (take n index)) ≤ length (joined index)
few_joined index zero = omega arith
few_joined [] (suc n) = omega arith
few_joined (places ∷ index) (suc n) =
    let rest = few_joined index n in
    omega (arith, rest, length-append places (joined (take n index)), length-append places (joined index))

-- they are counted without a wrap
pub receipt_fits : (number : ℕ) (index : List (List RowPlace)) (i : ℕ) (places : List RowPlace) (new : ℕ) (day : Option ℕ) (r : ImportReceipt) → slice_get index i ≡ Some places → IsReceiptOf number (joined (take i index)) (record { new = new; latest = day }) → IsReceiptOf number places r → new + r.new ≤ length (joined index)
receipt_fits number index i places new day r e so own =
    let more = (receipt_list number index i places new day r e so own).new_is in
    let few = kept_at_most (λ p. p.import == number) (joined (take (i + 1) index)) in
    omega (arith, more, few, few_joined index (i + 1))

-- ---- rows and their places

length-places_of : (number : ℕ) (at : ℕ) (rows : List StampedRow) → length (places_brought number (map (λ (x : StampedRow × RowPlace). x.1) (with_places at rows))) ≡ length (filter (λ s. s.import == number) rows)
unfolding row_place
length-places_of number at [] = refl
length-places_of number at (s ∷ rows) =
    let rest = length-places_of number (at + record_len s) rows in
    let one = length-more (λ (s : StampedRow). s.import == number) s rows in
    let place = length-more (λ (p : RowPlace). p.import == number) (row_place s at) (map (λ (x : StampedRow × RowPlace). x.1) (with_places (at + record_len s) rows)) in
    omega (arith, rest, one, place)

length-brought : (number : ℕ) (lists : List (List StampedRow)) → length (places_brought number (joined (map places_of lists))) ≡ length (filter (λ s. s.import == number) (joined lists))
length-brought number [] = refl
length-brought number (rows ∷ lists) =
    let first = length-places_of number 0 rows in
    let rest = length-brought number lists in
    ap length (filter-append (λ (p : RowPlace). p.import == number) (places_of rows) (joined (map places_of lists)))
    ∙ length-append (places_brought number (places_of rows)) (places_brought number (joined (map places_of lists)))
    ∙ ap (λ n. n + length (places_brought number (joined (map places_of lists)))) first
    ∙ ap (λ n. length (filter (λ (s : StampedRow). s.import == number) rows) + n) rest
    ∙ sym (length-append (filter (λ (s : StampedRow). s.import == number) rows) (filter (λ (s : StampedRow). s.import == number) (joined lists)))
    ∙ ap length (sym (filter-append (λ (s : StampedRow). s.import == number) rows (joined lists)))

latest_brought : (number : ℕ) (lists : List (List StampedRow)) (day : Option ℕ) → AreLists lists → IsLatest place_time day (places_brought number (joined (map places_of lists))) → IsLatestDay day (brought_by number (listed lists))
unfolding brought_by
latest_brought number lists day are e =
    latest_day day (filter (λ (s : StampedRow). s.import == number) (listed lists)) (latest_alike place_time row_time day (places_brought number (joined (map places_of lists))) (filter (λ (s : StampedRow). s.import == number) (listed lists))
    (λ p h.
    let f = Has-filter (λ (p : RowPlace). p.import == number) (joined (map places_of lists)) p h in
    let w = row_of_place lists p f.0 in
    (w.0, Has-filter_from (λ (s : StampedRow). s.import == number) (listed lists) w.0 (Has-listed_from lists w.0 are w.1) (subst (λ n. (n == number) ≡ true) w.2.import_is f.1), same_time w.0 p w.2))
    (λ s h.
    let f = Has-filter (λ (s : StampedRow). s.import == number) (listed lists) s h in
    let w = place_of_row lists s (Has-listed_cases lists s f.0) in
    (w.0, Has-filter_from (λ (p : RowPlace). p.import == number) (joined (map places_of lists)) w.0 w.1 (subst (λ n. (n == number) ≡ true) (sym w.2.import_is) f.1), same_time s w.0 w.2))
    e)

count_brought : (number : ℕ) (lists : List (List StampedRow)) → AreLists lists → length (places_brought number (joined (map places_of lists))) ≡ length (brought_by number (listed lists))
unfolding brought_by
count_brought number lists are = length-brought number lists ∙ sym (length-passed (λ (s : StampedRow). s.import == number) lists are)

-- what is so of the places of lists is so of their rows
pub receipt_of_rows : (h : History) (lists : List (List StampedRow)) (number : ℕ) (r : ImportReceipt) → h.rows ≡ listed lists → 1 ≤ number → number ≤ h.imports → AreLists lists → IsReceiptOf number (joined (map places_of lists)) r → ImportReceiptOf h number r.new r.latest
receipt_of_rows h lists number r rows first last are so = record {
  imported = (first, last);
  new_is = so.new_is ∙ count_brought number lists are ∙ ap (λ l. length (brought_by number l)) (sym rows);
  latest_is = subst (λ l. IsLatestDay r.latest (brought_by number l)) (sym rows) (latest_brought number lists r.latest are so.latest_is);
}
