-- What a step of a merge writes.
use Rattle.std.specs.Prelude.{Option, Some, None, Result, Ok, Err, MatchResult, min, slice_get}
use Rattle.std.proofs.Common.{◌≡◌, inl, inr, ℕ, zero, suc, ◌+◌, ◌≤◌, List, [], ◌∷◌, ◌++◌, length, take, drop, length-take, length-drop, length-append, append_assoc, refl, sym, ap, subst, ◌∙◌, arith}
use Rattle.std.proofs.lemmas.List.{take-append-drop, take_min}
use Rattle.std.proofs.lemmas.List.Elements.{All-head, All-tail}
use Rattle.list_lemmas.proofs.Parts.{take_sum}
use Rattle.disk_model.specs.Disk.{Moments, Fails, followed_by}
use Rattle.blocks.specs.Extents.{start_of}
use Rattle.history_model.specs.declared.stamped.StampedRow.{StampedRow}
use Rattle.history_model.specs.InOrder.{Has, IsAscending}
use Rattle.history_model.specs.History.{History, stamped_cmp}
use Rattle.history_model.specs.Lists.{union, listed}
use Rattle.history_model.proofs.Snapshots.{Has-listed_from}
use Rattle.history_model.proofs.Listings.{two_lists, Has-union_cases, IsAscending-union}
use Rattle.history_model.proofs.Unions.{length-union}
use Rattle.history_model.proofs.Filtered.{IsAscending-take, IsAscending-drop}
use Rattle.history_model.proofs.Items.{Has-joined_at, Has-drop, Has-take}
use Rattle.directory.specs.declared.entry.Entry.{Entry}
use Rattle.directory.specs.Listings.{DirectoryValue, form_in}
use Rattle.checksum.specs.declared.form.Form.{Form}
use Rattle.directory.specs.Places.{extent_of}
use Rattle.segment.specs.Records.{segment_in, segment_of}
use Rattle.segment.proofs.SegmentLaws.{length-segment_in, pieces_join}
use Rattle.segment_index.specs.Output.{taken_rows, left_rows, left_count, with_more}
use Rattle.segment_index.proofs.Built.{segment_within}
use Rattle.store_image.specs.Pieces.{Holds, HoldsAll}
use Rattle.store_image.specs.Kept.{AreSegments, IsKept, pieces_of, history_of, segment_with}
use Rattle.store_image.specs.Ahead.{BeginsWith}
use Rattle.history_store.specs.declared.merge_in_progress.MergeInProgress.{MergeInProgress}
use Rattle.history_store.specs.Catalog.{Merge, Catalog, catalog_of}
use Rattle.history_store.specs.Private.Reading.{AreThere}
use Rattle.history_store.specs.Private.Stepping.{IsOneWrite}
use Rattle.history_store.specs.MergeInProgress.{IsMergeOf, merge_of}
use Rattle.history_store.specs.Merging.{IsUnfinished}
use Rattle.history_store.specs.Written.{HasRows, AreNext, WritesNext, after_part}

-- ---- the rows of the segments

has_rows : (entries : List Entry) (lists : List (List StampedRow)) (k : ℕ) (rows : List StampedRow) (now : List ℕ) → AreSegments entries lists → HoldsAll (pieces_of entries lists) now → slice_get lists k ≡ Some rows → HasRows entries k rows now
has_rows [] [] k rows now are holds found = absurd cc
has_rows [] (x ∷ lists) k rows now are holds found = absurd are
has_rows (e ∷ entries) [] k rows now are holds found = absurd are
has_rows (e ∷ entries) (x ∷ lists) zero rows now are holds found =
    let same : x ≡ rows = cc in
    subst (λ l. HasRows (e ∷ entries) zero l now) same
    (record { entry = e; entry_is = refl; segment = are.0; stands = (All-head (λ p. Holds p now) (start_of (extent_of e), segment_with e x) (pieces_of entries lists) holds).bytes })
has_rows (e ∷ entries) (x ∷ lists) (suc k) rows now are holds found =
    let on = has_rows entries lists k rows now are.1 (All-tail (λ p. Holds p now) (start_of (extent_of e), segment_with e x) (pieces_of entries lists) holds) found in
    record { entry = on.entry; entry_is = on.entry_is; segment = on.segment; stands = on.stands }

-- ---- what is left of two lists

-- ---- what is written

module _ (d : DirectoryValue) (lists : List (List StampedRow)) (m : MergeInProgress) (is : IsMergeOf d lists m.i m.j m.entry m.output) (kept : IsKept d lists) (n : ℕ) where
  abbrev all_rows : List StampedRow
  all_rows = union m.output.a m.output.b

  abbrev rest : List StampedRow
  rest = left_rows m.output

  together : taken_rows m.output ++ take n rest ++ drop n rest ≡ all_rows
  together = append_assoc (taken_rows m.output) (take n rest) (drop n rest) ∙ ap (λ (l : List StampedRow). taken_rows m.output ++ l) (take-append-drop n rest) ∙ take-append-drop m.output.taken all_rows

  all_count : length all_rows ≡ length m.output.a + length m.output.b
  all_count =
      let both = two_lists lists m.i m.j m.output.a m.output.b kept.apart is.below is.a_is is.b_is in
      length-union m.output.a m.output.b both.ascending.0 both.ascending.1.0 both.apart.0.0

  pub rest_count : length rest ≡ left_count m.output
  rest_count = omega (arith, all_count, length-drop m.output.taken all_rows)

  of_history : (s : StampedRow) → Has (take n rest) s → Has (listed lists) s
  of_history s h =
      Has-listed_from lists s kept.apart
      (elim (Has-union_cases m.output.a m.output.b s (Has-drop m.output.taken all_rows s (Has-take n rest s h))) [
        | inl p ↦ Has-joined_at lists m.i m.output.a s is.a_is p
        | inr q ↦ Has-joined_at lists m.j m.output.b s is.b_is q
      ])

  are_next : (now : List ℕ) → AreThere d.entries lists now → BeginsWith (extent_of m.entry) (segment_with m.entry (taken_rows m.output)) now
      → AreNext n (catalog_of d (merge_of (Some m))) (record { i = m.i; j = m.j; output = extent_of m.entry; left = left_count m.output }) (taken_rows m.output) (take n rest) now
  are_next now there behind = record {
    a = m.output.a;
    b = m.output.b;
    first = has_rows d.entries lists m.i m.output.a now there.segments there.pieces is.a_is;
    second = has_rows d.entries lists m.j m.output.b now there.segments there.pieces is.b_is;
    behind = subst (λ (f : Form). BeginsWith (extent_of m.entry) (segment_in f (taken_rows m.output)) now) is.has_form behind;
    left = drop n rest;
    all = together;
    ascending = subst (λ (l : List StampedRow). IsAscending stamped_cmp l) (sym together) (IsAscending-union m.output.a m.output.b);
    count = omega (arith, length-take n rest, rest_count);
    count_left = omega (arith, length-drop n rest, rest_count);
  }

  pub writes_next : {T E : Type 0} (result : Result T E) (old new : Moments) → AreThere d.entries lists old.state.now → BeginsWith (extent_of m.entry) (segment_with m.entry (taken_rows m.output)) old.state.now
      → IsOneWrite result (start_of (extent_of m.entry) + length (segment_with m.entry (taken_rows m.output))) (segment_with m.entry (take n rest)) old new → WritesNext result n (catalog_of d (merge_of (Some m))) (history_of d lists) old new
  writes_next {T} {E} result old new there behind one = record {
    merge = record { i = m.i; j = m.j; output = extent_of m.entry; left = left_count m.output };
    goes_on = refl;
    taken = taken_rows m.output;
    rows = take n rest;
    next = are_next old.state.now there behind;
    of_history = of_history;
    write = subst (λ (f : Form). MatchResult result (λ x. new ≡ followed_by old (after_part f (extent_of m.entry) (taken_rows m.output) (take n rest) old.state)) (λ e. Fails old (after_part f (extent_of m.entry) (taken_rows m.output) (take n rest) old.state) new)) is.has_form one;
  }

  -- ---- the merge with the rows that are taken

  pub grown : taken_rows (with_more n m.output) ≡ taken_rows m.output ++ take n rest
  grown =
      let k = m.output.taken in
      let same : k + min n (left_count m.output) ≡ k + min n (length rest) = omega (arith, rest_count) in
      ap (λ (i : ℕ). take i all_rows) same ∙ take_sum k (min n (length rest)) all_rows ∙ ap (λ (l : List StampedRow). take k all_rows ++ l) (take_min n rest)

  pub part_fits : length (segment_of (taken_rows m.output)) + length (segment_of (take n rest)) ≤ m.entry.bytes
  part_fits =
      let form = form_in m.entry.sums in
      let join = ap (λ (l : List StampedRow). length (segment_in form l)) grown ∙ ap length (pieces_join form (taken_rows m.output) (take n rest)) ∙ length-append (segment_in form (taken_rows m.output)) (segment_in form (take n rest)) in
      omega (arith, join, length-segment_in form (taken_rows (with_more n m.output)), length-segment_in form (taken_rows m.output), length-segment_in form (take n rest), segment_within (m.output.taken + min n (left_count m.output)) all_rows, is.segment.bytes)

  pub next_ascend : IsAscending stamped_cmp (take n rest)
  next_ascend = IsAscending-take stamped_cmp n rest (IsAscending-drop stamped_cmp m.output.taken all_rows (IsAscending-union m.output.a m.output.b))

-- ---- as a store shows it

abbrev left_of : Option Merge → ℕ
left_of None = 0
left_of (Some m) = m.left

-- rows of the merge are left
pub some_rows : (d : DirectoryValue) (merge : Option MergeInProgress) (m : MergeInProgress) → Some m ≡ merge → IsUnfinished (catalog_of d (merge_of merge)) → 1 ≤ left_count m.output
some_rows d merge m value going = let same : left_count m.output ≡ going.0.left = ap left_of (ap merge_of value ∙ going.1) in omega (arith, same, going.2)

pub none_unfinished : (d : DirectoryValue) (merge : Option MergeInProgress) → merge ≡ None → IsUnfinished (catalog_of d (merge_of merge)) → ⊥
none_unfinished d merge none going = let e : None ≡ Some going.0 = sym (ap merge_of none) ∙ going.1 in absurd cc

pub wrote_shown : {T E : Type 0} (result : Result T E) (n : ℕ) (d : DirectoryValue) (lists : List (List StampedRow)) (merge : Option MergeInProgress) (m : MergeInProgress) (old new : Moments) → Some m ≡ merge
    → WritesNext result n (catalog_of d (merge_of (Some m))) (history_of d lists) old new → WritesNext result n (catalog_of d (merge_of merge)) (history_of d lists) old new
wrote_shown {T} {E} result n d lists merge m old new value w =
    subst (λ (o : Option MergeInProgress). WritesNext result n (catalog_of d (merge_of o)) (history_of d lists) old new) value w

-- ---- by another name of what is answered

pub wrote_ok : {T U E : Type 0} (x : T) (y : U) (n : ℕ) (catalog : Catalog) (h : History) (old new : Moments) → WritesNext {T = T} {E = E} (Ok x) n catalog h old new → WritesNext {T = U} {E = E} (Ok y) n catalog h old new
wrote_ok {T} {U} {E} x y n catalog h old new w = record { merge = w.merge; goes_on = w.goes_on; taken = w.taken; rows = w.rows; next = w.next; of_history = w.of_history; write = w.write }

pub wrote_err : {T U E : Type 0} (e : E) (n : ℕ) (catalog : Catalog) (h : History) (old new : Moments) → WritesNext {T = T} {E = E} (Err e) n catalog h old new → WritesNext {T = U} {E = E} (Err e) n catalog h old new
wrote_err {T} {U} {E} e n catalog h old new w = record { merge = w.merge; goes_on = w.goes_on; taken = w.taken; rows = w.rows; next = w.next; of_history = w.of_history; write = w.write }
