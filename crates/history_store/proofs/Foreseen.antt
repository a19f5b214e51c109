-- What a check answers, an import answers next.
use Rattle.std.proofs.Common.{◌≡◌, ◌⊎◌, inl, inr, ℕ, ◌≤◌, false, true, List, [], ◌∷◌, length, Result, Ok, Err, refl, sym, ap, subst, ◌∙◌, arith}
use Rattle.std.proofs.lemmas.Bool.{false≢true}
use Rattle.rf2_values.specs.Row.{RowValue}
use Rattle.rf2_rows.specs.declared.fault.LineFault.{LineFault}
use Rattle.history_model.specs.declared.receipt.Receipt.{Receipt}
use Rattle.history_model.specs.declared.stamped.StampedRow.{StampedRow}
use Rattle.history_model.specs.History.{History, full, ReceiptOf}
use Rattle.history_model.specs.Lists.{new_rows}
use Rattle.history_model.proofs.Receipts.{one_receipt_for_a_release}
use Rattle.import_check.specs.declared.release.Release.{Release}
use Rattle.import_check.specs.Release.{IsReleaseOf}
use Rattle.import_check.specs.NewRows.{IsRead}
use Rattle.import_check.proofs.Receipts.{one_list}
use Rattle.import_check.proofs.Deciding.{one_fault, read_has_no_fault, one_first_contradiction, consistent_has_none}
use Rattle.history_store.specs.declared.refusal.Refusal.{Refusal}
use Rattle.history_store.specs.declared.refusal.Refusal.TheVariants as refusals
use Rattle.history_store.specs.Catalog.{Catalog, IsCatalogAfter, IsPlaced, HasNoEntry, HasNoPlace}
use Rattle.history_store.specs.StoreValue.{StoreValue, last_import, last_epoch}
use Rattle.history_store.specs.Prepared.{IsNotSpent}
use Rattle.history_store.specs.Answers.{IsTakenAs, IsNotTaken, WouldBeTaken, IsRefusedFor, IsRefused, IsStill, IsImportOf}
use Rattle.history_store.specs.Checking.{HasFailed, CheckedIsImported}

-- ---- at one history and one catalog a release has one answer

pub not_both : (imports epoch : ℕ) → IsNotSpent imports epoch → (imports ≡ last_import) ⊎ (epoch ≡ last_epoch) → ⊥
not_both imports epoch room (inl spent) = absurd (omega (arith, room.imports_left, spent))
not_both imports epoch room (inr spent) = absurd (omega (arith, room.epochs_left, spent))

pub was_read : (release : Release) (rows : List RowValue) → IsReleaseOf release rows → IsRead release
was_read release rows is = record { lists = is.lists; spelled = is.spelled }

is_placed : (rows : List StampedRow) (catalog next : Catalog) → IsCatalogAfter rows catalog next → 1 ≤ length rows → IsPlaced rows catalog next
is_placed [] catalog next after some = absurd (omega (arith, some))
is_placed (s ∷ rows) catalog next after some = after

pub has_entry : (rows : List StampedRow) (catalog next : Catalog) → IsCatalogAfter rows catalog next → HasNoEntry rows catalog → ⊥
has_entry rows catalog next after lacks =
    let placed = is_placed rows catalog next after lacks.some in
    absurd (omega (arith, placed.few, lacks.all_taken))

pub has_place : (rows : List StampedRow) (catalog next : Catalog) → IsCatalogAfter rows catalog next → HasNoPlace rows catalog → ⊥
has_place rows catalog next after lacks =
    let placed = is_placed rows catalog next after lacks.some in
    elim lacks.none [
      | inl long ↦ absurd (omega (arith, placed.short, long))
      | inr none ↦ (let first = placed.place in absurd (cc))
    ]

-- where the release would be taken
module _ (h : History) (catalog : Catalog) (release : Release) (taken : WouldBeTaken h catalog release) where
  same_rows : (others : List RowValue) → IsReleaseOf release others → new_rows h others ≡ new_rows h taken.accepted.rows
  same_rows others is = ap (new_rows h) (one_list release others taken.accepted.rows is taken.accepted.is_release)

  taken_anyway : (e : Refusal) → IsNotTaken h catalog release e → HasFailed (Err e)
  taken_anyway refusals.OutOfMemory why = tt
  taken_anyway refusals.DiskFault why = tt
  taken_anyway refusals.LaterVersion why = taken.room.not_later why.1
  taken_anyway refusals.CountSpent why = not_both h.imports catalog.epoch taken.room.room why
  taken_anyway (refusals.Line file line fault) why = read_has_no_fault release file line fault (was_read release taken.accepted.rows taken.accepted.is_release) why.1
  taken_anyway (refusals.Contradiction file line) why = consistent_has_none (full h) release taken.accepted file line why.1.0 why.1.1
  taken_anyway refusals.TooManySegments why = has_entry (new_rows h taken.accepted.rows) catalog taken.next taken.catalog_is (subst (λ rows. HasNoEntry rows catalog) (same_rows why.accepted.rows why.accepted.is_release) why.lacks)
  taken_anyway refusals.Full why = has_place (new_rows h taken.accepted.rows) catalog taken.next taken.catalog_is (subst (λ rows. HasNoPlace rows catalog) (same_rows why.accepted.rows why.accepted.is_release) why.lacks)
  taken_anyway _ why = why

-- where it isn't taken
module _ (h : History) (catalog : Catalog) (release : Release) where
  abbrev OneRefusal : Refusal → Refusal → Type 0
  OneRefusal e f = (f ≡ e) ⊎ (HasFailed (Err e) ⊎ HasFailed (Err f))

  contradicts : (file line : ℕ) → IsNotTaken h catalog release (refusals.Contradiction file line) → IsRead release
  contradicts file line why = record { lists = why.1.1.lists; spelled = why.1.1.spelled }

  spent_alone : (f : Refusal) → IsNotTaken h catalog release refusals.CountSpent → IsNotTaken h catalog release f → OneRefusal refusals.CountSpent f
  spent_alone refusals.OutOfMemory why also = inr (inr tt)
  spent_alone refusals.DiskFault why also = inr (inr tt)
  spent_alone refusals.CountSpent why also = inl refl
  spent_alone refusals.LaterVersion why also = absurd (not_both h.imports catalog.epoch also.0 why)
  spent_alone (refusals.Line file line fault) why also = absurd (not_both h.imports catalog.epoch also.0.room why)
  spent_alone (refusals.Contradiction file line) why also = absurd (not_both h.imports catalog.epoch also.0.room why)
  spent_alone refusals.TooManySegments why also = absurd (not_both h.imports catalog.epoch also.room.room why)
  spent_alone refusals.Full why also = absurd (not_both h.imports catalog.epoch also.room.room why)
  spent_alone _ why also = absurd also

  later_alone : (f : Refusal) → IsNotTaken h catalog release refusals.LaterVersion → IsNotTaken h catalog release f → OneRefusal refusals.LaterVersion f
  later_alone refusals.OutOfMemory why also = inr (inr tt)
  later_alone refusals.DiskFault why also = inr (inr tt)
  later_alone refusals.CountSpent why also = absurd (not_both h.imports catalog.epoch why.0 also)
  later_alone refusals.LaterVersion why also = inl refl
  later_alone (refusals.Line file line fault) why also = absurd (also.0.not_later why.1)
  later_alone (refusals.Contradiction file line) why also = absurd (also.0.not_later why.1)
  later_alone refusals.TooManySegments why also = absurd (also.room.not_later why.1)
  later_alone refusals.Full why also = absurd (also.room.not_later why.1)
  later_alone _ why also = absurd also

  fault_alone : (file line : ℕ) (fault : LineFault) (f : Refusal) → IsNotTaken h catalog release (refusals.Line file line fault) → IsNotTaken h catalog release f → OneRefusal (refusals.Line file line fault) f
  fault_alone file line fault refusals.OutOfMemory why also = inr (inr tt)
  fault_alone file line fault refusals.DiskFault why also = inr (inr tt)
  fault_alone file line fault refusals.LaterVersion why also = absurd (why.0.not_later also.1)
  fault_alone file line fault refusals.CountSpent why also = absurd (not_both h.imports catalog.epoch why.0.room also)
  fault_alone file line fault (refusals.Line n l other) why also =
      let one = one_fault release n l other file line fault also.1 why.1 in
      inl (λ i. refusals.Line (one.0 i) (one.1 i) (one.2 i))
  fault_alone file line fault (refusals.Contradiction n l) why also = absurd (read_has_no_fault release file line fault (contradicts n l also) why.1)
  fault_alone file line fault refusals.TooManySegments why also = absurd (read_has_no_fault release file line fault (was_read release also.accepted.rows also.accepted.is_release) why.1)
  fault_alone file line fault refusals.Full why also = absurd (read_has_no_fault release file line fault (was_read release also.accepted.rows also.accepted.is_release) why.1)
  fault_alone file line fault _ why also = absurd also

  contradiction_alone : (file line : ℕ) (f : Refusal) → IsNotTaken h catalog release (refusals.Contradiction file line) → IsNotTaken h catalog release f → OneRefusal (refusals.Contradiction file line) f
  contradiction_alone file line refusals.OutOfMemory why also = inr (inr tt)
  contradiction_alone file line refusals.DiskFault why also = inr (inr tt)
  contradiction_alone file line refusals.LaterVersion why also = absurd (why.0.not_later also.1)
  contradiction_alone file line refusals.CountSpent why also = absurd (not_both h.imports catalog.epoch why.0.room also)
  contradiction_alone file line (refusals.Line n l other) why also = absurd (read_has_no_fault release n l other (contradicts file line why) also.1)
  contradiction_alone file line (refusals.Contradiction n l) why also =
      let one = one_first_contradiction (full h) release n l also.1.0 file line why.1.0 also.1.1 why.1.1 in
      inl (λ i. refusals.Contradiction (one.0 i) (one.1 i))
  contradiction_alone file line refusals.TooManySegments why also = absurd (consistent_has_none (full h) release also.accepted file line why.1.0 why.1.1)
  contradiction_alone file line refusals.Full why also = absurd (consistent_has_none (full h) release also.accepted file line why.1.0 why.1.1)
  contradiction_alone file line _ why also = absurd also

  entry_alone : (f : Refusal) → IsNotTaken h catalog release refusals.TooManySegments → IsNotTaken h catalog release f → OneRefusal refusals.TooManySegments f
  entry_alone refusals.OutOfMemory why also = inr (inr tt)
  entry_alone refusals.DiskFault why also = inr (inr tt)
  entry_alone refusals.LaterVersion why also = absurd (why.room.not_later also.1)
  entry_alone refusals.CountSpent why also = absurd (not_both h.imports catalog.epoch why.room.room also)
  entry_alone (refusals.Line n l other) why also = absurd (read_has_no_fault release n l other (was_read release why.accepted.rows why.accepted.is_release) also.1)
  entry_alone (refusals.Contradiction n l) why also = absurd (consistent_has_none (full h) release why.accepted n l also.1.0 also.1.1)
  entry_alone refusals.TooManySegments why also = inl refl
  entry_alone refusals.Full why also = absurd (omega (arith, why.lacks.all_taken, also.lacks.few))
  entry_alone _ why also = absurd also

  place_alone : (f : Refusal) → IsNotTaken h catalog release refusals.Full → IsNotTaken h catalog release f → OneRefusal refusals.Full f
  place_alone refusals.OutOfMemory why also = inr (inr tt)
  place_alone refusals.DiskFault why also = inr (inr tt)
  place_alone refusals.LaterVersion why also = absurd (why.room.not_later also.1)
  place_alone refusals.CountSpent why also = absurd (not_both h.imports catalog.epoch why.room.room also)
  place_alone (refusals.Line n l other) why also = absurd (read_has_no_fault release n l other (was_read release why.accepted.rows why.accepted.is_release) also.1)
  place_alone (refusals.Contradiction n l) why also = absurd (consistent_has_none (full h) release why.accepted n l also.1.0 also.1.1)
  place_alone refusals.TooManySegments why also = absurd (omega (arith, why.lacks.few, also.lacks.all_taken))
  place_alone refusals.Full why also = inl refl
  place_alone _ why also = absurd also

  one_refusal : (e f : Refusal) → IsNotTaken h catalog release e → IsNotTaken h catalog release f → OneRefusal e f
  one_refusal refusals.OutOfMemory f why also = inr (inl tt)
  one_refusal refusals.DiskFault f why also = inr (inl tt)
  one_refusal refusals.CountSpent f why also = spent_alone f why also
  one_refusal refusals.LaterVersion f why also = later_alone f why also
  one_refusal (refusals.Line file line fault) f why also = fault_alone file line fault f why also
  one_refusal (refusals.Contradiction file line) f why also = contradiction_alone file line f why also
  one_refusal refusals.TooManySegments f why also = entry_alone f why also
  one_refusal refusals.Full f why also = place_alone f why also
  one_refusal _ f why also = absurd why

-- ---- the store in between

would_be : (h after : History) (catalog next : Catalog) (release : Release) (receipt : Receipt) → IsTakenAs h after catalog next release receipt → WouldBeTaken h catalog release
would_be h after catalog next release receipt taken = record {
  room = taken.room;
  accepted = taken.accepted;
  next = next;
  catalog_is = taken.catalog_is;
}

pub one_receipt : (h after end : History) (catalog next last : Catalog) (release : Release) (r q : Receipt) → IsTakenAs h after catalog next release r → IsTakenAs h end catalog last release q → q ≡ r
one_receipt h after end catalog next last release r q first second =
    let rows = one_list release second.accepted.rows first.accepted.rows second.accepted.is_release first.accepted.is_release in
    let same = one_receipt_for_a_release h first.accepted.rows q.number q.new q.repeated r.number r.new r.repeated (subst (λ (l : List RowValue). ReceiptOf h l q.number q.new q.repeated) rows second.receipt_is) first.receipt_is in
    λ i. record { number = same.0 i; new = same.1 i; repeated = same.2 i }

-- an open store refuses because of the release, of its counts or of its places
open_refusal : {D : Type 0} (s : StoreValue D) (release : Release) (e : Refusal) → s.needs_reopen ≡ false → IsRefusedFor (IsNotTaken s.history s.catalog release) e s → IsNotTaken s.history s.catalog release e
open_refusal s release refusals.ReopenNeeded still why = absurd (false≢true (sym still ∙ why))
open_refusal s release _ still why = why.1

closed_refusal : {D : Type 0} (s : StoreValue D) (release : Release) (f : Refusal) → s.needs_reopen ≡ true → IsRefusedFor (IsNotTaken s.history s.catalog release) f s → f ≡ refusals.ReopenNeeded
closed_refusal s release refusals.ReopenNeeded closed why = refl
closed_refusal s release _ closed why = absurd (false≢true (sym why.0 ∙ closed))

-- a refusal but for the disk says what the store was, and the store stays
stays_so : {D : Type 0} (old checked : StoreValue D) (release : Release) (e : Refusal) → IsRefused e old checked → (e ≡ refusals.DiskFault → ⊥) → IsRefusedFor (IsNotTaken old.history old.catalog release) e old → IsRefusedFor (IsNotTaken checked.history checked.catalog release) e checked
stays_so old checked release e refused other why = each e refused other why where
  moved : (x : Refusal) → IsRefused x old checked → IsNotTaken old.history old.catalog release x → IsNotTaken checked.history checked.catalog release x
  moved x is reason = subst (λ (h : History). IsNotTaken h checked.catalog release x) (sym is.history) (subst (λ (c : Catalog). IsNotTaken old.history c release x) (sym is.catalog) reason)

  each : (x : Refusal) → IsRefused x old checked → (x ≡ refusals.DiskFault → ⊥) → IsRefusedFor (IsNotTaken old.history old.catalog release) x old → IsRefusedFor (IsNotTaken checked.history checked.catalog release) x checked
  each refusals.DiskFault is other reason = absurd (other refl)
  each refusals.ReopenNeeded is other reason = is.still other ∙ reason
  each refusals.OutOfMemory is other reason = (is.still other ∙ reason.0, moved refusals.OutOfMemory is reason.1)
  each refusals.CountSpent is other reason = (is.still other ∙ reason.0, moved refusals.CountSpent is reason.1)
  each refusals.LaterVersion is other reason = (is.still other ∙ reason.0, moved refusals.LaterVersion is reason.1)
  each (refusals.Line file line fault) is other reason = (is.still other ∙ reason.0, moved (refusals.Line file line fault) is reason.1)
  each (refusals.Contradiction file line) is other reason = (is.still other ∙ reason.0, moved (refusals.Contradiction file line) is reason.1)
  each refusals.TooManySegments is other reason = (is.still other ∙ reason.0, moved refusals.TooManySegments is reason.1)
  each refusals.Full is other reason = (is.still other ∙ reason.0, moved refusals.Full is reason.1)
  each _ is other reason = absurd reason.1

-- ---- the import behind a check that was refused

module _ {D : Type 0} (checked : StoreValue D) (release : Release) where
  pub refused_again : (e f : Refusal) → IsRefusedFor (IsNotTaken checked.history checked.catalog release) e checked → IsRefusedFor (IsNotTaken checked.history checked.catalog release) f checked → (f ≡ e) ⊎ (HasFailed (Err e) ⊎ HasFailed (Err f))
  refused_again refusals.ReopenNeeded f why also = inl (closed_refusal checked release f why also)
  refused_again e f why also = one_refusal checked.history checked.catalog release e f why.1 (open_refusal checked release f why.0 also)

  pub not_taken_then : (new : StoreValue D) (e : Refusal) (q : Receipt) → IsRefusedFor (IsNotTaken checked.history checked.catalog release) e checked → IsImportOf (Ok q) checked new release → HasFailed (Err e)
  not_taken_then new e q why is = taken_anyway checked.history checked.catalog release (would_be checked.history new.history checked.catalog new.catalog release q is.0) e (open_refusal checked release e is.1 why)

-- the disk failed, or it didn't
disk_or : (e : Refusal) → HasFailed (Err e) ⊎ (e ≡ refusals.DiskFault → ⊥)
disk_or refusals.DiskFault = inl tt
disk_or refusals.OutOfMemory = inl tt
disk_or _ = inr (λ same. absurd (cc))

pub checked_is_imported : {D : Type 0} → CheckedIsImported D
checked_is_imported {D} old checked new release (Ok r) result is imported = each result imported where
  still : IsStill old checked
  still = is.1

  here : (h : History) (c : Catalog) → h ≡ old.history → c ≡ old.catalog → IsTakenAs h is.0.0 c is.0.1 release r
  here h c same_history same_catalog = subst (λ (k : History). IsTakenAs k is.0.0 c is.0.1 release r) (sym same_history) (subst (λ (x : Catalog). IsTakenAs old.history is.0.0 x is.0.1 release r) (sym same_catalog) is.0.2)

  each : (x : Result Receipt Refusal) → IsImportOf x checked new release → (x ≡ Ok r) ⊎ (HasFailed (Ok r) ⊎ HasFailed x)
  each (Ok q) so = inl (ap Ok (one_receipt checked.history is.0.0 new.history checked.catalog is.0.1 new.catalog release r q (here checked.history checked.catalog still.history still.catalog) so.0))
  each (Err f) so = inr (inr (taken_anyway checked.history checked.catalog release (would_be checked.history is.0.0 checked.catalog is.0.1 release r (here checked.history checked.catalog still.history still.catalog)) f (open_refusal checked release f still.open_still so.0)))
checked_is_imported {D} old checked new release (Err e) result is imported = elim (disk_or e) [
  | inl failed ↦ inr (inl failed)
  | inr other ↦ each other result imported
] where
  each : (e ≡ refusals.DiskFault → ⊥) → (x : Result Receipt Refusal) → IsImportOf x checked new release → (x ≡ Err e) ⊎ (HasFailed (Err e) ⊎ HasFailed x)
  each other (Ok q) so = inr (inl (not_taken_then checked release new e q (stays_so old checked release e is.1 other is.0) so))
  each other (Err f) so = elim (refused_again checked release e f (stays_so old checked release e is.1 other is.0) so.0) [
    | inl same ↦ inl (ap Err same)
    | inr failed ↦ inr failed
  ]
