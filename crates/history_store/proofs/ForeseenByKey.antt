-- What a check answers, an import answers next, on every disk.
use Rattle.std.proofs.Common.{◌≡◌, ◌⊎◌, inl, inr, ℕ, ◌+◌, false, true, List, length, Result, Ok, Err, refl, sym, ap, subst, ◌∙◌, arith}
use Rattle.std.proofs.lemmas.Bool.{false≢true}
use Rattle.rf2_values.specs.Row.{RowValue}
use Rattle.rf2_rows.specs.declared.fault.LineFault.{LineFault}
use Rattle.history_model.specs.declared.receipt.Receipt.{Receipt}
use Rattle.history_model.specs.declared.stamped.StampedRow.{StampedRow}
use Rattle.history_model.specs.History.{History, full, stamped}
use Rattle.history_model.proofs.InOrder.{same_ascending}
use Rattle.history_model.proofs.Keys.{rows_total}
use Rattle.import_check.specs.declared.release.Release.{Release}
use Rattle.import_check.specs.declared.found.NewRows.{NewRows}
use Rattle.import_check.specs.Release.{IsFaultOfRelease}
use Rattle.import_check.specs.NewRows.{AreNewByKey, BringsByKey}
use Rattle.import_check.proofs.Receipts.{one_list}
use Rattle.import_check.proofs.MoreStored.{unknown_is_new, more_brought}
use Rattle.import_check.proofs.Deciding.{one_fault, read_has_no_fault}
use Rattle.history_store.specs.declared.refusal.Refusal.{Refusal}
use Rattle.history_store.specs.declared.refusal.Refusal.TheVariants as refusals
use Rattle.history_store.specs.Catalog.{Catalog, HasNoEntry, HasNoPlace}
use Rattle.history_store.specs.StoreValue.{StoreValue, last_import, last_epoch}
use Rattle.history_store.specs.Prepared.{IsNotSpent, IsForLater, IsAdmitted, scope_of}
use Rattle.history_store.specs.Answers.{AnyRow, IsTakenByKey, IsNotTakenByKey, LacksByKey, IsRefusedFor, IsImportOnAnyDisk, WouldBeTakenByKey}
use Rattle.history_store.specs.Checking.{DependsOnReading, CheckedIsImportedOnAnyDisk}
use Rattle.history_store.proofs.Foreseen.{not_both, was_read, has_entry, has_place}

-- ---- a release brings one list of rows that are new by their keys

one_fresh : {few other : RowValue → Type 0} (known : List RowValue) (release : Release) (first second : NewRows) → BringsByKey known few release first → BringsByKey known other release second → (second.rows.items ≡ first.rows.items) × (second.repeated ≡ first.repeated)
one_fresh {few} {other} known release first second is also =
    let a : AreNewByKey known few is.rows first = is.new_by_key in
    let b : AreNewByKey known other is.rows second = subst (λ (l : List RowValue). AreNewByKey known other l second) (one_list release also.rows is.rows also.rows_are is.rows_are) also.new_by_key in
    let same : second.rows.items ≡ first.rows.items = same_ascending rows_total _ _ b.ascending a.ascending (λ row there. unknown_is_new a row (b.from_release row there) (b.unknown row there)) (λ row there. unknown_is_new b row (a.from_release row there) (a.unknown row there)) in
    let long : length second.rows.items ≡ length first.rows.items = ap length same in
    (same, omega (arith, long, a.counted, b.counted))

-- ---- at one history and one catalog a release has one answer, whatever is read

pub lacks_any : {may_be : RowValue → Type 0} {h : History} {catalog : Catalog} {release : Release} {Lacks : List StampedRow → Catalog → Type 0} → LacksByKey may_be h catalog release Lacks → LacksByKey AnyRow h catalog release Lacks
lacks_any {may_be} {h} {catalog} {release} why = record { room = why.room; fresh = why.fresh; brings = more_brought (full h) may_be AnyRow (λ row may. tt) release why.fresh why.brings; lacks = why.lacks }

-- why it is refused
abbrev IsOutByKey : Refusal → History → Catalog → Release → Type 0
IsOutByKey refusals.CountSpent h catalog release = (h.imports ≡ last_import) ⊎ (catalog.epoch ≡ last_epoch)
IsOutByKey refusals.LaterVersion h catalog release = IsNotSpent h.imports catalog.epoch × IsForLater (scope_of catalog) release
IsOutByKey (refusals.Line file line fault) h catalog release = IsAdmitted h catalog release × IsFaultOfRelease release file line fault
IsOutByKey refusals.TooManySegments h catalog release = LacksByKey AnyRow h catalog release HasNoEntry
IsOutByKey refusals.Full h catalog release = LacksByKey AnyRow h catalog release HasNoPlace
IsOutByKey _ h catalog release = ⊥

module _ (h : History) (catalog : Catalog) (release : Release) where
  no_fault : {may_be : RowValue → Type 0} (file line : ℕ) (fault : LineFault) (fresh : NewRows) → BringsByKey (full h) may_be release fresh → IsFaultOfRelease release file line fault → ⊥
  no_fault file line fault fresh brings is = read_has_no_fault release file line fault (was_read release brings.rows brings.rows_are) is

  one_reason : (e f : Refusal) → IsOutByKey e h catalog release → IsOutByKey f h catalog release → f ≡ e
  one_reason refusals.CountSpent refusals.CountSpent why also = refl
  one_reason refusals.CountSpent (refusals.Line file line fault) why also = absurd (not_both h.imports catalog.epoch also.0.room why)
  one_reason refusals.CountSpent refusals.LaterVersion why also = absurd (not_both h.imports catalog.epoch also.0 why)
  one_reason refusals.CountSpent refusals.TooManySegments why also = absurd (not_both h.imports catalog.epoch also.room.room why)
  one_reason refusals.CountSpent refusals.Full why also = absurd (not_both h.imports catalog.epoch also.room.room why)
  one_reason refusals.CountSpent _ why also = absurd also
  one_reason refusals.LaterVersion refusals.LaterVersion why also = refl
  one_reason refusals.LaterVersion refusals.CountSpent why also = absurd (not_both h.imports catalog.epoch why.0 also)
  one_reason refusals.LaterVersion (refusals.Line file line fault) why also = absurd (also.0.not_later why.1)
  one_reason refusals.LaterVersion refusals.TooManySegments why also = absurd (also.room.not_later why.1)
  one_reason refusals.LaterVersion refusals.Full why also = absurd (also.room.not_later why.1)
  one_reason refusals.LaterVersion _ why also = absurd also
  one_reason (refusals.Line file line fault) refusals.CountSpent why also = absurd (not_both h.imports catalog.epoch why.0.room also)
  one_reason (refusals.Line file line fault) refusals.LaterVersion why also = absurd (why.0.not_later also.1)
  one_reason (refusals.Line file line fault) (refusals.Line n l other) why also =
      let one = one_fault release n l other file line fault also.1 why.1 in
      λ i. refusals.Line (one.0 i) (one.1 i) (one.2 i)
  one_reason (refusals.Line file line fault) refusals.TooManySegments why also = absurd (no_fault file line fault also.fresh also.brings why.1)
  one_reason (refusals.Line file line fault) refusals.Full why also = absurd (no_fault file line fault also.fresh also.brings why.1)
  one_reason (refusals.Line file line fault) _ why also = absurd also
  one_reason refusals.TooManySegments refusals.LaterVersion why also = absurd (why.room.not_later also.1)
  one_reason refusals.TooManySegments refusals.CountSpent why also = absurd (not_both h.imports catalog.epoch why.room.room also)
  one_reason refusals.TooManySegments (refusals.Line n l other) why also = absurd (no_fault n l other why.fresh why.brings also.1)
  one_reason refusals.TooManySegments refusals.TooManySegments why also = refl
  one_reason refusals.TooManySegments refusals.Full why also = absurd (omega (arith, why.lacks.all_taken, also.lacks.few))
  one_reason refusals.TooManySegments _ why also = absurd also
  one_reason refusals.Full refusals.LaterVersion why also = absurd (why.room.not_later also.1)
  one_reason refusals.Full refusals.CountSpent why also = absurd (not_both h.imports catalog.epoch why.room.room also)
  one_reason refusals.Full (refusals.Line n l other) why also = absurd (no_fault n l other why.fresh why.brings also.1)
  one_reason refusals.Full refusals.TooManySegments why also = absurd (omega (arith, why.lacks.few, also.lacks.all_taken))
  one_reason refusals.Full refusals.Full why also = refl
  one_reason refusals.Full _ why also = absurd also
  one_reason _ f why also = absurd why

  module _ {may_be : RowValue → Type 0} (after : History) (next : Catalog) (receipt : Receipt) (taken : IsTakenByKey may_be h after catalog next release receipt) where
    lacking : (Lacks : List StampedRow → Catalog → Type 0) → (why : LacksByKey AnyRow h catalog release Lacks) → Lacks (stamped (h.imports + 1) taken.fresh.rows.items) catalog
    lacking Lacks why =
        let one = one_fresh (full h) release taken.fresh why.fresh taken.brings why.brings in
        subst (λ (l : List RowValue). Lacks (stamped (h.imports + 1) l) catalog) one.0 why.lacks

    none_out : (e : Refusal) → IsOutByKey e h catalog release → ⊥
    none_out refusals.CountSpent why = not_both h.imports catalog.epoch taken.room.room why
    none_out refusals.LaterVersion why = taken.room.not_later why.1
    none_out (refusals.Line file line fault) why = no_fault file line fault taken.fresh taken.brings why.1
    none_out refusals.TooManySegments why = has_entry (stamped (h.imports + 1) taken.fresh.rows.items) catalog next taken.catalog_is (lacking HasNoEntry why)
    none_out refusals.Full why = has_place (stamped (h.imports + 1) taken.fresh.rows.items) catalog next taken.catalog_is (lacking HasNoPlace why)
    none_out _ why = why

    one_receipt : {more : RowValue → Type 0} (end : History) (last : Catalog) (other : Receipt) → IsTakenByKey more h end catalog last release other → other ≡ receipt
    one_receipt end last other also =
        let one = one_fresh (full h) release taken.fresh also.fresh taken.brings also.brings in
        also.receipt_is ∙ (λ i. record { number = h.imports + 1; new = length (one.0 i); repeated = one.1 i }) ∙ sym taken.receipt_is

-- ---- the store in between

-- a closed store, or a reason that is there whatever is read, or one that was read
abbrev Cause : {D : Type 0} → StoreValue D → Release → Refusal → Type 0
Cause s release e = ((e ≡ refusals.ReopenNeeded) × (s.needs_reopen ≡ true)) ⊎ ((s.needs_reopen ≡ false) × (IsOutByKey e s.history s.catalog release ⊎ DependsOnReading (Err e)))

cause : {D : Type 0} (may_be : RowValue → Type 0) (Writes : Type 0) (s : StoreValue D) (release : Release) (e : Refusal) → IsRefusedFor (IsNotTakenByKey may_be Writes s.history s.catalog release) e s → Cause s release e
cause may_be Writes s release refusals.ReopenNeeded why = inl (refl, why)
cause may_be Writes s release refusals.CountSpent why = inr (why.0, inl why.1)
cause may_be Writes s release refusals.LaterVersion why = inr (why.0, inl why.1)
cause may_be Writes s release (refusals.Line file line fault) why = inr (why.0, inl why.1)
cause may_be Writes s release refusals.TooManySegments why = inr (why.0, inl (lacks_any why.1))
cause may_be Writes s release refusals.Full why = inr (why.0, inl (lacks_any why.1))
cause may_be Writes s release refusals.OutOfMemory why = inr (why.0, inr tt)
cause may_be Writes s release refusals.DiskFault why = inr (why.0, inr tt)
cause may_be Writes s release refusals.Damaged why = inr (why.0, inr tt)
cause may_be Writes s release (refusals.Contradiction file line) why = inr (why.0, inr tt)
cause may_be Writes s release _ why = absurd why.1

disk_or : (e : Refusal) → DependsOnReading (Err e) ⊎ (e ≡ refusals.DiskFault → ⊥)
disk_or refusals.DiskFault = inl tt
disk_or _ = inr (λ same. absurd (cc))

module _ {D : Type 0} (may_be : RowValue → Type 0) (checked new : StoreValue D) (release : Release) where
  abbrev IsForeseen : Result Receipt Refusal → Result Receipt Refusal → Type 0
  IsForeseen answer result = (result ≡ answer) ⊎ (DependsOnReading answer ⊎ DependsOnReading result)

  -- behind a check on a closed store
  closed_then : checked.needs_reopen ≡ true → (result : Result Receipt Refusal) → IsImportOnAnyDisk may_be result checked new release → IsForeseen (Err refusals.ReopenNeeded) result
  closed_then closed (Ok receipt) is = absurd (false≢true (sym is.1 ∙ closed))
  closed_then closed (Err f) is = elim (cause may_be (WouldBeTakenByKey may_be checked.history checked.catalog release) checked release f is.0) [
    | inl again ↦ inl (ap Err again.0)
    | inr still ↦ absurd (false≢true (sym still.0 ∙ closed))
  ]

  -- behind a check that was refused, whatever was read
  out_then : (e : Refusal) → checked.needs_reopen ≡ false → IsOutByKey e checked.history checked.catalog release → (result : Result Receipt Refusal) → IsImportOnAnyDisk may_be result checked new release → IsForeseen (Err e) result
  out_then e still why (Ok receipt) is = absurd (none_out checked.history checked.catalog release new.history new.catalog receipt is.0 e why)
  out_then e still why (Err f) is = elim (cause may_be (WouldBeTakenByKey may_be checked.history checked.catalog release) checked release f is.0) [
    | inl closed ↦ absurd (false≢true (sym still ∙ closed.1))
    | inr also ↦ elim also.1 [
      | inl other ↦ inl (ap Err (one_reason checked.history checked.catalog release e f why other))
      | inr read ↦ inr (inr read)
    ]
  ]

  -- behind a receipt
  taken_then : {few : RowValue → Type 0} (after : History) (next : Catalog) (receipt : Receipt) → checked.needs_reopen ≡ false → IsTakenByKey few checked.history after checked.catalog next release receipt → (result : Result Receipt Refusal) → IsImportOnAnyDisk may_be result checked new release → IsForeseen (Ok receipt) result
  taken_then after next receipt still taken (Ok other) is = inl (ap Ok (one_receipt checked.history checked.catalog release after next receipt taken new.history new.catalog other is.0))
  taken_then after next receipt still taken (Err f) is = elim (cause may_be (WouldBeTakenByKey may_be checked.history checked.catalog release) checked release f is.0) [
    | inl closed ↦ absurd (false≢true (sym still ∙ closed.1))
    | inr also ↦ elim also.1 [
      | inl out ↦ absurd (none_out checked.history checked.catalog release after next receipt taken f out)
      | inr read ↦ inr (inr read)
    ]
  ]

pub checked_is_imported_on_any_disk : {D : Type 0} → CheckedIsImportedOnAnyDisk D
checked_is_imported_on_any_disk {D} old checked new release (Ok receipt) result is imported =
    let P : History → Catalog → Type 0 = λ h catalog. IsTakenByKey AnyRow h is.0.0 catalog is.0.1 release receipt in
    let taken : P checked.history checked.catalog = subst (λ (h : History). P h checked.catalog) (sym is.1.history) (subst (λ (x : Catalog). P old.history x) (sym is.1.catalog) is.0.2) in
    taken_then AnyRow checked new release is.0.0 is.0.1 receipt is.1.open_still taken result imported
checked_is_imported_on_any_disk {D} old checked new release (Err e) result is imported = elim (disk_or e) [
  | inl read ↦ inr (inl read)
  | inr other ↦ each (is.1.still other) (cause AnyRow ⊥ old release e is.0)
] where
  each : checked.needs_reopen ≡ old.needs_reopen → Cause old release e → (result ≡ Err e) ⊎ (DependsOnReading (Err e) ⊎ DependsOnReading result)
  each same (inl closed) = subst (λ (x : Refusal). (result ≡ Err x) ⊎ (DependsOnReading (Err x) ⊎ DependsOnReading result)) (sym closed.0) (closed_then AnyRow checked new release (same ∙ closed.1) result imported)
  each same (inr (still, inl why)) =
      let moved : IsOutByKey e checked.history checked.catalog release = subst (λ (h : History). IsOutByKey e h checked.catalog release) (sym is.1.history) (subst (λ (x : Catalog). IsOutByKey e old.history x release) (sym is.1.catalog) why) in
      out_then AnyRow checked new release e (same ∙ still) moved result imported
  each same (inr (still, inr read)) = inr (inl read)
