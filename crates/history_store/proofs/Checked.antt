-- What the check of a release answers, and what it leaves.
use Rattle.std.proofs.Common.{◌≡◌, ◌≢◌, ◌↔◌, ℕ, ◌+◌, Bool, false, IsTrue, List, length, Result, Ok, Err, inl, inr, refl, sym, ap, subst, ◌∙◌}
use Rattle.std.proofs.lemmas.Bool.{false≢true}
use Rattle.disk_model.specs.View.{DiskView}
use Rattle.disk_model.specs.Disk.{Moments, EachImage}
use Rattle.rf2_values.specs.Row.{RowValue}
use Rattle.history_model.specs.declared.receipt.Receipt.{Receipt}
use Rattle.history_model.specs.declared.stamped.StampedRow.{StampedRow}
use Rattle.history_model.specs.History.{History, IsHistory, full, stamped, after_release}
use Rattle.import_check.specs.declared.release.Release.{Release}
use Rattle.import_check.specs.declared.found.NewRows.{NewRows}
use Rattle.import_check.specs.NewRows.{IsRefusal, IsRefusalByKey, IsRead, IsAcceptedAs, BringsByKey}
use Rattle.import_check.specs.Release.{IsReleaseOf}
use Rattle.history_model.specs.InOrder.{joined}
use Rattle.fault_counts.specs.declared.fault.ReadFault.{ReadFault}
use Rattle.import_check.specs.declared.fault.ImportFault.{ImportFault}
use Rattle.import_check.specs.declared.fault.ImportFault.TheVariants as importfault
use Rattle.fault_counts.specs.declared.fault.ReadFault.TheVariants as readfault
use Rattle.history_store.specs.declared.refusal.Refusal.{Refusal}
use Rattle.history_store.specs.declared.refusal.Refusal.TheVariants as refusals
use Rattle.history_store.specs.declared.checking.Ready.{Ready}
use Rattle.history_store.specs.declared.checking.Next.{Next}
use Rattle.history_store.specs.declared.checking.Next.TheVariants as nexts
use Rattle.history_store.specs.Catalog.{Catalog, IsCatalogAfter, catalog_of}
use Rattle.history_store.specs.Stored.{IsStored}
use Rattle.history_store.specs.StoreValue.{StoreValue, IsAcknowledged}
use Rattle.history_store.specs.Prepared.{IsNotSpent, IsForLater, IsAdmitted, scope_of}
use Rattle.history_store.specs.Meters.{IsMeteredReading}
use Rattle.store_image.specs.Images.{Represents}
use Rattle.history_store.specs.Answers.{Counts, CountsRefusal, IsRefusedFor, IsNotTaken, IsNotTakenByKey, WouldBeTakenByKey, ReadsStored, IsRefused, IsStill, IsImportOnAnyDisk}
use Rattle.history_store.specs.Refusals.{refusal_of}
use Rattle.history_store.specs.Private.Answers.{IsNotFresh}
use Rattle.history_store.specs.Checking.{IsChecking, IsCheckingOf, IsCheckingOnAnyDisk}
use Rattle.history_store.specs.Private.Prepared.{IsUnprepared}
use Rattle.history_store.specs.Private.Ready.{IsMadeReady, IsNextFor}
use Rattle.history_store.proofs.Imported.{IsAt, taken, none_after, extended_catalog}
use Rattle.history_store.proofs.TakenByKey.{taken_by_key}

-- ---- refusals

-- a refusal that isn't the disk's leaves the count of its failures
pub counted_but : (e : Refusal) (old new : ℕ) → (e ≡ refusals.DiskFault → ⊥) → new ≡ old → CountsRefusal e old new
counted_but refusals.DiskFault old new other same = absurd (other refl)
counted_but _ old new other same = same

pub not_disk : (rows : List StampedRow) (catalog : Catalog) (e : Refusal) → IsUnprepared e rows catalog → e ≡ refusals.DiskFault → ⊥
not_disk rows catalog e why disk = subst (λ x. IsUnprepared x rows catalog) disk why

-- ---- the new rows of a release are not had

module _ {D : Type 0} (honest : Type 0) (may_be : RowValue → Type 0) (s : StoreValue D) (release : Release) (still : s.needs_reopen ≡ false) (admits : IsAdmitted s.history s.catalog release) where
  pub not_fresh : (e : Refusal) → IsNotFresh honest may_be e (full s.history) release → honest → IsRefusedFor (IsNotTaken s.history s.catalog release) e s
  not_fresh e why up = subst (λ (x : Refusal). IsRefusedFor (IsNotTaken s.history s.catalog release) x s) (sym why.1) (each why.0 why.2) where
    each : (fault : ImportFault) → IsRefusal honest (full s.history) release fault → IsRefusedFor (IsNotTaken s.history s.catalog release) (refusal_of fault) s
    each importfault.OutOfMemory refused = (still, admits)
    each (importfault.Known readfault.OutOfMemory) refused = (still, admits)
    each (importfault.Known readfault.DiskFault) refused = (still, (admits, refused.0))
    each (importfault.Known readfault.Damaged) refused = absurd (refused.1 up refl)
    each (importfault.Row file line fault) refused = (still, (admits, refused))
    each (importfault.Contradiction file line key) refused = (still, (admits, (key, refused.1 up)))

  -- a stored row couldn't be read, and so one has the key of a line
  reads_stored : (fault : ReadFault) → fault ≢ readfault.OutOfMemory → IsRead release → IsRefusalByKey (full s.history) may_be release (importfault.Known fault) → ReadsStored s.history release
  reads_stored fault other read by_key =
      let are : IsReleaseOf release (joined read.lists) = record { lists = read.lists; spelled = read.spelled; rows_are = refl } in
      record { rows = joined read.lists; rows_are = are; stored = λ none. other (by_key (joined read.lists) are none) }

  pub not_fresh_at_all : (Writes : Type 0) (e : Refusal) → IsNotFresh honest may_be e (full s.history) release → IsRefusedFor (IsNotTakenByKey may_be Writes s.history s.catalog release) e s
  not_fresh_at_all Writes e why = subst (λ (x : Refusal). IsRefusedFor (IsNotTakenByKey may_be Writes s.history s.catalog release) x s) (sym why.1) (each why.0 why.2 why.3) where
    each : (fault : ImportFault) → IsRefusal honest (full s.history) release fault → IsRefusalByKey (full s.history) may_be release fault → IsRefusedFor (IsNotTakenByKey may_be Writes s.history s.catalog release) (refusal_of fault) s
    each importfault.OutOfMemory refused by_key = (still, admits)
    each (importfault.Known readfault.OutOfMemory) refused by_key = (still, admits)
    each (importfault.Known readfault.DiskFault) refused by_key = (still, (admits, inl (reads_stored readfault.DiskFault (λ same. absurd (cc)) refused.0 by_key)))
    each (importfault.Known readfault.Damaged) refused by_key = (still, (admits, reads_stored readfault.Damaged (λ same. absurd (cc)) refused.0 by_key))
    each (importfault.Row file line fault) refused by_key = (still, (admits, refused))
    each (importfault.Contradiction file line key) refused by_key = (still, (admits, (key, by_key)))

-- ---- what is ready

-- a release is read once it is known that the counts have room and that it isn't for a later layout
pub admitted : (h : History) (catalog : Catalog) (release : Release) (later : Bool) → IsNotSpent h.imports catalog.epoch → (IsTrue later ↔ IsForLater (scope_of catalog) release) → later ≡ false → IsAdmitted h catalog release
admitted h catalog release later room tests isn_t = record { room = room; not_later = λ is. absurd (false≢true (sym isn_t ∙ tests.1 is)) }

pub not_later : {D : Type 0} (u old : StoreValue D) (release : Release) → u ≡ old → IsAdmitted u.history u.catalog release → IsForLater (scope_of old.catalog) release → ⊥
not_later {D} u old release first admits = (subst (λ (x : StoreValue D). IsAdmitted x.history x.catalog release) first admits).not_later

pub ready_at : {D : Type 0} {may_be : RowValue → Type 0} (honest : Type 0) (u old w mid : StoreValue D) (release : Release) (fresh : NewRows) (next : Next) (number new : ℕ) → u ≡ old → IsAdmitted u.history u.catalog release → w ≡ mid → IsHistory w.history → IsStill old mid
    → BringsByKey (full old.history) may_be release fresh → (honest → IsAcceptedAs (full old.history) release fresh) → number ≡ w.history.imports + 1 → new ≡ length fresh.rows.items → IsNextFor w fresh next
    → IsMadeReady honest may_be mid release (record { receipt = record { number = number; new = new; repeated = fresh.repeated }; next = next })
ready_at {D} {may_be} honest u old w mid release fresh next number new first left second is still brings accepted number_is count next_is =
    let room : IsAdmitted old.history old.catalog release = subst (λ (x : StoreValue D). IsAdmitted x.history x.catalog release) first left in
    let numbers : number ≡ mid.history.imports + 1 = number_is ∙ ap (λ (x : StoreValue D). x.history.imports + 1) second in
    record {
      history = subst (λ (x : StoreValue D). IsHistory x.history) second is;
      room = subst (λ (h : History). IsAdmitted h mid.catalog release) (sym still.history) (subst (λ (c : Catalog). IsAdmitted old.history c release) (sym still.catalog) room);
      fresh = fresh;
      brings = subst (λ (h : History). BringsByKey (full h) may_be release fresh) (sym still.history) brings;
      accepted = λ up. subst (λ (h : History). IsAcceptedAs (full h) release fresh) (sym still.history) (accepted up);
      receipt_is = λ i. record { number = numbers i; new = count i; repeated = fresh.repeated };
      next_is = subst (λ (x : StoreValue D). IsNextFor x fresh next) second next_is;
    }

module _ {D : Type 0} {may_be : RowValue → Type 0} (honest : Type 0) (s : StoreValue D) (release : Release) (ready : Ready) (is : IsMadeReady honest may_be s release ready) where
  pub at_ready : s.needs_reopen ≡ false → honest → IsAt s release is.fresh
  at_ready still up = record { still = still; history = is.history; room = is.room; accepted = is.accepted up }

  -- the catalog after the import
  pub catalog_ready : (c : Catalog) × IsCatalogAfter (stamped (s.history.imports + 1) is.fresh.rows.items) s.catalog c
  catalog_ready = each ready.next is.next_is where
    each : (next : Next) → IsNextFor s is.fresh next → (c : Catalog) × IsCatalogAfter (stamped (s.history.imports + 1) is.fresh.rows.items) s.catalog c
    each (nexts.WithoutSegment directory) so = (
      catalog_of directory s.catalog.merge,
      none_after is.fresh.rows.items (s.history.imports + 1) s.catalog (catalog_of directory s.catalog.merge) so.0 (ap (λ d. catalog_of d s.catalog.merge) so.1),
    )
    each (nexts.WithSegment prepared) so = (catalog_of prepared.directory s.catalog.merge, extended_catalog s s is.fresh prepared refl so.1.placed so.0)

  module _ (old : StoreValue D) (still : IsStill old s) where
    pub room_ready : IsAdmitted old.history old.catalog release
    room_ready = subst (λ (h : History). IsAdmitted h old.catalog release) still.history (subst (λ (c : Catalog). IsAdmitted s.history c release) still.catalog is.room)

    pub brings_ready : BringsByKey (full old.history) may_be release is.fresh
    brings_ready = subst (λ (h : History). BringsByKey (full h) may_be release is.fresh) still.history is.brings

    -- the receipt is that of the import
    pub foreseen : honest → IsCheckingOf (Ok ready.receipt) old s release
    foreseen up =
        let after = after_release s.history is.fresh.rows.items in
        let next = catalog_ready in
        subst (λ receipt. IsCheckingOf (Ok receipt) old s release) (sym is.receipt_is)
        ((after, next.0, taken old s release is.fresh after next.0 (s.history.imports + 1) (length is.fresh.rows.items) still (at_ready still.open_still up) refl next.1 refl refl), still)

    pub foreseen_at_all : IsCheckingOnAnyDisk may_be (Ok ready.receipt) old s release
    foreseen_at_all =
        let after = after_release s.history is.fresh.rows.items in
        let next = catalog_ready in
        subst (λ receipt. IsCheckingOnAnyDisk may_be (Ok receipt) old s release) (sym is.receipt_is)
        ((after, next.0, taken_by_key old old s release is.fresh after next.0 (s.history.imports + 1) (length is.fresh.rows.items) refl room_ready still brings_ready refl next.1 refl refl), still)

-- ---- an import that is refused

-- as the check of it was
pub kept_early : {D : Type 0} (may_be : RowValue → Type 0) (release : Release) (e : Refusal) (old new : StoreValue D) → IsCheckingOnAnyDisk may_be (Err e) old new release → IsImportOnAnyDisk may_be (Err e) old new release
kept_early {D} may_be release e old new checked = (each e checked.0, checked.1) where
  each : (e : Refusal) → IsRefusedFor (IsNotTakenByKey may_be ⊥ old.history old.catalog release) e old → IsRefusedFor (IsNotTakenByKey may_be (WouldBeTakenByKey may_be old.history old.catalog release) old.history old.catalog release) e old
  each refusals.DiskFault why = (why.0, (why.1.0, elim why.1.1 [ inl stored ↦ inl stored | inr none ↦ absurd none ]))
  each _ why = why

-- after the check of it, because the disk failed
pub kept_failed : {D : Type 0} (may_be : RowValue → Type 0) (release : Release) (receipt : Receipt) (e : Refusal) (old mid new : StoreValue D) → IsCheckingOnAnyDisk may_be (Ok receipt) old mid release → e ≡ refusals.DiskFault → IsRefused e mid new → IsImportOnAnyDisk may_be (Err e) old new release
kept_failed {D} may_be release receipt e old mid new checked is refused =
    let t = checked.0.2 in
    let still = checked.1 in
    let writes : WouldBeTakenByKey may_be old.history old.catalog release = record { room = t.room; fresh = t.fresh; brings = t.brings; next = checked.0.1; catalog_is = t.catalog_is } in (
      subst (λ x. IsRefusedFor (IsNotTakenByKey may_be (WouldBeTakenByKey may_be old.history old.catalog release) old.history old.catalog release) x old) (sym is) (still.open_before, (t.room, inr writes)),
      record { history = refused.history ∙ still.history; catalog = refused.catalog ∙ still.catalog; closed = refused.closed; still = λ other. refused.still other ∙ still.open_still ∙ sym still.open_before },
    )

-- ---- a check that has read the known rows

-- the same reading, with another result
as_read : {T U D : Type 0} {view : D → DiskView} {release : Release} (first : Result T Refusal) (result : Result U Refusal) (old mid : StoreValue D) → Counts result (view old.disk).failures (view mid.disk).failures → IsMeteredReading first release view old mid → IsMeteredReading result release view old mid
as_read first result old mid counted read = record {
  counts = record { moments = read.counts.moments; honesty = read.counts.honesty; failures = counted; bytes_read = tt; other_calls = read.counts.other_calls };
  looked_up = read.looked_up;
  known = read.known;
}

module _ {D : Type 0} (view : D → DiskView) (old mid : StoreValue D) (release : Release) where
  -- what the reading of known rows leaves
  pub record HasRead : Type 0 where
    pub still : IsStill old mid
    pub not_later : IsForLater (scope_of old.catalog) release → ⊥
    pub acknowledged : (view mid.disk).is_honest → mid.needs_reopen ≡ false → IsAcknowledged view mid
    pub fresh : NewRows
    pub meters : IsMeteredReading (Ok fresh) release view old mid

  pub checked_after : (result : Result Receipt Refusal) → HasRead → ((view old.disk).is_honest → IsCheckingOf result old mid release) → IsCheckingOnAnyDisk (IsStored view old) result old mid release → Counts result (view old.disk).failures (view mid.disk).failures
      → IsChecking result release view old mid
  checked_after result read answer kept failures = record {
    answer = answer;
    kept = kept;
    closed = λ closed. absurd (false≢true (sym read.still.open_before ∙ closed));
    later = λ later. absurd (read.not_later later);
    acknowledged = λ up. read.acknowledged (read.meters.counts.honesty.0 up);
    meters = as_read (Ok read.fresh) result old mid failures read.meters;
  }

  -- a check that was refused while known rows were read, or because of what the files say
  pub turned_back : (u : StoreValue D) (e : Refusal) → u ≡ old → u.needs_reopen ≡ false → IsAdmitted u.history u.catalog release → ((view old.disk).is_honest → old.needs_reopen ≡ false → IsAcknowledged view old) → IsNotFresh (view old.disk).is_honest (IsStored view old) e (full old.history) release → IsRefused e old mid
      → IsMeteredReading {T = NewRows} (Err e) release view old mid → IsChecking (Err e) release view old mid
  turned_back u e first was_open admits stood why refused read =
      let still : old.needs_reopen ≡ false = subst (λ (x : StoreValue D). x.needs_reopen ≡ false) first was_open in
      let here : IsAdmitted old.history old.catalog release = subst (λ (x : StoreValue D). IsAdmitted x.history x.catalog release) first admits in
      let Stands : Moments → History → Catalog → Type 0 = λ m h x. EachImage m.state (λ c. Represents c h x.layout x.epoch x.entries) in
      record {
        answer = λ up. (not_fresh (view old.disk).is_honest (IsStored view old) old release still here e why up, refused);
        kept = (not_fresh_at_all (view old.disk).is_honest (IsStored view old) old release still here ⊥ e why, refused);
        closed = λ closed. absurd (false≢true (sym still ∙ closed));
        later = λ later. absurd (here.not_later later);
        acknowledged = λ up open_still. record {
          open_still = open_still;
          each =
              subst (λ (m : Moments). Stands m mid.history mid.catalog) (sym (read.counts.moments up))
              (subst (λ (h : History). Stands (view old.disk).moments h mid.catalog) (sym refused.history) (subst (λ (x : Catalog). Stands (view old.disk).moments old.history x) (sym refused.catalog) (stood up still).each));
        };
        meters = as_read (Err e) (Err e) old mid read.counts.failures read;
      }
