-- The results of a store's calls, and the store after them.
use Rattle.std.specs.Prelude.{◌≡◌, ◌≢◌, ◌⊎◌, ℕ, ◌+◌, ◌≤◌, true, false, List, [], ◌∷◌}
use Rattle.std.specs.Prelude.{length, None, Result, Ok, Err}
use Rattle.fault_counts.specs.Counting.{HasRisen}
use Rattle.disk_model.specs.Disk.{DiskState}
use Rattle.disk_model.specs.View.{DiskView}
use Rattle.blocks.specs.Slots.{slots_range}
use Rattle.rf2_values.specs.declared.key.Key.{Key}
use Rattle.history_model.specs.declared.stamped.StampedRow.{StampedRow}
use Rattle.history_model.specs.declared.receipt.Receipt.{Receipt}
use Rattle.history_model.specs.History.{History, IsHistory, after_release, ReceiptOf}
use Rattle.history_model.specs.History.{no_history, full, stamped}
use Rattle.history_model.specs.Lists.{new_rows}
use Rattle.directory.specs.declared.layout.Layout.{Layout}
use Rattle.directory.specs.Listings.{empty_listing, next_layout}
use Rattle.import_check.specs.declared.release.Release.{Release}
use Rattle.import_check.specs.declared.found.NewRows.{NewRows}
use Rattle.import_check.specs.Release.{IsAccepted, IsFaultOfRelease, HasContradiction}
use Rattle.import_check.specs.Release.{HasPossibleContradiction, IsReleaseOf}
use Rattle.import_check.specs.Known.{already_known}
use Rattle.rf2_values.specs.Row.{RowValue}
use Rattle.import_check.specs.NewRows.{BringsByKey, IsRead}
use Rattle.store_image.specs.declared.fault.LoadFault.{LoadFault}
use Rattle.store_image.specs.Answers.{synced, IsNotOpened as IsNotLoaded}
use Rattle.store_image.specs.Images.{Represents, RepresentsAs}
use Rattle.history_store.specs.declared.refusal.Refusal.{Refusal}
use Rattle.history_store.specs.declared.refusal.Refusal.TheVariants as refusals
use Rattle.history_store.specs.Catalog.{Catalog, IsCatalogAfter, HasNoEntry, HasNoPlace, catalog_of}
use Rattle.history_store.specs.StoreValue.{StoreValue, last_import, last_epoch}
use Rattle.history_store.specs.Prepared.{IsNotSpent, IsForLater, IsAdmitted, scope_of}
use Rattle.history_store.specs.Written.{added_ranges, StemsWithinAll}
use Rattle.history_store.specs.Refusals.{of_loading}

-- a store; or why there is none, and the disk
abbrev pub StoreOr : Type 0 → Type 0
StoreOr D = Result (StoreValue D) (Refusal × D)

-- the disk, which is returned both with a store and with a refusal
abbrev pub disk_of : {D : Type 0} → StoreOr D → D
disk_of (Ok store) = store.disk
disk_of (Err e) = e.1

-- the count of the disk's failures: it has risen if the disk failed, and otherwise is unchanged
abbrev pub CountsRefusal : Refusal → ℕ → ℕ → Type 0
CountsRefusal refusals.DiskFault old new = HasRisen old new
CountsRefusal _ old new = new ≡ old

abbrev pub CountsOpening : {D : Type 0} → StoreOr D → ℕ → ℕ → Type 0
CountsOpening (Ok store) old new = new ≡ old
CountsOpening (Err e) old new = CountsRefusal e.0 old new

abbrev pub Counts : {T : Type 0} → Result T Refusal → ℕ → ℕ → Type 0
Counts (Ok x) old new = new ≡ old
Counts (Err e) old new = CountsRefusal e old new

-- why no store is made on a disk with these bytes
abbrev pub IsNotMade : Refusal → List ℕ → Type 0
IsNotMade refusals.OutOfMemory bytes = length bytes ≡ 0
IsNotMade refusals.DiskFault bytes = Unit {0}
IsNotMade refusals.NotEmpty bytes = 1 ≤ length bytes
IsNotMade _ bytes = ⊥

-- a new store with this layout: it has no imports and no segments
pub record IsNew {D : Type 0} (layout : Layout) (s : StoreValue D) : Type 0 where
  pub history : s.history ≡ no_history
  pub catalog : s.catalog ≡ catalog_of (empty_listing layout) None
  pub open_still : s.needs_reopen ≡ false

-- unless the disk failed, a refusal returns it unchanged, as to what reads return and what a crash
-- may leave
abbrev pub HandsBack : {D : Type 0} → (D → DiskView) → StoreOr D → D → Type 0
HandsBack view (Ok store) disk = Unit {0}
HandsBack view (Err e) disk = e.0 ≢ refusals.DiskFault → (view e.1).moments ≡ (view disk).moments

-- the disk was synced once and otherwise is unchanged; if it failed, maybe not even synced
abbrev pub SyncsOnce : {D : Type 0} → (D → DiskView) → StoreOr D → D → Type 0
SyncsOnce view (Ok store) disk = (view store.disk).moments ≡ synced (view disk).moments
SyncsOnce view (Err e) disk = ((view e.1).moments ≡ synced (view disk).moments)
    ⊎ ((e.0 ≡ refusals.DiskFault) × ((view e.1).moments ≡ (view disk).moments))

-- a store can only be made on an empty disk
abbrev pub IsMakingOf : {D : Type 0} → Layout → StoreOr D → List ℕ → Type 0
IsMakingOf layout (Ok store) bytes = (length bytes ≡ 0) × IsNew layout store
IsMakingOf layout (Err e) bytes = IsNotMade e.0 bytes

-- why bytes aren't opened as a store: the reason why they can't be loaded, as a refusal
abbrev pub IsNotOpened : Refusal → List ℕ → Type 0
IsNotOpened refusal bytes =
    (fault : LoadFault) × (refusal ≡ of_loading fault) × IsNotLoaded fault bytes

-- the store holds what the bytes represent
pub record IsOpened {D : Type 0} (s : StoreValue D) (bytes : List ℕ) : Type 0 where
  pub stands : Represents bytes s.history s.catalog.layout s.catalog.epoch s.catalog.entries
  pub no_merge : s.catalog.merge ≡ None
  pub open_still : s.needs_reopen ≡ false

-- an opened store, whatever the disk returned: its rows and counts are a history, and no merge is
-- in progress
pub record IsReady {D : Type 0} (s : StoreValue D) : Type 0 where
  pub history : IsHistory s.history
  pub no_merge : s.catalog.merge ≡ None
  pub open_still : s.needs_reopen ≡ false

-- a store is opened exactly if the bytes represent a history, unless memory runs out or the disk
-- fails
abbrev pub IsOpeningOf : {D : Type 0} → StoreOr D → List ℕ → Type 0
IsOpeningOf (Ok store) bytes = IsOpened store bytes
IsOpeningOf (Err e) bytes = IsNotOpened e.0 bytes

-- A release that is accepted: each file is a valid release file, its rows and those of the history
-- are consistent, the next history has the release's rows, which the receipt counts, and the next
-- catalog has a segment of the new rows if there are any.
pub record IsTakenAs (h after : History) (catalog next : Catalog) (release : Release)
    (receipt : Receipt) : Type 0 where
  pub room : IsAdmitted h catalog release
  pub accepted : IsAccepted (full h) release
  pub history : after ≡ after_release h accepted.rows
  pub receipt_is : ReceiptOf h accepted.rows receipt.number receipt.new receipt.repeated
  pub catalog_is : IsCatalogAfter (new_rows h accepted.rows) catalog next

-- any row may be stored: it isn't said which
abbrev pub AnyRow : RowValue → Type 0
AnyRow row = Unit {0}

-- A release that is accepted, as far as that can be said on every disk: each file is a valid
-- release file, the next history has the rows whose keys are new, which the receipt counts, and the
-- next catalog has a segment of these if there are any. Each other row may be stored.
pub record IsTakenByKey (may_be : RowValue → Type 0) (h after : History) (catalog next : Catalog)
    (release : Release) (receipt : Receipt) : Type 0 where
  pub room : IsAdmitted h catalog release
  pub fresh : NewRows
  pub brings : BringsByKey (full h) may_be release fresh
  pub history : after ≡ after_release h fresh.rows.items
  pub receipt_is : receipt ≡ record {
    number = h.imports + 1;
    new = length fresh.rows.items;
    repeated = fresh.repeated;
  }
  pub catalog_is : IsCatalogAfter (stamped (h.imports + 1) fresh.rows.items) catalog next

-- A release whose rows with new keys can't be added, for the reason `Lacks`. This holds on every
-- disk.
pub record LacksByKey (may_be : RowValue → Type 0) (h : History) (catalog : Catalog)
    (release : Release) (Lacks : List StampedRow → Catalog → Type 0) : Type 0 where
  pub room : IsAdmitted h catalog release
  pub fresh : NewRows
  pub brings : BringsByKey (full h) may_be release fresh
  pub lacks : Lacks (stamped (h.imports + 1) fresh.rows.items) catalog

-- a release that would be accepted, if its new rows could be added: `Lacks` says why they can't
pub record WouldBeTakenBut (h : History) (catalog : Catalog) (release : Release)
    (Lacks : List StampedRow → Catalog → Type 0) : Type 0 where
  pub room : IsAdmitted h catalog release
  pub accepted : IsAccepted (full h) release
  pub lacks : Lacks (new_rows h accepted.rows) catalog

-- a release that would be accepted: its new rows have a place, or there are none
pub record WouldBeTaken (h : History) (catalog : Catalog) (release : Release) : Type 0 where
  pub room : IsAdmitted h catalog release
  pub accepted : IsAccepted (full h) release
  pub next : Catalog
  pub catalog_is : IsCatalogAfter (new_rows h accepted.rows) catalog next

-- a release of which, by their keys, the new rows have a place, or that has no new rows
pub record WouldBeTakenByKey (may_be : RowValue → Type 0) (h : History) (catalog : Catalog)
    (release : Release) : Type 0 where
  pub room : IsAdmitted h catalog release
  pub fresh : NewRows
  pub brings : BringsByKey (full h) may_be release fresh
  pub next : Catalog
  pub catalog_is : IsCatalogAfter (stamped (h.imports + 1) fresh.rows.items) catalog next

-- Each file is a valid release file, and a line of the release has the key of a stored row: only
-- then stored rows are read, and only those with such keys.
pub record ReadsStored (h : History) (release : Release) : Type 0 where
  pub rows : List RowValue
  pub rows_are : IsReleaseOf release rows
  pub stored : already_known (full h) rows ≢ []

-- Why a release isn't accepted with this history and catalog. `Lacks` says what its new rows lack,
-- `Contradicts` that the row of a line contradicts another one, and `Fails` and `Damaged` when the
-- disk may fail and a stored row may be damaged.
abbrev pub WhyNotTaken : (Lacks : (List StampedRow → Catalog → Type 0) → Type 0)
    → (Contradicts : ℕ → ℕ → Type 0) → (Fails Damaged : Type 0)
    → History → Catalog → Release → Refusal → Type 0
WhyNotTaken Lacks Contradicts Fails Damaged h catalog release refusals.OutOfMemory =
    IsAdmitted h catalog release
WhyNotTaken Lacks Contradicts Fails Damaged h catalog release refusals.DiskFault =
    IsAdmitted h catalog release × Fails
WhyNotTaken Lacks Contradicts Fails Damaged h catalog release refusals.CountSpent =
    (h.imports ≡ last_import) ⊎ (catalog.epoch ≡ last_epoch)
WhyNotTaken Lacks Contradicts Fails Damaged h catalog release refusals.LaterVersion =
    IsNotSpent h.imports catalog.epoch × IsForLater (scope_of catalog) release
WhyNotTaken Lacks Contradicts Fails Damaged h catalog release (refusals.Line file line fault) =
    IsAdmitted h catalog release × IsFaultOfRelease release file line fault
WhyNotTaken Lacks Contradicts Fails Damaged h catalog release (refusals.Contradiction file line) =
    IsAdmitted h catalog release × Contradicts file line
WhyNotTaken Lacks Contradicts Fails Damaged h catalog release refusals.TooManySegments =
    Lacks HasNoEntry
WhyNotTaken Lacks Contradicts Fails Damaged h catalog release refusals.Full = Lacks HasNoPlace
WhyNotTaken Lacks Contradicts Fails Damaged h catalog release refusals.Damaged = Damaged
WhyNotTaken Lacks Contradicts Fails Damaged h catalog release _ = ⊥

-- why a release isn't accepted, on an honest disk
abbrev pub IsNotTaken : History → Catalog → Release → Refusal → Type 0
IsNotTaken h catalog release e = WhyNotTaken (WouldBeTakenBut h catalog release)
    (λ file line. (key : Key) × HasContradiction (full h) release file line key)
    (IsRead release) ⊥ h catalog release e

-- Why a release isn't accepted, as far as that can be said on every disk. Which row a line
-- contradicts depends on what the disk returns, but it is another row with the line's key, which
-- may be stored or is on an earlier line. The disk fails, or a row is damaged, only if a stored row
-- is read; and the disk also if `Writes` holds.
abbrev pub IsNotTakenByKey : (may_be : RowValue → Type 0) → (Writes : Type 0) → History → Catalog
    → Release → Refusal → Type 0
IsNotTakenByKey may_be Writes h catalog release e = WhyNotTaken
    (LacksByKey may_be h catalog release)
    (λ file line. (key : Key) × HasPossibleContradiction (full h) may_be release file line key)
    (ReadsStored h release ⊎ Writes) (IsAdmitted h catalog release × ReadsStored h release)
    h catalog release e

-- why a call is refused: the store has to be opened again; or it doesn't have to be, and `Why` says
-- why
abbrev pub IsRefusedFor : {D : Type 0} → (Refusal → Type 0) → Refusal → StoreValue D → Type 0
IsRefusedFor Why refusals.ReopenNeeded s = s.needs_reopen ≡ true
IsRefusedFor Why e s = (s.needs_reopen ≡ false) × Why e

-- history and catalog are unchanged, and only a disk failure closes the store
pub record IsRefused {D : Type 0} (e : Refusal) (old new : StoreValue D) : Type 0 where
  pub history : new.history ≡ old.history
  pub catalog : new.catalog ≡ old.catalog
  pub closed : e ≡ refusals.DiskFault → new.needs_reopen ≡ true
  pub still : e ≢ refusals.DiskFault → new.needs_reopen ≡ old.needs_reopen

-- unless the disk failed, a refusal leaves unchanged what a crash may leave
abbrev pub KeepsMoments : {T D : Type 0} → (D → DiskView) → Result T Refusal → StoreValue D
    → StoreValue D → Type 0
KeepsMoments view (Ok x) old new = Unit {0}
KeepsMoments view (Err e) old new = e ≢ refusals.DiskFault
    → (view new.disk).moments ≡ (view old.disk).moments

-- the result of an import, and the store after it
abbrev pub IsImportOf : {D : Type 0} → Result Receipt Refusal → StoreValue D → StoreValue D
    → Release → Type 0
IsImportOf (Ok receipt) old new release =
    IsTakenAs old.history new.history old.catalog new.catalog release receipt
    × (old.needs_reopen ≡ false) × (new.needs_reopen ≡ false)
IsImportOf (Err e) old new release =
    IsRefusedFor (IsNotTaken old.history old.catalog release) e old × IsRefused e old new

-- in this layout, the bytes represent the history with an accepted release added
abbrev pub RepresentsWith : Layout → History → Release → List ℕ → Type 0
RepresentsWith layout h release c = (accepted : IsAccepted (full h) release)
    × RepresentsAs layout (after_release h accepted.rows) c

-- what a crash during an import may leave: the history from before in its layout, or the one after
-- it in the next
abbrev pub IsBeforeOrAfter : Layout → History → Release → List ℕ → Type 0
IsBeforeOrAfter layout h release c =
    RepresentsAs layout h c ⊎ RepresentsWith (next_layout layout) h release c

-- The bytes differ from an image that was possible before an import only in the slots and in the
-- segment of the new rows, which is at the first extent with room for it; and the release would be
-- accepted.
abbrev pub StemsWithinNew : History → Catalog → Release → DiskState → List ℕ → Type 0
StemsWithinNew h catalog release s c = (taken : WouldBeTaken h catalog release)
    × StemsWithinAll s (slots_range ∷ added_ranges catalog taken.next) c

-- why a call that only reads is refused
abbrev pub IsReadRefusal : {D : Type 0} → Refusal → StoreValue D → Type 0
IsReadRefusal refusals.OutOfMemory s = s.needs_reopen ≡ false
IsReadRefusal refusals.DiskFault s = s.needs_reopen ≡ false
IsReadRefusal refusals.Damaged s = s.needs_reopen ≡ false
IsReadRefusal refusals.ReopenNeeded s = s.needs_reopen ≡ true
IsReadRefusal _ s = ⊥

-- history and catalog are unchanged, and the store stays open
pub record IsStill {D : Type 0} (old new : StoreValue D) : Type 0 where
  pub history : new.history ≡ old.history
  pub catalog : new.catalog ≡ old.catalog
  pub open_before : old.needs_reopen ≡ false
  pub open_still : new.needs_reopen ≡ false

-- a call that only reads leaves the store unchanged, except that a disk failure closes it
abbrev pub IsReadingOf : {T D : Type 0} → Result T Refusal → StoreValue D → StoreValue D → Type 0
IsReadingOf (Ok x) old new = IsStill old new
IsReadingOf (Err e) old new = IsReadRefusal e old × IsRefused e old new

-- the result of an import on every disk, and the store after it; `may_be` says which rows may be
-- stored
abbrev pub IsImportOnAnyDisk : {D : Type 0} → (may_be : RowValue → Type 0)
    → Result Receipt Refusal → StoreValue D → StoreValue D → Release → Type 0
IsImportOnAnyDisk may_be (Ok receipt) old new release =
    IsTakenByKey may_be old.history new.history old.catalog new.catalog release receipt
    × (old.needs_reopen ≡ false) × (new.needs_reopen ≡ false)
IsImportOnAnyDisk may_be (Err e) old new release = IsRefusedFor
    (IsNotTakenByKey may_be (WouldBeTakenByKey may_be old.history old.catalog release)
    old.history old.catalog release) e old × IsRefused e old new
