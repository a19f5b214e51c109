-- Which call of a life each call of `Store` is, according to what it ensures: the premises are its
-- clauses.
use Rattle.std.specs.Prelude.{◌≡◌, ◌⊎◌, ◌↔◌, true, false, ℕ, Result, Ok, Err}
use Rattle.history_model.specs.declared.receipt.Receipt.{Receipt}
use Rattle.import_check.specs.declared.release.Release.{Release}
use Rattle.import_check.specs.declared.contradicting.Contradictions.{Contradictions}
use Rattle.directory.specs.Listings.{next_layout}
use Rattle.store_image.specs.Images.{RepresentsAs}
use Rattle.history_store.specs.declared.refusal.Refusal.{Refusal}
use Rattle.history_store.specs.declared.refusal.Refusal.TheVariants as refusals
use Rattle.history_store.specs.StoreValue.{StoreValue, IsAcknowledged}
use Rattle.history_store.specs.Stored.{IsStored}
use Rattle.history_store.specs.Answers.{IsImportOf, IsImportOnAnyDisk, IsBeforeOrAfter}
use Rattle.history_store.specs.Answers.{KeepsMoments}
use Rattle.history_store.specs.Crashes.{IsCrashSafe}
use Rattle.history_store.specs.Checking.{IsChecking}
use Rattle.history_store.specs.Contradicting.{IsListing}
use Rattle.history_store.specs.MergeAnswers.{IsBeginningOf, IsSteppingOf, IsAbandoningOf}
use Rattle.history_store.specs.MergeAnswers.{IsTrimmingOf}
use Rattle.history_store.specs.Queries.{IsQuery}
use Rattle.disk_model.specs.View.{DiskView}
use Rattle.store_life.specs.Life.{Call, Imported, Failed, Other, IsCall}

-- the call of a life that an import is, according to its result
abbrev pub call_of : Result Receipt Refusal → Release → Call
call_of (Ok receipt) release = Imported release
call_of (Err refusals.DiskFault) release = Failed release
call_of (Err refusal) release = Other

-- by `Store::import · answer, kept, crash, refused, meters`
abbrev pub ImportIsACall : (D : Type 0) → (D → DiskView) → Type 0
ImportIsACall D view =
    (old new : StoreValue D) (release : Release) (result : Result Receipt Refusal)
    → ((view old.disk).is_honest → IsImportOf result old new release)
    → IsImportOnAnyDisk (IsStored view old) result old new release
    → IsCrashSafe view (IsBeforeOrAfter old.catalog.layout old.history release) old new
    → ((view old.disk).is_honest → KeepsMoments view result old new)
    → ((view old.disk).is_honest ↔ (view new.disk).is_honest)
    → IsCall view old (call_of result release) new

-- by `Store::check · answer`: it imports nothing, even if the disk fails
abbrev pub CheckIsACall : (D : Type 0) → (D → DiskView) → Type 0
CheckIsACall D view =
    (old new : StoreValue D) (release : Release) (result : Result Receipt Refusal)
    → IsChecking result release view old new → IsCall view old Other new

-- by `Store::contradictions · answer`: listing contradictions imports nothing either
abbrev pub ListingIsACall : (D : Type 0) → (D → DiskView) → Type 0
ListingIsACall D view =
    (old new : StoreValue D) (release : Release) (limit : ℕ)
    (result : Result Contradictions Refusal)
    → IsListing result release limit view old new → IsCall view old Other new

-- by `query` of the answers of `select` and `rows_after` (`IsRowsQueryBy`), and of
-- `store_digest::digest` (`IsDigestQuery`)
abbrev pub QueryIsACall : (T D : Type 0) → (D → DiskView) → Type 0
QueryIsACall T D view = (result : Result T Refusal) (old new : StoreValue D)
    → IsQuery result view old new
    → IsCall view old Other new

-- by `unchanged` of the answers of `ids` and `dates` (`IsIndexQuery`), and for a call that only
-- borrows the store
abbrev pub UnchangedIsACall : (D : Type 0) → (D → DiskView) → Type 0
UnchangedIsACall D view = (old new : StoreValue D) → new ≡ old → IsCall view old Other new

-- by `Store::merge_begin · answer, disk, closed, acknowledged`
abbrev pub MergeBeginIsACall : (D : Type 0) → (D → DiskView) → Type 0
MergeBeginIsACall D view = (result : Result ℕ Refusal) (old new : StoreValue D)
    → IsBeginningOf result old new
    → new.disk ≡ old.disk
    → (old.needs_reopen ≡ true → new ≡ old)
    → ((view old.disk).is_honest → new.needs_reopen ≡ false → IsAcknowledged view new)
    → IsCall view old Other new

-- by `Store::merge_step · answer, crash, meters`
abbrev pub MergeStepIsACall : (D : Type 0) → (D → DiskView) → Type 0
MergeStepIsACall D view = (result : Result ℕ Refusal) (rows : ℕ) (old new : StoreValue D)
    → IsSteppingOf result old new rows
    → IsCrashSafe view (RepresentsAs old.catalog.layout old.history) old new
    → ((view old.disk).is_honest ↔ (view new.disk).is_honest)
    → IsCall view old Other new

-- by `Store::merge_publish · history, crash, meters`
abbrev pub MergePublishIsACall : (D : Type 0) → (D → DiskView) → Type 0
MergePublishIsACall D view = (old new : StoreValue D)
    → new.history ≡ old.history
    → IsCrashSafe view (λ c. RepresentsAs old.catalog.layout old.history c
    ⊎ RepresentsAs (next_layout old.catalog.layout) old.history c) old new
    → ((view old.disk).is_honest ↔ (view new.disk).is_honest)
    → IsCall view old Other new

-- by `Store::merge_abandon · answer, disk, closed, acknowledged`
abbrev pub MergeAbandonIsACall : (D : Type 0) → (D → DiskView) → Type 0
MergeAbandonIsACall D view = (result : Result (Unit {0}) Refusal) (old new : StoreValue D)
    → IsAbandoningOf result old new
    → new.disk ≡ old.disk
    → (old.needs_reopen ≡ true → new ≡ old)
    → ((view old.disk).is_honest → new.needs_reopen ≡ false → IsAcknowledged view new)
    → IsCall view old Other new

-- by `Store::trim · answer, crash, meters`
abbrev pub TrimIsACall : (D : Type 0) → (D → DiskView) → Type 0
TrimIsACall D view = (result : Result ℕ Refusal) (old new : StoreValue D)
    → IsTrimmingOf result old new
    → IsCrashSafe view (RepresentsAs old.catalog.layout old.history) old new
    → ((view old.disk).is_honest ↔ (view new.disk).is_honest)
    → IsCall view old Other new
