-- Where a release is refused as one for a later layout.
use Rattle.std.proofs.Common.{◌≡◌, ◌↔◌, inl, inr, Result, Ok, Err, false, true, refl, sym, ap, ◌∙◌}
use Rattle.std.specs.Prelude.{Bool}
use Rattle.std.proofs.lemmas.Bool.{false≢true}
use Rattle.rf2_values.specs.Row.{RowValue}
use Rattle.history_model.specs.declared.receipt.Receipt.{Receipt}
use Rattle.import_check.specs.declared.release.Release.{Release}
use Rattle.history_store.specs.declared.refusal.Refusal.{Refusal}
use Rattle.history_store.specs.declared.refusal.Refusal.TheVariants as refusals
use Rattle.history_store.specs.StoreValue.{StoreValue}
use Rattle.history_store.specs.Answers.{AnyRow, IsRefusedFor, IsNotTakenByKey, IsImportOnAnyDisk, WouldBeTakenByKey}
use Rattle.history_store.specs.Checking.{IsCheckingOnAnyDisk, IsTooEarly, LaterIsRefused}
use Rattle.history_store.proofs.Foreseen.{not_both}

abbrev IsLater : Result Receipt Refusal → Type 0
IsLater result = result ≡ Err refusals.LaterVersion

abbrev is_refusal : Result Receipt Refusal → Bool
is_refusal (Ok receipt) = false
is_refusal (Err e) = true

abbrev is_later : Refusal → Bool
is_later refusals.LaterVersion = true
is_later _ = false

abbrev is_later_answer : Result Receipt Refusal → Bool
is_later_answer (Ok receipt) = false
is_later_answer (Err e) = is_later e

module _ {D : Type 0} (s : StoreValue D) (release : Release) where
  why : (may_be : RowValue → Type 0) (Writes : Type 0) (e : Refusal) → is_later e ≡ true → IsRefusedFor (IsNotTakenByKey may_be Writes s.history s.catalog release) e s → IsTooEarly s release
  why may_be Writes refusals.LaterVersion is refused = (refused.0, refused.1.0, refused.1.1)
  why may_be Writes refusals.OutOfMemory is refused = absurd (false≢true is)
  why may_be Writes refusals.DiskFault is refused = absurd (false≢true is)
  why may_be Writes refusals.ReopenNeeded is refused = absurd (false≢true is)
  why may_be Writes refusals.NotEmpty is refused = absurd refused.1
  why may_be Writes refusals.Full is refused = absurd (false≢true is)
  why may_be Writes refusals.TooManySegments is refused = absurd (false≢true is)
  why may_be Writes refusals.NotAStore is refused = absurd refused.1
  why may_be Writes refusals.Damaged is refused = absurd (false≢true is)
  why may_be Writes (refusals.Unreadable damage) is refused = absurd refused.1
  why may_be Writes refusals.NothingToMerge is refused = absurd refused.1
  why may_be Writes refusals.MergeBusy is refused = absurd refused.1
  why may_be Writes refusals.NoMerge is refused = absurd refused.1
  why may_be Writes refusals.MergeUnfinished is refused = absurd refused.1
  why may_be Writes refusals.CountSpent is refused = absurd (false≢true is)
  why may_be Writes refusals.NotKept is refused = absurd refused.1
  why may_be Writes (refusals.Line file line fault) is refused = absurd (false≢true is)
  why may_be Writes (refusals.Contradiction file line) is refused = absurd (false≢true is)

  that : (may_be : RowValue → Type 0) (Writes : Type 0) (e : Refusal) → IsTooEarly s release → IsRefusedFor (IsNotTakenByKey may_be Writes s.history s.catalog release) e s → e ≡ refusals.LaterVersion
  that may_be Writes refusals.LaterVersion early refused = refl
  that may_be Writes refusals.OutOfMemory early refused = absurd (refused.1.not_later early.2)
  that may_be Writes refusals.DiskFault early refused = absurd (refused.1.0.not_later early.2)
  that may_be Writes refusals.ReopenNeeded early refused = absurd (false≢true (sym early.0 ∙ refused))
  that may_be Writes refusals.NotEmpty early refused = absurd refused.1
  that may_be Writes refusals.Full early refused = absurd (refused.1.room.not_later early.2)
  that may_be Writes refusals.TooManySegments early refused = absurd (refused.1.room.not_later early.2)
  that may_be Writes refusals.NotAStore early refused = absurd refused.1
  that may_be Writes refusals.Damaged early refused = absurd (refused.1.0.not_later early.2)
  that may_be Writes (refusals.Unreadable damage) early refused = absurd refused.1
  that may_be Writes refusals.NothingToMerge early refused = absurd refused.1
  that may_be Writes refusals.MergeBusy early refused = absurd refused.1
  that may_be Writes refusals.NoMerge early refused = absurd refused.1
  that may_be Writes refusals.MergeUnfinished early refused = absurd refused.1
  that may_be Writes refusals.NotKept early refused = absurd refused.1
  that may_be Writes refusals.CountSpent early refused = absurd (not_both s.history.imports s.catalog.epoch early.1 refused.1)
  that may_be Writes (refusals.Line file line fault) early refused = absurd (refused.1.0.not_later early.2)
  that may_be Writes (refusals.Contradiction file line) early refused = absurd (refused.1.0.not_later early.2)

imported : {D : Type 0} (may_be : RowValue → Type 0) (old new : StoreValue D) (release : Release) (result : Result Receipt Refusal) → IsImportOnAnyDisk may_be result old new release → IsLater result ↔ IsTooEarly old release
imported may_be old new release (Ok receipt) is = (λ later. absurd (false≢true (ap is_refusal later)), λ early. absurd (is.0.room.not_later early.2))
imported may_be old new release (Err e) is =
    let Writes = WouldBeTakenByKey may_be old.history old.catalog release in
    (λ later. why old release may_be Writes e (ap is_later_answer later) is.0, λ early. ap Err (that old release may_be Writes e early is.0))

checked : {D : Type 0} (may_be : RowValue → Type 0) (old new : StoreValue D) (release : Release) (result : Result Receipt Refusal) → IsCheckingOnAnyDisk may_be result old new release → IsLater result ↔ IsTooEarly old release
checked may_be old new release (Ok receipt) is = (λ later. absurd (false≢true (ap is_refusal later)), λ early. absurd (is.0.2.room.not_later early.2))
checked may_be old new release (Err e) is = (λ later. why old release may_be ⊥ e (ap is_later_answer later) is.0, λ early. ap Err (that old release may_be ⊥ e early is.0))

pub later_is_refused : {D : Type 0} → LaterIsRefused D
later_is_refused {D} old new release result (inl imports) = imported AnyRow old new release result imports
later_is_refused {D} old new release result (inr checks) = checked AnyRow old new release result checks
