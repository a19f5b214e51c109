-- How private functions change the counts of a disk or of a reader.
use Rattle.std.specs.Prelude.{◌≢◌, ℕ, ◌+◌, ◌≤◌, List, Result, IfErr}
use Rattle.std.specs.List.{sum_by}
use Rattle.fault_counts.specs.Counting.{Counts as CountsFault}
use Rattle.disk_model.specs.View.{DiskView, Calls, Stays, AtMost}
use Rattle.blocks.specs.Calls.{MakesCalls}
use Rattle.rf2_values.specs.Row.{RowValue}
use Rattle.segment.specs.declared.place.RowPlace.{RowPlace}
use Rattle.as_of_index.specs.Places.{Lists}
use Rattle.as_of_index.specs.Reader.{ReaderView}
use Rattle.import_check.specs.declared.release.Release.{Release}
use Rattle.import_check.specs.declared.fault.ImportFault.{ImportFault}
use Rattle.import_check.specs.Known.{already_known}
use Rattle.import_check.specs.Release.{IsReleaseOf}
use Rattle.import_check.specs.NewRows.{IsRead, CountsAnyDiskFault, CountsAnyDamage}
use Rattle.history_store.specs.declared.refusal.Refusal.{Refusal}
use Rattle.history_store.specs.declared.refusal.Refusal.TheVariants as refusals
use Rattle.history_store.specs.Answers.{Counts}
use Rattle.history_store.specs.Private.Reading.{rows_of, Early}

-- The meters of making an empty store: it requests no bytes, asks for the length at most twice, and
-- makes nine changing calls.
pub record IsMeteredStart {T : Type 0} (result : Result T Refusal) (old new : DiskView)
    : Type 0 where
  pub counts : Calls (Counts result) Stays (AtMost 11) old new
  pub looked : IfErr result (λ e. e ≢ refusals.DiskFault → new.other_calls ≤ old.other_calls + 2)
  pub calls : old.is_honest → MakesCalls result 9 old.moments new.moments

-- The meters of comparing a release with the rows that an index lists: whatever the result, each of
-- these rows whose key is in the release is read at most once, and no other row. If a file isn't a
-- valid release file, nothing is read.
pub record IsMeteredComparison {T : Type 0} (result : Result T ImportFault) (release : Release)
    (places : List (List RowPlace)) (pin : ℕ) (cost : RowValue → ℕ) (old new : ReaderView)
    : Type 0 where
  pub work : Lists places old.lists → Early pin old.lists → (rows : List RowValue)
      → IsReleaseOf release rows
      → new.work ≤ old.work + sum_by cost (already_known (rows_of old.lists) rows)
  pub work_unread : (IsRead release → ⊥) → new.work ≤ old.work
  pub disk_faults : CountsFault CountsAnyDiskFault result old.disk_faults new.disk_faults
  pub damages : CountsFault CountsAnyDamage result old.damages new.damages
