-- The result of listing the contradictions of a release.
use Rattle.std.specs.Prelude.{◌≡◌, ◌⊎◌, ℕ, true, false, List, map, MatchResult}
use Rattle.std.specs.Prelude.{Option, MatchOption, Result, IfOk, IfErr}
use Rattle.disk_model.specs.View.{DiskView}
use Rattle.rf2_values.specs.declared.key.Key.{Key}
use Rattle.rf2_values.specs.Key.{key_of}
use Rattle.history_model.specs.declared.stamped.StampedRow.{StampedRow}
use Rattle.history_model.specs.InOrder.{Has}
use Rattle.history_model.specs.History.{full}
use Rattle.import_check.specs.declared.release.Release.{Release}
use Rattle.import_check.specs.declared.fault.ImportFault.{ImportFault}
use Rattle.import_check.specs.declared.contradicting.Contradictions.{Contradictions}
use Rattle.import_check.specs.Known.{IsUnknown}
use Rattle.import_check.specs.NewRows.{IsRead, IsRefusalByKey}
use Rattle.rf2_values.specs.Row.{RowValue}
use Rattle.import_check.specs.Contradictions.{AreContradictionsOf, ArePossibleContradictions}
use Rattle.import_check.specs.Contradictions.{IsNotListed}
use Rattle.history_store.specs.declared.refusal.Refusal.{Refusal}
use Rattle.history_store.specs.declared.refusal.Refusal.TheVariants as refusals
use Rattle.history_store.specs.Refusals.{refusal_of}
use Rattle.history_store.specs.Stored.{IsStored}
use Rattle.history_store.specs.StoreValue.{StoreValue, IsAcknowledged}
use Rattle.history_store.specs.Meters.{IsMeteredReading}
use Rattle.history_store.specs.Answers.{IsRefused, IsStill}

-- the number of the import that brought the row with this key; none if no row has the key
abbrev pub IsBroughtBy : List StampedRow → Key → Option ℕ → Type 0
IsBroughtBy rows key number = MatchOption number (IsUnknown (map (λ s. s.row) rows) key)
    (λ n. (s : StampedRow) × Has rows s × (key_of s.row ≡ key) × (s.import ≡ n))

-- The refusal's reason is one for which contradictions are not listed. On every disk a row can't be
-- read only if a line of the release has the key of a stored one.
abbrev pub IsUnlisted : (honest : Type 0) → List RowValue → (may_be : RowValue → Type 0) → Refusal
    → Release → Type 0
IsUnlisted honest known may_be e release = (fault : ImportFault) × (e ≡ refusal_of fault)
    × IsNotListed honest release fault × IsRefusalByKey known may_be release fault

-- The contradictions of a release were listed, unless the store has to be opened again, a file
-- isn't a valid release file, or a row can't be read. On every disk each listed line is one of the
-- release, and the other row is stored or on an earlier line. Whatever the result, history and
-- catalog are unchanged, and only a disk failure closes the store. A store that has to be opened
-- again is left unchanged. As long as no call has failed, what a crash may leave represents what
-- the store holds. Only reads are made.
pub record IsListing {D : Type 0} (result : Result Contradictions Refusal) (release : Release)
    (limit : ℕ) (view : D → DiskView) (old new : StoreValue D) : Type 0 where
  pub found : (view old.disk).is_honest
      → IfOk result (AreContradictionsOf (full old.history) release limit)
  pub compared : IfOk result
      (ArePossibleContradictions (full old.history) (IsStored view old) release limit)
  pub read : IfOk result (λ found. IsRead release)
  pub refused : IfErr result
      (λ e. ((e ≡ refusals.ReopenNeeded) × (old.needs_reopen ≡ true))
      ⊎ ((old.needs_reopen ≡ false) × IsUnlisted (view old.disk).is_honest (full old.history)
      (IsStored view old) e release))
  pub left : MatchResult result (λ found. IsStill old new) (λ e. IsRefused e old new)
  pub closed : old.needs_reopen ≡ true → new ≡ old
  pub acknowledged : (view old.disk).is_honest → new.needs_reopen ≡ false → IsAcknowledged view new
  pub meters : IsMeteredReading result release view old new
