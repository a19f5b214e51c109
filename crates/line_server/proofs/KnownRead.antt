-- What is read of the rows whose keys are in a release, and what they are compared with.
use Rattle.std.proofs.Common.{◌≡◌, ℕ, List, Result, Ok, Err, Some, sym, arith}
use Rattle.list_lemmas.proofs.Tests.{one_value}
use Rattle.disk_model.specs.View.{DiskView}
use Rattle.import_check.specs.declared.release.Release.{Release}
use Rattle.import_check.specs.Release.{files_of}
use Rattle.rf2_values.specs.Row.{RowValue}
use Rattle.history_model.specs.History.{full}
use Rattle.history_store.specs.declared.refusal.Refusal.{Refusal}
use Rattle.history_store.specs.declared.refusal.Refusal.TheVariants as store
use Rattle.history_store.specs.Answers.{IsRefusedFor, IsNotTakenByKey}
use Rattle.history_store.specs.Stored.{IsStored}
use Rattle.line_server.specs.declared.refusal.LineRefusal.{LineRefusal}
use Rattle.line_server.specs.declared.refusal.LineRefusal.TheVariants as refusals
use Rattle.line_server.specs.ReplyValue.{Answer}
use Rattle.history_store.specs.StoreValue.{StoreValue}
use Rattle.store_life.proofs.AlikeReleases.{release_alike, read_alike, brought_alike, possible_alike}
use Rattle.line_server.specs.Sources.{Releases}
use Rattle.history_store.specs.Meters.{ReadsKnown}
use Rattle.history_store.specs.Prepared.{scope_of}
use Rattle.line_server.specs.Turns.{ReadsKnownOf, IsComparedWith, ComparesStored}

-- a line that is refused as a contradiction
pub refused_compared : {D : Type 0} (may_be : RowValue → Type 0) (Writes : Type 0) (s : StoreValue D) (release : Release) (e : Refusal) → IsRefusedFor (IsNotTakenByKey may_be Writes s.history s.catalog release) e s
    → IsComparedWith (full s.history) may_be release (Err (refusals.Store e))
refused_compared may_be Writes s release (store.Contradiction file line) why = why.1.1
refused_compared may_be Writes s release _ why = tt

module _ (known : List RowValue) (may_be : RowValue → Type 0) (release other : Release) (same : files_of release ≡ files_of other) where
  compared_alike : (outcome : Result Answer LineRefusal) → IsComparedWith known may_be release outcome → IsComparedWith known may_be other outcome
  compared_alike (Ok answer) is = (is.0, brought_alike release other same is.1)
  compared_alike (Err (refusals.Store (store.Contradiction file line))) is = (is.0, possible_alike release other same is.1)
  compared_alike _ is = tt

module _ {D : Type 0} (view : D → DiskView) where
  -- nothing was read
  pub none_known : (releases : Releases) (name : List ℕ) (besides : ℕ) (s : StoreValue D) → ReadsKnownOf view releases name besides s s
  none_known releases name besides s release has = record { bytes_read = λ rows is. omega arith; bytes_unread = λ unread. omega arith }

  -- what holds for a release holds for each with the same files
  pub known_of : (besides : ℕ) (old new : StoreValue D) (release : Release) (releases : Releases) (name : List ℕ) → releases (scope_of old.catalog) name ≡ Some (files_of release) → ReadsKnown view besides release old new
      → ReadsKnownOf view releases name besides old new
  known_of besides old new release releases name has reads other also =
      let same : files_of other ≡ files_of release = one_value (releases (scope_of old.catalog) name) (files_of other) (files_of release) also has in
      record {
        bytes_read = λ rows is. reads.bytes_read rows (release_alike other release same is);
        bytes_unread = λ unread. reads.bytes_unread (λ is. unread (read_alike release other (sym same) is));
      }

  pub compares_of : (old : StoreValue D) (release : Release) (releases : Releases) (name : List ℕ) (outcome : Result Answer LineRefusal) → releases (scope_of old.catalog) name ≡ Some (files_of release) → IsComparedWith (full old.history) (IsStored view old) release outcome
      → ComparesStored view releases name outcome old
  compares_of old release releases name outcome has is other also =
      compared_alike (full old.history) (IsStored view old) release other (one_value (releases (scope_of old.catalog) name) (files_of release) (files_of other) has also) outcome is
