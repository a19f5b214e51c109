-- Questions of a comparison with a Snapshot, and how it ends.
use Rattle.std.proofs.Common.{◌≡◌, ◌≢◌, ◌↔◌, ◌<◌, ◌++◌, ℕ, Bool, true, false, List, [], ◌∷◌, length, Result, Ok, Err, inl, inr, refl, sym, ap, subst, ◌∙◌, arith, length-append}
use Rattle.std.specs.Prelude.{Option, Some, None, option_to_list, IsSome}
use Rattle.std.specs.List.{AllZip}
use Rattle.std.proofs.lemmas.Bool.{false≢true}
use Rattle.std.specs.Io.KnownBytes.{Appends}
use Rattle.rf2_values.specs.Row.{RowValue}
use Rattle.disk_model.specs.View.{DiskView}
use Rattle.fault_counts.specs.declared.fault.ReadFault.{ReadFault}
use Rattle.fault_counts.specs.declared.fault.ReadFault.TheVariants as readfault
use Rattle.history_model.specs.History.{rows_at}
use Rattle.history_store.specs.declared.refusal.Refusal.{Refusal}
use Rattle.history_store.specs.declared.refusal.Refusal.TheVariants as refusals
use Rattle.history_store.specs.StoreValue.{StoreValue}
use Rattle.history_store.specs.Answers.{IsReadRefusal, CountsRefusal}
use Rattle.history_store.specs.Queries.{IsRowsQueryBy, IsStoredFor}
use Rattle.snapshot_check.specs.declared.fault.PackageFault.{PackageFault}
use Rattle.snapshot_check.specs.declared.fault.PackageFault.TheVariants as packagefault
use Rattle.snapshot_check.specs.declared.fault.CompareFault.{CompareFault}
use Rattle.snapshot_check.specs.declared.fault.CompareFault.TheVariants as comparefault
use Rattle.snapshot_check.specs.Reading.{IsReadOf, IsFailure}
use Rattle.line_server.specs.declared.serving.ServeFault.{ServeFault}
use Rattle.line_server.specs.ReplyValue.{Answer, reply_value, bytes_of}
use Rattle.line_server.specs.Streams.{AppendsSome}
use Rattle.command_line.specs.declared.endings.Ending.{Ending}
use Rattle.command_line.specs.declared.endings.Ending.TheVariants as endings
use Rattle.command_line.specs.Endings.{Report, IsTold, IsWritten}
use Rattle.command_line.specs.OnlyRead.{IsOnlyRead}
use Rattle.command_line.specs.Verifying.{MayBeReadFor, IsNotCompared}
use Rattle.command_line.specs.Private.Verifying.{OnlyAsked, HasFailed, IsReadFailure, IsAsked, read_fault_of, refusal_for, IsToldOr}
use Rattle.command_line.proofs.OnlyRead.{queried}

first_same : (x w : RowValue) (xs ws : List RowValue) → x ∷ xs ≡ w ∷ ws → x ≡ w
first_same x w xs ws same = cc

rest_same : (x w : RowValue) (xs ws : List RowValue) → x ∷ xs ≡ w ∷ ws → xs ≡ ws
rest_same x w xs ws same = cc

-- ---- a list of one row at most

-- the last one of the rows that were returned for one, or for none
pub popped : (R : RowValue → RowValue → Type 0) (read rest : List RowValue) (last wanted : Option RowValue) → read ≡ rest ++ option_to_list last → (IsSome last ↔ (0 < length read)) → AllZip R read (option_to_list wanted) → IsReadOf R wanted last
popped R [] rest None None is there zip = tt
popped R [] rest (Some y) None is there zip = let some = there.0 refl in absurd (omega (arith, some))
popped R (x ∷ xs) rest last None is there zip = absurd zip
popped R [] rest last (Some w) is there zip = absurd zip
popped R (x ∷ []) rest None (Some w) is there zip = absurd (false≢true (there.1 (omega arith)))
popped R (x ∷ []) [] (Some y) (Some w) is there zip = let same : x ≡ y = cc in subst (λ r. R r w) same zip.0
popped R (x ∷ []) (z ∷ zs) (Some y) (Some w) is there zip =
    let long = ap length is in let more = length-append zs (y ∷ []) in absurd (omega (arith, long, more))
popped R (x ∷ x' ∷ xs) rest last (Some w) is there zip = absurd zip.1

-- what calls keep whether they are answered or fail
pub kept_failing : {K : Type 0} (faulty : PackageFault → Type 0) (Stays : Type 0) (Fails : ReadFault → Type 0) → (Stays → K) → ((e : ReadFault) → Fails e → K) → (fault : CompareFault) → IsFailure faulty Stays Fails fault → K
kept_failing faulty Stays Fails stays fails comparefault.OutOfMemory how = stays how
kept_failing faulty Stays Fails stays fails (comparefault.Package fault) how = stays how.1
kept_failing faulty Stays Fails stays fails (comparefault.Shown e) how = fails e how

module _ {D : Type 0} (view : D → DiskView) where
  -- ---- questions

  may_be : (store : StoreValue D) (read wanted : List RowValue) → AllZip (IsStoredFor view store) read wanted → ((view store.disk).is_honest → read ≡ wanted) → AllZip (MayBeReadFor view store) read wanted
  may_be store [] [] zip same = tt
  may_be store [] (w ∷ ws) zip same = absurd zip
  may_be store (x ∷ xs) [] zip same = absurd zip
  may_be store (x ∷ xs) (w ∷ ws) zip same = (
    record { stored = zip.0; exact = λ honest. first_same x w xs ws (same honest) },
    may_be store xs ws zip.1 (λ honest. rest_same x w xs ws (same honest)),
  )

  failure_of : (e : Refusal) (old new : StoreValue D) → IsReadRefusal e old → ((view old.disk).is_honest → e ≢ refusals.Damaged) → CountsRefusal e (view old.disk).failures (view new.disk).failures → IsReadFailure view (read_fault_of e) old new
  failure_of refusals.OutOfMemory old new read undamaged counts = tt
  failure_of refusals.DiskFault old new read undamaged counts = λ is_open. counts
  failure_of refusals.Damaged old new read undamaged counts = λ honest. undamaged honest refl
  failure_of refusals.ReopenNeeded old new read undamaged counts = λ is_open. absurd (false≢true (sym is_open ∙ read))
  failure_of _ old new read undamaged counts = absurd read

  pub answered : {T : Type 0} (order : Bool) (rows_of : T → List RowValue) (wanted : List RowValue → List RowValue) (x : T) (old new : StoreValue D) → order ≡ false → IsRowsQueryBy order (Ok x) rows_of wanted old.history.imports view old new → IsAsked view wanted (Ok x) rows_of old new
  answered {T = T} order rows_of wanted x old new plain was =
      let asked = subst (λ (o : Bool). IsRowsQueryBy {T = T} {D = D} o (Ok x) rows_of wanted old.history.imports view old new) plain was in record {
        found = may_be old (rows_of x) (wanted (rows_at old.history.imports old.history.rows)) asked.stored asked.found;
        stays = record {
          only = queried view (Ok x) old new asked.query;
          history = asked.query.read.history;
          open_still = asked.query.read.open_still ∙ sym asked.query.read.open_before;
          steady = asked.steady;
        };
        fails = tt;
      }

  pub refused : {T : Type 0} (order : Bool) (rows_of : T → List RowValue) (wanted : List RowValue → List RowValue) (e : Refusal) (old new : StoreValue D) → IsRowsQueryBy order (Err e) rows_of wanted old.history.imports view old new → IsAsked view wanted (Err (read_fault_of e)) rows_of old new
  refused {T = T} order rows_of wanted e old new asked = record {
    found = tt;
    stays = tt;
    fails = record {
      only = queried view (Err e) old new asked.query;
      cause = failure_of e old new asked.query.read.0 asked.query.undamaged asked.query.failures;
    };
  }

  -- ---- how a comparison ends

  module _ (old new : StoreValue D) (faulty : PackageFault → Type 0) (Stays : Type 0) (Fails : ReadFault → Type 0) (asked : Stays → OnlyAsked view old new) (failed : (e : ReadFault) → Fails e → HasFailed view e old new) where
    pub only_read_failing : (fault : CompareFault) → IsFailure faulty Stays Fails fault → IsOnlyRead view old.disk new.disk
    only_read_failing comparefault.OutOfMemory how = (asked how).only
    only_read_failing (comparefault.Package fault) how = (asked how.1).only
    only_read_failing (comparefault.Shown fault) how = (failed fault how).only

    not_read : (fault : ReadFault) → old.needs_reopen ≡ false → IsReadFailure view fault old new → IsNotCompared view old.disk new.disk (refusal_for (comparefault.Shown fault))
    not_read readfault.OutOfMemory is_open cause = tt
    not_read readfault.DiskFault is_open cause = cause is_open
    not_read readfault.Damaged is_open cause = cause

    pub not_compared : (fault : CompareFault) → old.needs_reopen ≡ false → IsFailure faulty Stays Fails fault → IsNotCompared view old.disk new.disk (refusal_for fault)
    not_compared comparefault.OutOfMemory is_open how = tt
    not_compared (comparefault.Package packagefault.OutOfMemory) is_open how = tt
    not_compared (comparefault.Package packagefault.NoFolder) is_open how = tt
    not_compared (comparefault.Package (packagefault.Row file number fault)) is_open how = tt
    not_compared (comparefault.Shown fault) is_open how = not_read fault is_open (failed fault how).cause

-- ---- what is told

-- a line that is the reply of an answer
pub written_answer : (result : Result Ending ServeFault) (old new : Option (List ℕ)) (bytes : List ℕ) (answer : Answer) → bytes ≡ bytes_of (reply_value (Ok answer)) → IsWritten endings.Done bytes result old new → IsTold result (Ok answer) old new
written_answer (Ok endings.Done) old new bytes answer is written = (refl, subst (λ (b : List ℕ). Appends old new b) is written.1)
written_answer (Ok (endings.Refused refusal)) old new bytes answer is written = absurd (let e = written.0 in cc)
written_answer (Ok endings.Differs) old new bytes answer is written = absurd (let e = written.0 in cc)
written_answer (Err fault) old new bytes answer is written = (written.0, subst (λ (b : List ℕ). AppendsSome old new b) is written.1)

pub told_or_weaker : (P Q : Report → Type 0) (report : Report) → (P report → Q report) → IsToldOr P report → IsToldOr Q report
told_or_weaker P Q report weaker (inl told) = inl (weaker told)
told_or_weaker P Q report weaker (inr told) = inr told
