-- Merging the segments of a store, by calls on it.
use Rattle.std.specs.Prelude.{◌≡◌, ◌≢◌, ℕ, ◌<◌, ◌≤◌, List, [], ◌∷◌, length, min, take}
use Rattle.std.specs.Prelude.{Option, Some, None, option_map, unwrap_or, Result, Ok, Err}
use Rattle.std.specs.Prelude.{IfErr, OnOk}
use Rattle.std.specs.Result.{result_err}
use Rattle.disk_model.specs.View.{DiskView, AtMost, Calls, Stays}
use Rattle.history_store.specs.declared.refusal.Refusal.{Refusal}
use Rattle.history_store.specs.declared.refusal.Refusal.TheVariants as refusals
use Rattle.history_store.specs.StoreValue.{StoreValue}
use Rattle.history_store.specs.Answers.{Counts, KeepsMoments}
use Rattle.history_store.specs.MergeAnswers.{IsBeginningOf, IsSteppingOf, IsPublishingOf}
use Rattle.history_store.specs.MergeAnswers.{IsTrimmingOf}
use Rattle.history_store.specs.Merging.{step_cost, trimmed_len}
use Rattle.history_store.specs.Queries.{StepsThroughCache}
use Rattle.store_life.specs.Life.{IsCall, Other}
use Rattle.line_server.specs.declared.refusal.LineRefusal.{LineRefusal}
use Rattle.line_server.specs.declared.refusal.LineRefusal.TheVariants.{Store}
use Rattle.line_server.specs.ReplyValue.{Answer, Done as AllDone}
use Rattle.line_server.specs.Replies.{status_of}
use Rattle.command_line.specs.Endings.{Report, Tells}

-- a call that merges, or the one that trims, with its result; a step merges 100,000 rows
pub data MergeCall : Type 0 where
  Begin : Result ℕ Refusal → MergeCall
  Step : Result ℕ Refusal → MergeCall
  Publish : Result (Unit {0}) Refusal → MergeCall
  Trim : Result ℕ Refusal → MergeCall

-- why the call was refused, if it was
abbrev pub refusal_of : MergeCall → Option Refusal
refusal_of (Begin result) = result_err result
refusal_of (Step result) = result_err result
refusal_of (Publish result) = result_err result
refusal_of (Trim result) = result_err result

-- the result of the call, and the store after it; on an honest disk no step finds damage
abbrev pub HasAnswer : {D : Type 0} → (D → DiskView) → MergeCall → StoreValue D → StoreValue D
    → Type 0
HasAnswer view (Begin result) old new = IsBeginningOf result old new
HasAnswer view (Step result) old new = IsSteppingOf result old new 100000
    × ((view old.disk).is_honest → IfErr result (λ e. e ≢ refusals.Damaged))
HasAnswer view (Publish result) old new = IsPublishingOf result old new
HasAnswer view (Trim result) old new = IsTrimmingOf result old new

-- what the call does with the disk, as the line of a session does that makes the same call
abbrev pub UsesDisk : {D : Type 0} → (D → DiskView) → MergeCall → StoreValue D → StoreValue D
    → Type 0
UsesDisk view (Begin result) old new = new.disk ≡ old.disk
UsesDisk view (Step result) old new =
    ((view old.disk).is_honest → KeepsMoments view result old new)
    × StepsThroughCache view old new
    × Calls (Counts result) (AtMost (step_cost 100000 old.catalog.merge)) (AtMost 1)
    (view old.disk) (view new.disk)
UsesDisk view (Publish result) old new =
    ((view old.disk).is_honest → KeepsMoments view result old new)
    × Calls (Counts result) (AtMost 1) (AtMost 7) (view old.disk) (view new.disk)
UsesDisk view (Trim result) old new =
    ((view old.disk).is_honest
    → OnOk result ((view new.disk).moments.state.now ≡ take (trimmed_len old.catalog)
    (view old.disk).moments.state.now))
    × Calls (Counts result) Stays (AtMost 3) (view old.disk) (view new.disk)

-- the call was made on the store
pub record IsMergeCall {D : Type 0} (view : D → DiskView) (call : MergeCall)
    (old new : StoreValue D) : Type 0 where
  pub answer : HasAnswer view call old new
  pub disk : UsesDisk view call old new
  -- the history is unchanged, and a crash at any moment leaves it
  pub life : IsCall view old Other new

-- how many segments the store has
abbrev pub segments_of : {D : Type 0} → StoreValue D → ℕ
segments_of store = length store.catalog.entries

-- how many rows are left to the merge in progress; 0 without one
abbrev pub rows_left : {D : Type 0} → StoreValue D → ℕ
rows_left store = unwrap_or (option_map (λ merge. merge.left) store.catalog.merge) 0

-- The call is made while there are more segments than `most`, and a step only while rows are left.
-- The disk is trimmed once that many segments are left, or as many as the store had at first, and
-- no merge is in progress.
abbrev pub IsDue : {D : Type 0} → ℕ → MergeCall → (first now : StoreValue D) → Type 0
IsDue most (Step result) first now = (most < segments_of now) × (1 ≤ rows_left now)
IsDue most (Trim result) first now =
    (segments_of now ≡ min (segments_of first) most) × (now.catalog.merge ≡ None)
IsDue most call first now = most < segments_of now

-- calls were made one after the other, each when it was due, and none was refused
abbrev pub AreMade : {D : Type 0} → (D → DiskView) → ℕ → (first old : StoreValue D)
    → List MergeCall → StoreValue D → Type 0
AreMade view most first old [] new = new ≡ old
AreMade {D} view most first old (call ∷ calls) new =
    (mid : StoreValue D) × IsDue most call first old × (refusal_of call ≡ None)
    × IsMergeCall view call old mid × AreMade view most first mid calls new

-- Why merging ends early: because of memory, the disk, its bytes or its room, or the count of
-- publications.
abbrev pub IsHalt : Refusal → Type 0
IsHalt refusals.OutOfMemory = Unit {0}
IsHalt refusals.DiskFault = Unit {0}
IsHalt refusals.Full = Unit {0}
IsHalt refusals.Damaged = Unit {0}
IsHalt refusals.CountSpent = Unit {0}
IsHalt _ = ⊥

-- the last call trimmed the disk; or it was refused, for one of the reasons of `IsHalt`
abbrev pub EndsWith : ℕ → Result (Unit {0}) Refusal → MergeCall → Type 0
EndsWith most (Ok done) last = (bytes : ℕ) × (last ≡ Trim (Ok bytes))
EndsWith most (Err e) last = (refusal_of last ≡ Some e) × (1 ≤ most → IsHalt e)

-- calls were made, each when it was due, and of them only the last one may have been refused
pub record IsMergedTo {D : Type 0} (view : D → DiskView) (most : ℕ)
    (result : Result (Unit {0}) Refusal) (old new : StoreValue D) : Type 0 where
  pub calls : List MergeCall
  pub before : StoreValue D
  pub made : AreMade view most old old calls before
  pub last : MergeCall
  pub due : IsDue most last old before
  pub call : IsMergeCall view last before new
  pub ends : EndsWith most result last

-- the outcome of merging, as it is written: the status, or why a call was refused
abbrev pub merging_told : {D : Type 0} → Result (Unit {0}) Refusal → StoreValue D
    → Result Answer LineRefusal
merging_told (Ok done) store = Ok (AllDone (status_of store))
merging_told (Err e) store = Err (Store e)

-- the segments were merged, or that ended early, and the outcome was written
pub record IsMergeTold {D : Type 0} (view : D → DiskView) (most : ℕ) (store : StoreValue D)
    (left : D) (report : Report) : Type 0 where
  pub result : Result (Unit {0}) Refusal
  pub after : StoreValue D
  pub merged : IsMergedTo view most result store after
  pub told : Tells report (merging_told result after)
  pub left_so : left ≡ after.disk
  -- the contents of the store are unchanged
  pub history : after.history ≡ store.history
