-- The results of the calls of a merge, and the store after them.
use Rattle.std.specs.Prelude.{◌≡◌, ℕ, ◌<◌, ◌≤◌, true, false, List, length, None, Result, Ok, Err}
use Rattle.directory.specs.declared.entry.Entry.{Entry}
use Rattle.history_store.specs.declared.refusal.Refusal.{Refusal}
use Rattle.history_store.specs.declared.refusal.Refusal.TheVariants as refusals
use Rattle.history_store.specs.Catalog.{Catalog}
use Rattle.history_store.specs.StoreValue.{StoreValue, last_epoch}
use Rattle.history_store.specs.Answers.{IsRefused, IsRefusedFor}
use Rattle.history_store.specs.Merging.{IsBegun, IsStepped, HasNoOutput, GoesOn, IsUnfinished}
use Rattle.history_store.specs.Merging.{IsFinished, IsPublished}

-- a call that succeeds leaves the history unchanged and the store open
pub record IsDone {D : Type 0} (old new : StoreValue D) : Type 0 where
  pub history : new.history ≡ old.history
  pub was_open : old.needs_reopen ≡ false
  pub open_still : new.needs_reopen ≡ false

-- why no merge of these segments begins
abbrev pub IsUnbegun : Refusal → List Entry → Type 0
IsUnbegun refusals.NothingToMerge entries = length entries < 2
IsUnbegun refusals.Full entries = HasNoOutput entries
IsUnbegun _ entries = ⊥

-- why a merge isn't begun
abbrev pub IsNotBegun : Catalog → Refusal → Type 0
IsNotBegun catalog refusals.MergeBusy = GoesOn catalog
IsNotBegun catalog e = (catalog.merge ≡ None) × IsUnbegun e catalog.entries

-- the result of beginning a merge, and the store after it
abbrev pub IsBeginningOf : {D : Type 0} → Result ℕ Refusal → StoreValue D → StoreValue D → Type 0
IsBeginningOf (Ok left) old new = IsBegun old.catalog new.catalog left × IsDone old new
IsBeginningOf (Err e) old new = IsRefusedFor (IsNotBegun old.catalog) e old × IsRefused e old new

-- why a step is refused: for lack of memory, a disk failure or damage only if there are rows to
-- merge
abbrev pub IsNotStepped : ℕ → Catalog → Refusal → Type 0
IsNotStepped n catalog refusals.NoMerge = catalog.merge ≡ None
IsNotStepped n catalog refusals.OutOfMemory = IsUnfinished catalog × (1 ≤ n)
IsNotStepped n catalog refusals.DiskFault = IsUnfinished catalog × (1 ≤ n)
IsNotStepped n catalog refusals.Damaged = IsUnfinished catalog × (1 ≤ n)
IsNotStepped n catalog _ = ⊥

-- the result of a step of a merge, and the store after it
abbrev pub IsSteppingOf : {D : Type 0} → Result ℕ Refusal → StoreValue D → StoreValue D → ℕ → Type 0
IsSteppingOf (Ok left) old new n = IsStepped n old.catalog new.catalog left × IsDone old new
IsSteppingOf (Err e) old new n =
    IsRefusedFor (IsNotStepped n old.catalog) e old × IsRefused e old new

-- why a merge isn't published
abbrev pub IsNotPublished : Catalog → Refusal → Type 0
IsNotPublished catalog refusals.NoMerge = catalog.merge ≡ None
IsNotPublished catalog refusals.MergeUnfinished = IsUnfinished catalog
IsNotPublished catalog refusals.CountSpent = IsFinished catalog × (catalog.epoch ≡ last_epoch)
IsNotPublished catalog refusals.DiskFault = IsFinished catalog × (catalog.epoch < last_epoch)
IsNotPublished catalog _ = ⊥

-- the result of publishing a merge, and the store after it, which has as many imports as before
abbrev pub IsPublishingOf : {D : Type 0} → Result (Unit {0}) Refusal → StoreValue D → StoreValue D
    → Type 0
IsPublishingOf (Ok done) old new =
    IsPublished old.catalog new.catalog × (new.history.imports ≡ old.history.imports)
    × (old.needs_reopen ≡ false) × (new.needs_reopen ≡ false)
IsPublishingOf (Err e) old new =
    IsRefusedFor (IsNotPublished old.catalog) e old × IsRefused e old new

-- why a merge isn't abandoned
abbrev pub IsNotAbandoned : Catalog → Refusal → Type 0
IsNotAbandoned catalog refusals.NoMerge = catalog.merge ≡ None
IsNotAbandoned catalog _ = ⊥

-- the result of abandoning a merge, and the store after it
abbrev pub IsAbandoningOf : {D : Type 0} → Result (Unit {0}) Refusal → StoreValue D → StoreValue D
    → Type 0
IsAbandoningOf (Ok done) old new =
    GoesOn old.catalog × (new.catalog ≡ record old.catalog { merge = None }) × IsDone old new
IsAbandoningOf (Err e) old new =
    IsRefusedFor (IsNotAbandoned old.catalog) e old × IsRefused e old new

-- why `trim` is refused
abbrev pub IsNotTrimmed : {D : Type 0} → Refusal → StoreValue D → Type 0
IsNotTrimmed refusals.ReopenNeeded s = s.needs_reopen ≡ true
IsNotTrimmed refusals.DiskFault s = s.needs_reopen ≡ false
IsNotTrimmed _ s = ⊥

-- the result of trimming, and the store after it
abbrev pub IsTrimmingOf : {D : Type 0} → Result ℕ Refusal → StoreValue D → StoreValue D → Type 0
IsTrimmingOf (Ok bytes) old new = (new.catalog ≡ old.catalog) × IsDone old new
IsTrimmingOf (Err e) old new = IsNotTrimmed e old × IsRefused e old new
