-- Laws of every life of a store, on an honest disk.
use Rattle.std.specs.Prelude.{◌≡◌, ◌⊎◌, ℕ, ◌++◌, ◌+◌, ◌≤◌, List, [], ◌∷◌, length, map, Option}
use Rattle.std.specs.Prelude.{None, Result, Ok, IfOk, MatchResult}
use Rattle.std.specs.Option.{option_to_list}
use Rattle.disk_model.specs.Disk.{EachImage, Moments}
use Rattle.history_model.specs.History.{History, IsHistory, rows_at}
use Rattle.history_model.specs.Brought.{brought_by}
use Rattle.history_model.specs.declared.receipt.Receipt.{Receipt}
use Rattle.import_check.specs.declared.release.Release.{Release}
use Rattle.directory.specs.declared.layout.Layout.{Layout}
use Rattle.store_image.specs.Images.{RepresentsHistory}
use Rattle.history_store.specs.declared.refusal.Refusal.{Refusal}
use Rattle.history_store.specs.declared.refusal.Refusal.TheVariants as store
use Rattle.history_store.specs.StoreValue.{StoreValue, IsAcknowledged}
use Rattle.history_store.specs.Answers.{IsImportOf, IsOpeningOf, StoreOr, disk_of}
use Rattle.history_store.specs.Checking.{HasFailed}
use Rattle.history_store.specs.Openings.{IsMaking, IsOpening}
use Rattle.disk_model.specs.View.{DiskView}
use Rattle.store_life.specs.Life.{Call, TakesAll, CrashLeaves, HasCrashed, Event, Called, Crashed}
use Rattle.store_life.specs.Life.{IsOpenedFrom, OpeningLeaves, IsEvent, IsLife, AreKept}
use Rattle.store_life.specs.Life.{IsSubsequence, acknowledged, crashes}

-- ---- events

-- a life may begin with a store that was made or opened on an honest disk
abbrev pub EachLifeBegins : (D : Type 0) → (D → DiskView) → Type 0
EachLifeBegins D view = (disk : D) (layout : Layout) (result : StoreOr D)
    → (view disk).is_honest
    → (IsMaking layout result view disk
    ⊎ IsOpening result view disk)
    → IfOk result (λ s. (view s.disk).is_honest × IsAcknowledged view s)

-- An opening of an honest disk is one of the openings that the definition of a life has: a store
-- that is opened is the one in the bytes that a read returns; and whatever the result, if a crash
-- before the opening leaves what a read returns, a crash within it leaves what it might have left
-- before.
abbrev pub EachOpeningIsOfALife : (D : Type 0) → (D → DiskView) → Type 0
EachOpeningIsOfALife D view =
    (disk : D) (result : StoreOr D) → (view disk).is_honest
    → IsOpening result view disk
    → IfOk result (IsOpenedFrom view (view disk).moments.state.now disk)
    × ((moment : Moments) (left : List ℕ)
    → EachImage (view disk).moments.state (λ c. c ≡ (view disk).moments.state.now)
    → CrashLeaves (view disk).moments (view (disk_of result)).moments moment left
    → OpeningLeaves view (view disk).moments.state.now disk (disk_of result) left)

-- Closing a store, and opening it again from its disk without a crash in between, is an event of a
-- life. If no call had failed, history, layout, epoch and entries are the same, and no merge is in
-- progress: by `Store::close · disk, stands` the store was acknowledged then.
abbrev pub ClosedStoreIsOpened : (D : Type 0) → (D → DiskView) → Type 0
ClosedStoreIsOpened D view = (old new : StoreValue D) → (view old.disk).is_honest
    → IsOpening (Ok new) view old.disk
    → IsEvent view old (Crashed None) new
    × (IsAcknowledged view old → (new.history ≡ old.history)
    × (new.catalog ≡ record old.catalog { merge = None }))

-- a run of events followed by another is one run of all these events
abbrev pub LivesCompose : (D : Type 0) → (D → DiskView) → Type 0
LivesCompose D view = (first mid last : StoreValue D) (events more : List Event)
    → IsLife view first events mid → IsLife view mid more last
    → IsLife view first (events ++ more) last

-- A crash at a moment while calls are made, one after the other, comes between two of them or
-- interrupts one, at that moment: those before it were made, and those after it weren't.
abbrev pub EachCrashIsOfALife : (D : Type 0) → (D → DiskView) → Type 0
EachCrashIsOfALife D view = (first last : StoreValue D) (calls : List Call) (moment : Moments)
    (bytes : List ℕ) → (view first.disk).is_honest → IsAcknowledged view first
    → IsLife view first (map Called calls) last
    → CrashLeaves (view first.disk).moments (view last.disk).moments moment bytes
    → (before : List Call) × (within : Option Call) × (behind : List Call) × (mid : StoreValue D)
    × (calls ≡ before ++ option_to_list within ++ behind)
    × IsLife view first (map Called before) mid × HasCrashed view mid within moment bytes

-- ---- what a life preserves

-- what an acknowledged store holds is a history
abbrev pub WhatIsHeldIsAHistory : (D : Type 0) → (D → DiskView) → Type 0
WhatIsHeldIsAHistory D view = (s : StoreValue D) → (view s.disk).is_honest → IsAcknowledged view s
    → IsHistory s.history

-- Over any number of calls, crashes and openings the history is the one from the beginning with
-- each release whose import was acknowledged, in order, and with at most one other for each crash.
abbrev pub EachLifeKeepsItsImports : (D : Type 0) → (D → DiskView) → Type 0
EachLifeKeepsItsImports D view = (first last : StoreValue D) (events : List Event)
    → (view first.disk).is_honest → IsAcknowledged view first
    → IsLife view first events last
    → (releases : List Release) × AreKept None events releases
    × TakesAll first.history releases last.history

-- Among the releases that a life keeps are all whose import was acknowledged, in order, and there
-- is at most one other for each crash.
abbrev pub KeptAreAcknowledged : Type 0
KeptAreAcknowledged = (events : List Event) (releases : List Release)
    → AreKept None events releases
    → IsSubsequence (acknowledged events) releases
    × (length releases ≤ length (acknowledged events) + crashes events)

-- Over any number of calls, crashes and openings, every image that the next crash may leave
-- represents the history from the beginning with the releases that the life keeps.
abbrev pub EachLifeIsRepresented : (D : Type 0) → (D → DiskView) → Type 0
EachLifeIsRepresented D view = (first last : StoreValue D) (events : List Event)
    (within : Option Call) (moment : Moments) (bytes : List ℕ)
    → (view first.disk).is_honest → IsAcknowledged view first
    → IsLife view first events last → HasCrashed view last within moment bytes
    → (releases : List Release) × (after : History)
    × AreKept None (events ++ Crashed within ∷ []) releases
    × TakesAll first.history releases after × RepresentsHistory after bytes

-- And it is opened with that history, unless memory runs out during the opening or the disk fails.
abbrev pub EachLifeIsOpened : (D : Type 0) → (D → DiskView) → Type 0
EachLifeIsOpened D view = (first last : StoreValue D) (events : List Event)
    (within : Option Call) (moment : Moments) (bytes : List ℕ) (result : StoreOr D)
    → (view first.disk).is_honest → IsAcknowledged view first
    → IsLife view first events last
    → HasCrashed view last within moment bytes → IsOpeningOf result bytes
    → MatchResult result
    (λ s. (releases : List Release) × AreKept None (events ++ Crashed within ∷ []) releases
    × TakesAll first.history releases s.history)
    (λ e. (e.0 ≡ store.OutOfMemory) ⊎ (e.0 ≡ store.DiskFault))

-- the histories agree up to import number `pin`
abbrev pub AgreeUpTo : ℕ → History → History → Type 0
AgreeUpTo pin h g = rows_at pin h.rows ≡ rows_at pin g.rows

-- the import brought the same rows to both histories
abbrev pub BroughtAlike : ℕ → History → History → Type 0
BroughtAlike number h g = brought_by number h.rows ≡ brought_by number g.rows

-- Over any number of calls, crashes and openings, the first `pin` imports still show what they
-- showed in the beginning, and each of them brought the same rows.
abbrev pub EachLifeKeepsItsPins : (D : Type 0) → (D → DiskView) → Type 0
EachLifeKeepsItsPins D view = (first last : StoreValue D) (events : List Event) (pin : ℕ)
    → (view first.disk).is_honest → IsAcknowledged view first
    → IsLife view first events last → pin ≤ first.history.imports
    → AgreeUpTo pin last.history first.history
    × ((number : ℕ) → number ≤ pin → BroughtAlike number last.history first.history)

-- ---- one import

-- An import of a release has the same result in two stores that are equal apart from their disks
-- and caches, and leaves them equal in this sense, unless memory runs out or the disk fails.
abbrev pub OneImport : Type 0 → Type 0
OneImport D = (release : Release) (result also : Result Receipt Refusal)
    (a b after next : StoreValue D) → b.history ≡ a.history → b.catalog ≡ a.catalog
    → b.needs_reopen ≡ a.needs_reopen → IsImportOf result a after release
    → IsImportOf also b next release → (HasFailed result → ⊥) → (HasFailed also → ⊥)
    → (result ≡ also) × (next.history ≡ after.history) × (next.catalog ≡ after.catalog)
    × (next.needs_reopen ≡ after.needs_reopen)
