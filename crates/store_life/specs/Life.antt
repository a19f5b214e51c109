-- The life of a store: calls on it, and crashes after which it is opened again.
use Rattle.std.specs.Prelude.{◌≡◌, ◌↔◌, ◌⊎◌, true, false, Bool, ℕ, ◌+◌, List, [], ◌∷◌, ◌++◌}
use Rattle.std.specs.Prelude.{Option, Some, None, Ok}
use Rattle.std.specs.Option.{option_or}
use Rattle.disk_model.specs.Disk.{DiskState, IsImage, EachImage, Moments, LeavesOnly}
use Rattle.history_model.specs.History.{History, after_release, full}
use Rattle.import_check.specs.declared.release.Release.{Release}
use Rattle.import_check.specs.Release.{IsAccepted}
use Rattle.directory.specs.declared.layout.Layout.{Layout}
use Rattle.store_image.specs.Images.{RepresentsHistory}
use Rattle.history_store.specs.StoreValue.{StoreValue, IsAcknowledged}
use Rattle.history_store.specs.Answers.{IsOpeningOf, RepresentsWith}
use Rattle.disk_model.specs.View.{DiskView}

-- ---- calls

-- How a call on a store changed its history: it imported a release, or the disk failed in the
-- import of one. Every other call leaves the history unchanged.
pub data Call : Type 0 where
  Imported : Release → Call
  Failed : Release → Call
  Other : Call

-- the releases that the call imported
abbrev pub taken : Call → List Release
taken (Imported release) = release ∷ []
taken (Failed release) = []
taken Other = []

-- the release in whose import the disk failed
abbrev pub failing : Call → Option Release
failing (Imported release) = None
failing (Failed release) = Some release
failing Other = None

-- the releases are accepted one after the other, and this is the history after them
abbrev pub TakesAll : History → List Release → History → Type 0
TakesAll h [] after = after ≡ h
TakesAll h (release ∷ releases) after =
    (accepted : IsAccepted (full h) release)
    × TakesAll (after_release h accepted.rows) releases after

-- whether the store has to be opened again after the call: not after an import, and always if the
-- disk failed in one
abbrev pub NeedsReopenAfter : Call → Bool → Type 0
NeedsReopenAfter (Imported release) needs_reopen = needs_reopen ≡ false
NeedsReopenAfter (Failed release) needs_reopen = needs_reopen ≡ true
NeedsReopenAfter Other needs_reopen = Unit {0}

-- the bytes represent the history with an accepted release, in some layout
abbrev pub RepresentsNext : History → Release → List ℕ → Type 0
RepresentsNext h release c = (layout : Layout) × RepresentsWith layout h release c

-- what a crash before, during or after the call may leave: the history from before, or the one with
-- the release of an import
abbrev pub RepresentsAround : History → Call → List ℕ → Type 0
RepresentsAround h (Imported release) c = RepresentsHistory h c ⊎ RepresentsNext h release c
RepresentsAround h (Failed release) c = RepresentsHistory h c ⊎ RepresentsNext h release c
RepresentsAround h Other c = RepresentsHistory h c

-- The call was made on the store.
pub record IsCall {D : Type 0} (view : D → DiskView)
    (old : StoreValue D) (call : Call) (new : StoreValue D) : Type 0 where
  -- on every disk if nothing was imported, and otherwise on an honest one
  pub history : (taken call ≡ []) ⊎ (view old.disk).is_honest
      → TakesAll old.history (taken call) new.history
  pub needs_reopen : NeedsReopenAfter call new.needs_reopen
  -- a store that has to be opened again is unchanged, and so is its disk
  pub closed : old.needs_reopen ≡ true → (new ≡ old) × (call ≡ Other)
  pub honesty : (view old.disk).is_honest ↔ (view new.disk).is_honest
  pub any_moment : (view old.disk).is_honest → IsAcknowledged view old
      → LeavesOnly (view old.disk).moments (view new.disk).moments
      (RepresentsAround old.history call)
  -- as long as no call has failed, a crash after this one leaves what the store holds
  pub acknowledged : (view old.disk).is_honest → IsAcknowledged view old
      → new.needs_reopen ≡ false → IsAcknowledged view new

-- ---- crashes

-- a crash at this moment, which is one from the old ones to the new ones, may leave these bytes
pub record CrashLeaves (old new moment : Moments) (bytes : List ℕ) : Type 0 where
  -- the states of the disk from old to the moment, and from there to new, the newest first
  pub before : List DiskState
  pub behind : List DiskState
  pub since : moment.state ∷ moment.past ≡ before ++ old.state ∷ old.past
  pub grows : new.state ∷ new.past ≡ behind ++ moment.state ∷ moment.past
  pub image : IsImage moment.state bytes

-- A crash at this moment between two calls may leave these bytes, or one before, during or after the
-- call, which is named by the result that it would have had.
abbrev pub HasCrashed : {D : Type 0} → (D → DiskView) → StoreValue D → Option Call → Moments
    → List ℕ → Type 0
HasCrashed view s None moment bytes =
    CrashLeaves (view s.disk).moments (view s.disk).moments moment bytes
HasCrashed {D} view s (Some call) moment bytes = (end : StoreValue D) × IsCall view s call end
    × CrashLeaves (view s.disk).moments (view end.disk).moments moment bytes

-- ---- openings

-- the store was opened from an honest disk, and a read of that returned these bytes
pub record IsOpenedFrom {D : Type 0} (view : D → DiskView) (bytes : List ℕ)
    (disk : D) (s : StoreValue D) : Type 0 where
  pub is_honest : (view disk).is_honest
  pub read : (view disk).moments.state.now ≡ bytes
  pub exact : IsOpeningOf (Ok s) (view disk).moments.state.now
  pub acknowledged : IsAcknowledged view s
  pub honesty : (view s.disk).is_honest

-- An opening of a disk with these bytes, which both a read and a crash give, was refused or
-- interrupted by a crash, and left the bytes `left`: at each moment of an opening a crash leaves
-- what it might have left before.
pub record OpeningLeaves {D : Type 0} (view : D → DiskView)
    (bytes : List ℕ) (disk after : D) (left : List ℕ) : Type 0 where
  pub is_honest : (view disk).is_honest
  pub read : (view disk).moments.state.now ≡ bytes
  pub crash : EachImage (view disk).moments.state (λ c. c ≡ bytes)
  pub any_moment : LeavesOnly (view disk).moments (view after).moments
      (IsImage (view disk).moments.state)
  pub moment : Moments
  pub is_left : CrashLeaves (view disk).moments (view after).moments moment left

-- A store was opened from the bytes, perhaps after openings that were refused or interrupted by a
-- crash. Of each of those the disk before and after it is given.
abbrev pub IsReopened : {D : Type 0} → (D → DiskView) → List ℕ → List (D × D)
    → StoreValue D → Type 0
IsReopened {D} view bytes [] s =
    (disk : D) × IsOpenedFrom view bytes disk s
IsReopened {D} view bytes (opening ∷ more) s =
    (left : List ℕ) × OpeningLeaves view bytes opening.0 opening.1 left
    × IsReopened view left more s

-- ---- lives

-- one event of a store's life: a call on it; or a crash, between two calls or during one, followed
-- by an opening
pub data Event : Type 0 where
  Called : Call → Event
  Crashed : Option Call → Event

abbrev pub IsEvent : {D : Type 0} → (D → DiskView) → StoreValue D → Event → StoreValue D → Type 0
IsEvent view old (Called call) new = IsCall view old call new
IsEvent {D} view old (Crashed within) new = (moment : Moments) × (bytes : List ℕ)
    × (openings : List (D × D)) × HasCrashed view old within moment bytes
    × IsReopened view bytes openings new

-- the events happened one after the other
abbrev pub IsLife : {D : Type 0} → (D → DiskView) → StoreValue D → List Event → StoreValue D
    → Type 0
IsLife view first [] last = last ≡ first
IsLife {D} view first (event ∷ events) last =
    (mid : StoreValue D) × IsEvent view first event mid × IsLife view mid events last

-- the disk failed in the import of the release, or the crash interrupted the call that imports it
abbrev pub IsUnacknowledged : Option Release → Option Call → Release → Type 0
IsUnacknowledged failed within release = (failed ≡ Some release)
    ⊎ (within ≡ Some (Imported release)) ⊎ (within ≡ Some (Failed release))

-- no release, or one whose import wasn't acknowledged
abbrev pub MayRemain : Option Release → Option Call → List Release → Type 0
MayRemain failed within releases = (releases ≡ [])
    ⊎ ((release : Release) × (releases ≡ release ∷ []) × IsUnacknowledged failed within release)

-- The releases that these events add to a history, in order: all that were imported, and at each
-- crash perhaps one more. The first argument is the release in whose import the disk has failed
-- since the last crash, if it did.
abbrev pub AreKept : Option Release → List Event → List Release → Type 0
AreKept failed [] releases = releases ≡ []
AreKept failed (Called call ∷ events) releases = (more : List Release)
    × (releases ≡ taken call ++ more) × AreKept (option_or failed (failing call)) events more
AreKept failed (Crashed within ∷ events) releases = (other : List Release) × (more : List Release)
    × (releases ≡ other ++ more) × MayRemain failed within other × AreKept None events more

-- the releases whose import was acknowledged, in order
abbrev pub acknowledged : List Event → List Release
acknowledged [] = []
acknowledged (Called call ∷ events) = taken call ++ acknowledged events
acknowledged (Crashed within ∷ events) = acknowledged events

abbrev pub crashes : List Event → ℕ
crashes [] = 0
crashes (Called call ∷ events) = crashes events
crashes (Crashed within ∷ events) = crashes events + 1

-- the first list is the second without some of its items
abbrev pub IsSubsequence : {X : Type 0} → List X → List X → Type 0
IsSubsequence [] whole = Unit {0}
IsSubsequence (x ∷ xs) [] = ⊥
IsSubsequence (x ∷ xs) (y ∷ ys) = ((x ≡ y) × IsSubsequence xs ys) ⊎ IsSubsequence (x ∷ xs) ys
