-- Calls on a store, as calls of a life.
use Rattle.std.proofs.Common.{◌≡◌, ◌↔◌, ◌⊎◌, ℕ, Bool, true, false, List, refl, sym, ap, subst, ◌∙◌, Result, Ok, Err, MatchResult, inl, inr}
use Rattle.std.proofs.lemmas.Bool.{false≢true}
use Rattle.disk_model.specs.Disk.{EachImage, LeavesOnly}
use Rattle.disk_model.proofs.MomentSteps.{stayed, weaker}
use Rattle.history_model.specs.declared.receipt.Receipt.{Receipt}
use Rattle.import_check.specs.declared.release.Release.{Release}
use Rattle.import_check.specs.declared.contradicting.Contradictions.{Contradictions}
use Rattle.directory.specs.declared.layout.Layout.{Layout}
use Rattle.directory.specs.Listings.{next_layout}
use Rattle.history_model.specs.History.{History}
use Rattle.store_image.specs.Images.{RepresentsAs, RepresentsHistory}
use Rattle.history_store.specs.declared.refusal.Refusal.{Refusal}
use Rattle.history_store.specs.declared.refusal.Refusal.TheVariants as store
use Rattle.history_store.specs.StoreValue.{StoreValue, IsAcknowledged}
use Rattle.history_store.specs.Stored.{IsStored}
use Rattle.history_store.specs.Answers.{IsStill, IsRefused, IsImportOf, IsImportOnAnyDisk, IsBeforeOrAfter, IsReadingOf}
use Rattle.history_store.specs.Crashes.{IsCrashSafe}
use Rattle.history_store.specs.Checking.{IsCheckingOnAnyDisk}
use Rattle.history_store.specs.MergeAnswers.{IsBeginningOf, IsSteppingOf, IsAbandoningOf, IsTrimmingOf}
use Rattle.disk_model.specs.View.{DiskView}
use Rattle.store_life.specs.Life.{Imported, Failed, Other, RepresentsAround, RepresentsNext, IsCall}
use Rattle.store_life.specs.Calls.{ImportIsACall, CheckIsACall, ListingIsACall, QueryIsACall, UnchangedIsACall, MergeBeginIsACall, MergeStepIsACall, MergePublishIsACall, MergeAbandonIsACall, TrimIsACall}

-- ---- calls that leave the history

-- what a crash leaves of an acknowledged store
pub held : {D : Type 0} (view : D → DiskView) (s : StoreValue D) → IsAcknowledged view s → EachImage (view s.disk).moments.state (RepresentsHistory s.history)
held view s a c image = (s.catalog.layout, (s.catalog.epoch, s.catalog.entries, a.each c image))

module _ {D : Type 0} (view : D → DiskView) (old new : StoreValue D) where
  -- a crash at any moment leaves the history
  kept : new.history ≡ old.history → (old.needs_reopen ≡ true → new ≡ old) → ((view old.disk).is_honest ↔ (view new.disk).is_honest)
      → ((view old.disk).is_honest → IsAcknowledged view old → LeavesOnly (view old.disk).moments (view new.disk).moments (RepresentsHistory old.history))
      → ((view old.disk).is_honest → IsAcknowledged view old → new.needs_reopen ≡ false → IsAcknowledged view new) → IsCall view old Other new
  kept history closed honesty any ack = record {
    history = λ of_any. history;
    needs_reopen = tt;
    closed = λ needs. (closed needs, refl);
    honesty = honesty;
    any_moment = any;
    acknowledged = ack;
  }

  -- whatever a crash may leave stays
  still : new.history ≡ old.history → (old.needs_reopen ≡ true → new ≡ old) → ((view old.disk).is_honest ↔ (view new.disk).is_honest)
      → ((view old.disk).is_honest → (view new.disk).moments ≡ (view old.disk).moments) → ((view old.disk).is_honest → new.needs_reopen ≡ false → IsAcknowledged view new) → IsCall view old Other new
  still history closed honesty same ack =
      kept history closed honesty
      (λ h a. stayed (view old.disk).moments (view new.disk).moments (RepresentsHistory old.history) (same h) (held view old a))
      (λ h a open_still. ack h open_still)

  -- the disk isn't used
  idle : new.history ≡ old.history → new.disk ≡ old.disk → (old.needs_reopen ≡ true → new ≡ old) → ((view old.disk).is_honest → new.needs_reopen ≡ false → IsAcknowledged view new) → IsCall view old Other new
  idle history disk closed ack =
      still history closed (λ h. subst (λ d. (view d).is_honest) (sym disk) h, λ h. subst (λ d. (view d).is_honest) disk h) (λ h. ap (λ d. (view d).moments) disk) ack

  -- it is, and a crash leaves the history in the layout from before
  busy : new.history ≡ old.history → IsCrashSafe view (RepresentsAs old.catalog.layout old.history) old new → ((view old.disk).is_honest ↔ (view new.disk).is_honest) → IsCall view old Other new
  busy history crash honesty =
      kept history crash.closed honesty
      (λ h a. weaker (view old.disk).moments (view new.disk).moments (RepresentsAs old.catalog.layout old.history) (RepresentsHistory old.history) (λ c s. (old.catalog.layout, s)) (crash.any_moment h a.open_still))
      (λ h a open_still. crash.acknowledged h open_still)

-- no call at all
pub unmade : {D : Type 0} (view : D → DiskView) (s : StoreValue D) → IsCall view s Other s
unmade view s = kept view s s refl (λ needs. refl) (λ h. h, λ h. h) (λ h a. stayed (view s.disk).moments (view s.disk).moments (RepresentsHistory s.history) refl (held view s a)) (λ h a open_still. a)

-- ---- imports

abbrev is_fault : Refusal → Bool
is_fault store.DiskFault = true
is_fault _ = false

module _ {D : Type 0} (view : D → DiskView) (old new : StoreValue D) (release : Release) (crash : IsCrashSafe view (IsBeforeOrAfter old.catalog.layout old.history release) old new) (honesty : (view old.disk).is_honest ↔ (view new.disk).is_honest) where
  before_or_after : (c : List ℕ) → IsBeforeOrAfter old.catalog.layout old.history release c → RepresentsHistory old.history c ⊎ RepresentsNext old.history release c
  before_or_after c (inl s) = inl (old.catalog.layout, s)
  before_or_after c (inr w) = inr (next_layout old.catalog.layout, w)

  -- the store took it
  imported : (receipt : Receipt) → IsImportOnAnyDisk (IsStored view old) (Ok receipt) old new release → ((view old.disk).is_honest → IsImportOf (Ok receipt) old new release) → IsCall view old (Imported release) new
  imported receipt at_all answer = record {
    history = λ of_any. elim of_any [ inl none ↦ absurd (cc) | inr h ↦ (let t = (answer h).0 in (t.accepted, t.history)) ];
    needs_reopen = at_all.2;
    closed = λ needs. absurd (false≢true (sym at_all.1 ∙ needs));
    honesty = honesty;
    any_moment = λ h a. weaker (view old.disk).moments (view new.disk).moments (IsBeforeOrAfter old.catalog.layout old.history release) (RepresentsAround old.history (Imported release)) before_or_after (crash.any_moment h at_all.1);
    acknowledged = λ h a open_still. crash.acknowledged h open_still;
  }

  -- the disk failed
  failed : (e : Refusal) → e ≡ store.DiskFault → old.needs_reopen ≡ false → IsRefused e old new → IsCall view old (Failed release) new
  failed e is_fault open_before r =
      record {
        history = λ of_any. r.history;
        needs_reopen = r.closed is_fault;
        closed = λ needs. absurd (false≢true (sym open_before ∙ needs));
        honesty = honesty;
        any_moment = λ h a. weaker (view old.disk).moments (view new.disk).moments (IsBeforeOrAfter old.catalog.layout old.history release) (RepresentsAround old.history (Failed release)) before_or_after (crash.any_moment h open_before);
        acknowledged = λ h a open_still. crash.acknowledged h open_still;
      }

module _ {D : Type 0} (view : D → DiskView) where
  pub import_made : ImportIsACall D view
  import_made old new release (Ok receipt) answer at_all crash same honesty = imported view old new release crash honesty receipt at_all answer
  import_made old new release (Err store.DiskFault) answer at_all crash same honesty = failed view old new release crash honesty store.DiskFault refl at_all.0.0 at_all.1
  import_made old new release (Err e) answer at_all crash same honesty =
      still view old new at_all.1.history crash.closed honesty (λ h. same h (λ is. false≢true (ap is_fault is))) crash.acknowledged

  -- ---- checks

  same_checked : (release : Release) (result : Result Receipt Refusal) (old new : StoreValue D) → IsCheckingOnAnyDisk (IsStored view old) result old new release → new.history ≡ old.history
  same_checked release (Ok receipt) old new kept = kept.1.history
  same_checked release (Err e) old new kept = kept.1.history

  pub check_made : CheckIsACall D view
  check_made old new release result c = still view old new (same_checked release result old new c.kept) c.closed c.meters.counts.honesty c.meters.counts.moments c.acknowledged

  same_listed : (result : Result Contradictions Refusal) (old new : StoreValue D) → MatchResult result (λ found. IsStill old new) (λ e. IsRefused e old new) → new.history ≡ old.history
  same_listed (Ok found) old new left = left.history
  same_listed (Err e) old new left = left.history

  pub listing_made : ListingIsACall D view
  listing_made old new release limit result l = still view old new (same_listed result old new l.left) l.closed l.meters.counts.honesty l.meters.counts.moments l.acknowledged

  -- ---- questions

  same_read : {T : Type 0} (result : Result T Refusal) (old new : StoreValue D) → IsReadingOf result old new → new.history ≡ old.history
  same_read (Ok x) old new read = read.history
  same_read (Err e) old new read = read.1.history

  pub query_made : (T : Type 0) → QueryIsACall T D view
  query_made T result old new q = still view old new (same_read result old new q.read) q.closed q.honesty q.moments q.acknowledged

  pub unchanged_made : UnchangedIsACall D view
  unchanged_made old new same = subst (λ (s : StoreValue D). IsCall view old Other s) (sym same) (unmade view old)

  -- ---- merges

  same_begun : (result : Result ℕ Refusal) (old new : StoreValue D) → IsBeginningOf result old new → new.history ≡ old.history
  same_begun (Ok left) old new a = a.1.history
  same_begun (Err e) old new a = a.1.history

  pub begin_made : MergeBeginIsACall D view
  begin_made result old new a disk closed ack = idle view old new (same_begun result old new a) disk closed ack

  same_stepped : (result : Result ℕ Refusal) (rows : ℕ) (old new : StoreValue D) → IsSteppingOf result old new rows → new.history ≡ old.history
  same_stepped (Ok left) rows old new a = a.1.history
  same_stepped (Err e) rows old new a = a.1.history

  pub step_made : MergeStepIsACall D view
  step_made result rows old new a crash honesty = busy view old new (same_stepped result rows old new a) crash honesty

  either : (h : History) (old next : Layout) (c : List ℕ) → RepresentsAs old h c ⊎ RepresentsAs next h c → RepresentsHistory h c
  either h old next c (inl s) = (old, s)
  either h old next c (inr s) = (next, s)

  pub publish_made : MergePublishIsACall D view
  publish_made old new history crash honesty =
      kept view old new history crash.closed honesty
      (λ h a. weaker (view old.disk).moments (view new.disk).moments (λ c. RepresentsAs old.catalog.layout old.history c ⊎ RepresentsAs (next_layout old.catalog.layout) old.history c) (RepresentsHistory old.history)
      (either old.history old.catalog.layout (next_layout old.catalog.layout)) (crash.any_moment h a.open_still))
      (λ h a open_still. crash.acknowledged h open_still)

  same_abandoned : (result : Result (Unit {0}) Refusal) (old new : StoreValue D) → IsAbandoningOf result old new → new.history ≡ old.history
  same_abandoned (Ok done) old new a = a.2.history
  same_abandoned (Err e) old new a = a.1.history

  pub abandon_made : MergeAbandonIsACall D view
  abandon_made result old new a disk closed ack = idle view old new (same_abandoned result old new a) disk closed ack

  same_trimmed : (result : Result ℕ Refusal) (old new : StoreValue D) → IsTrimmingOf result old new → new.history ≡ old.history
  same_trimmed (Ok bytes) old new a = a.1.history
  same_trimmed (Err e) old new a = a.1.history

  pub trim_made : TrimIsACall D view
  trim_made result old new a crash honesty = busy view old new (same_trimmed result old new a) crash honesty
