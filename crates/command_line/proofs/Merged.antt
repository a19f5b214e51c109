-- What calls of a merge leave of a store.
use Rattle.std.proofs.Common.{◌≡◌, ◌⊎◌, ℕ, ◌+◌, List, [], ◌∷◌, ◌++◌, length, true, false, slice_set, min, Option, Some, None, Result, Ok, Err, refl, ap, sym, subst, ◌∙◌, arith, inl, ◌<◌, ◌≤◌, ◌-◌}
use Rattle.std.specs.Prelude.{unwrap_or, option_map, OnOk}
use Rattle.std.proofs.lemmas.Bool.{false≢true}
use Rattle.std.proofs.lemmas.Option.{slice_get_within}
use Rattle.std.proofs.lemmas.List.{length-set}
use Rattle.std.proofs.lemmas.List.Edits.{length-remove}
use Rattle.disk_model.specs.View.{DiskView}
use Rattle.history_store.specs.declared.refusal.Refusal.{Refusal}
use Rattle.history_store.specs.declared.refusal.Refusal.TheVariants as store
use Rattle.history_store.specs.Catalog.{Catalog, Merge as CatalogMerge}
use Rattle.history_store.specs.Merging.{IsBegun, IsStepped, IsPublished, GoesOn, IsFinished}
use Rattle.history_store.specs.Answers.{IsRefusedFor}
use Rattle.history_store.specs.Crashes.{IsCrashSafe}
use Rattle.history_store.specs.MergeAnswers.{IsBeginningOf, IsPublishingOf, IsTrimmingOf, IsNotBegun, IsNotStepped, IsNotPublished, IsNotTrimmed}
use Rattle.history_store.specs.StoreValue.{StoreValue, IsAcknowledged}
use Rattle.store_image.specs.Images.{RepresentsAs}
use Rattle.directory.specs.Listings.{next_layout}
use Rattle.store_life.proofs.Made.{begin_made, step_made, publish_made, trim_made}
use Rattle.command_line.specs.Merging.{MergeCall, Begin, Step, Publish, Trim, refusal_of, HasAnswer, UsesDisk, IsMergeCall, IsDue, AreMade, IsHalt, IsMergedTo, rows_left, segments_of}
use Rattle.command_line.specs.Private.{IsAtRest, IsMerging, HasMerged, HaveMerged, IsStopped, Goes, Progresses}

-- ---- why a call that was due is refused

not_closed : {D : Type 0} (s : StoreValue D) → s.needs_reopen ≡ true → s.needs_reopen ≡ false → ⊥
not_closed s closed open_still = false≢true (sym open_still ∙ closed)

not_begun : {D : Type 0} (e : Refusal) (s : StoreValue D) → IsRefusedFor (IsNotBegun s.catalog) e s → s.needs_reopen ≡ false → s.catalog.merge ≡ None → 2 ≤ length s.catalog.entries → IsHalt e
not_begun store.ReopenNeeded s h open_still none two = absurd (not_closed s h open_still)
not_begun store.MergeBusy s h open_still none two = let no : Some h.1.0 ≡ None = sym h.1.1 ∙ none in cc
not_begun store.NothingToMerge s h open_still none two = let few = h.1.1 in absurd (omega (arith, few, two))
not_begun store.Full s h open_still none two = tt
not_begun _ s h open_still none two = absurd h.1.1

not_stepped : {D : Type 0} (e : Refusal) (s : StoreValue D) (n : ℕ) → IsRefusedFor (IsNotStepped n s.catalog) e s → s.needs_reopen ≡ false → GoesOn s.catalog → IsHalt e
not_stepped store.ReopenNeeded s n h open_still on = absurd (not_closed s h open_still)
not_stepped store.NoMerge s n h open_still on = let no : Some on.0 ≡ None = sym on.1 ∙ h.1 in cc
not_stepped store.OutOfMemory s n h open_still on = tt
not_stepped store.DiskFault s n h open_still on = tt
not_stepped store.Damaged s n h open_still on = tt
not_stepped _ s n h open_still on = absurd h.1

abbrev left_in : Option CatalogMerge → ℕ
left_in merge = unwrap_or (option_map (λ m. m.left) merge) 0

not_published : {D : Type 0} (e : Refusal) (s : StoreValue D) → IsRefusedFor (IsNotPublished s.catalog) e s → s.needs_reopen ≡ false → IsFinished s.catalog → IsHalt e
not_published store.ReopenNeeded s h open_still done = absurd (not_closed s h open_still)
not_published store.NoMerge s h open_still done = let no : Some done.0 ≡ None = sym done.1 ∙ h.1 in cc
not_published store.MergeUnfinished s h open_still done =
    let one : left_in s.catalog.merge ≡ h.1.0.left = ap left_in h.1.1 in
    let two : left_in s.catalog.merge ≡ done.0.left = ap left_in done.1 in
    let some = h.1.2 in
    let none = done.2 in
    absurd (omega (arith, one, two, some, none))
not_published store.CountSpent s h open_still done = tt
not_published store.DiskFault s h open_still done = tt
not_published _ s h open_still done = absurd h.1

not_trimmed : {D : Type 0} (e : Refusal) (s : StoreValue D) → IsNotTrimmed e s → s.needs_reopen ≡ false → IsHalt e
not_trimmed store.ReopenNeeded s h open_still = absurd (not_closed s h open_still)
not_trimmed store.DiskFault s h open_still = tt
not_trimmed _ s h open_still = absurd h

-- ---- how many segments there are then

published_less : (old new : Catalog) → IsPublished old new → length new.entries + 1 ≡ length old.entries
published_less old new p =
    let within = slice_get_within old.entries p.merge.j p.b p.b_is in
    let n = length-set old.entries p.merge.i _ in
    let less = length-remove (slice_set old.entries p.merge.i _) p.merge.j (rw n within) in
    rw p.next_is (less ∙ n)

begun_same : (old new : Catalog) (left : ℕ) → IsBegun old new left → length new.entries ≡ length old.entries
begun_same old new left b = rw b.next_is refl

stepped_same : (n : ℕ) (old new : Catalog) (left : ℕ) → IsStepped n old new left → length new.entries ≡ length old.entries
stepped_same n old new left s = rw s.next_is refl

module _ {D : Type 0} (view : D → DiskView) where
  abbrev Made : MergeCall → StoreValue D → StoreValue D → Type 0
  Made call old new = IsMergeCall view call old new

  -- ---- whether a merge goes on then

  begun_goes : (left : ℕ) (old new : StoreValue D) → Made (Begin (Ok left)) old new → (segments_of new ≡ segments_of old) × IsMerging new
  begun_goes left old new m =
      let a = m.answer in
      (begun_same old.catalog new.catalog left a.0, (a.1.open_still, (_, ap (λ (c : Catalog). c.merge) a.0.next_is)))

  step_goes : (left : ℕ) (old new : StoreValue D) → Made (Step (Ok left)) old new → (segments_of new ≡ segments_of old) × IsMerging new × (rows_left new ≡ rows_left old - 100000)
  step_goes left old new m =
      let a = m.answer.0 in
      let now : left_in new.catalog.merge ≡ left = ap (λ (c : Catalog). left_in c.merge) a.0.next_is in
      let before : left_in old.catalog.merge ≡ a.0.merge.left = ap left_in a.0.goes_on in
      (stepped_same 100000 old.catalog new.catalog left a.0, (a.1.open_still, (_, ap (λ (c : Catalog). c.merge) a.0.next_is)), now ∙ a.0.left_is ∙ ap (λ n. n - 100000) (sym before))

  pub all_taken : (s : StoreValue D) → IsMerging s → rows_left s ≡ 0 → HasMerged s
  all_taken s on zero =
      let now : left_in s.catalog.merge ≡ on.1.0.left = ap left_in on.1.1 in
      (on.0, (on.1.0, on.1.1, sym now ∙ zero))

  -- ---- calls one after the other

  made_both : (most : ℕ) (first old mid new : StoreValue D) (calls more : List MergeCall) → AreMade view most first old calls mid → AreMade view most first mid more new → AreMade view most first old (calls ++ more) new
  made_both most first old mid new [] more e r = subst (λ (d : StoreValue D). AreMade view most first d more new) e r
  made_both most first old mid new (call ∷ calls) more r s = (r.0, r.1, r.2, r.3, made_both most first r.0 mid new calls more r.4 s)

  pub have_none : (most : ℕ) (first old : StoreValue D) → HaveMerged view most first old old
  have_none most first old = record { calls = []; made = refl }

  have_one : (most : ℕ) (first old new : StoreValue D) (call : MergeCall) → IsDue most call first old → refusal_of call ≡ None → Made call old new → HaveMerged view most first old new
  have_one most first old new call due ok made = record { calls = call ∷ []; made = (new, due, ok, made, refl) }

  pub have_both : (most : ℕ) (first old mid new : StoreValue D) → HaveMerged view most first old mid → HaveMerged view most first mid new → HaveMerged view most first old new
  have_both most first old mid new a b = record {
    calls = a.calls ++ b.calls;
    made = made_both most first old mid new a.calls b.calls a.made b.made;
  }

  -- a call was refused, the first one or after others
  stopped : (most : ℕ) (first old new : StoreValue D) (e : Refusal) (call : MergeCall) → IsDue most call first old → refusal_of call ≡ Some e → Made call old new → (1 ≤ most → IsHalt e) → IsStopped view most first e old new
  stopped most first old new e call due says made cause = record {
    before = old;
    have = have_none most first old;
    last = call;
    due = due;
    call = made;
    refused = says;
    cause = cause;
  }

  pub stopped_so : (most : ℕ) (first old mid new : StoreValue D) (e : Refusal) → HaveMerged view most first old mid → IsStopped view most first e mid new → IsStopped view most first e old new
  stopped_so most first old mid new e have h = record {
    before = h.before;
    have = have_both most first old mid h.before have h.have;
    last = h.last;
    due = h.due;
    call = h.call;
    refused = h.refused;
    cause = h.cause;
  }

  after : (most : ℕ) (first old mid new : StoreValue D) (result : Result (Unit {0}) Refusal) → HaveMerged view most first old mid → Goes view most first result mid new → Goes view most first result old new
  after most first old mid new (Ok done) have goes = have_both most first old mid new have goes
  after most first old mid new (Err e) have goes = stopped_so most first old mid new e have goes

  -- one progress after another
  pub further : (old mid new : StoreValue D) (result : Result (Unit {0}) Refusal) → Progresses view (Ok tt) old mid → segments_of mid ≡ segments_of old → Progresses view result mid new → Progresses view result old new
  further old mid new result one same two = λ most first more. after most first old mid new result (one most first more) (two most first (omega (arith, more, same)))

  -- ---- the history

  made_keep : (most : ℕ) (first old new : StoreValue D) (calls : List MergeCall) → AreMade view most first old calls new → new.history ≡ old.history
  made_keep most first old new [] e = ap (λ (s : StoreValue D). s.history) e
  made_keep most first old new (call ∷ calls) m = made_keep most first m.0 new calls m.4 ∙ m.3.life.history (inl refl)

  pub merged_keeps : (most : ℕ) (result : Result (Unit {0}) Refusal) (old new : StoreValue D) → IsMergedTo view most result old new → new.history ≡ old.history
  merged_keeps most result old new m = m.call.life.history (inl refl) ∙ made_keep most old old m.before m.calls m.made

  -- ---- each call

  pub begin_call : (result : Result ℕ Refusal) (old new : StoreValue D) → IsBeginningOf result old new → new.disk ≡ old.disk → (old.needs_reopen ≡ true → new ≡ old)
      → ((view old.disk).is_honest → new.needs_reopen ≡ false → IsAcknowledged view new) → Made (Begin result) old new
  begin_call result old new answer disk closed acknowledged = record {
    answer = answer;
    disk = disk;
    life = begin_made view result old new answer disk closed acknowledged;
  }

  pub step_call : (result : Result ℕ Refusal) (old new : StoreValue D) → HasAnswer view (Step result) old new → UsesDisk view (Step result) old new
      → IsCrashSafe view (RepresentsAs old.catalog.layout old.history) old new → Made (Step result) old new
  step_call result old new answer disk crash = record {
    answer = answer;
    disk = disk;
    life = step_made view result 100000 old new answer.0 crash disk.2.honesty;
  }

  pub publish_call : (result : Result (Unit {0}) Refusal) (old new : StoreValue D) → IsPublishingOf result old new → UsesDisk view (Publish result) old new → new.history ≡ old.history
      → IsCrashSafe view (λ c. RepresentsAs old.catalog.layout old.history c ⊎ RepresentsAs (next_layout old.catalog.layout) old.history c) old new → Made (Publish result) old new
  publish_call result old new answer disk history crash = record {
    answer = answer;
    disk = disk;
    life = publish_made view old new history crash disk.1.honesty;
  }

  pub trim_call : (result : Result ℕ Refusal) (old new : StoreValue D) → IsTrimmingOf result old new → UsesDisk view (Trim result) old new
      → IsCrashSafe view (RepresentsAs old.catalog.layout old.history) old new → Made (Trim result) old new
  trim_call result old new answer disk crash = record {
    answer = answer;
    disk = disk;
    life = trim_made view result old new answer crash disk.1.honesty;
  }

  pub begun : (old new : StoreValue D) (left : ℕ) → Made (Begin (Ok left)) old new → Progresses view (Ok tt) old new × (segments_of new ≡ segments_of old) × IsMerging new
  begun old new left made =
      let goes = begun_goes left old new made in
      (λ most first more. have_one most first old new (Begin (Ok left)) more refl made, goes.0, goes.1)

  pub begin_stops : (old new : StoreValue D) (e : Refusal) → IsAtRest old → Made (Begin (Err e)) old new → Progresses view (Err e) old new
  begin_stops old new e rest made = λ most first more.
      stopped most first old new e (Begin (Err e)) more refl made (λ one. not_begun e old made.answer.0 rest.0 rest.1 (omega (arith, more, one)))

  pub step_stops : (old new : StoreValue D) (e : Refusal) → IsMerging old → 1 ≤ rows_left old → Made (Step (Err e)) old new → Progresses view (Err e) old new
  step_stops old new e on some made = λ most first more.
      stopped most first old new e (Step (Err e)) (more, some) refl made (λ one. not_stepped e old 100000 made.answer.0.0 on.0 on.1)

  pub stepped_on : (old new : StoreValue D) (left : ℕ) → 1 ≤ rows_left old → Made (Step (Ok left)) old new
      → Progresses view (Ok tt) old new × (segments_of new ≡ segments_of old) × IsMerging new × (rows_left new ≡ rows_left old - 100000)
  stepped_on old new left some made =
      let goes = step_goes left old new made in
      (λ most first more. have_one most first old new (Step (Ok left)) (more, some) refl made, goes.0, goes.1, goes.2)

  pub publish_goes : (old new : StoreValue D) (result : Result (Unit {0}) Refusal) → HasMerged old → Made (Publish result) old new
      → Progresses view result old new × OnOk result ((segments_of new + 1 ≡ segments_of old) × IsAtRest new)
  publish_goes old new (Ok done) all made =
      let a = made.answer in (
        λ most first more. have_one most first old new (Publish (Ok done)) more refl made,
        (published_less old.catalog new.catalog a.0, (a.3, ap (λ (c : Catalog). c.merge) a.0.next_is)),
      )
  publish_goes old new (Err e) all made = (
    λ most first more. stopped most first old new e (Publish (Err e)) more refl made (λ one. not_published e old made.answer.0 all.0 all.1),
    tt,
  )

  pub one_less : (old mid new : StoreValue D) (result : Result (Unit {0}) Refusal) → segments_of mid ≡ segments_of old
      → OnOk result ((segments_of new + 1 ≡ segments_of mid) × IsAtRest new) → OnOk result ((segments_of new + 1 ≡ segments_of old) × IsAtRest new)
  one_less old mid new (Ok done) same less = (less.0 ∙ same, less.1)
  one_less old mid new (Err e) same less = tt

  -- ---- the whole

  -- a call was refused while there were too many segments
  pub halted : (most : ℕ) (old new : StoreValue D) (e : Refusal) → IsStopped view most old e old new → IsMergedTo view most (Err e) old new
  halted most old new e h = record {
    calls = h.have.calls;
    before = h.before;
    made = h.have.made;
    last = h.last;
    due = h.due;
    call = h.call;
    ends = (h.refused, h.cause);
  }

  pub trimmed_to : (most bytes : ℕ) (old mid new : StoreValue D) → HaveMerged view most old old mid → segments_of mid ≡ min (segments_of old) most → IsAtRest mid → Made (Trim (Ok bytes)) mid new
      → IsMergedTo view most (Ok tt) old new
  trimmed_to most bytes old mid new have few rest made = record {
    calls = have.calls;
    before = mid;
    made = have.made;
    last = Trim (Ok bytes);
    due = (few, rest.1);
    call = made;
    ends = (bytes, refl);
  }

  pub not_trimmed_to : (most : ℕ) (old mid new : StoreValue D) (e : Refusal) → HaveMerged view most old old mid → segments_of mid ≡ min (segments_of old) most → IsAtRest mid → Made (Trim (Err e)) mid new
      → IsMergedTo view most (Err e) old new
  not_trimmed_to most old mid new e have few rest made = record {
    calls = have.calls;
    before = mid;
    made = have.made;
    last = Trim (Err e);
    due = (few, rest.1);
    call = made;
    ends = (refl, λ one. not_trimmed e mid made.answer.0 rest.0);
  }
