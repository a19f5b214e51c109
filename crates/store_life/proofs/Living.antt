-- What crashes leave of a store, one after the other, and what is opened of it.
use Rattle.std.proofs.Common.{◌≡◌, ◌⊎◌, inl, inr, ⊎_elim, ℕ, ◌≤◌, ◌+◌, Bool, true, false, List, [], ◌∷◌, ◌++◌, length, map, Option, Some, None, Result, Ok, Err, refl, sym, ap, subst, ◌∙◌, arith, append_assoc, length-append}
use Rattle.std.specs.Prelude.{All, MatchResult}
use Rattle.std.specs.Option.{option_or, option_to_list}
use Rattle.std.proofs.lemmas.Bool.{false≢true}
use Rattle.std.proofs.lemmas.List.{append_cancel_right}
use Rattle.std.proofs.lemmas.List.Elements.{All-tail}
use Rattle.disk_model.specs.Disk.{DiskState, IsImage, EachImage, Moments, LeavesOnly}
use Rattle.disk_model.proofs.MomentSteps.{started, at_end}
use Rattle.history_model.specs.History.{History, after_release}
use Rattle.import_check.specs.declared.release.Release.{Release}
use Rattle.store_image.specs.Images.{RepresentsHistory}
use Rattle.history_store.specs.declared.refusal.Refusal.{Refusal}
use Rattle.history_store.specs.declared.refusal.Refusal.TheVariants as store
use Rattle.history_store.specs.StoreValue.{StoreValue, IsAcknowledged}
use Rattle.history_store.specs.Answers.{IsOpeningOf}
use Rattle.history_store.proofs.Reopened.{opened_is_what_is_represented, represented_is_opened}
use Rattle.disk_model.specs.View.{DiskView}
use Rattle.store_life.specs.Life.{Call, Imported, Failed, Other, taken, failing, TakesAll, RepresentsAround, IsCall, CrashLeaves, HasCrashed, IsReopened, Event, Called, Crashed, IsEvent, IsLife, MayRemain, AreKept, acknowledged, crashes, IsSubsequence, RepresentsNext}
use Rattle.store_life.specs.Laws.{EachLifeKeepsItsImports, KeptAreAcknowledged, EachLifeIsRepresented, EachLifeIsOpened, LivesCompose, EachCrashIsOfALife}
use Rattle.store_life.proofs.Made.{held}

-- the releases of some calls, and then those of others
takes_more : (h g k : History) (xs ys : List Release) → TakesAll h xs g → TakesAll g ys k → TakesAll h (xs ++ ys) k
takes_more h g k [] ys one two = subst (λ (x : History). TakesAll x ys k) one two
takes_more h g k (x ∷ xs) ys one two = (one.0, takes_more (after_release h one.0.rows) g k xs ys one.1 two)

-- what is opened of bytes has what is so of the history that they represent
opened_as : {D : Type 0} (h : History) (bytes : List ℕ) (P : History → Type 0) → RepresentsHistory h bytes → P h → (result : Result (StoreValue D) (Refusal × D)) → IsOpeningOf result bytes
    → MatchResult result (λ s. P s.history) (λ e. (e.0 ≡ store.OutOfMemory) ⊎ (e.0 ≡ store.DiskFault))
opened_as h bytes P stands p (Ok s) is = subst P (sym (opened_is_what_is_represented s bytes h stands.0 stands.1.0 stands.1.1 stands.1.2 is).0) p
opened_as h bytes P stands p (Err e) is = represented_is_opened bytes h stands.0 stands.1.0 stands.1.1 stands.1.2 e.0 is

-- those behind others
all_behind : (P : DiskState → Type 0) (xs ys : List DiskState) → All P (xs ++ ys) → All P ys
all_behind P [] ys all = all
all_behind P (x ∷ xs) ys all = all_behind P xs ys (All-tail P x (xs ++ ys) all)

-- what a crash left has what each crash leaves
left_has : (old new moment : Moments) (P : List ℕ → Type 0) (bytes : List ℕ) → LeavesOnly old new P → CrashLeaves old new moment bytes → P bytes
left_has old new moment P bytes run left =
    let all_since : new.state ∷ new.past ≡ (left.behind ++ left.before) ++ old.state ∷ old.past =
    left.grows ∙ ap (λ (l : List DiskState). left.behind ++ l) left.since ∙ sym (append_assoc left.behind left.before (old.state ∷ old.past)) in
    let same = append_cancel_right run.since (left.behind ++ left.before) (old.state ∷ old.past) (sym run.grows ∙ all_since) in
    let each = subst (λ (l : List DiskState). All (λ (s : DiskState). EachImage s P) l) same run.each in
    at_end old moment P (record { since = left.before; grows = left.since; first = run.first; each = all_behind (λ (s : DiskState). EachImage s P) left.behind left.before each }) bytes left.image

-- ---- since an opening

-- the bytes represent the history, or that with the release in whose import the disk failed
abbrev RepresentsBut : History → Option Release → List ℕ → Type 0
RepresentsBut h None c = RepresentsHistory h c
RepresentsBut h (Some release) c = RepresentsHistory h c ⊎ RepresentsNext h release c

else_none : (f : Option Release) → option_or f None ≡ f
else_none None = refl
else_none (Some release) = refl

module _ {D : Type 0} (view : D → DiskView) where
  -- what is so of a store after calls that followed an opening
  record IsSince (s : StoreValue D) (failed : Option Release) : Type 0 where
    up : (view s.disk).is_honest
    acknowledged : s.needs_reopen ≡ false → IsAcknowledged view s
    none_failed : s.needs_reopen ≡ false → failed ≡ None
    left : EachImage (view s.disk).moments.state (RepresentsBut s.history failed)

  since_opened : (s : StoreValue D) → (view s.disk).is_honest → IsAcknowledged view s → IsSince s None
  since_opened s up ack = record { up = up; acknowledged = λ still. ack; none_failed = λ still. refl; left = held view s ack }

  -- a call on a store that is open
  module _ (old new : StoreValue D) (up : (view old.disk).is_honest) (ack : IsAcknowledged view old) where
    left_by : (call : Call) → IsCall view old call new → EachImage (view new.disk).moments.state (RepresentsAround old.history call)
    left_by call is = at_end (view old.disk).moments (view new.disk).moments (RepresentsAround old.history call) (is.any_moment up ack)

    after_made : (call : Call) → IsCall view old call new → IsSince new (failing call)
    after_made (Imported release) is = since_opened new (is.honesty.0 up) (is.acknowledged up ack is.needs_reopen)
    after_made (Failed release) is = record {
      up = is.honesty.0 up;
      acknowledged = is.acknowledged up ack;
      none_failed = λ still. absurd (false≢true (sym still ∙ is.needs_reopen));
      left = subst (λ (h : History). EachImage (view new.disk).moments.state (RepresentsBut h (Some release))) (sym (is.history (inr up))) (left_by (Failed release) is);
    }
    after_made Other is = record {
      up = is.honesty.0 up;
      acknowledged = is.acknowledged up ack;
      none_failed = λ still. refl;
      left = subst (λ (h : History). EachImage (view new.disk).moments.state (RepresentsHistory h)) (sym (is.history (inr up))) (left_by Other is);
    }

  after_call : (old new : StoreValue D) (failed : Option Release) (call : Call) → IsSince old failed → IsCall view old call new → IsSince new (option_or failed (failing call))
  after_call old new failed call since is = by_state old.needs_reopen refl where
    by_state : (needs : Bool) → old.needs_reopen ≡ needs → IsSince new (option_or failed (failing call))
    by_state true needs =
        let stays = is.closed needs in
        let none : option_or failed (failing call) ≡ failed = ap (λ (c : Call). option_or failed (failing c)) stays.1 ∙ else_none failed in
        subst (IsSince new) (sym none) (subst (λ (s : StoreValue D). IsSince s failed) (sym stays.0) since)
    by_state false still =
        subst (λ (f : Option Release). IsSince new (option_or f (failing call))) (sym (since.none_failed still)) (after_made old new since.up (since.acknowledged still) call is)

-- ---- one crash

-- the bytes represent the history after these releases
abbrev RepresentsAfter : History → List Release → List ℕ → Type 0
RepresentsAfter h releases c = (after : History) × TakesAll h releases after × RepresentsHistory after c

more_after : (h g : History) (xs ys : List Release) (c : List ℕ) → TakesAll h xs g → RepresentsAfter g ys c → RepresentsAfter h (xs ++ ys) c
more_after h g xs ys c takes s = (s.0, takes_more h g s.0 xs ys takes s.1, s.2)

module _ (failed : Option Release) (within : Option Call) (h : History) (bytes : List ℕ) where
  -- what remains after the crash stands in the bytes
  abbrev Remains : Type 0
  Remains = (other : List Release) × MayRemain failed within other × RepresentsAfter h other bytes

  none_remains : RepresentsHistory h bytes → Remains
  none_remains s = ([], inl refl, (h, refl, s))

  one_remains : (release : Release) → (failed ≡ Some release) ⊎ (within ≡ Some (Imported release)) ⊎ (within ≡ Some (Failed release)) → RepresentsNext h release bytes → Remains
  one_remains release why w =
      (release ∷ [], inr (release, refl, why), (after_release h w.1.0.rows, (w.1.0, refl), (w.0, w.1.1)))

  -- the disk failed before, or it didn't
  failed_remains : (f : Option Release) → failed ≡ f → RepresentsBut h f bytes → Remains
  failed_remains None is s = none_remains s
  failed_remains (Some release) is (inl s) = none_remains s
  failed_remains (Some release) is (inr w) = one_remains release (inl is) w

  -- the crash cut off a call
  cut_remains : (call : Call) → within ≡ Some call → RepresentsAround h call bytes → Remains
  cut_remains (Imported release) is (inl s) = none_remains s
  cut_remains (Imported release) is (inr w) = one_remains release (inr (inl is)) w
  cut_remains (Failed release) is (inl s) = none_remains s
  cut_remains (Failed release) is (inr w) = one_remains release (inr (inr is)) w
  cut_remains Other is s = none_remains s

module _ {D : Type 0} (view : D → DiskView) where
  module _ (s : StoreValue D) (failed : Option Release) (since : IsSince view s failed) (moment : Moments) (bytes : List ℕ) where
    -- no call was made
    stays_remains : (within : Option Call) → CrashLeaves (view s.disk).moments (view s.disk).moments moment bytes → Remains failed within s.history bytes
    stays_remains within left =
        let m = (view s.disk).moments in
        failed_remains failed within s.history bytes failed refl (left_has m m moment (RepresentsBut s.history failed) bytes (started m (RepresentsBut s.history failed) since.left) left)

    -- the store is open when the crash comes, or it isn't
    by_state : (call : Call) (end : StoreValue D) → IsCall view s call end → CrashLeaves (view s.disk).moments (view end.disk).moments moment bytes → (needs : Bool) → s.needs_reopen ≡ needs → Remains failed (Some call) s.history bytes
    by_state call end is left true needs = stays_remains (Some call) (subst (λ (d : StoreValue D). CrashLeaves (view s.disk).moments (view d.disk).moments moment bytes) (is.closed needs).0 left)
    by_state call end is left false still =
        cut_remains failed (Some call) s.history bytes call refl
        (left_has (view s.disk).moments (view end.disk).moments moment (RepresentsAround s.history call) bytes (is.any_moment since.up (since.acknowledged still)) left)

    crash_remains : (within : Option Call) → HasCrashed view s within moment bytes → Remains failed within s.history bytes
    crash_remains None left = stays_remains None left
    crash_remains (Some call) stopped = by_state call stopped.0 stopped.1 stopped.2 s.needs_reopen refl

  -- ---- openings

  -- whatever openings were cut off or refused before, the store is opened of the bytes
  reopened : (openings : List (D × D)) (bytes : List ℕ) (s : StoreValue D) → IsReopened view bytes openings s → IsOpeningOf (Ok s) bytes × (view s.disk).is_honest × IsAcknowledged view s
  reopened [] bytes s r = (subst (λ (b : List ℕ). IsOpeningOf (Ok s) b) r.1.read r.1.exact, r.1.honesty, r.1.acknowledged)
  reopened (opening ∷ more) bytes s r =
      let same : r.0 ≡ bytes = r.1.crash r.0 (left_has (view opening.0).moments (view opening.1).moments r.1.moment (IsImage (view opening.0).moments.state) r.0 r.1.any_moment r.1.is_left) in
      reopened more bytes s (subst (λ (b : List ℕ). IsReopened view b more s) same r.2)

  -- ---- lives

  -- a crash, and the store that is opened after it
  record HasReopened (failed : Option Release) (h : History) (within : Option Call) (next : StoreValue D) : Type 0 where
    since : IsSince view next None
    other : List Release
    may : MayRemain failed within other
    takes : TakesAll h other next.history

  after_crash : (s next : StoreValue D) (failed : Option Release) (within : Option Call) → IsSince view s failed → IsEvent view s (Crashed within) next → HasReopened failed s.history within next
  after_crash s next failed within since e =
      let opened = reopened e.2 e.1 next e.4 in
      let r = crash_remains s failed since e.0 e.1 within e.3 in
      record {
        since = since_opened view next opened.1 opened.2;
        other = r.0;
        may = r.1;
        takes = opened_as r.2.0 e.1 (λ (k : History). TakesAll s.history r.0 k) r.2.2 r.2.1 (Ok next) opened.0;
      }

  keeps : (events : List Event) (s last : StoreValue D) (failed : Option Release) → IsSince view s failed → IsLife view s events last
      → (releases : List Release) × AreKept failed events releases × TakesAll s.history releases last.history
  keeps [] s last failed since same = ([], refl, ap (λ (d : StoreValue D). d.history) same)
  keeps (Called call ∷ events) s last failed since l =
      let more = keeps events l.0 last (option_or failed (failing call)) (after_call view s l.0 failed call since l.1) l.2 in
      (taken call ++ more.0, (more.0, refl, more.1), takes_more s.history l.0.history last.history (taken call) more.0 (l.1.history (inr since.up)) more.2)
  keeps (Crashed within ∷ events) s last failed since l =
      let r = after_crash s l.0 failed within since l.1 in
      let more = keeps events l.0 last None r.since l.2 in
      (r.other ++ more.0, (r.other, more.0, refl, r.may, more.1), takes_more s.history l.0.history last.history r.other more.0 r.takes more.2)

  opens : (events : List Event) (s last : StoreValue D) (failed : Option Release) → IsSince view s failed → IsLife view s events last → (within : Option Call) (moment : Moments) (bytes : List ℕ) → HasCrashed view last within moment bytes
      → (releases : List Release) × AreKept failed (events ++ Crashed within ∷ []) releases × RepresentsAfter s.history releases bytes
  opens [] s last failed since same within moment bytes stopped =
      let r = crash_remains s failed since moment bytes within (subst (λ (d : StoreValue D). HasCrashed view d within moment bytes) same stopped) in
      (r.0 ++ [], (r.0, [], refl, r.1, refl), more_after s.history r.2.0 r.0 [] bytes r.2.1 (r.2.0, refl, r.2.2))
  opens (Called call ∷ events) s last failed since l within moment bytes stopped =
      let more = opens events l.0 last (option_or failed (failing call)) (after_call view s l.0 failed call since l.1) l.2 within moment bytes stopped in
      (taken call ++ more.0, (more.0, refl, more.1), more_after s.history l.0.history (taken call) more.0 bytes (l.1.history (inr since.up)) more.2)
  opens (Crashed cut ∷ events) s last failed since l within moment bytes stopped =
      let r = after_crash s l.0 failed cut since l.1 in
      let more = opens events l.0 last None r.since l.2 within moment bytes stopped in
      (r.other ++ more.0, (r.other, more.0, refl, r.may, more.1), more_after s.history l.0.history r.other more.0 bytes r.takes more.2)

  -- ---- a crash while calls are made

  -- the states since old, the newest first
  abbrev Since : Moments → Moments → Type 0
  Since old new = (states : List DiskState) × (new.state ∷ new.past ≡ states ++ old.state ∷ old.past)

  since_made : (old new : StoreValue D) (failed : Option Release) (call : Call) → IsSince view old failed → IsCall view old call new → Since (view old.disk).moments (view new.disk).moments
  since_made old new failed call since is = at_state old.needs_reopen refl where
    at_state : (needs : Bool) → old.needs_reopen ≡ needs → Since (view old.disk).moments (view new.disk).moments
    at_state true needs = ([], ap (λ (s : StoreValue D). (view s.disk).moments.state ∷ (view s.disk).moments.past) (is.closed needs).0)
    at_state false still = let run = is.any_moment since.up (since.acknowledged still) in (run.since, run.grows)

  since_all : (calls : List Call) (s last : StoreValue D) (failed : Option Release) → IsSince view s failed → IsLife view s (map Called calls) last → Since (view s.disk).moments (view last.disk).moments
  since_all [] s last failed since same = ([], ap (λ (d : StoreValue D). (view d.disk).moments.state ∷ (view d.disk).moments.past) same)
  since_all (call ∷ calls) s last failed since l =
      let first = since_made s l.0 failed call since l.1 in
      let more = since_all calls l.0 last (option_or failed (failing call)) (after_call view s l.0 failed call since l.1) l.2 in
      let m = (view s.disk).moments in
      (more.0 ++ first.0, more.1 ∙ ap (λ (l : List DiskState). more.0 ++ l) first.1 ∙ sym (append_assoc more.0 first.0 (m.state ∷ m.past)))

  -- a list that ends in two ways ends in one and then in the other
  ends_in : (xs ys zs ws : List DiskState) → xs ++ ys ≡ zs ++ ws → ((d : List DiskState) × (ws ≡ d ++ ys)) ⊎ ((d : List DiskState) × (ys ≡ d ++ ws))
  ends_in [] ys zs ws e = inr (zs, e)
  ends_in (x ∷ xs) ys [] ws e = inl (x ∷ xs, sym e)
  ends_in (x ∷ xs) ys (z ∷ zs) ws e = ends_in xs ys zs ws (cc)

  -- where a crash came
  abbrev Came : StoreValue D → List Call → Moments → List ℕ → Type 0
  Came s calls moment bytes = (before : List Call) × (within : Option Call) × (behind : List Call) × (mid : StoreValue D)
      × (calls ≡ before ++ option_to_list within ++ behind) × IsLife view s (map Called before) mid × HasCrashed view mid within moment bytes

  module _ (s next last : StoreValue D) (call : Call) (calls : List Call) (moment : Moments) (bytes : List ℕ) (made : IsCall view s call next) (more : Since (view next.disk).moments (view last.disk).moments)
      (left : CrashLeaves (view s.disk).moments (view last.disk).moments moment bytes) (later : CrashLeaves (view next.disk).moments (view last.disk).moments moment bytes → Came next calls moment bytes) where
    abbrev then_on : List DiskState
    then_on = moment.state ∷ moment.past

    abbrev next_on : List DiskState
    next_on = (view next.disk).moments.state ∷ (view next.disk).moments.past

    -- the crash came in the first call or in one of the others
    came_by : ((d : List DiskState) × (next_on ≡ d ++ then_on)) ⊎ ((d : List DiskState) × (then_on ≡ d ++ next_on)) → Came s (call ∷ calls) moment bytes
    came_by (inl here) = ([], Some call, calls, s, refl, refl, (next, made, record { before = left.before; behind = here.0; since = left.since; grows = here.1; image = left.image }))
    came_by (inr late) =
        let r = later (record { before = late.0; behind = left.behind; since = late.1; grows = left.grows; image = left.image }) in
        (call ∷ r.0, r.1, r.2, r.3, ap (λ (cs : List Call). call ∷ cs) r.4, (next, made, r.5), r.6)

    came_in : Came s (call ∷ calls) moment bytes
    came_in = came_by (ends_in left.behind then_on more.0 next_on (sym left.grows ∙ more.1))

  came : (calls : List Call) (s last : StoreValue D) (failed : Option Release) (moment : Moments) (bytes : List ℕ) → IsSince view s failed → IsLife view s (map Called calls) last
      → CrashLeaves (view s.disk).moments (view last.disk).moments moment bytes → Came s calls moment bytes
  came [] s last failed moment bytes since same left =
      ([], None, [], s, refl, refl, subst (λ (d : StoreValue D). CrashLeaves (view s.disk).moments (view d.disk).moments moment bytes) same left)
  came (call ∷ calls) s last failed moment bytes since l left =
      let next = after_call view s l.0 failed call since l.1 in
      let now = option_or failed (failing call) in
      came_in s l.0 last call calls moment bytes l.1 (since_all calls l.0 last now next l.2) left (came calls l.0 last now moment bytes next l.2)

-- ---- what is kept holds what was acknowledged

part_after : (front xs ys : List Release) → IsSubsequence xs ys → IsSubsequence xs (front ++ ys)
part_after [] xs ys part = part
part_after (f ∷ front) [] ys part = tt
part_after (f ∷ front) (x ∷ xs) ys part = inr (part_after front (x ∷ xs) ys part)

part_with : (front xs ys : List Release) → IsSubsequence xs ys → IsSubsequence (front ++ xs) (front ++ ys)
part_with [] xs ys part = part
part_with (f ∷ front) xs ys part = inl (refl, part_with front xs ys part)

one_unacknowledged : (failed : Option Release) (within : Option Call) (other : List Release) → MayRemain failed within other → length other ≤ 1
one_unacknowledged failed within other (inl none) = let n : length other ≡ 0 = ap length none in omega (arith, n)
one_unacknowledged failed within other (inr one) = let n : length other ≡ 1 = ap length one.1 in omega (arith, n)

are_acknowledged : (events : List Event) (failed : Option Release) (releases : List Release) → AreKept failed events releases
    → IsSubsequence (acknowledged events) releases × (length releases ≤ length (acknowledged events) + crashes events)
are_acknowledged [] failed releases kept = let n : length releases ≡ 0 = ap length kept in (tt, omega (arith, n))
are_acknowledged (Called call ∷ events) failed releases kept =
    let more = are_acknowledged events (option_or failed (failing call)) kept.0 kept.2 in
    let all = more.1 in
    let n : length releases ≡ length (taken call) + length kept.0 = ap length kept.1 ∙ length-append (taken call) kept.0 in
    let m : length (acknowledged (Called call ∷ events)) ≡ length (taken call) + length (acknowledged events) = length-append (taken call) (acknowledged events) in (
      subst (λ (l : List Release). IsSubsequence (acknowledged (Called call ∷ events)) l) (sym kept.1) (part_with (taken call) (acknowledged events) kept.0 more.0),
      counted (length releases) (length (taken call)) (length kept.0) (length (acknowledged events)) (length (acknowledged (Called call ∷ events))) (crashes events) n m all,
    ) where
      counted : (r t o a b s : ℕ) → r ≡ t + o → b ≡ t + a → o ≤ a + s → r ≤ b + s
      counted r t o a b s n m all = omega (arith, n, m, all)
are_acknowledged (Crashed within ∷ events) failed releases kept =
    let more = are_acknowledged events None kept.1 kept.4 in
    let all = more.1 in
    let few = one_unacknowledged failed within kept.0 kept.3 in
    let n : length releases ≡ length kept.0 + length kept.1 = ap length kept.2 ∙ length-append kept.0 kept.1 in (
      subst (λ (l : List Release). IsSubsequence (acknowledged events) l) (sym kept.2) (part_after kept.0 (acknowledged events) kept.1 more.0),
      counted (length releases) (length kept.0) (length kept.1) (length (acknowledged events)) (crashes events) n few all,
    ) where
      counted : (r u o a s : ℕ) → r ≡ u + o → u ≤ 1 → o ≤ a + s → r ≤ a + (s + 1)
      counted r u o a s n few all = omega (arith, n, few, all)

pub kept_are_acknowledged : KeptAreAcknowledged
kept_are_acknowledged events releases kept = are_acknowledged events None releases kept

module _ (D : Type 0) (view : D → DiskView) where
  pub each_life_keeps : EachLifeKeepsItsImports D view
  each_life_keeps first last events up ack lives = keeps view events first last None (since_opened view first up ack) lives

  pub each_life_stands : EachLifeIsRepresented D view
  each_life_stands first last events within moment bytes up ack lives stopped =
      let r = opens view events first last None (since_opened view first up ack) lives within moment bytes stopped in
      (r.0, r.2.0, r.1, r.2.1, r.2.2)

  pub each_life_opens : EachLifeIsOpened D view
  each_life_opens first last events within moment bytes result up ack lives stopped is =
      let r = each_life_stands first last events within moment bytes up ack lives stopped in
      opened_as r.1 bytes (λ (k : History). (releases : List Release) × AreKept None (events ++ Crashed within ∷ []) releases × TakesAll first.history releases k) r.4 (r.0, r.2, r.3) result is

  pub each_crash_came : EachCrashIsOfALife D view
  each_crash_came first last calls moment bytes up ack lives left = came view calls first last None moment bytes (since_opened view first up ack) lives left

  pub lives_compose : LivesCompose D view
  lives_compose first mid last [] more same lives = subst (λ (s : StoreValue D). IsLife view s more last) same lives
  lives_compose first mid last (event ∷ events) more one two = (one.0, one.1, lives_compose one.0 mid last events more one.2 two)
