-- How a run of calls goes on.
use Rattle.std.proofs.Common.{◌≡◌, inl, inr, ⊎_elim, ℕ, List, [], ◌∷◌, ◌++◌, refl, sym, ◌∙◌, ap, subst, append_assoc}
use Rattle.std.specs.Prelude.{All, Contains, Result, OnOk, OnErr, Ok, Err}
use Rattle.std.proofs.lemmas.List.Elements.{All-nil, All-cons, All-head, All-same, All-append, All-contains, All-weaker}
use Rattle.disk_model.specs.Disk.{DiskState, IsImage, EachImage, Moments, followed_by, Fails, HasFailed, LeavesOnly, settled}
use Rattle.disk_model.specs.Change.{made}
use Rattle.disk_model.proofs.Images.{image_reading, settled_only}

-- before the first call
pub started : (old : Moments) (P : List ℕ → Type 0) → EachImage old.state P → LeavesOnly old old P
started old P here = record { since = []; grows = refl; first = here; each = All-nil (λ s. EachImage s P) }

-- one call more, after which a crash leaves what has P
pub on_made : (old mid new : Moments) (P : List ℕ → Type 0) (s : DiskState) → LeavesOnly old mid P → new ≡ followed_by mid s → EachImage s P → LeavesOnly old new P
on_made old mid new P s so_far made here =
    subst (λ (m : Moments). LeavesOnly old m P) (sym made)
    (record { since = s ∷ so_far.since; grows = ap (λ (l : List DiskState). s ∷ l) so_far.grows; first = so_far.first; each = All-cons (λ s. EachImage s P) s so_far.since here so_far.each })

-- what a crash leaves now
pub at_end : (old new : Moments) (P : List ℕ → Type 0) → LeavesOnly old new P → EachImage new.state P
at_end old new P run = last run.since run.grows run.each
  where
    last : (since : List DiskState) → new.state ∷ new.past ≡ since ++ old.state ∷ old.past → All (λ s. EachImage s P) since → EachImage new.state P
    last [] same each = let is : new.state ≡ old.state = cc in subst (λ (s : DiskState). EachImage s P) (sym is) run.first
    last (s ∷ since) same each = let is : new.state ≡ s = cc in subst (λ (t : DiskState). EachImage t P) (sym is) (All-head (λ t. EachImage t P) s since each)

-- a failed call keeps P where the call, had it been made, would
pub each_failed : (old made new : DiskState) (P : List ℕ → Type 0) → EachImage old P → EachImage made P → HasFailed old made new → EachImage new P
each_failed old made new P was is failed c image =
    ⊎_elim
    (λ (e : new ≡ _). was c (image_reading old new.now c (subst (λ (s : DiskState). IsImage s c) e image)))
    (λ (e : new ≡ _). is c (image_reading made new.now c (subst (λ (s : DiskState). IsImage s c) e image)))
    failed.account

pub on_failed : (old mid new : Moments) (P : List ℕ → Type 0) (made : DiskState) → LeavesOnly old mid P → Fails mid made new → EachImage made P → LeavesOnly old new P
on_failed old mid new P made so_far (inl same) here = subst (λ (m : Moments). LeavesOnly old m P) (sym same) so_far
on_failed old mid new P made so_far (inr (s, failed, later)) here =
    on_made old mid new P s so_far later (each_failed mid.state made s P (at_end old mid P so_far) here failed)

-- one run after another
pub joined : (a b c : Moments) (P : List ℕ → Type 0) → LeavesOnly a b P → LeavesOnly b c P → LeavesOnly a c P
joined a b c P one two = record {
  since = two.since ++ one.since;
  grows = two.grows ∙ ap (λ (l : List DiskState). two.since ++ l) one.grows ∙ sym (append_assoc two.since one.since (a.state ∷ a.past));
  first = one.first;
  each = All-append (λ s. EachImage s P) two.since one.since two.each one.each;
}

pub weaker : (a b : Moments) (P Q : List ℕ → Type 0) → ((c : List ℕ) → P c → Q c) → LeavesOnly a b P → LeavesOnly a b Q
weaker a b P Q so run = record {
  since = run.since;
  grows = run.grows;
  first = λ c image. so c (run.first c image);
  each = All-weaker (λ s. EachImage s P) (λ s. EachImage s Q) (λ s was c image. so c (was c image)) run.since run.each;
}

-- a write or a cut, whatever it answered
pub changed : {T E : Type 0} (old mid new : Moments) (P : List ℕ → Type 0) (made : DiskState) (result : Result T E) → LeavesOnly old mid P
    → OnOk result (new ≡ followed_by mid made) → OnErr result (Fails mid made new) → EachImage made P → LeavesOnly old new P
changed old mid new P made (Ok x) so_far ok err here = on_made old mid new P made so_far ok here
changed old mid new P made (Err e) so_far ok err here = on_failed old mid new P made so_far err here

pub each_settled : (s : DiskState) (P : List ℕ → Type 0) → IsImage s s.now → EachImage s P → EachImage (settled s.now) P
each_settled s P now was c image = subst P (sym (settled_only s.now c image)) (was s.now now)

-- a sync, whatever it answered
pub synced : {T E : Type 0} (old mid new : Moments) (P : List ℕ → Type 0) (result : Result T E) → LeavesOnly old mid P → IsImage mid.state mid.state.now
    → OnOk result (new ≡ followed_by mid (settled mid.state.now)) → OnErr result (new ≡ mid) → LeavesOnly old new P
synced old mid new P (Ok x) so_far now ok err = on_made old mid new P (settled mid.state.now) so_far ok (each_settled mid.state P now (at_end old mid P so_far))
synced old mid new P (Err e) so_far now ok err = subst (λ (m : Moments). LeavesOnly old m P) (sym err) so_far

-- a run that began where a call had changed nothing
pub from_same : (old mid new : Moments) (Q : DiskState → List ℕ → Type 0) (P : List ℕ → Type 0) → mid ≡ old → LeavesOnly mid new (Q mid.state) → ((c : List ℕ) → Q old.state c → P c) → LeavesOnly old new P
from_same old mid new Q P same run so = weaker old new (Q old.state) P so (subst (λ (m : Moments). LeavesOnly m new (Q m.state)) same run)

-- a call that changed nothing
pub stayed : (old new : Moments) (P : List ℕ → Type 0) → new ≡ old → EachImage old.state P → LeavesOnly old new P
stayed old new P same here = subst (λ (m : Moments). LeavesOnly old m P) (sym same) (started old P here)

-- each moment since, where all those before had P too
pub all_moments : (old new : Moments) (P : List ℕ → Type 0) → All (λ s. EachImage s P) old.past → LeavesOnly old new P → All (λ s. EachImage s P) (new.state ∷ new.past)
all_moments old new P before run =
    All-same (λ s. EachImage s P) (new.state ∷ new.past) (run.since ++ old.state ∷ old.past) run.grows
    (All-append (λ s. EachImage s P) run.since (old.state ∷ old.past) run.each (All-cons (λ s. EachImage s P) old.state old.past run.first before))

-- what a crash leaves at one of the moments since a disk was made
pub at_moment : (new : Moments) (first : List ℕ) (P : List ℕ → Type 0) (s : DiskState) → LeavesOnly (made first) new P → Contains (new.state ∷ new.past) s → EachImage s P
at_moment new first P s run here = All-contains (λ t. EachImage t P) (new.state ∷ new.past) s (all_moments (made first) new P (All-nil (λ t. EachImage t P)) run) here
