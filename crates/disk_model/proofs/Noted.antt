-- The moments of a disk in memory after a call, by what its record says.
use Rattle.std.specs.Prelude.{Result, Ok, Err, OnOk, OnErr, IsOk}
use Rattle.std.specs.Prelude.{nat_lt}
use Rattle.std.proofs.Common.{◌≡◌, ◌⊎◌, inl, inr, ℕ, ◌<◌, min, Bool, true, false, if◌then◌else◌, List, [], ◌∷◌, ◌++◌, length, take, refl, sym, ◌∙◌, ap, arith}
use Rattle.std.proofs.lemmas.Bool.Decides.{nat_tests}
use Rattle.std.proofs.lemmas.List.{append-nil, take_all}
use Rattle.disk_model.specs.Disk.{DiskState, IsImage, HasFailed, Fails, followed_by, settled, after_write, after_cut}
use Rattle.disk_model.specs.Change.{Change, Sync, FailedWrite, FailedCut, after_change, replayed, made, written}
use Rattle.disk_model.specs.Faults.{written_as, cut_as, synced_as}
use Rattle.disk_model.specs.Private.Faults.{part_of}
use Rattle.disk_model.specs.Private.Replayed.{change_image, memory_image, now-after_cut}
use Rattle.disk_model.proofs.Calls.{replayed-more, now-push, now-after_write, now-settled}
use Rattle.disk_model.proofs.Pasted.{take_min}
use Rattle.disk_model.specs.declared.memory.faults.Fate.{Fate}
use Rattle.disk_model.specs.declared.memory.faults.Fate.TheVariants.{Passes, Fails as FateFails}

same_moments : (first first_2 : List ℕ) (old new : List Change) → first_2 ≡ first → new ≡ old → replayed (made first_2) new ≡ replayed (made first) old
same_moments first first_2 old new firsts same = ap (λ (f : List ℕ). replayed (made f) new) firsts ∙ ap (λ (l : List Change). replayed (made first) l) same

one_more : (first first_2 : List ℕ) (old new : List Change) (change : Change) → first_2 ≡ first → new ≡ old ++ change ∷ []
    → replayed (made first_2) new ≡ followed_by (replayed (made first) old) (after_change (replayed (made first) old).state change)
one_more first first_2 old new change firsts is = ap (λ (f : List ℕ). replayed (made f) new) firsts ∙ replayed-more (made first) old new change is

-- a write or a cut that answered Ok
pub passed : {T E T_2 E_2 : Type 0} (result : Result T E) (noted : Result T_2 E_2) (first first_2 first_3 : List ℕ) (old mid new : List Change) (fate : Fate) (change : Fate → Change)
    → OnOk result (IsOk noted × (fate ≡ Passes)) → OnOk noted (mid ≡ old ++ change fate ∷ []) → first_2 ≡ first → (first_3 ≡ first_2) × (new ≡ mid)
    → OnOk result (replayed (made first_3) new ≡ followed_by (replayed (made first) old) (after_change (replayed (made first) old).state (change Passes)))
passed (Err e) noted first first_2 first_3 old mid new fate change why is firsts same = tt
passed (Ok x) (Err e) first first_2 first_3 old mid new fate change why is firsts same = absurd (cc why.0)
passed (Ok x) (Ok y) first first_2 first_3 old mid new fate change why is firsts same =
    one_more first first_3 old new (change Passes) (same.0 ∙ firsts) (same.1 ∙ is ∙ ap (λ (f : Fate). old ++ change f ∷ []) why.1)

-- a write or a cut that failed
pub failed : {T E T_2 E_2 : Type 0} (result : Result T E) (noted : Result T_2 E_2) (first first_2 first_3 : List ℕ) (old mid new : List Change) (fate : Fate) (change : Fate → Change)
    → ((s : DiskState) (part : ℕ) → IsImage s s.now → HasFailed s (after_change s (change Passes)) (after_change s (change (FateFails part))))
    → OnErr result (IsOk noted → ¬ (fate ≡ Passes)) → OnOk noted (mid ≡ old ++ change fate ∷ []) → OnErr noted (mid ≡ old) → first_2 ≡ first → (first_3 ≡ first_2) × (new ≡ mid)
    → OnErr result (Fails (replayed (made first) old) (after_change (replayed (made first) old).state (change Passes)) (replayed (made first_3) new))
failed (Ok x) noted first first_2 first_3 old mid new fate change may why is stays firsts same = tt
failed (Err e) (Err y) first first_2 first_3 old mid new fate change may why is stays firsts same =
    inl (same_moments first first_3 old new (same.0 ∙ firsts) (same.1 ∙ stays))
failed (Err e) (Ok y) first first_2 first_3 old mid new Passes change may why is stays firsts same = absurd (why refl refl)
failed (Err e) (Ok y) first first_2 first_3 old mid new (FateFails part) change may why is stays firsts same =
    let s = (replayed (made first) old).state in
    inr (after_change s (change (FateFails part)), may s part (memory_image first old), one_more first first_3 old new (change (FateFails part)) (same.0 ∙ firsts) (same.1 ∙ is))

-- a call that wasn't to fail and did so for want of memory
pub unmade : {T E T_2 E_2 : Type 0} (result : Result T E) (noted : Result T_2 E_2) (old mid new : List Change) (fate : Fate)
    → OnErr result (IsOk noted → ¬ (fate ≡ Passes)) → OnErr noted (mid ≡ old) → new ≡ mid → fate ≡ Passes → OnErr result (new ≡ old)
unmade (Ok x) noted old mid new fate why stays same passes = tt
unmade (Err e) (Err y) old mid new fate why stays same passes = same ∙ stays
unmade (Err e) (Ok y) old mid new fate why stays same passes = absurd (why refl passes)

-- whatever a call answered, at most it itself is new on the record
pub at_most_one : {T E : Type 0} (noted : Result T E) (old mid new : List Change) (fate fate_2 : Fate) (change : Fate → Change)
    → OnOk noted (mid ≡ old ++ change fate ∷ []) → OnErr noted (mid ≡ old) → new ≡ mid → fate ≡ fate_2 → (new ≡ old) ⊎ (new ≡ old ++ change fate_2 ∷ [])
at_most_one (Ok x) old mid new fate fate_2 change is stays same fates = inr (same ∙ is ∙ ap (λ (f : Fate). old ++ change f ∷ []) fates)
at_most_one (Err e) old mid new fate fate_2 change is stays same fates = inl (same ∙ stays)

-- a sync that failed
pub unsynced : {T E T_2 E_2 : Type 0} (result : Result T E) (noted : Result T_2 E_2) (old mid new : List Change) (fate : Fate)
    → OnErr result (IsOk noted → ¬ (fate ≡ Passes)) → OnOk noted (mid ≡ old ++ synced_as fate) → OnErr noted (mid ≡ old) → new ≡ mid → OnErr result (new ≡ old)
unsynced (Ok x) noted old mid new fate why is stays same = tt
unsynced (Err e) (Err y) old mid new fate why is stays same = same ∙ stays
unsynced (Err e) (Ok y) old mid new Passes why is stays same = absurd (why refl refl)
unsynced (Err e) (Ok y) old mid new (FateFails part) why is stays same = same ∙ is ∙ append-nil old

pub write_may_fail : (at : ℕ) (bytes : List ℕ) (s : DiskState) (part : ℕ) → IsImage s s.now → HasFailed s (after_write s at bytes) (after_change s (FailedWrite at bytes part))
write_may_fail at bytes s part now = record { account = inr refl; image = change_image s (FailedWrite at bytes part) now }

pub cut_may_fail : (len : ℕ) (whole : Bool) (s : DiskState) → IsImage s s.now → HasFailed s (after_cut s len) (after_change s (FailedCut len whole))
cut_may_fail len whole s now = record { account = inr refl; image = change_image s (FailedCut len whole) now }

pub synced_ok : {T E T_2 E_2 : Type 0} (result : Result T E) (noted : Result T_2 E_2) (first first_2 first_3 : List ℕ) (old mid new : List Change) (fate : Fate)
    → OnOk result (IsOk noted × (fate ≡ Passes)) → OnOk noted (mid ≡ old ++ synced_as fate) → first_2 ≡ first → (first_3 ≡ first_2) × (new ≡ mid)
    → OnOk result (replayed (made first_3) new ≡ followed_by (replayed (made first) old) (settled (replayed (made first) old).state.now))
synced_ok (Err e) noted first first_2 first_3 old mid new fate why is firsts same = tt
synced_ok (Ok x) (Err e) first first_2 first_3 old mid new fate why is firsts same = absurd (cc why.0)
synced_ok (Ok x) (Ok y) first first_2 first_3 old mid new fate why is firsts same =
    one_more first first_3 old new Sync (same.0 ∙ firsts) (same.1 ∙ is ∙ ap (λ (f : Fate). old ++ synced_as f) why.1)

-- what a read gives, once a call more is on the record
pub replay_is : (first first_2 : List ℕ) (old new : List Change) (shown : List ℕ) (change : Change) → first_2 ≡ first → new ≡ old ++ change ∷ []
    → shown ≡ (after_change (replayed (made first) old).state change).now → shown ≡ (replayed (made first_2) new).state.now
replay_is first first_2 old new shown change firsts is shows =
    shows ∙ sym (now-push (made first) old new change is) ∙ ap (λ (f : List ℕ). (replayed (made f) new).state.now) (sym firsts)

pub shown_written : (s : DiskState) (shown old : List ℕ) (fate : Fate) (at : ℕ) (bytes : List ℕ) → old ≡ s.now → shown ≡ written old at (take (part_of fate (length bytes)) bytes)
    → shown ≡ (after_change s (written_as fate at bytes)).now
shown_written s shown old Passes at bytes was is =
    is ∙ ap (λ (l : List ℕ). written old at l) (take_all (length bytes) bytes (omega arith)) ∙ ap (λ (l : List ℕ). written l at bytes) was ∙ sym (now-after_write s at bytes)
shown_written s shown old (FateFails part) at bytes was is =
    is ∙ ap (λ (l : List ℕ). written old at l) (take_min part bytes (min (length bytes) part) refl) ∙ ap (λ (l : List ℕ). written l at (take part bytes)) was

pub shown_cut : (s : DiskState) (shown old : List ℕ) (fate : Fate) (len : ℕ) → old ≡ s.now → part_of fate 1 ≡ 1 → shown ≡ take len old → shown ≡ (after_change s (cut_as fate len)).now
shown_cut s shown old Passes len was whole is = is ∙ ap (λ (l : List ℕ). take len l) was ∙ sym (now-after_cut s len)
shown_cut s shown old (FateFails part) len was whole is =
    is ∙ ap (λ (l : List ℕ). take len l) was ∙ ap (λ (b : Bool). if b then take len s.now else s.now) (let e : true ≡ nat_lt 0 part = (let some : 0 < part = omega arith in grind (arith, nat_tests)) in e)

pub shown_uncut : (s : DiskState) (shown old : List ℕ) (fate : Fate) (len : ℕ) → old ≡ s.now → ¬ (part_of fate 1 ≡ 1) → shown ≡ old → shown ≡ (after_change s (cut_as fate len)).now
shown_uncut s shown old Passes len was part is = absurd (part refl)
shown_uncut s shown old (FateFails part) len was none is =
    is ∙ was ∙ ap (λ (b : Bool). if b then take len s.now else s.now) (let e : false ≡ nat_lt 0 part = (let zero : part ≡ 0 = omega arith in grind (arith, nat_tests)) in e)

pub shown_synced : (first : List ℕ) (old new : List Change) (shown : List ℕ) (fate : Fate) → new ≡ old ++ synced_as fate → shown ≡ (replayed (made first) old).state.now → shown ≡ (replayed (made first) new).state.now
shown_synced first old new shown Passes is shows = replay_is first first old new shown Sync refl is (shows ∙ sym (now-settled (replayed (made first) old).state))
shown_synced first old new shown (FateFails part) is shows = shows ∙ ap (λ (l : List Change). (replayed (made first) l).state.now) (sym (is ∙ append-nil old))
