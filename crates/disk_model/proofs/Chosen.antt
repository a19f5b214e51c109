-- What is chosen is an image, and of one of the moments.
use Rattle.std.specs.Prelude.{Contains}
use Rattle.std.proofs.Common.{◌≡◌, ℕ, ◌≤◌, Bool, true, false, if◌then◌else◌, ltb, min, List, [], ◌∷◌, ◌++◌, length, take, drop, refl, sym, ◌∙◌, ap, subst, append_assoc, arith, length-take}
use Rattle.std.proofs.lemmas.List.{get_or-take, take-append-drop}
use Rattle.std.proofs.lemmas.List.Elements.{Contains-append_right}
use Rattle.disk_model.specs.Disk.{DiskState, Moments, IsImage, followed_by, settled, after_write, after_cut}
use Rattle.disk_model.specs.Change.{Change, Write, Cut, Sync, FailedWrite, FailedCut, after_change, replayed, made}
use Rattle.disk_model.specs.Choice.{IsChosen}
use Rattle.disk_model.specs.declared.choice.Choice.{Choice}
use Rattle.disk_model.specs.declared.choice.Choice.TheVariants.{Kept, Lost, Filled}
use Rattle.disk_model.specs.Private.Replayed.{memory_image}

-- the durable bytes are enough to be cut to the least length
durable_after_write : (s : DiskState) (at : ℕ) (bytes : List ℕ) → s.least ≤ length s.durable → (after_write s at bytes).least ≤ length (after_write s at bytes).durable
unfolding after_write
durable_after_write s at [] le = le
durable_after_write s at (byte ∷ bytes) le = le

either : (b : Bool) (s t : DiskState) → s.least ≤ length s.durable → t.least ≤ length t.durable → (if b then s else t).least ≤ length (if b then s else t).durable
either true s t first second = first
either false s t first second = second

durable_after_cut : (s : DiskState) (len : ℕ) → s.least ≤ length s.durable → (after_cut s len).least ≤ length (after_cut s len).durable
unfolding after_cut
durable_after_cut s len le =
    either (ltb len (length s.now)) (record { now = take len s.now; durable = s.durable; least = min s.least len; greatest = s.greatest; unsynced = s.unsynced }) s (omega arith) le

durable_settled : (bytes : List ℕ) → (settled bytes).least ≤ length (settled bytes).durable
unfolding settled
durable_settled bytes = omega arith

durable_after : (s : DiskState) (change : Change) → s.least ≤ length s.durable → (after_change s change).least ≤ length (after_change s change).durable
durable_after s (Write at bytes) le = durable_after_write s at bytes le
durable_after s (Cut len) le = durable_after_cut s len le
durable_after s Sync le = durable_settled s.now
durable_after s (FailedWrite at bytes part) le = durable_after_write s at bytes le
durable_after s (FailedCut len whole) le = durable_after_cut s len le

durable_replayed : (m : Moments) (changes : List Change) → m.state.least ≤ length m.state.durable → (replayed m changes).state.least ≤ length (replayed m changes).state.durable
durable_replayed m [] le = le
durable_replayed m (change ∷ changes) le = durable_replayed (followed_by m (after_change m.state change)) changes (durable_after m.state change le)

chosen : (s : DiskState) (choice : Choice) (image : List ℕ) → IsImage s s.now → s.least ≤ length s.durable → IsChosen s choice image → IsImage s image
chosen s Kept image now long is = subst (λ (c : List ℕ). IsImage s c) (sym is) now
chosen s Lost image now long is = subst (λ (c : List ℕ). IsImage s c) (sym is) (record {
  no_shorter = omega (arith, length-take s.least s.durable);
  no_longer = omega (arith, length-take s.least s.durable, now.no_longer, now.no_shorter);
  fixed = λ i lt out. get_or-take s.least s.durable i 0 lt;
})
chosen s (Filled byte) image now long is = record {
  no_shorter = omega (arith, is.as_long, now.no_shorter);
  no_longer = omega (arith, is.as_long, now.no_longer);
  fixed = λ i lt out. is.fixed i lt out ∙ now.fixed i lt out;
}

-- the image that was chosen, of the moment after some of the calls
pub chosen_image : (first : List ℕ) (changes : List Change) (choice : Choice) (image : List ℕ) → IsChosen (replayed (made first) changes).state choice image → IsImage (replayed (made first) changes).state image
chosen_image first changes choice image is =
    chosen (replayed (made first) changes).state choice image (memory_image first changes) (durable_replayed (made first) changes (durable_settled first)) is

replayed-append : (m : Moments) (xs ys : List Change) → replayed m (xs ++ ys) ≡ replayed (replayed m xs) ys
replayed-append m [] ys = refl
replayed-append m (change ∷ xs) ys = replayed-append (followed_by m (after_change m.state change)) xs ys

-- the states of the moments, the newest first
abbrev pub states_of : Moments → List DiskState
states_of m = m.state ∷ m.past

states_kept : (m : Moments) (changes : List Change) → (newer : List DiskState) × (states_of (replayed m changes) ≡ newer ++ states_of m)
states_kept m [] = ([], refl)
states_kept m (change ∷ changes) =
    let rest = states_kept (followed_by m (after_change m.state change)) changes in
    (rest.0 ++ after_change m.state change ∷ [], rest.1 ∙ sym (append_assoc rest.0 (after_change m.state change ∷ []) (states_of m)))

pub one_of_the_moments : (first : List ℕ) (changes : List Change) (n : ℕ) → Contains (states_of (replayed (made first) changes)) (replayed (made first) (take n changes)).state
one_of_the_moments first changes n =
    let mid = replayed (made first) (take n changes) in
    let newer = states_kept mid (drop n changes) in
    let split = ap (λ (l : List Change). replayed (made first) l) (sym (take-append-drop n changes)) ∙ replayed-append (made first) (take n changes) (drop n changes) in
    subst (λ (l : List DiskState). Contains l mid.state) (sym (ap (λ (m : Moments). states_of m) split ∙ newer.1)) (Contains-append_right newer.0 (states_of mid) mid.state (0, omega arith, refl))
