-- What a record of calls comes to, with one call more.
use Rattle.std.proofs.Common.{◌≡◌, ℕ, List, [], ◌∷◌, ◌++◌, refl, ◌∙◌, ap}
use Rattle.disk_model.specs.Disk.{DiskState, Moments, followed_by, settled, after_write}
use Rattle.disk_model.specs.Change.{Change, after_change, replayed, made, written}

pub replayed-push : (m : Moments) (changes : List Change) (change : Change) → replayed m (changes ++ change ∷ []) ≡ followed_by (replayed m changes) (after_change (replayed m changes).state change)
replayed-push m [] change = refl
replayed-push m (first ∷ changes) change = replayed-push (followed_by m (after_change m.state first)) changes change

-- what a read gives after one call more
pub now-push : (m : Moments) (log new : List Change) (change : Change) → new ≡ log ++ change ∷ [] → (replayed m new).state.now ≡ (after_change (replayed m log).state change).now
now-push m log new change is = ap (λ (l : List Change). (replayed m l).state.now) is ∙ ap (λ (k : Moments). k.state.now) (replayed-push m log change)

pub replayed-more : (m : Moments) (log new : List Change) (change : Change) → new ≡ log ++ change ∷ [] → replayed m new ≡ followed_by (replayed m log) (after_change (replayed m log).state change)
replayed-more m log new change is = ap (λ (l : List Change). replayed m l) is ∙ replayed-push m log change

pub now-after_write : (s : DiskState) (at : ℕ) (bytes : List ℕ) → (after_write s at bytes).now ≡ written s.now at bytes
unfolding after_write
now-after_write s at [] = refl
now-after_write s at (byte ∷ bytes) = refl

pub now-settled : (s : DiskState) → (settled s.now).now ≡ s.now
unfolding settled
now-settled s = refl

pub now-made : (bytes : List ℕ) → (made bytes).state.now ≡ bytes
unfolding settled
now-made bytes = refl
