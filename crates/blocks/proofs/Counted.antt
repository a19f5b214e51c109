-- How many calls were made that may change a disk.
use Rattle.std.specs.Prelude.{Result, Ok, Err, OnOk, OnErr}
use Rattle.std.proofs.Common.{◌≡◌, inl, inr, ℕ, ◌+◌, ◌≤◌, ap, arith}
use Rattle.disk_model.specs.Disk.{DiskState, Moments, Fails, followed_by}
use Rattle.blocks.specs.Calls.{call_count, MakesCalls}

pub one_more : (old new : Moments) (s : DiskState) → new ≡ followed_by old s → call_count new ≡ call_count old + 1
one_more old new s is = omega (arith, ap (λ (m : Moments). call_count m) is)

-- a write
pub write_counts : {T E : Type 0} (r : Result T E) (old new : Moments) (made : DiskState) → OnOk r (new ≡ followed_by old made) → OnErr r (Fails old made new)
    → MakesCalls r 1 old new
write_counts (Ok x) old new made ok err = one_more old new made ok
write_counts (Err e) old new made ok (inl same) = omega (arith, ap (λ (m : Moments). call_count m) same)
write_counts (Err e) old new made ok (inr (s, failed, later)) = omega (arith, one_more old new s later)

-- a sync
pub sync_counts : {T E : Type 0} (r : Result T E) (old new : Moments) (s : DiskState) → OnOk r (new ≡ followed_by old s) → OnErr r (new ≡ old) → MakesCalls r 1 old new
sync_counts (Ok x) old new s ok err = one_more old new s ok
sync_counts (Err e) old new s ok err = omega (arith, ap (λ (m : Moments). call_count m) err)

-- after calls that succeeded
pub counts_on : {T E : Type 0} (r : Result T E) (n m : ℕ) (a b c : Moments) → call_count b ≡ call_count a + n → MakesCalls r m b c → MakesCalls r (n + m) a c
counts_on (Ok x) n m a b c so_far here = omega (arith, so_far, here)
counts_on (Err e) n m a b c so_far here = omega (arith, so_far, here)

-- whatever it answered
pub at_most : {T E : Type 0} (r : Result T E) (n : ℕ) (a b : Moments) → MakesCalls r n a b → call_count b ≤ call_count a + n
at_most (Ok x) n a b here = omega (arith, here)
at_most (Err e) n a b here = here
