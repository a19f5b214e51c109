-- How a call changes a count of faults.
use Rattle.std.specs.Prelude.{◌≡◌, ℕ, ◌+◌, ◌-◌, ◌^◌, ◌≤◌, min, Result, MatchResult}
use Rattle.fault_counts.specs.declared.fault.ReadFault.{ReadFault}
use Rattle.fault_counts.specs.declared.fault.ReadFault.TheVariants as readfault

-- a count of 64 bits has risen by one or more; at its greatest value it may stay
abbrev pub HasRisen : ℕ → ℕ → Type 0
HasRisen old new = (old ≤ new) × (min (old + 1) (2 ^ 64 - 1) ≤ new)

-- a count after a call: unchanged if the call succeeds, and otherwise as the fault says
abbrev pub Counts : {T E : Type 0} → (E → ℕ → ℕ → Type 0) → Result T E → ℕ → ℕ → Type 0
Counts by result old new = MatchResult result (λ _. new ≡ old) (λ fault. by fault old new)

-- a count that rises with every fault
abbrev pub CountsEach : {T E : Type 0} → Result T E → ℕ → ℕ → Type 0
CountsEach result old new = Counts (λ _. HasRisen) result old new

-- the count rises with the error `DiskFault`, and otherwise is unchanged
abbrev pub CountsDiskFault : ReadFault → ℕ → ℕ → Type 0
CountsDiskFault readfault.OutOfMemory old new = new ≡ old
CountsDiskFault readfault.DiskFault old new = HasRisen old new
CountsDiskFault readfault.Damaged old new = new ≡ old

-- the count rises with the error `Damaged`, and otherwise is unchanged
abbrev pub CountsDamage : ReadFault → ℕ → ℕ → Type 0
CountsDamage readfault.OutOfMemory old new = new ≡ old
CountsDamage readfault.DiskFault old new = new ≡ old
CountsDamage readfault.Damaged old new = HasRisen old new
