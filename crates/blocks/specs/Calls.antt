-- How many changing calls of a disk were made: each moment except the first is one.
use Rattle.std.specs.Prelude.{◌≡◌, ℕ, ◌+◌, ◌≤◌, length, Result, MatchResult}
use Rattle.disk_model.specs.Disk.{Moments}

abbrev pub call_count : Moments → ℕ
call_count m = length m.past

-- exactly `n` more calls were made; after an error at most `n`
abbrev pub MakesCalls : {T E : Type 0} → Result T E → ℕ → Moments → Moments → Type 0
MakesCalls result n old new =
    MatchResult result (λ _. call_count new ≡ call_count old + n)
    (λ _. call_count new ≤ call_count old + n)
