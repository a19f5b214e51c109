-- Names of releases.
use Rattle.std.specs.Prelude.{◌≡◌, ◌≢◌, ◌==◌, ℕ, ◌≤◌, ◌⊎◌, List, length, codes, All}
use Rattle.std.specs.List.{slice_split}
use Rattle.std.specs.Char.{IsAsciiAlphanumeric}

-- an ASCII letter or digit, `_`, `-` or `.`
abbrev pub IsNameByte : ℕ → Type 0
IsNameByte b = IsAsciiAlphanumeric b ⊎ (b ≡ 95) ⊎ (b ≡ 45) ⊎ (b ≡ 46)

-- at least one such byte, but neither `.` nor `..`
pub record IsNamePart (part : List ℕ) : Type 0 where
  pub some : 1 ≤ length part
  pub plain : All IsNameByte part
  pub not_here : part ≢ codes "."
  pub not_above : part ≢ codes ".."

-- up to 1,024 bytes: such parts, joined by `/`
pub record IsName (name : List ℕ) : Type 0 where
  pub short : length name ≤ 1024
  pub parts : All IsNamePart (slice_split (λ b. b == 47) name)
