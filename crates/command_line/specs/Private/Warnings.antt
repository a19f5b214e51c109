-- Of what in the files of a release people are warned.
use Rattle.std.specs.Prelude.{◌≡◌, ◌≢◌, ◌-◌, ◌==◌, ℕ, true, List, length, take, Some}
use Rattle.std.specs.Prelude.{slice_get}
use Rattle.std.specs.List.{list_any}

-- a line of a file ends before the last byte of the file, so that another line follows it
abbrev pub HasRows : List ℕ → Type 0
HasRows bytes = list_any (λ byte. byte == 10) (take (length bytes - 1) bytes) ≡ true

-- the last byte of a file isn't the end of a line
abbrev pub IsCut : List ℕ → Type 0
IsCut bytes = (byte : ℕ) × (slice_get bytes (length bytes - 1) ≡ Some byte) × (byte ≢ 10)
