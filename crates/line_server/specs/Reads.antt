-- What the reads of an input returned.
use Rattle.std.specs.Prelude.{◌≡◌, ⊤, ℕ, ◌≤◌, List, [], ◌++◌, length, take, Option, Some, None}
use Rattle.std.specs.Prelude.{Result, Ok, Err}
use Rattle.std.specs.List.{flat_map}

-- what a read returned: bytes, where none mean the end of the input; or a failure
pub data Reading : Type 0 where
  Gave : List ℕ → Reading
  Failed : Reading

-- a read as a value, from its result and the contents of the buffer
abbrev pub reading : {E : Type 0} → Result ℕ E → List ℕ → Reading
reading (Ok n) piece = Gave (take n piece)
reading (Err fault) piece = Failed

-- the bytes that a read returned
abbrev pub came_of : Reading → List ℕ
came_of (Gave bytes) = bytes
came_of Failed = []

-- the bytes that reads returned, joined
abbrev pub all_of : List Reading → List ℕ
all_of reads = flat_map came_of reads

-- a read returned bytes: at least one, and at most 4,096
abbrev pub IsPiece : Reading → Type 0
IsPiece (Gave bytes) = (1 ≤ length bytes) × (length bytes ≤ 4096)
IsPiece Failed = ⊥

-- if the reads so far are known, exactly these were appended to them, in order
abbrev pub Makes : Option (List Reading) → Option (List Reading) → List Reading → Type 0
Makes None after reads = ⊤
Makes (Some before) None reads = ⊥
Makes (Some before) (Some after) reads = after ≡ before ++ reads
