-- Bytes that are read and written.
use Rattle.std.specs.Prelude.{◌≡◌, ◌==◌, ℕ, ◌≤◌, ◌++◌, List, length, Option, None, Result, Ok, Err}
use Rattle.std.specs.List.{count_by}
use Rattle.std.specs.Io.KnownBytes.{Appends}
use Rattle.line_server.specs.Reads.{Reading}

-- What a call reads and writes, as far as it is known: the bytes that the input has left before the
-- call and after it, the reads made before the call and after it, and the bytes of the output
-- before and after.
pub record Streams : Type 0 where
  pub input : Option (List ℕ)
  pub rest : Option (List ℕ)
  pub reads : Option (List Reading)
  pub reads_after : Option (List Reading)
  pub old : Option (List ℕ)
  pub new : Option (List ℕ)

-- streams with these bytes of the input and of the output, of whose reads nothing is known
abbrev pub streams : Option (List ℕ) → Option (List ℕ) → Option (List ℕ) → Option (List ℕ)
    → Streams
streams input rest old new = record {
  input = input;
  rest = rest;
  reads = None;
  reads_after = None;
  old = old;
  new = new;
}

-- the same streams, with the reads
abbrev pub with_reads : Streams → Option (List Reading) → Option (List Reading) → Streams
with_reads known reads reads_after = record known { reads = reads; reads_after = reads_after }

-- how many lines end in the bytes: the number of LFs
abbrev pub ends_in : List ℕ → ℕ
ends_in bytes = count_by (λ b. b == 10) bytes

-- known bytes grew by a proper prefix of these
abbrev pub AppendsSome : Option (List ℕ) → Option (List ℕ) → List ℕ → Type 0
AppendsSome old new bytes = (front : List ℕ) × (rest : List ℕ) × (bytes ≡ front ++ rest)
    × (1 ≤ length rest) × Appends old new front

-- all the bytes were written, or else a proper prefix of them
abbrev pub IsPut : {T E : Type 0} → Result T E → Option (List ℕ) → Option (List ℕ) → List ℕ → Type 0
IsPut (Ok x) old new bytes = Appends old new bytes
IsPut (Err e) old new bytes = AppendsSome old new bytes
