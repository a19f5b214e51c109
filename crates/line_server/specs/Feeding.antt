-- What feeding a piece of the input to the server does.
use Rattle.std.specs.Prelude.{◌≡◌, ◌⊎◌, ◌==◌, ◌^◌, ◌-◌, false, ℕ, List, [], ◌∷◌, ◌++◌, length, min}
use Rattle.std.specs.Prelude.{All, Option, Result, Ok, Err, IfOk, OnOk, OnErr}
use Rattle.disk_model.specs.View.{DiskView}
use Rattle.std.specs.Io.KnownBytes.{Appends}
use Rattle.rf2_rows.specs.File.{lines_in}
use Rattle.line_server.specs.Sources.{SourceView}
use Rattle.line_server.specs.ReplyValue.{reply_value, bytes_of}
use Rattle.line_server.specs.Replies.{Server}
use Rattle.line_server.specs.Turns.{Turn, Run, lines_asked, replies}
use Rattle.line_server.specs.Streams.{ends_in, AppendsSome}
use Rattle.line_server.specs.Steps.{kept}

-- the first list is a prefix of the second
abbrev pub IsFront : {X : Type 0} → List X → List X → Type 0
IsFront {X} front whole = (rest : List X) × (whole ≡ front ++ rest)

-- no line ends in the bytes
abbrev pub IsUnended : List ℕ → Type 0
IsUnended part = All (λ b. (b == 10) ≡ false) part

-- the bytes are these lines, each with its end, and then the beginning of the next one
pub record AreCut (bytes : List ℕ) (lines : List (List ℕ)) (part : List ℕ) : Type 0 where
  pub ended : List ℕ
  pub whole : bytes ≡ ended ++ part
  pub ends : (ended ≡ []) ⊎ ((front : List ℕ) × (ended ≡ front ++ 10 ∷ []))
  pub lines_are : lines ≡ lines_in ended
  pub free : IsUnended part

-- each reply but the last was written, and of that one a proper prefix at most
abbrev pub LacksLastReply : Option (List ℕ) → Option (List ℕ) → List Turn → Type 0
LacksLastReply old new turns =
    (done : List Turn) × (last : Turn) × (mid : Option (List ℕ)) × (turns ≡ done ++ last ∷ [])
    × Appends old mid (replies done) × AppendsSome mid new (bytes_of (reply_value last.outcome))

-- each reply was written; or the writer failed in the last one
abbrev pub AreReplied : {T E : Type 0} → Result T E → Option (List ℕ) → Option (List ℕ) → List Turn
    → Type 0
AreReplied (Ok x) old new turns = Appends old new (replies turns)
AreReplied (Err e) old new turns = LacksLastReply old new turns

-- A piece of the input: the part of a line that came before it, the piece itself, what the buffer
-- has of the next line after it, and the output's bytes before and after, if they are known.
pub record Intake : Type 0 where
  pub part : List ℕ
  pub piece : List ℕ
  pub buffer : List ℕ
  pub old : Option (List ℕ)
  pub new : Option (List ℕ)

abbrev pub intake : List ℕ → List ℕ → List ℕ → Option (List ℕ) → Option (List ℕ) → Intake
intake part piece buffer old new =
    record { part = part; piece = piece; buffer = buffer; old = old; new = new }

-- A piece of the input was taken after a part of a line. Each line that ended in the piece was
-- answered, in order, and its reply written; the beginning of the next line is kept. After a fault
-- of the writer this holds of the piece up to the end of the line whose reply wasn't written, and
-- nothing is kept.
pub record IsFed {D E : Type 0} (result : Result ℕ E) (source : SourceView) (view : D → DiskView)
    (intake : Intake) (before after : Server D) : Type 0 where
  pub turns : List Turn
  pub run : Run source view before turns after
  -- how much of the piece was taken, and the beginning of the next line there
  pub taken : List ℕ
  pub rest : List ℕ
  pub front : IsFront taken intake.piece
  pub all : OnOk result (taken ≡ intake.piece)
  pub dropped : OnErr result (rest ≡ [])
  pub lines : AreCut (intake.part ++ taken) (lines_asked turns) rest
  pub number : length turns ≡ ends_in taken
  pub kept_is : intake.buffer ≡ kept rest
  pub replied : AreReplied result intake.old intake.new turns
  pub count : IfOk result (λ n. n ≡ min (length turns) (2 ^ 64 - 1))
