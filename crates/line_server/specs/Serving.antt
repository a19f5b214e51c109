-- What serving lines does.
use Rattle.std.specs.Prelude.{◌≡◌, ◌^◌, ◌*◌, ◌-◌, ◌<◌, ◌≤◌, ℕ, List, [], ◌∷◌, ◌++◌, length, min}
use Rattle.std.specs.Prelude.{All, Option, IfSome, Result, Ok, Err}
use Rattle.disk_model.specs.View.{DiskView}
use Rattle.std.specs.Io.KnownBytes.{Appends, Consumes, IsAtEnd}
use Rattle.rf2_rows.specs.File.{lines_in}
use Rattle.history_store.specs.StoreValue.{StoreValue}
use Rattle.line_server.specs.declared.serving.ServeFault.{ServeFault}
use Rattle.line_server.specs.declared.serving.ServeFault.TheVariants as faults
use Rattle.line_server.specs.Sources.{SourceView}
use Rattle.line_server.specs.declared.held.Held.{Held}
use Rattle.line_server.specs.StateValue.{StateValue, fresh_holding}
use Rattle.line_server.specs.Replies.{server}
use Rattle.line_server.specs.Turns.{Turn, Run, lines_asked, replies}
use Rattle.line_server.specs.Streams.{Streams, ends_in}
use Rattle.line_server.specs.Feeding.{IsFront, LacksLastReply}
use Rattle.line_server.specs.Reads.{Reading, Gave, Failed, all_of, IsPiece, Makes}

-- after `Ok` all lines of the input, and after a fault the first of them
abbrev pub AreLines : Result ℕ ServeFault → List (List ℕ) → List ℕ → Type 0
AreLines (Ok n) lines input = lines ≡ lines_in input
AreLines (Err fault) lines input = IsFront lines (lines_in input)

-- fewer than `answered` lines had ended before the last piece, and the piece is no longer than one
-- read returns
pub record EndsInLastPiece (came : List ℕ) (answered : ℕ) : Type 0 where
  pub before : List ℕ
  pub piece : List ℕ
  pub whole : came ≡ before ++ piece
  pub short : length piece ≤ 4096
  pub later : ends_in before < answered

-- Which bytes of the input were read, and how many lines were answered. After `Ok` nothing is left.
-- After a fault of the reader each line that ended was answered; after too many reads also, and
-- each read returned a byte. After a fault of the writer nothing was read after the piece in which
-- the line ended whose reply wasn't written. Without memory for the buffer nothing was read.
abbrev pub IsRead : Result ℕ ServeFault → ℕ → List ℕ → Option (List ℕ) → ℕ → Type 0
IsRead (Ok n) most came rest answered = IsAtEnd rest
IsRead (Err faults.OutOfMemory) most came rest answered = (came ≡ []) × (answered ≡ 0)
IsRead (Err faults.Read) most came rest answered = answered ≡ ends_in came
IsRead (Err faults.Write) most came rest answered = EndsInLastPiece came answered
IsRead (Err faults.Reads) most came rest answered = (answered ≡ ends_in came) × (most ≤ length came)

-- each reply was written, except the last one after a fault of the writer
abbrev pub IsWritten : Result ℕ ServeFault → Option (List ℕ) → Option (List ℕ) → List Turn → Type 0
IsWritten (Err faults.Write) old new turns = LacksLastReply old new turns
IsWritten result old new turns = Appends old new (replies turns)

abbrev pub IsCount : Result ℕ ServeFault → ℕ → Type 0
IsCount (Ok n) answered = n ≡ min answered (2 ^ 64 - 1)
IsCount (Err fault) answered = Unit {0}

-- pieces of the input were read, and then one more read returned this
abbrev pub PiecesThen : Reading → List Reading → Type 0
PiecesThen last reads =
    (pieces : List Reading) × All IsPiece pieces × (reads ≡ pieces ++ last ∷ [])

-- Pieces of the input were read, and then one more. Fewer lines than were answered had ended before
-- that last read: the last line that was answered ended in it, by LF or because the input ended.
abbrev pub AreReadToLine : ℕ → List Reading → Type 0
AreReadToLine answered reads =
    (pieces : List Reading) × (last : List ℕ) × All IsPiece pieces × (length last ≤ 4096)
    × (reads ≡ pieces ++ Gave last ∷ []) × (ends_in (all_of pieces) < answered)

-- The reads that were made. Each but the last returned a piece. After `Ok` the last one returned
-- the end of the input, and after a fault of the reader it failed. After a fault of the writer the
-- line whose reply wasn't written ended in the last read: whatever a writer does, no read is made
-- before the replies to the earlier lines were written. After too many reads there are as many as
-- are allowed, and each returned a piece. Without memory for the buffer there is none.
abbrev pub AreReads : Result ℕ ServeFault → ℕ → List Reading → ℕ → Type 0
AreReads (Ok n) most reads answered = PiecesThen (Gave []) reads
AreReads (Err faults.OutOfMemory) most reads answered = reads ≡ []
AreReads (Err faults.Read) most reads answered = PiecesThen Failed reads
AreReads (Err faults.Write) most reads answered = AreReadToLine answered reads
AreReads (Err faults.Reads) most reads answered = All IsPiece reads × (length reads ≡ most)

-- Lines were answered in order, beginning with no session pinned and with these held back. If the input
-- is known, they are its lines; if the output is known, their replies were written; and if the
-- reads are known, exactly these were made.
pub record IsServed {D : Type 0} (result : Result ℕ ServeFault) (most : ℕ) (held : Held)
    (source : SourceView) (view : D → DiskView) (streams : Streams) (before after : StoreValue D) : Type 0 where
  pub turns : List Turn
  pub state : StateValue
  pub run : Run source view (server (fresh_holding held) before) turns (server state after)
  pub lines : IfSome streams.input (AreLines result (lines_asked turns))
  -- no read returns more than 4,096 bytes
  pub read : (came : List ℕ) × Consumes streams.input streams.rest came
      × IsRead result most came streams.rest (length turns) × (length came ≤ most * 4096)
  pub written : IsWritten result streams.old streams.new turns
  pub count : IsCount result (length turns)
  -- the reads that were made, which returned the bytes that were taken from the input
  pub reads : List Reading
  pub made : Makes streams.reads streams.reads_after reads
  pub few : length reads ≤ most
  pub bytes : read.0 ≡ all_of reads
  pub rightly : AreReads result most reads (length turns)
