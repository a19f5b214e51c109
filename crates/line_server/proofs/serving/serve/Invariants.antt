use Rattle.std.proofs.Common.{◌≡◌, List, ℕ, ◌≤◌, ◌*◌, length, All}
use Rattle.line_server.specs.Sources.{source_view}
use Rattle.std.specs.Io.KnownBytes.{Consumes}
use Rattle.line_server.specs.Pins.{AreWithin}
use Rattle.line_server.specs.StateValue.{fresh_holding}
use Rattle.line_server.specs.Replies.{server}
use Rattle.line_server.specs.Reads.{Reading, Makes, IsPiece, all_of}
use Rattle.line_server.proofs.Progressing.{Progress}
use Rattle.line_server.proofs.serving.serve.Given as goal

-- each byte that came is in a line that was answered, or in what has come of the next, and each read gave a piece
abbrev pub invariant-loop-reads : goal.invariant-loop-reads
invariant-loop-reads g l = (seen : List ℕ) × (reads : List Reading) × Consumes (g.R.PieceReader.remaining l.fn.reader) (g.R.PieceReader.remaining l.reader) seen
    × Progress (source_view (g.S.Source.is_honest l.fn.source) (g.S.Source.releases l.fn.source)) g.D.Disk.view (l.source ≡ l.fn.source) (g.W.Write.contents l.fn.writer) (g.W.Write.contents l.writer)
    (server (fresh_holding l.fn.held) l.fn.store) (server l.state l.store) seen l.line l.served
    × (l._reads ≤ length seen)
    × (length l.piece ≡ 4096)
    × AreWithin l.store.history.imports l.state.pins
    × (g.S.Source.is_honest l.fn.source → g.S.Source.is_honest l.source × (g.S.Source.releases l.source ≡ g.S.Source.releases l.fn.source))
    × (length seen ≤ l._reads * 4096)
    × (l._reads ≤ l.fn.max_reads)
    × Makes (g.R.PieceReader.reads l.fn.reader) (g.R.PieceReader.reads l.reader) reads
    × All IsPiece reads
    × (seen ≡ all_of reads)
    × (length reads ≡ l._reads)
