use Rattle.std.proofs.Common.{◌≡◌, List, ℕ, ◌++◌, take}
use Rattle.line_server.specs.Sources.{source_view}
use Rattle.line_server.specs.Pins.{AreWithin}
use Rattle.line_server.specs.Replies.{server}
use Rattle.line_server.specs.Steps.{kept}
use Rattle.line_server.specs.Feeding.{IsUnended}
use Rattle.line_server.proofs.Progressing.{Progress}
use Rattle.line_server.proofs.feeding.feed.Given as goal

-- whatever part of a line had come before, the bytes so far are in lines that were answered, or in what has come of the next
abbrev pub invariant-loop-byte : goal.invariant-loop-byte
invariant-loop-byte g l =
    ((part : List ℕ) → IsUnended part → l.fn.line ≡ kept part
    → Progress (source_view (g.S.Source.is_honest l.fn.source) (g.S.Source.releases l.fn.source)) g.D.Disk.view (l.source ≡ l.fn.source) (g.W.Write.contents l.fn.writer) (g.W.Write.contents l.writer)
    (server l.fn.state l.fn.store) (server l.state l.store) (part ++ take l.byte-index l.piece) l.line l.answered)
    × AreWithin l.store.history.imports l.state.pins
    × (g.S.Source.is_honest l.fn.source → g.S.Source.is_honest l.source × (g.S.Source.releases l.source ≡ g.S.Source.releases l.fn.source))
