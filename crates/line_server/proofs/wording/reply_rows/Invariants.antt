use Rattle.std.proofs.Common.{◌≡◌, take}
use Rattle.std.specs.List.{flat_map}
use Rattle.line_server.specs.ReplyValue.{row_line}
use Rattle.line_server.proofs.wording.reply_rows.Given as goal

-- the lines of the rows so far
abbrev pub invariant-loop-row : goal.invariant-loop-row
invariant-loop-row l = l.body.items ≡ flat_map row_line (take l.row-index l.rows)
