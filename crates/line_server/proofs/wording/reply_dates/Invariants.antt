use Rattle.std.proofs.Common.{◌≡◌, take}
use Rattle.std.specs.List.{flat_map}
use Rattle.line_server.specs.ReplyValue.{date_line}
use Rattle.line_server.proofs.wording.reply_dates.Given as goal

-- the lines of the dates so far
abbrev pub invariant-loop-date : goal.invariant-loop-date
invariant-loop-date l = l.body.items ≡ flat_map date_line (take l.date-index l.dates)
