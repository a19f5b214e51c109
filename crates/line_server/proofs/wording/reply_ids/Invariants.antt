use Rattle.std.proofs.Common.{◌≡◌, take}
use Rattle.std.specs.List.{flat_map}
use Rattle.line_server.specs.ReplyValue.{id_line}
use Rattle.line_server.proofs.wording.reply_ids.Given as goal

-- the lines of the identifiers so far
abbrev pub invariant-loop-id : goal.invariant-loop-id
invariant-loop-id l = l.body.items ≡ flat_map id_line (take l.id-index l.ids)
