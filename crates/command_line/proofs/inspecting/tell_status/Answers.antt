use Rattle.line_server.specs.Replies.{status_of}
use Rattle.line_server.specs.ReplyValue.{Done}
use Rattle.command_line.proofs.inspecting.tell_status.Goals as goal

pub returns : goal.returns
returns g c =
    let told = rw (c.imports.ensures, c.row_count.ensures, c.segments.ensures, c.merge_left.ensures) at c.reply_status-reply.ensures in
    c.tell_answer.ensures (Done (status_of c.args.store.now)) told
