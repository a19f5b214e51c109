use Rattle.std.proofs.Common.{sym, ◌∙◌}
use Rattle.line_server.proofs.Responding.{status_told, status_closed}
use Rattle.line_server.proofs.answering.status.Goals as goal

pub returns-then-needs_reopen : goal.returns-then-needs_reopen
returns-then-needs_reopen g c = status_closed g.D.Disk.view c.args.store.now (sym c.needs_reopen.ensures ∙ c.if-needs_reopen.true)

pub returns : goal.returns
returns g c =
    let told = rw (c.imports.ensures, c.row_count.ensures, c.segments.ensures, c.merge_left.ensures) at c.reply_status.ensures in
    status_told g.D.Disk.view c.args.store.now c.reply_status.result (sym c.needs_reopen.ensures ∙ c.if-needs_reopen.false) told
