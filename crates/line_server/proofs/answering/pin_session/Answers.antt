use Rattle.std.proofs.Common.{ℕ, [], ◌∷◌, Ok, ap, ◌∙◌}
use Rattle.std.specs.Prelude.{decimal}
use Rattle.line_server.specs.ReplyValue.{Done, reply_value}
use Rattle.line_server.proofs.Responding.{pinned, out_of_range}
use Rattle.line_server.proofs.answering.pin_session.Goals as goal

pub returns-in-Some-clause-response : goal.returns-in-Some-clause-response
returns-in-Some-clause-response g c has =
    rw c.pin.ensures (pinned g.D.Disk.view c.args.session c.args.state.now c.args.store.now c.args.number has c.in-Some.pin c.reply_number.result (rw c.imports.ensures at c.in-Some.ensures) (c.reply_number.ensures ∙ ap (λ (k : ℕ). reply_value (Ok (Done (decimal k ∷ [])))) c.from.ensures))

pub returns-in-None-clause-response : goal.returns-in-None-clause-response
returns-in-None-clause-response g c has =
    out_of_range g.D.Disk.view c.args.session c.args.state.now c.args.store.now c.args.number has (rw c.imports.ensures at c.in-None.ensures)
