use Rattle.line_server.proofs.Responding.{answered_so, refused_so}
use Rattle.line_server.proofs.answering.answer.Goals as goal

pub carry_out-requires-clause-read : goal.carry_out-requires-clause-read
carry_out-requires-clause-read g c = (c.args.line.now, c.parse.ensures)

pub returns-in-Ok-clause-turn : goal.returns-in-Ok-clause-turn
returns-in-Ok-clause-turn g c =
    let t = c.in-Ok.ensures.turn c.args.line.now c.parse.ensures in
    (t.0, t.1, t.2, answered_so c.in-Ok.reply t.0.outcome t.3)

pub returns-in-Err-clause-turn : goal.returns-in-Err-clause-turn
returns-in-Err-clause-turn g c =
    let t = c.in-Err.ensures.turn c.args.line.now c.parse.ensures in
    (t.0, t.1, t.2, refused_so c.in-Err.refusal c.reply_refusal.result t.0.outcome c.reply_refusal.ensures t.3)
