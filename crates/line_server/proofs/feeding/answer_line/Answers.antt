use Rattle.line_server.proofs.Sent.{put_alike}
use Rattle.line_server.proofs.feeding.answer_line.Goals as goal

pub returns-clause-served : goal.returns-clause-served
returns-clause-served g c =
    let t = c.answer-reply.ensures.turn in
    (t.0, t.1, t.2, put_alike c.write_to.result _ _ _ _ t.3 c.write_to.ensures)
