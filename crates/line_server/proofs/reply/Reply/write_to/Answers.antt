use Rattle.line_server.proofs.Sent.{put_failed, put_both}
use Rattle.line_server.proofs.reply.Reply.write_to.Goals as goal

pub returns-in_err-put_all : goal.returns-in_err-put_all
returns-in_err-put_all g c =
    put_failed c.from_residual.result _ _ c.body.result.now _ _ c.from_residual.ensures.0 c.in_err-put_all.ensures c.body.ensures

pub returns : goal.returns
returns g c =
    put_both c.put_all-3.result _ _ _ c.body.result.now c.last.result.now _ _ c.in_ok-put_all.ensures c.put_all-3.ensures c.body.ensures c.last.ensures.value
