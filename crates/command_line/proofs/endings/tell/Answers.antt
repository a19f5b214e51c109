use Rattle.std.proofs.Common.{Result}
use Rattle.line_server.specs.declared.refusal.LineRefusal.{LineRefusal}
use Rattle.line_server.specs.ReplyValue.{Answer}
use Rattle.command_line.specs.Endings.{IsTold}
use Rattle.command_line.proofs.Told.{answered_as, refused_as}
use Rattle.command_line.proofs.endings.tell.Goals as goal

pub returns-in-Ok : goal.returns-in-Ok
returns-in-Ok g c = λ outcome told. answered_as (λ (o : Result Answer LineRefusal). IsTold c.tell_answer.result o (g.O.Write.contents c.args.output.now) (g.O.Write.contents c.tell_answer.new.output)) c.in-Ok.reply outcome c.tell_answer.ensures (rw c.in-Ok.is at told)

pub returns-in-Err : goal.returns-in-Err
returns-in-Err g c = λ outcome told. refused_as (λ (o : Result Answer LineRefusal). IsTold c.tell_refusal.result o (g.O.Write.contents c.args.output.now) (g.O.Write.contents c.tell_refusal.new.output)) c.in-Err.refusal outcome c.tell_refusal.ensures (rw c.in-Err.is at told)
