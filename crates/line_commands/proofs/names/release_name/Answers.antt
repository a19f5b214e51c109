use Rattle.line_commands.proofs.NameTexts.{name_utf8}
use Rattle.line_commands.proofs.names.release_name.Goals as goal

pub returns-in-Err : goal.returns-in-Err
returns-in-Err c = λ named. c.in-Err.ensures.cases.0 (name_utf8 c.args.text.now named)
