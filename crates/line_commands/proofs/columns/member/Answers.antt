use Rattle.line_commands.proofs.columns.member.Goals as goal

pub returns-in-None : goal.returns-in-None
returns-in-None c = λ n h. let e = c.in-None.ensures.only n h in absurd cc
