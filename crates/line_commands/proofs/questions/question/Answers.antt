use Rattle.std.proofs.Common.{◌≤◌, ℕ, subst, sym}
use Rattle.line_commands.proofs.Asked.{few_columns, asks_uncut, is_read}
use Rattle.line_commands.proofs.questions.question.Goals as goal

pub cut_into-requires : goal.cut_into-requires
cut_into-requires c = subst (λ (n : ℕ). n ≤ 5) (sym c.columns_of.ensures) (few_columns c.args.word)

pub returns-in-None : goal.returns-in-None
returns-in-None c = λ question s. asks_uncut c.args.word _ question s c.columns_of.result c.columns_of.ensures c.in-None.ensures

pub returns-in-Some : goal.returns-in-Some
returns-in-Some c = is_read c.args.word _ c.columns_of.result c.in-Some.words c.read.result c.columns_of.ensures c.in-Some.ensures c.read.ensures
