use Rattle.std.proofs.Common.{ap, Option, List, ℕ}
use Rattle.std.specs.Prelude.{option_map}
use Rattle.std.specs.Borrow.{Bor}
use Rattle.line_commands.proofs.Refusing.{refuse_session, refuse_bare, refuse_word, refuse_arguments}
use Rattle.line_commands.proofs.parsing.parse.Goals as goal

abbrev given : Option (Bor (List ℕ)) → Option (List ℕ)
given rest = option_map (λ text. text.now) rest

pub returns-in_default : goal.returns-in_default
returns-in_default c = refuse_session c.args.line.now c.first_word.result.0.now (given c.first_word.result.1) c.if-line-gt-REQUEST_LIMIT.false c.first_word.ensures.word c.first_word.ensures.whole c.in_default.ensures

pub returns-in_default-rest : goal.returns-in_default-rest
returns-in_default-rest c = refuse_bare c.args.line.now c.first_word.result.0.now (given c.first_word.result.1) c.if-line-gt-REQUEST_LIMIT.false c.first_word.ensures.word c.first_word.ensures.whole c.in-Some.session c.in-Some.ensures.0 c.in-Some.ensures.1 (ap given c.in_default-rest.is)

pub returns-in_default-command_word : goal.returns-in_default-command_word
returns-in_default-command_word c = refuse_word c.args.line.now c.first_word.result.0.now (given c.first_word.result.1) c.if-line-gt-REQUEST_LIMIT.false c.first_word.ensures.word c.first_word.ensures.whole c.in-Some.session c.in-Some.ensures.0 c.in-Some.ensures.1 c.in-Some-rest.rest.now c.first_word-2.result.0.now (given c.first_word-2.result.1) (ap given c.in-Some-rest.is) c.first_word-2.ensures.word c.first_word-2.ensures.whole c.in_default-command_word.ensures

pub returns-in-None : goal.returns-in-None
returns-in-None c = refuse_arguments c.args.line.now c.first_word.result.0.now (given c.first_word.result.1) c.if-line-gt-REQUEST_LIMIT.false c.first_word.ensures.word c.first_word.ensures.whole c.in-Some.session c.in-Some.ensures.0 c.in-Some.ensures.1 c.in-Some-rest.rest.now c.first_word-2.result.0.now (given c.first_word-2.result.1) (ap given c.in-Some-rest.is) c.first_word-2.ensures.word c.first_word-2.ensures.whole c.in-Some-command_word.word c.in-Some-command_word.ensures c.in-None.ensures
