use Rattle.std.proofs.Common.{arith}
use Rattle.line_commands.specs.Requests.{command_of}
use Rattle.line_commands.proofs.Named.{named_length, named_asks, named_unread}
use Rattle.line_commands.proofs.parsing.named_request.Goals as goal

pub returns-then-name-before : goal.returns-then-name-before
returns-then-name-before c = let whole = named_length c.args.word c.args.name.now in omega arith

pub returns-in-Some : goal.returns-in-Some
returns-in-Some c =
    let whole = named_length c.args.word c.args.name.now in
    named_asks c.args.word c.args.name.now (omega arith) (command_of c.in-Some.command) (rw c.as_bytes.ensures.value at c.in-Some.ensures)

pub returns-in-None : goal.returns-in-None
returns-in-None c =
    let whole = named_length c.args.word c.args.name.now in
    named_unread c.args.word c.args.name.now (omega arith) (rw c.as_bytes.ensures.value at c.in-None.ensures)
