use Rattle.std.proofs.Common.{rules, ◌≡◌}
use Rattle.clap.specs.Values.{kind_of}
use Rattle.clap.specs.declared.error.kind.ErrorKind.TheVariants as kind
use Rattle.command_line.proofs.Commands.{asked_for, asked_for_none}
use Rattle.command_line.proofs.words.task_of.Goals as goal

pub returns-in-Some-clause-task : goal.returns-in-Some-clause-task
returns-in-Some-clause-task c =
    let parsed = c.in-Ok-try_get_matches_from.ensures in
    asked_for _ _ _ c.in-Some.task c.in-Ok.ensures.0 c.in-Ok.ensures.1 c.in-Ok.ensures.2.0 parsed.kinds parsed.matches c.in-Some.ensures

pub returns-clause-refused : goal.returns-clause-refused
returns-clause-refused c =
    let has_memory : kind_of c.in-Err.error ≡ kind.OutOfMemory → ⊥ = search rules in
    (c.in-Ok.ensures.0, c.in-Ok.ensures.1, asked_for_none _ _ c.in-Err.error c.in-Ok.ensures.0 c.in-Ok.ensures.2.0 c.in-Err.ensures.kinds has_memory)
