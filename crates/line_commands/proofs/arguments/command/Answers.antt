use Rattle.line_commands.proofs.AtForms.{none_asked}
use Rattle.line_commands.proofs.arguments.command.Goals as goal

pub returns-in-None : goal.returns-in-None
returns-in-None c = rw c.in-Question.is (none_asked c.in-Question.word _ c.in-None.ensures)

pub returns-in-At : goal.returns-in-At
returns-in-At c = rw (c.in-At.is, c.in-Some-rest.is) c.at.ensures

pub returns-in-Import : goal.returns-in-Import
returns-in-Import c = rw (c.in-Import.is, c.in-Some-rest.is) c.import.ensures

pub returns-in-Check : goal.returns-in-Check
returns-in-Check c = rw (c.in-Check.is, c.in-Some-rest.is) c.check.ensures

pub returns-in-Pin : goal.returns-in-Pin
returns-in-Pin c = rw (c.in-Pin.is, c.in-Some-rest.is) c.pin.ensures

pub returns-in-Step : goal.returns-in-Step
returns-in-Step c = rw (c.in-Step.is, c.in-Some-rest.is) c.step.ensures
