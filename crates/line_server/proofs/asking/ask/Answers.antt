use Rattle.std.proofs.Common.{subst}
use Rattle.question_model.specs.Questions.{question_of}
use Rattle.line_commands.proofs.Asked.{asked_import}
use Rattle.line_server.specs.Private.{QuestionCanBeAsked}
use Rattle.line_server.proofs.asking.ask.Goals as goal

pub returns-in-ForRows : goal.returns-in-ForRows
returns-in-ForRows g c = rw c.in-ForRows.is c.answer_rows.ensures

pub returns-in-ForIds : goal.returns-in-ForIds
returns-in-ForIds g c = rw c.in-ForIds.is c.answer_ids.ensures

pub returns-in-Dates : goal.returns-in-Dates
returns-in-Dates g c = rw c.in-Dates.is c.answer_dates.ensures

pub returns-in-Digest : goal.returns-in-Digest
returns-in-Digest g c = rw c.in-Digest.is c.answer_digest.ensures

pub returns-in-Receipt : goal.returns-in-Receipt
returns-in-Receipt g c = rw c.in-Receipt.is c.answer_receipt.ensures

pub returns-in-Added : goal.returns-in-Added
returns-in-Added g c = rw c.in-Added.is c.answer_added.ensures

pub answer_receipt-requires-clause-first : goal.answer_receipt-requires-clause-first
answer_receipt-requires-clause-first g c = let asked = rw c.in-Receipt.is at c.requires.asked in asked_import _ asked.0 asked.1
