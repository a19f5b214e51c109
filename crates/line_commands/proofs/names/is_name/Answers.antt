use Rattle.std.proofs.Common.{eqb, rules}
use Rattle.std.proofs.lemmas.Iterator.{cases_from_all}
use Rattle.std.proofs.lemmas.Iterator.Splits.{YieldsList-from_slice_split}
use Rattle.line_commands.specs.Names.{IsNamePart}
use Rattle.line_commands.proofs.NameTexts.{decides_name}
use borrow.Author.Tests.{tests}
use Rattle.line_commands.proofs.names.is_name.Goals as goal

pub returns : goal.returns
returns c =
    decides_name c.args.text.now c.all.result c.if-text-gt1024.false
    (cases_from_all _ _ _ IsNamePart (λ part. IsNamePart part → ⊥) c.all.ensures.ran
    (YieldsList-from_slice_split _ (λ b. eqb b 47) c.args.text.now c.split.ensures.rest c.split.ensures.done c.split.ensures.closure (λ x b q h. search (rules, tests)))
    (λ x q k. search (rules, tests)) (λ x q k. search (rules, tests)))
