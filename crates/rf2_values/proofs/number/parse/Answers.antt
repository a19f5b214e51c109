use Rattle.std.proofs.Common.{subst, sym}
use Rattle.std.specs.Str.{IsUtf8}
use Rattle.std.proofs.lemmas.Bool.{both_ways}
use Rattle.rf2_values.specs.Private.{IsPlain}
use Rattle.rf2_values.proofs.Decimals.{decimal_is_plain, decimal_is_utf8, parsed, reads}
use Rattle.rf2_values.proofs.number.parse.Goals as goal

pub returns-then-not-is_plain-clause-only : goal.returns-then-not-is_plain-clause-only
returns-then-not-is_plain-clause-only c = λ n lt e. absurd (both_ways c.is_plain.result c.if-not-is_plain.true (c.is_plain.ensures.1 (subst IsPlain (sym e) (decimal_is_plain n lt))))

pub returns-in-Err-clause-only : goal.returns-in-Err-clause-only
returns-in-Err-clause-only c = λ n lt e. absurd (c.in-Err.ensures.cases.0 (subst IsUtf8 (sym e) (decimal_is_utf8 n lt)))

pub returns-in-Ok-clause-found : goal.returns-in-Ok-clause-found
returns-in-Ok-clause-found c = rw c.ok.ensures.value (parsed c.args.text.now c.in-Ok.digits.now c.parse.result c.in-Ok.ensures.cases.0 (c.is_plain.ensures.0 c.if-not-is_plain.false) c.parse.ensures.value.0)

pub returns-in-Ok-clause-only : goal.returns-in-Ok-clause-only
returns-in-Ok-clause-only c = λ n lt e. rw c.ok.ensures.value (reads c.args.text.now c.in-Ok.digits.now c.parse.result n c.in-Ok.ensures.cases.0 lt e c.parse.ensures.value.0)
