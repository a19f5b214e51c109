use Rattle.std.proofs.Common.{ap, ◌∙◌, arith}
use Rattle.std.specs.Int.{w128, from_be_bytes}
use Rattle.term_prefix.proofs.Heads.{first_sixteen}
use Rattle.term_prefix.proofs.text.head_of.Goals as goal

pub returns-in-Some : goal.returns-in-Some
returns-in-Some c =
    let parts = c.in-Some.ensures.cases in
    c.from_be_bytes.ensures ∙ ap (from_be_bytes w128) parts.0 ∙ first_sixteen c.args.text.now (omega (arith, parts.2))
