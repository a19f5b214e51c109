use Rattle.std.proofs.Common.{◌∙◌, ◌∷◌, sym, ap, decimal}
use Rattle.std.proofs.lemmas.Result.{IfOk-weaker}
use Rattle.command_line.proofs.Prepared.{ended}
use Rattle.command_line.proofs.preparing.line_of.Goals as goal

pub returns : goal.returns
returns c =
    let numbers = ended (decimal c.args.receipt.new) (decimal c.args.receipt.repeated) in
    IfOk-weaker c.format.result _ _ (λ line is. is ∙ sym (ap (λ xs. 79 ∷ 75 ∷ 32 ∷ xs) numbers)) c.format.ensures.ok
