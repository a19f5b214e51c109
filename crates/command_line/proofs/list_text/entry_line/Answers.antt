use Rattle.std.proofs.Common.{◌∙◌, ◌∷◌, ◌++◌, ◌≡◌, ℕ, List, ap, append_assoc, decimal}
use Rattle.std.proofs.lemmas.Result.{IfOk-weaker}
use Rattle.command_line.proofs.list_text.entry_line.Goals as goal

-- two columns stand in the second part of a line, and three in the first one
columns : (number time name new repeated first second rest : List ℕ) → first ≡ number ++ 9 ∷ (time ++ 9 ∷ name)
    → second ≡ new ++ 9 ∷ repeated → first ++ 9 ∷ (second ++ 9 ∷ rest)
    ≡ number ++ 9 ∷ (time ++ 9 ∷ (name ++ 9 ∷ (new ++ 9 ∷ (repeated ++ 9 ∷ rest))))
columns number time name new repeated first second rest is_first is_second =
    let more = 9 ∷ (second ++ 9 ∷ rest) in
    ap (λ f. f ++ more) is_first ∙ append_assoc number (9 ∷ (time ++ 9 ∷ name)) more
    ∙ ap (λ r. number ++ 9 ∷ r) (append_assoc time (9 ∷ name) more)
    ∙ ap (λ r. number ++ 9 ∷ (time ++ 9 ∷ (name ++ 9 ∷ r)))
    (ap (λ s. s ++ 9 ∷ rest) is_second ∙ append_assoc new (9 ∷ repeated) (9 ∷ rest))

pub returns : goal.returns
returns c =
    let e = c.args.entry in
    IfOk-weaker c.format-3.result _ _ (λ line is. is ∙ columns (decimal e.receipt.number) e.time.now e.name.now
    (decimal e.receipt.new) (decimal e.receipt.repeated) _ _ _ c.in_ok-release.ensures.ok c.in_ok-rows.ensures.ok)
    c.format-3.ensures.ok
