use Rattle.std.proofs.Common.{◌≡◌, ℕ, List, [], ◌∷◌, ◌++◌, inl, sym, ap, subst, ◌∙◌, append_assoc}
use Rattle.std.specs.Prelude.{decimal}
use Rattle.command_line.specs.declared.endings.Ending.TheVariants.{Differs}
use Rattle.command_line.specs.Endings.{IsWritten}
use Rattle.command_line.specs.Verifying.{differs_line}
use Rattle.command_line.proofs.telling_differences.write_numbers.Goals as goal

-- the end of the line stands behind the last number
ended : (a b c : List ℕ) → (a ++ 32 ∷ (b ++ 32 ∷ c)) ++ 10 ∷ [] ≡ a ++ 32 ∷ (b ++ 32 ∷ (c ++ 10 ∷ []))
ended a b c = append_assoc a (32 ∷ (b ++ 32 ∷ c)) (10 ∷ []) ∙ ap (λ xs. a ++ 32 ∷ xs) (append_assoc b (32 ∷ c) (10 ∷ []))

pub returns : goal.returns
returns g c =
    let found = c.args.found.now in
    let numbers = ended (decimal found.missing.count) (decimal found.more.count) (decimal found.different.count) in
    let line : c.as_bytes.result.now ≡ differs_line found =
    c.as_bytes.ensures.value ∙ c.in-Ok.ensures.ok ∙ sym (ap (λ xs. 69 ∷ 82 ∷ 82 ∷ 32 ∷ 52 ∷ 54 ∷ 32 ∷ 68 ∷ 105 ∷ 102 ∷ 102 ∷ 101 ∷ 114 ∷ 115 ∷ 32 ∷ xs) numbers) in
    inl (subst (λ bytes. IsWritten Differs bytes c.write_line.result (g.O.Write.contents c.args.output.now) (g.O.Write.contents c.write_line.new.output)) line c.write_line.ensures)
