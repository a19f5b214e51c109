use Rattle.std.proofs.Common.{◌≡◌, ◌+◌, ◌∷◌, ◌++◌, [], length, sym, subst, ◌∙◌, arith}
use Rattle.as_of_index.specs.Private.Numbers.{ComesBefore}
use Rattle.as_of_index.proofs.OneNumber.{first_known, second_known, none_left}
use Rattle.as_of_index.proofs.number_table.push_next.Goals as goal

pub returns-in_ok-push-clause-known : goal.returns-in_ok-push-clause-known
returns-in_ok-push-clause-known c =
    let xs = c.args.first_known.now.items in
    let ys = c.args.second_known.now.items in
    let i : c.len-i.result ≡ length xs = c.len-i.ensures ∙ c.args.first_known.now.ok.0 in
    let j : c.len-j.result ≡ length ys = c.len-j.ensures ∙ c.args.second_known.now.ok.0 in
    let next : ComesBefore c.args.first.now (length xs) c.args.second.now (length ys) = subst (λ m. ComesBefore c.args.first.now m c.args.second.now (length ys)) i (subst (λ m. ComesBefore c.args.first.now c.len-i.result c.args.second.now m) j (c.comes_before.ensures.0 c.if-comes_before.true)) in
    let n : c.in_ok-number_at.field-0 ≡ length xs + length ys = c.in_ok-number_at.ensures ∙ (λ k. i k + j k) in
    let longer : c.push.new.self.items ≡ xs ++ c.in_ok-number_at.field-0 ∷ [] = c.in_ok-push.ensures.items in
    first_known c.args.first.now c.args.second.now c.requires.first c.requires.second xs ys c.push.new.self.items c.in_ok-number_at.field-0 c.requires.known next n longer

pub returns-in_ok-push-2-clause-known : goal.returns-in_ok-push-2-clause-known
returns-in_ok-push-2-clause-known c =
    let xs = c.args.first_known.now.items in
    let ys = c.args.second_known.now.items in
    let i : c.len-i.result ≡ length xs = c.len-i.ensures ∙ c.args.first_known.now.ok.0 in
    let j : c.len-j.result ≡ length ys = c.len-j.ensures ∙ c.args.second_known.now.ok.0 in
    let next : ComesBefore c.args.second.now (length ys) c.args.first.now (length xs) = subst (λ m. ComesBefore c.args.second.now m c.args.first.now (length xs)) j (subst (λ m. ComesBefore c.args.second.now c.len-j.result c.args.first.now m) i (c.comes_before-else-comes_before.ensures.0 c.if-comes_before-2.true)) in
    let n : c.in_ok-number_at-2.field-0 ≡ length ys + length xs = c.in_ok-number_at-2.ensures ∙ (λ k. j k + i k) in
    let longer : c.push-then-comes_before-2.new.self.items ≡ ys ++ c.in_ok-number_at-2.field-0 ∷ [] = c.in_ok-push-2.ensures.items in
    second_known c.args.first.now c.args.second.now c.requires.first c.requires.second xs ys c.push-then-comes_before-2.new.self.items c.in_ok-number_at-2.field-0 c.requires.known next n longer

pub returns-else-comes_before-2-clause-ok : goal.returns-else-comes_before-2-clause-ok
returns-else-comes_before-2-clause-ok c = λ apart.
    let a = c.args.first.now in
    let b = c.args.second.now in
    let xs = c.args.first_known.now.items in
    let ys = c.args.second_known.now.items in
    let i : c.len-i.result ≡ length xs = c.len-i.ensures ∙ c.args.first_known.now.ok.0 in
    let j : c.len-j.result ≡ length ys = c.len-j.ensures ∙ c.args.second_known.now.ok.0 in
    let not_a : ComesBefore a (length xs) b (length ys) → ⊥ = λ w. (
    let t = c.comes_before.ensures.1 (subst (λ m. ComesBefore a m b c.len-j.result) (sym i) (subst (λ m. ComesBefore a (length xs) b m) (sym j) w)) in
    let both = sym t ∙ c.if-comes_before.false in
    cc) in
    let not_b : ComesBefore b (length ys) a (length xs) → ⊥ = λ w. (
    let t = c.comes_before-else-comes_before.ensures.1 (subst (λ m. ComesBefore b m a c.len-i.result) (sym j) (subst (λ m. ComesBefore b (length ys) a m) (sym i) w)) in
    let both = sym t ∙ c.if-comes_before-2.false in
    cc) in
    let none = none_left a b (length xs) (length ys) apart not_a not_b in
    omega (arith, none)
