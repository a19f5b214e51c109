use Rattle.std.proofs.Common.{◌≡◌, ◌≤◌, ℕ, List, ◌++◌, length, replicate, ap, ◌∙◌, arith, append-nil, take, drop, take_all}
use Rattle.std.proofs.lemmas.List.{length-replicate}
use Rattle.list_lemmas.proofs.Parts.{drop_whole}
use Rattle.term_words.proofs.marking.clear.Goals as goal

-- a whole vector is filled
filled : (n : ℕ) (xs ys : List ℕ) → n ≡ length ys → xs ≡ replicate {A = ℕ} (length ys) 0 → take n (xs ++ drop (length xs) ys) ≡ replicate {A = ℕ} (length ys) 0
filled n xs ys long is =
    let same : length xs ≡ length ys = ap (λ (zs : List ℕ). length zs) is ∙ length-replicate {A = ℕ} (length ys) 0 in
    let le : length xs ≤ n = omega (arith, same, long) in
    ap (take n) (ap (λ zs. xs ++ zs) (ap (λ m. drop m ys) same ∙ drop_whole ys) ∙ append-nil xs) ∙ take_all n xs le ∙ is

pub returns : goal.returns
returns c = filled c.args.marks.now.len c.fill.new.self c.args.marks.now.items c.args.marks.now.ok.0 (c.fill.ensures.after (λ y e. e) ∙ ap (λ (xs : List ℕ). replicate {A = ℕ} (length xs) 0) c.as_mut_slice.ensures.value)
