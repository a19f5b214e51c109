-- The texts that references point to, one by one.
use Rattle.std.proofs.Common.{◌≡◌, ℕ, zero, suc, ◌+◌, ◌<◌, List, [], ◌∷◌, ◌++◌, length, get_or, take, refl, sym, ap, ◌∙◌, arith, append_assoc}
use Rattle.std.specs.Borrow.{Bor}
use Rattle.std.proofs.lemmas.List.{take_more, map_push, flat_map_more}
use Rattle.rf2_values.specs.Private.{tabbed}
use Rattle.rf2_rows.specs.Private.{texts}

-- the text at a place
abbrev pub text_at : List (Bor (List ℕ)) → ℕ → List ℕ
text_at columns k = (get_or columns k (record { ref_ptr = (0, 0); now = [] })).now

-- n texts from place i on
abbrev pub texts_from : List (Bor (List ℕ)) → ℕ → ℕ → List (List ℕ)
texts_from columns i zero = []
texts_from columns i (suc n) = text_at columns i ∷ texts_from columns (suc i) n

texts_from-tail : (c : Bor (List ℕ)) (cs : List (Bor (List ℕ))) (i n : ℕ) → texts_from (c ∷ cs) (suc i) n ≡ texts_from cs i n
texts_from-tail c cs i zero = refl
texts_from-tail c cs i (suc n) = ap (λ (ts : List (List ℕ)). text_at cs i ∷ ts) (texts_from-tail c cs (suc i) n)

-- the texts, one by one
pub texts_are : (columns : List (Bor (List ℕ))) (n : ℕ) → length columns ≡ n → texts columns ≡ texts_from columns 0 n
texts_are [] zero e = refl
texts_are [] (suc n) e = absurd (omega arith)
texts_are (c ∷ cs) zero e = absurd (omega arith)
texts_are (c ∷ cs) (suc n) e = ap (λ (ts : List (List ℕ)). c.now ∷ ts) (texts_are cs n (omega arith) ∙ sym (texts_from-tail c cs 0 n))

-- one column more, after a TAB
pub joined_more : (columns : List (Bor (List ℕ))) (i : ℕ) (bytes : List ℕ) → i < length columns → bytes ≡ tabbed (texts (take i columns))
    → (bytes ++ 9 ∷ []) ++ text_at columns i ≡ tabbed (texts (take (i + 1) columns))
joined_more columns i bytes lt e =
    let none : Bor (List ℕ) = record { ref_ptr = (0, 0); now = [] } in
    let t = text_at columns i in
    let first = texts (take i columns) in
    let more : texts (take (i + 1) columns) ≡ first ++ t ∷ [] =
    ap (λ (cs : List (Bor (List ℕ))). texts cs) (take_more columns i none lt) ∙ map_push (λ (c : Bor (List ℕ)). c.now) (take i columns) (get_or columns i none) in
    let last : tabbed first ++ 9 ∷ t ≡ tabbed (first ++ t ∷ []) = flat_map_more (λ (x : List ℕ). 9 ∷ x) [] first t in
    append_assoc bytes (9 ∷ []) t ∙ ap (λ (x : List ℕ). x ++ 9 ∷ t) e ∙ last ∙ ap (λ (ts : List (List ℕ)). tabbed ts) (sym more)
