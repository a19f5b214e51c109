-- The lines of bytes, as bstr cuts them, and bytes that are lines with their ends.
use Rattle.std.proofs.Common.{◌≡◌, ◌≢◌, ℕ, zero, suc, ◌+◌, ◌-◌, ◌<◌, ◌≤◌, ◌⊎◌, false, eqb, ltb, ◌&&◌, List, [], ◌∷◌, ◌++◌, length, length-append, get_or, take, refl, sym, ap, subst, ◌∙◌, arith, inl, inr, append_assoc}
use Rattle.std.specs.Prelude.{map, ◌↔◌}
use Rattle.std.specs.List.{AllByRecursion}
use Rattle.std.proofs.lemmas.Bool.{cases_Bool, cases_eq, cond-true, cond-false, eq-eqb, eqb-true, ltb-true, ne_eqb, lt-ltb, and_from, and_parts, and_right, false≢true}
use Rattle.std.proofs.lemmas.List.{append-nil, take_at, get_or_at, take_all, take_more, get_or_append_left}
use Rattle.std.proofs.lemmas.List.Elements.{All-cons, All-append}
use Rattle.bstr.specs.Text.{lines_of, no_cr, without_terminator}
use Rattle.bstr.proofs.lemmas.LineLemmas.{lines-nil, lines-append, lines-one}
use Rattle.rf2_rows.specs.File.{IsLineEnd, InLines, lines_in}
use Rattle.rf2_rows.specs.Laws.{IsLineText}
use Rattle.rf2_rows.proofs.Splits.{IsFree}

-- the last byte is no CR
abbrev pub NoCr : List ℕ → Type 0
NoCr text = get_or text (length text - 1) 0 ≢ 13

pub free_at : (c : ℕ) (text : List ℕ) (k : ℕ) → IsFree c text → k < length text → get_or text k 0 ≢ c
free_at c text k free lt is = false≢true (sym (free k 0 lt) ∙ eq-eqb (get_or text k 0) c is)

pub last_pushed : (xs : List ℕ) (b : ℕ) → get_or (xs ++ b ∷ []) (length (xs ++ b ∷ []) - 1) 0 ≡ b
last_pushed xs b = get_or_at xs b [] 0 (length (xs ++ b ∷ []) - 1) (omega (arith, length-append xs (b ∷ [])))

front_pushed : (xs : List ℕ) (b : ℕ) → take (length (xs ++ b ∷ []) - 1) (xs ++ b ∷ []) ≡ xs
front_pushed xs b = take_at xs (b ∷ []) (length (xs ++ b ∷ []) - 1) (omega (arith, length-append xs (b ∷ [])))

last_split : (xs : List ℕ) → 0 < length xs → xs ≡ take (length xs - 1) xs ++ get_or xs (length xs - 1) 0 ∷ []
last_split xs some =
    let n : length xs - 1 + 1 ≡ length xs = omega arith in
    sym (take_all (length xs - 1 + 1) xs (omega arith)) ∙ take_more xs (length xs - 1) 0 (omega arith)

-- ---- a line's text

pub feed_off : (xs : List ℕ) → without_terminator (xs ++ 10 ∷ []) ≡ no_cr xs
feed_off xs =
    let long = length-append xs (10 ∷ []) in
    cond-true _ _ _ (and_from _ _ (lt-ltb 0 (length (xs ++ 10 ∷ [])) (omega arith)) (eq-eqb _ 10 (last_pushed xs 10))) ∙ ap no_cr (front_pushed xs 10)

return_off : (xs : List ℕ) → no_cr (xs ++ 13 ∷ []) ≡ xs
return_off xs =
    let long = length-append xs (13 ∷ []) in
    cond-true _ _ _ (and_from _ _ (lt-ltb 0 (length (xs ++ 13 ∷ [])) (omega arith)) (eq-eqb _ 13 (last_pushed xs 13))) ∙ front_pushed xs 13

no_return : (xs : List ℕ) → NoCr xs → no_cr xs ≡ xs
no_return xs other = cond-false _ _ _ (and_right _ _ (ne_eqb _ 13 other))

pub no_feed : (xs : List ℕ) → IsFree 10 xs → without_terminator xs ≡ xs
no_feed [] free = refl
no_feed (x ∷ xs) free = cond-false _ _ _ (and_right _ _ (ne_eqb _ 10 (free_at 10 (x ∷ xs) (length (x ∷ xs) - 1) free (omega arith))))

-- a text from which no CR is taken doesn't end in one
not_return : (xs : List ℕ) → (ltb 0 (length xs) && eqb (get_or xs (length xs - 1) 0) 13) ≡ false → NoCr xs
not_return [] isnt = λ (e : 0 ≡ 13). absurd (omega arith)
not_return (x ∷ xs) isnt = λ is. false≢true (sym isnt ∙ and_from _ _ (lt-ltb 0 (length (x ∷ xs)) (omega arith)) (eq-eqb _ 13 is))

-- a text before LF is its line's text with a line end
ended : (xs : List ℕ) → (end : List ℕ) × IsLineEnd (no_cr xs) end × (xs ++ 10 ∷ [] ≡ no_cr xs ++ end)
ended xs =
    elim (cases_Bool (ltb 0 (length xs) && eqb (get_or xs (length xs - 1) 0) 13)) [
      | inl is ↦
          let both = and_parts (ltb 0 (length xs)) (eqb (get_or xs (length xs - 1) 0) 13) is in
          let cut : xs ≡ no_cr xs ++ 13 ∷ [] = last_split xs (ltb-true 0 (length xs) both.0) ∙ ap (λ (b : ℕ). take (length xs - 1) xs ++ b ∷ []) (eqb-true _ 13 both.1) ∙ ap (λ (ys : List ℕ). ys ++ 13 ∷ []) (sym (cond-true _ _ _ is)) in
          (13 ∷ 10 ∷ [], inr refl, ap (λ (ys : List ℕ). ys ++ 10 ∷ []) cut ∙ append_assoc (no_cr xs) (13 ∷ []) (10 ∷ []))
      | inr isnt ↦
          let same : no_cr xs ≡ xs = cond-false _ _ _ isnt in
          (10 ∷ [], inl (refl, subst NoCr (sym same) (not_return xs isnt)), ap (λ (ys : List ℕ). ys ++ 10 ∷ []) (sym same))
    ]

-- ---- the first LF

-- the bytes up to the first LF, and those after it, or no LF
first_feed : (bs : List ℕ) → ((xs : List ℕ) × (rest : List ℕ) × IsFree 10 xs × (bs ≡ xs ++ 10 ∷ rest)) ⊎ IsFree 10 bs
first_feed [] = inr (λ k x l. absurd (omega arith))
first_feed (b ∷ bs) =
    elim (cases_eq b 10) [
      | inl feed ↦ inl ([], bs, λ k x l. absurd (omega arith), ap (λ (x : ℕ). x ∷ bs) feed)
      | inr other ↦
          elim (first_feed bs) [
            | inl found ↦ inl (b ∷ found.0, found.1, All-cons (λ x. eqb x 10 ≡ false) b found.0 (ne_eqb b 10 other) found.2, ap (λ (x : List ℕ). b ∷ x) found.3)
            | inr free ↦ inr (All-cons (λ x. eqb x 10 ≡ false) b bs (ne_eqb b 10 other) free)
          ]
    ]

-- a line that LF ends, and those of what follows
pub lines_ended : (xs rest : List ℕ) → IsFree 10 xs → lines_of (xs ++ 10 ∷ rest) ≡ (xs ++ 10 ∷ []) ∷ lines_of rest
lines_ended xs rest free =
    let long = length-append xs (10 ∷ []) in
    let one : lines_of (xs ++ 10 ∷ []) ≡ (xs ++ 10 ∷ []) ∷ [] = lines-one (xs ++ 10 ∷ []) (omega arith) (λ k lt. subst (λ (b : ℕ). b ≢ 10) (sym (get_or_append_left xs (10 ∷ []) 0 k (omega arith))) (free_at 10 xs k free (omega arith))) in
    ap lines_of (sym (append_assoc xs (10 ∷ []) rest)) ∙ lines-append (length (xs ++ 10 ∷ [])) (xs ++ 10 ∷ []) rest (omega arith) (inr (last_pushed xs 10)) ∙ ap (λ (ls : List (List ℕ)). ls ++ lines_of rest) one

pub lines_unended : (bs : List ℕ) → 0 < length bs → IsFree 10 bs → lines_of bs ≡ bs ∷ []
lines_unended bs some free = lines-one bs some (λ k lt. free_at 10 bs k free (omega arith))

-- ---- the lines are lines with ends

with_more : (t end rest : List ℕ) (ts : List (List ℕ)) → IsLineEnd t end → InLines ts rest → InLines (t ∷ ts) (t ++ (end ++ rest))
with_more t end rest [] is h = inr (end, is, ap (λ (x : List ℕ). t ++ (end ++ x)) h ∙ ap (λ (x : List ℕ). t ++ x) (append-nil end))
with_more t end rest (u ∷ us) is h = (end, rest, is, refl, h)

in_lines_from : (f : ℕ) (bs : List ℕ) → length bs ≤ f → InLines (lines_in bs) bs
in_lines_from f [] le = subst (λ (ls : List (List ℕ)). InLines (map without_terminator ls) []) (sym lines-nil) refl
in_lines_from zero (b ∷ bs) le = absurd (omega arith)
in_lines_from (suc f) (b ∷ bs) le =
    elim (first_feed (b ∷ bs)) [
      | inl found ↦
          let xs = found.0 in
          let rest = found.1 in
          let long : length (b ∷ bs) ≡ length (xs ++ 10 ∷ rest) = ap length found.3 in
          let parts = length-append xs (10 ∷ rest) in
          let end = ended xs in
          let whole : b ∷ bs ≡ no_cr xs ++ (end.0 ++ rest) = found.3 ∙ sym (append_assoc xs (10 ∷ []) rest) ∙ ap (λ (x : List ℕ). x ++ rest) end.2 ∙ append_assoc (no_cr xs) end.0 rest in
          let cut : lines_in (b ∷ bs) ≡ no_cr xs ∷ lines_in rest = ap lines_in found.3 ∙ ap (λ (ls : List (List ℕ)). map without_terminator ls) (lines_ended xs rest found.2) ∙ ap (λ (t : List ℕ). t ∷ lines_in rest) (feed_off xs) in
          let later = in_lines_from f rest (omega arith) in
          subst (λ (x : List ℕ). InLines (lines_in (b ∷ bs)) x) (sym whole) (subst (λ (ls : List (List ℕ)). InLines ls (no_cr xs ++ (end.0 ++ rest))) (sym cut) (with_more (no_cr xs) end.0 rest (lines_in rest) end.1 later))
      | inr free ↦
          let cut : lines_in (b ∷ bs) ≡ (b ∷ bs) ∷ [] = ap (λ (ls : List (List ℕ)). map without_terminator ls) (lines_unended (b ∷ bs) (omega arith) free) ∙ ap (λ (t : List ℕ). t ∷ []) (no_feed (b ∷ bs) free) in
          subst (λ (ls : List (List ℕ)). InLines ls (b ∷ bs)) (sym cut) (inl refl)
    ]

pub in_lines : (bs : List ℕ) → InLines (lines_in bs) bs
in_lines bs = in_lines_from (length bs) bs (omega arith)

-- ---- lines with ends are the lines

-- a text that can be a line, with LF ruled out by a test
pub record IsPlainLine (t : List ℕ) : Type 0 where
  pub some : 0 < length t
  pub no_lf : IsFree 10 t

lines_with_end : (t end rest : List ℕ) → IsPlainLine t → IsLineEnd t end → lines_in (t ++ (end ++ rest)) ≡ t ∷ lines_in rest
lines_with_end t end rest is (inl e) =
    ap (λ (x : List ℕ). lines_in (t ++ (x ++ rest))) e.0 ∙ ap (λ (ls : List (List ℕ)). map without_terminator ls) (lines_ended t rest is.no_lf) ∙ ap (λ (x : List ℕ). x ∷ lines_in rest) (feed_off t ∙ no_return t e.1)
lines_with_end t end rest is (inr e) =
    let free : IsFree 10 (t ++ 13 ∷ []) = All-append (λ x. eqb x 10 ≡ false) t (13 ∷ []) is.no_lf (All-cons (λ x. eqb x 10 ≡ false) 13 [] refl (λ k x l. absurd (omega arith))) in
    ap (λ (x : List ℕ). lines_in (t ++ (x ++ rest))) e ∙ ap lines_in (sym (append_assoc t (13 ∷ []) (10 ∷ rest))) ∙ ap (λ (ls : List (List ℕ)). map without_terminator ls) (lines_ended (t ++ 13 ∷ []) rest free) ∙ ap (λ (x : List ℕ). x ∷ lines_in rest) (feed_off (t ++ 13 ∷ []) ∙ return_off t)

pub lines_are : (ts : List (List ℕ)) (bytes : List ℕ) → AllByRecursion IsPlainLine ts → InLines ts bytes → lines_in bytes ≡ ts
lines_are [] bytes all h = ap lines_in h ∙ ap (λ (ls : List (List ℕ)). map without_terminator ls) lines-nil
lines_are (t ∷ []) bytes all (inl e) = ap lines_in e ∙ ap (λ (ls : List (List ℕ)). map without_terminator ls) (lines_unended t all.0.some all.0.no_lf) ∙ ap (λ (x : List ℕ). x ∷ []) (no_feed t all.0.no_lf)
lines_are (t ∷ []) bytes all (inr h) =
    let rest : t ++ h.0 ≡ t ++ (h.0 ++ []) = ap (λ (x : List ℕ). t ++ x) (sym (append-nil h.0)) in
    ap lines_in (h.2 ∙ rest) ∙ lines_with_end t h.0 [] all.0 h.1 ∙ ap (λ (ls : List (List ℕ)). t ∷ map without_terminator ls) lines-nil
lines_are (t ∷ u ∷ us) bytes all h =
    ap lines_in h.3 ∙ lines_with_end t h.0 h.1 all.0 h.2 ∙ ap (λ (ls : List (List ℕ)). t ∷ ls) (lines_are (u ∷ us) h.1 all.1 h.4)

plain_line : (t : List ℕ) → IsLineText t → IsPlainLine t
plain_line t h = record { some = h.some; no_lf = λ k d l. ne_eqb _ 10 (h.no_lf k d l) }

plain_lines : (ts : List (List ℕ)) → AllByRecursion IsLineText ts → AllByRecursion IsPlainLine ts
plain_lines [] h = tt
plain_lines (t ∷ ts) h = (plain_line t h.0, plain_lines ts h.1)

pub lines_are_found : (ts : List (List ℕ)) (bytes : List ℕ) → AllByRecursion IsLineText ts → (InLines ts bytes ↔ (lines_in bytes ≡ ts))
lines_are_found ts bytes all = (λ h. lines_are ts bytes (plain_lines ts all) h, λ e. subst (λ (ls : List (List ℕ)). InLines ls bytes) e (in_lines bytes))
