-- A stream as it comes: whole lines, and what has come of the next.
use Rattle.std.proofs.Common.{◌≡◌, ◌⊎◌, ℕ, zero, suc, ◌+◌, ◌-◌, ◌<◌, ◌≤◌, false, eqb, ltb, ◌&&◌, List, [], ◌∷◌, ◌++◌, length, get_or, take, refl, sym, ap, subst, ◌∙◌, arith, inl, inr, append_assoc}
use Rattle.std.specs.Prelude.{map}
use Rattle.std.proofs.lemmas.Bool.{cases_Bool, cond-true, cond-false, ltb-true, ltb-false}
use Rattle.std.proofs.lemmas.List.{append-nil, take_all, map-append, length-take, take-append-le}
use Rattle.std.proofs.lemmas.List.Elements.{All-cons, All-append}
use Rattle.bstr.specs.Text.{lines_of, no_cr, without_terminator}
use Rattle.bstr.proofs.lemmas.LineLemmas.{EndsLine, lines-nil, lines-append}
use Rattle.rf2_rows.specs.File.{lines_in}
use Rattle.rf2_rows.proofs.Splits.{IsFree}
use Rattle.rf2_rows.proofs.Lines.{last_pushed, feed_off, no_feed, lines_ended, lines_unended}
use Rattle.line_server.specs.Steps.{kept, room}
use Rattle.line_server.specs.Feeding.{IsFront, IsUnended, AreCut}

one_ended : (xs : List ℕ) → IsFree 10 xs → lines_of (xs ++ 10 ∷ []) ≡ (xs ++ 10 ∷ []) ∷ []
one_ended xs free = lines_ended xs [] free ∙ ap (λ (ls : List (List ℕ)). (xs ++ 10 ∷ []) ∷ ls) lines-nil

ends_line : (text : List ℕ) → (text ≡ []) ⊎ ((front : List ℕ) × (text ≡ front ++ 10 ∷ [])) → EndsLine text
ends_line text (inl none) = inl (ap length none)
ends_line text (inr e) = inr (subst (λ (l : List ℕ). get_or l (length l - 1) 0 ≡ 10) (sym e.1) (last_pushed e.0 10))

-- lines break where a line ends
broken : (xs ys : List ℕ) → (xs ≡ []) ⊎ ((front : List ℕ) × (xs ≡ front ++ 10 ∷ [])) → lines_in (xs ++ ys) ≡ lines_in xs ++ lines_in ys
broken xs ys ends = ap (map without_terminator) (lines-append (length xs) xs ys (omega arith) (ends_line xs ends)) ∙ map-append without_terminator (lines_of xs) (lines_of ys)

-- ---- one byte more

pub cut_none : AreCut [] [] []
cut_none = record { ended = []; whole = refl; ends = inl refl; lines_are = sym (ap (map without_terminator) lines-nil); free = λ k d lt. absurd (omega arith) }

pub cut_byte : (seen : List ℕ) (lines : List (List ℕ)) (part : List ℕ) (b : ℕ) → AreCut seen lines part → eqb b 10 ≡ false → AreCut (seen ++ b ∷ []) lines (part ++ b ∷ [])
cut_byte seen lines part b h other = record {
  ended = h.ended;
  whole = ap (λ (l : List ℕ). l ++ b ∷ []) h.whole ∙ append_assoc h.ended part (b ∷ []);
  ends = h.ends;
  lines_are = h.lines_are;
  free = All-append (λ x. eqb x 10 ≡ false) part (b ∷ []) h.free (All-cons (λ x. eqb x 10 ≡ false) b [] other (λ k d lt. absurd (omega arith)));
}

pub cut_line : (seen : List ℕ) (lines : List (List ℕ)) (part : List ℕ) → AreCut seen lines part → AreCut (seen ++ 10 ∷ []) (lines ++ no_cr part ∷ []) []
cut_line seen lines part h = record {
  ended = h.ended ++ (part ++ 10 ∷ []);
  whole = ap (λ (l : List ℕ). l ++ 10 ∷ []) h.whole ∙ append_assoc h.ended part (10 ∷ []) ∙ sym (append-nil (h.ended ++ (part ++ 10 ∷ [])));
  ends = inr (h.ended ++ part, sym (append_assoc h.ended part (10 ∷ [])));
  lines_are = ap (λ (l : List (List ℕ)). l ++ no_cr part ∷ []) h.lines_are
      ∙ ap (λ (l : List ℕ). lines_in h.ended ++ l ∷ []) (sym (feed_off part))
      ∙ ap (λ (l : List (List ℕ)). lines_in h.ended ++ map without_terminator l) (sym (one_ended part h.free))
      ∙ sym (broken h.ended (part ++ 10 ∷ []) h.ends);
  free = λ k d lt. absurd (omega arith);
}

-- ---- a piece more

pub cut_part : (part : List ℕ) → IsUnended part → AreCut part [] part
cut_part part free = record { ended = []; whole = refl; ends = inl refl; lines_are = sym (ap (map without_terminator) lines-nil); free = free }

pub cut_more : (seen piece part rest : List ℕ) (lines more : List (List ℕ)) → AreCut seen lines part → AreCut (part ++ piece) more rest → AreCut (seen ++ piece) (lines ++ more) rest
cut_more seen piece part rest lines more h k = record {
  ended = h.ended ++ k.ended;
  whole = ap (λ (l : List ℕ). l ++ piece) h.whole ∙ append_assoc h.ended part piece ∙ ap (λ (l : List ℕ). h.ended ++ l) k.whole ∙ sym (append_assoc h.ended k.ended rest);
  ends = both_end k.ended k.ends;
  lines_are = ap (λ (l : List (List ℕ)). l ++ more) h.lines_are ∙ ap (λ (l : List (List ℕ)). lines_in h.ended ++ l) k.lines_are ∙ sym (broken h.ended k.ended h.ends);
  free = k.free;
} where
  both_end : (text : List ℕ) → (text ≡ []) ⊎ ((front : List ℕ) × (text ≡ front ++ 10 ∷ [])) → (h.ended ++ text ≡ []) ⊎ ((front : List ℕ) × (h.ended ++ text ≡ front ++ 10 ∷ []))
  both_end text (inl none) = first h.ended h.ends where
    first : (front : List ℕ) → (front ≡ []) ⊎ ((more : List ℕ) × (front ≡ more ++ 10 ∷ [])) → (front ++ text ≡ []) ⊎ ((more : List ℕ) × (front ++ text ≡ more ++ 10 ∷ []))
    first front (inl e) = inl (ap (λ (l : List ℕ). l ++ text) e ∙ none)
    first front (inr e) = inr (e.0, ap (λ (l : List ℕ). front ++ l) none ∙ append-nil front ∙ e.1)
  both_end text (inr e) = inr (h.ended ++ e.0, ap (λ (l : List ℕ). h.ended ++ l) e.1 ∙ sym (append_assoc h.ended e.0 (10 ∷ [])))

-- ---- the end of a stream

pub cut_end : (seen : List ℕ) (lines : List (List ℕ)) (part : List ℕ) → AreCut seen lines part → part ≡ [] → lines ≡ lines_in seen
cut_end seen lines part h none = h.lines_are ∙ ap lines_in (sym (h.whole ∙ ap (λ (l : List ℕ). h.ended ++ l) none ∙ append-nil h.ended))

pub cut_rest : (seen : List ℕ) (lines : List (List ℕ)) (part : List ℕ) → AreCut seen lines part → 0 < length part → lines ++ part ∷ [] ≡ lines_in seen
cut_rest seen lines part h some =
    ap (λ (l : List (List ℕ)). l ++ part ∷ []) h.lines_are
    ∙ ap (λ (l : List ℕ). lines_in h.ended ++ l ∷ []) (sym (no_feed part h.free))
    ∙ ap (λ (l : List (List ℕ)). lines_in h.ended ++ map without_terminator l) (sym (lines_unended part some h.free))
    ∙ sym (broken h.ended part h.ends)
    ∙ ap lines_in (sym h.whole)

-- whatever comes, the lines so far are the first of all
pub cut_front : (seen : List ℕ) (lines : List (List ℕ)) (part more : List ℕ) → AreCut seen lines part → IsFront lines (lines_in (seen ++ more))
cut_front seen lines part more h = (
  lines_in (part ++ more),
  ap (λ (l : List ℕ). lines_in (l ++ more)) h.whole ∙ ap lines_in (append_assoc h.ended part more) ∙ broken h.ended (part ++ more) h.ends
      ∙ ap (λ (l : List (List ℕ)). l ++ lines_in (part ++ more)) (sym h.lines_are),
)

-- ---- what is kept of a line

taken_again : (n : ℕ) (xs ys : List ℕ) → take n (take n xs ++ ys) ≡ take n (xs ++ ys)
taken_again zero xs ys = refl
taken_again (suc n) [] ys = refl
taken_again (suc n) (x ∷ xs) ys = ap (λ (l : List ℕ). x ∷ l) (taken_again n xs ys)

pub kept_more : (part : List ℕ) (b : ℕ) → kept (kept part ++ b ∷ []) ≡ kept (part ++ b ∷ [])
kept_more part b = taken_again room part (b ∷ [])

pub kept_short : (part : List ℕ) → length part ≤ room → kept part ≡ part
kept_short part short = take_all room part short

pub kept_none : (part : List ℕ) → length (kept part) ≡ 0 → part ≡ []
unfolding room
kept_none [] none = refl
kept_none (x ∷ xs) none = absurd (omega (arith, none, length-take room (x ∷ xs)))

pub kept_some : (part : List ℕ) → 0 < length (kept part) → 0 < length part
kept_some part some = omega (arith, some, length-take room part)

-- at most one byte is taken off
one_off : (xs : List ℕ) → length xs ≤ length (no_cr xs) + 1
one_off xs =
    elim (cases_Bool (ltb 0 (length xs) && eqb (get_or xs (length xs - 1) 0) 13)) [
      | inl is ↦ let e = ap length (cond-true _ (take (length xs - 1) xs) xs is) in omega (arith, e, length-take (length xs - 1) xs)
      | inr isnt ↦ let e = ap length (cond-false _ (take (length xs - 1) xs) xs isnt) in omega (arith, e)
    ]

module _ (G : List ℕ → Type 0) (alike : (a b : List ℕ) → 4096 < length a → 4096 < length b → G a → G b) (part : List ℕ) where
  -- where a line is longer than what is kept of it, it is too long, and so is what is kept
  pub kept_ended : G (no_cr (kept part)) → G (no_cr part)
  unfolding room
  kept_ended g =
      elim (cases_Bool (ltb room (length part))) [
        | inl is ↦
            let long = ltb-true room (length part) is in
            let full = length-take room part in
            alike (no_cr (kept part)) (no_cr part) (omega (arith, one_off (kept part), full, long)) (omega (arith, one_off part, long)) g
        | inr isnt ↦ subst (λ (l : List ℕ). G (no_cr l)) (kept_short part (ltb-false room (length part) isnt)) g
      ]

  pub kept_unended : G (kept part) → G part
  unfolding room
  kept_unended g =
      elim (cases_Bool (ltb room (length part))) [
        | inl is ↦
            let long = ltb-true room (length part) is in
            let full = length-take room part in
            alike (kept part) part (omega (arith, full, long)) (omega (arith, long)) g
        | inr isnt ↦ subst (λ (l : List ℕ). G l) (kept_short part (ltb-false room (length part) isnt)) g
      ]

-- what is kept stays where it fills the room
pub kept_full : (xs ys : List ℕ) → room ≤ length xs → length xs ≤ room → xs ≡ kept (xs ++ ys)
kept_full xs ys full short = sym (take-append-le room xs ys full ∙ take_all room xs short)
