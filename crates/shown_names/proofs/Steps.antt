-- One character, or one byte, and then what is left.
use Rattle.std.proofs.Common.{◌≡◌, ◌<◌, false, inl, inr, ◌+◌, ℕ, List, [], ◌∷◌, ◌++◌, length, take, get_or, IsUtf8, chars, encode_utf8, encode_utf8_all, flat_map, ap, ◌∙◌, append-nil}
use Rattle.std.proofs.lemmas.Str.{chars_past_char, encodes-append, IsUtf8-from_is_utf8}
use Rattle.std.proofs.lemmas.Bool.{cases_Bool}
use Rattle.std.specs.Str.{is_utf8}
use Rattle.std.proofs.lemmas.List.{take_more}
use Rattle.std.proofs.lemmas.Grind.{flat_map-append}
use Rattle.shown_names.specs.Shown.{shown_character}

-- the characters that stand for a list of characters, or of bytes, in UTF-8
abbrev pub spelled : (ℕ → List ℕ) → List ℕ → List ℕ
spelled f cs = encode_utf8_all (flat_map f cs)

pub spelled-cons : (f : ℕ → List ℕ) (c : ℕ) (cs : List ℕ)
    → spelled f (c ∷ cs) ≡ encode_utf8_all (f c) ++ spelled f cs
spelled-cons f c cs = encodes-append (f c) (flat_map f cs)

pub text_past_char : (bs rest : List ℕ) (c : ℕ) → IsUtf8 bs → bs ≡ encode_utf8 c ++ rest
    → spelled shown_character (chars bs) ≡ encode_utf8_all (shown_character c) ++ spelled shown_character (chars rest)
text_past_char bs rest c ok parts =
    ap (λ l. spelled shown_character l) (chars_past_char bs rest c ok parts)
    ∙ spelled-cons shown_character c (chars rest)

pub spelled-more : (f : ℕ → List ℕ) (xs : List ℕ) (i d : ℕ) → i < length xs
    → spelled f (take (i + 1) xs) ≡ spelled f (take i xs) ++ encode_utf8_all (f (get_or xs i d))
spelled-more f xs i d h =
    let x = get_or xs i d in
    ap (λ l. spelled f l) (take_more xs i d h)
    ∙ ap encode_utf8_all (flat_map-append f (take i xs) (x ∷ []) ∙ ap (λ l. flat_map f (take i xs) ++ l) (append-nil (f x)))
    ∙ encodes-append (flat_map f (take i xs)) (f x)

pub not_utf8 : (bs : List ℕ) → (IsUtf8 bs → ⊥) → is_utf8 bs ≡ false
not_utf8 bs none = elim (cases_Bool (is_utf8 bs)) [
  | inl is ↦ absurd (none (IsUtf8-from_is_utf8 bs is))
  | inr other ↦ other
]
