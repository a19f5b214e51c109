-- What a name is shown as has no control character.
use Rattle.std.proofs.Common.{◌≡◌, ◌≤◌, ◌<◌, ◌+◌, ◌%◌, ◌/◌, ◌||◌, ◌==◌, ℕ, Bool, true, false, cond, nat_lt, List, [], ◌∷◌, ◌++◌, length, get_or, flat_map, chars, encode_utf8, encode_utf8_all, inl, inr, refl, sym, ap, subst, ◌∙◌, arith, rules, append-nil}
use Rattle.std.proofs.lemmas.Bool.{cases_lt, cond_both, ltb-true, ltb-false, true≢false, false≢true}
use Rattle.std.proofs.lemmas.Bool.Decides.{nat_tests}
use Rattle.std.proofs.lemmas.Str.{encode_ascii, inside_one}
use Rattle.std.proofs.lemmas.List.{get_or_default}
use Rattle.std.proofs.lemmas.List.Elements.{recursion_from_All}
use Rattle.std.specs.List.{AllByRecursion}
use Rattle.std.specs.Char.{digit_char}
use Rattle.std.specs.Char.Escape.{backslash, short_escape, hex_digit_at, escape_or, escape_unicode, escape_default, escape_ascii}
use Rattle.std.specs.Str.{is_utf8}
use Rattle.shown_names.specs.Shown.{is_unseen, is_escaped, shown_character, shown, IsPrintable}

abbrev pub IsSeen : ℕ → Type 0
IsSeen c = is_unseen c ≡ false

abbrev pub AreSeen : List ℕ → Type 0
AreSeen = AllByRecursion IsSeen

-- ---- printable ASCII is seen
pub ascii_seen : (c : ℕ) → 32 ≤ c → c < 127 → IsSeen c
ascii_seen c low high = grind (arith, nat_tests, low, high)

digit_seen : (d : ℕ) → d < 16 → IsSeen (digit_char d)
digit_seen d small = elim (cases_lt d 10) [
  | inl low ↦ ascii_seen (digit_char d) (grind (arith, nat_tests, low)) (grind (arith, nat_tests, low))
  | inr high ↦ ascii_seen (digit_char d) (grind (arith, nat_tests, high, small)) (grind (arith, nat_tests, high, small))
]

hex_seen : (p c : ℕ) → IsSeen (hex_digit_at p c)
hex_seen p c = digit_seen (c / p % 16) (omega arith)

-- ---- escapes are seen
append_seen : (xs ys : List ℕ) → AreSeen xs → AreSeen ys → AreSeen (xs ++ ys)
append_seen [] ys seen more = more
append_seen (x ∷ xs) ys seen more = (seen.0, append_seen xs ys seen.1 more)

unicode_seen : (c : ℕ) → AreSeen (escape_unicode c)
unicode_seen c =
    let d : (p : ℕ) → IsSeen (hex_digit_at p c) = λ p. hex_seen p c in
    cond_both (nat_lt c 0x10) _ _ AreSeen (λ _. (refl, (refl, (refl, (d 1, (refl, tt))))))
    (λ _. cond_both (nat_lt c 0x100) _ _ AreSeen (λ _. (refl, (refl, (refl, (d 0x10, (d 1, (refl, tt)))))))
    (λ _. cond_both (nat_lt c 0x1000) _ _ AreSeen (λ _. (refl, (refl, (refl, (d 0x100, (d 0x10, (d 1, (refl, tt))))))))
    (λ _. cond_both (nat_lt c 0x1_0000) _ _ AreSeen (λ _. (refl, (refl, (refl, (d 0x1000, (d 0x100, (d 0x10, (d 1, (refl, tt)))))))))
    (λ _. cond_both (nat_lt c 0x10_0000) _ _ AreSeen (λ _. (refl, (refl, (refl, (d 0x1_0000, (d 0x1000, (d 0x100, (d 0x10, (d 1, (refl, tt))))))))))
    (λ _. (refl, (refl, (refl, (d 0x10_0000, (d 0x1_0000, (d 0x1000, (d 0x100, (d 0x10, (d 1, (refl, tt)))))))))))))))

-- a letter behind a backslash, where there is one
abbrev IsLetter : ℕ → Type 0
IsLetter s = nat_lt 0 s ≡ true → IsSeen s

short_seen : (c : ℕ) → IsLetter (short_escape c)
short_seen c =
    cond_both (c == 9) _ _ IsLetter (λ _ _. refl)
    (λ _. cond_both (c == 13) _ _ IsLetter (λ _ _. refl)
    (λ _. cond_both (c == 10) _ _ IsLetter (λ _ _. refl)
    (λ _. cond_both (c == 39) _ _ IsLetter (λ _ _. refl)
    (λ _. cond_both (c == 34) _ _ IsLetter (λ _ _. refl)
    (λ _. cond_both (c == backslash) _ _ IsLetter (λ _ _. refl) (λ _ none. absurd (false≢true none)))))))

escape_or_seen : (c : ℕ) (other : List ℕ) → AreSeen other → AreSeen (escape_or c other)
escape_or_seen c other ok =
    cond_both (nat_lt 0 (short_escape c)) _ _ AreSeen (λ e. (refl, (short_seen c e, tt)))
    (λ _. cond_both (nat_lt c 32) _ _ AreSeen (λ _. ok)
    (λ low. cond_both (nat_lt c 127) _ _ AreSeen
    (λ high. (ascii_seen c (ltb-false c 32 low) (ltb-true c 127 high), tt)) (λ _. ok)))

default_seen : (c : ℕ) → AreSeen (escape_default c)
default_seen c = escape_or_seen c (escape_unicode c) (unicode_seen c)

byte_seen : (b : ℕ) → AreSeen (escape_ascii b)
byte_seen b = escape_or_seen b _ (refl, (refl, (hex_seen 0x10 b, (hex_seen 1 b, tt))))

-- ---- what a name is shown as is seen
or_left : (x y : Bool) → (x || y) ≡ false → x ≡ false
or_left true y e = absurd (true≢false e)
or_left false y e = refl

character_seen : (c : ℕ) → AreSeen (shown_character c)
character_seen c =
    cond_both (is_escaped c) _ _ AreSeen (λ _. default_seen c)
    (λ e. (or_left (is_unseen c) (c == backslash) e, tt))

flat_seen : (f : ℕ → List ℕ) → ((c : ℕ) → AreSeen (f c)) → (cs : List ℕ) → AreSeen (flat_map f cs)
flat_seen f each [] = tt
flat_seen f each (c ∷ cs) = append_seen (f c) (flat_map f cs) (each c) (flat_seen f each cs)

pub shown_seen : (name : List ℕ) → AreSeen (shown name)
shown_seen name =
    cond_both (is_utf8 name) _ _ AreSeen
    (λ _. flat_seen shown_character character_seen (chars name))
    (λ _. flat_seen escape_ascii byte_seen name)

-- ---- and so are its bytes
append_printable : (xs ys : List ℕ) → AllByRecursion IsPrintable xs → AllByRecursion IsPrintable ys
    → AllByRecursion IsPrintable (xs ++ ys)
append_printable [] ys ok more = more
append_printable (x ∷ xs) ys ok more = (ok.0, append_printable xs ys ok.1 more)

low_printable : (c : ℕ) → c < 128 → IsSeen c → IsPrintable c
low_printable c low seen = (
  elim (cases_lt c 32) [
    | inl small ↦ absurd (grind (arith, nat_tests, small, seen))
    | inr big ↦ big
  ],
  λ e. absurd (true≢false (subst IsSeen e seen)),
)

encoded_printable : (c : ℕ) → IsSeen c → AllByRecursion IsPrintable (encode_utf8 c)
encoded_printable c seen = elim (cases_lt c 128) [
  | inl low ↦ rw (encode_ascii c low) (low_printable c low seen, tt)
  | inr high ↦ recursion_from_All IsPrintable (encode_utf8 c) (λ k d below.
      let same = get_or_default (encode_utf8 c) k d 0 below in
      elim (cases_lt (get_or (encode_utf8 c) k 0) 128) [
        | inl low ↦ absurd (omega (arith, inside_one c [] (encode_utf8 c) k (sym (append-nil _)) below low))
        | inr big ↦ (omega (arith, same), λ e. omega (arith, same))
      ])
]

pub bytes_printable : (cs : List ℕ) → AreSeen cs → AllByRecursion IsPrintable (encode_utf8_all cs)
bytes_printable [] seen = tt
bytes_printable (c ∷ cs) seen =
    append_printable (encode_utf8 c) (encode_utf8_all cs) (encoded_printable c seen.0) (bytes_printable cs seen.1)
