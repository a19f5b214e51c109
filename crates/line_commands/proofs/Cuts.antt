-- A text as a number of words.
use Rattle.std.proofs.Common.{◌≡◌, ◌≢◌, ℕ, zero, suc, ◌-◌, ◌≤◌, Option, Some, None, List, [], ◌∷◌, ◌++◌, length, take, refl, sym, ap, subst, ◌∙◌, arith}
use Rattle.std.proofs.lemmas.Option.{same_Some, none-some}
use Rattle.line_commands.specs.declared.words.Words.{Words}
use Rattle.line_commands.specs.Requests.{spaced}
use Rattle.line_commands.specs.Private.{IsWord, AreWords, IsCutInto, behind}
use Rattle.line_commands.proofs.FirstWords.{no_space, peel}

-- as many texts that are one text are the same texts
pub same_split : (xs ys : List (List ℕ)) → length xs ≡ length ys → AreWords xs → AreWords ys → behind xs ≡ behind ys → xs ≡ ys
same_split [] [] l h g e = refl
same_split [] (y ∷ ys) l h g e = absurd (omega arith)
same_split (x ∷ xs) [] l h g e = absurd (omega arith)
same_split (x ∷ []) (y ∷ []) l h g e = ap (λ (t : List ℕ). t ∷ []) (same_Some _ _ e)
same_split (x ∷ []) (y ∷ z ∷ ys) l h g e = absurd (omega arith)
same_split (x ∷ z ∷ xs) (y ∷ []) l h g e = absurd (omega arith)
same_split (x ∷ u ∷ xs) (y ∷ v ∷ ys) l h g e =
    let first = peel x y (spaced (u ∷ xs)) (spaced (v ∷ ys)) h.0 g.0 (same_Some _ _ e) in
    let later = same_split (u ∷ xs) (v ∷ ys) (omega arith) h.1 g.1 (ap (λ (t : List ℕ). Some t) first.1) in
    ap (λ (t : List ℕ). t ∷ u ∷ xs) first.0 ∙ ap (λ (ts : List (List ℕ)). y ∷ ts) later

module _ (count : ℕ) (two : 2 ≤ count) (text : List ℕ) where
  pub uncut : IsWord text → (found : List (List ℕ)) → length found ≡ count → AreWords found → behind found ≢ Some text
  uncut free [] l h e = omega arith
  uncut free (x ∷ []) l h e = omega arith
  uncut free (x ∷ y ∷ xs) l h e = no_space text x (spaced (y ∷ xs)) free (same_Some _ _ (sym e))

  module _ (first rest : List ℕ) (is_word : IsWord first) (cut : text ≡ first ++ 32 ∷ rest) where
    pub uncut_later : ((found : List (List ℕ)) → length found ≡ count - 1 → AreWords found → behind found ≢ Some rest) → (found : List (List ℕ)) → length found ≡ count → AreWords found → behind found ≢ Some text
    uncut_later none [] l h e = omega arith
    uncut_later none (x ∷ []) l h e = omega arith
    uncut_later none (x ∷ y ∷ xs) l h e = none (y ∷ xs) (omega arith) h.1 (ap (λ (t : List ℕ). Some t) (peel x first (spaced (y ∷ xs)) rest h.0 is_word (same_Some _ _ e ∙ cut)).1)

    one_more : (words : List (List ℕ)) → AreWords words → length words ≡ count - 1 → behind words ≡ Some rest → AreWords (first ∷ words) × (length (first ∷ words) ≡ count) × (behind (first ∷ words) ≡ Some text)
    one_more [] h l e = absurd (none-some rest e)
    one_more (x ∷ xs) h l e = ((is_word, h), omega arith, ap (λ (t : List ℕ). Some (first ++ 32 ∷ t)) (same_Some _ _ e) ∙ ap (λ (t : List ℕ). Some t) (sym cut))

-- the first words, if another one is put before them
shifted : (count : ℕ) (a b c d e f : List ℕ) → 2 ≤ count → count ≤ 5 → take count (a ∷ b ∷ c ∷ d ∷ e ∷ []) ≡ a ∷ take (count - 1) (b ∷ c ∷ d ∷ e ∷ f ∷ [])
shifted zero a b c d e f two five = absurd (omega arith)
shifted (suc zero) a b c d e f two five = absurd (omega arith)
shifted (suc (suc zero)) a b c d e f two five = refl
shifted (suc (suc (suc zero))) a b c d e f two five = refl
shifted (suc (suc (suc (suc zero)))) a b c d e f two five = refl
shifted (suc (suc (suc (suc (suc zero))))) a b c d e f two five = refl
shifted (suc (suc (suc (suc (suc (suc n)))))) a b c d e f two five = absurd (omega arith)

pub cut_found : (count : ℕ) (text first rest b c d e f : List ℕ) → 2 ≤ count → count ≤ 5 → IsWord first → text ≡ first ++ 32 ∷ rest
    → AreWords (take (count - 1) (b ∷ c ∷ d ∷ e ∷ f ∷ [])) × (length (take (count - 1) (b ∷ c ∷ d ∷ e ∷ f ∷ [])) ≡ count - 1) × (behind (take (count - 1) (b ∷ c ∷ d ∷ e ∷ f ∷ [])) ≡ Some rest)
    → AreWords (take count (first ∷ b ∷ c ∷ d ∷ e ∷ [])) × (length (take count (first ∷ b ∷ c ∷ d ∷ e ∷ [])) ≡ count) × (behind (take count (first ∷ b ∷ c ∷ d ∷ e ∷ [])) ≡ Some text)
cut_found count text first rest b c d e f two five is_word cut later =
    let P : List (List ℕ) → Type 0 = λ words. AreWords words × (length words ≡ count) × (behind words ≡ Some text) in
    subst P (sym (shifted count first b c d e f two five)) (one_more count two text first rest is_word cut _ later.0 later.1 later.2)

-- nothing is no words, and a text is some
pub none_of_text : (text : List ℕ) (found : List (List ℕ)) → length found ≡ 0 → behind found ≢ Some text
none_of_text text [] l e = none-some text e
none_of_text text (x ∷ xs) l e = omega arith

pub some_of_none : (count : ℕ) → 1 ≤ count → (found : List (List ℕ)) → length found ≡ count → behind found ≢ None
some_of_none count low [] l e = omega arith
some_of_none count low (x ∷ xs) l e = none-some _ (sym e)

-- what holds if no words are found
pub no_cut : (count : ℕ) (rest : Option (List ℕ)) (found : Option Words) → found ≡ None → ((words : List (List ℕ)) → length words ≡ count → AreWords words → behind words ≢ rest) → IsCutInto count rest found
no_cut count rest None e h = h
no_cut count rest (Some words) e h = absurd (none-some words (sym e))
