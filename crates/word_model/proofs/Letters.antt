-- A text has a word if it has a letter or a digit.
use Rattle.std.proofs.Common.{◌≡◌, ℕ, Bool, true, false, not, cond, List, [], ◌∷◌, ◌++◌, length, map, refl, sym, ap, ◌∙◌, arith}
use Rattle.std.specs.Prelude.{◌≢◌, ◌↔◌, ◌&&◌, ◌||◌, IsTrue, chars, flat_map, encode_utf8_all}
use Rattle.std.specs.List.{filter, list_any, slice_split, onto_first}
use Rattle.std.proofs.lemmas.Bool.{or_parts}
use Rattle.std.proofs.lemmas.Grind.{flat_map-append}
use Rattle.caseless.specs.Caseless.{default_case_fold}
use Rattle.ucd_case.specs.CaseFolding.{full_fold}
use Rattle.word_model.specs.Words.{is_no_mark, is_of_word, is_between_words, has_some, runs, plain, unmarked, words}

abbrev parts_of : List ℕ → List (List ℕ)
parts_of = slice_split is_between_words

runs_none : (cs : List ℕ) → list_any is_of_word cs ≡ false → runs cs ≡ []
runs_none [] e = refl
runs_none (c ∷ cs) e =
    let each = or_parts (is_of_word c) (list_any is_of_word cs) e in
    ap (λ b. filter has_some (cond (not b) ([] ∷ parts_of cs) (onto_first c (parts_of cs)))) each.0 ∙ runs_none cs each.1

some_onto : (c : ℕ) (parts : List (List ℕ)) → filter has_some (onto_first c parts) ≡ [] → ⊥
some_onto c [] e = let n = ap length e in omega (arith, n)
some_onto c (part ∷ parts) e = let n = ap length e in omega (arith, n)

runs_some : (cs : List ℕ) → list_any is_of_word cs ≡ true → runs cs ≡ [] → ⊥
runs_some [] e none = absurd (cc)
runs_some (c ∷ cs) e none =
    elim (is_of_word c) as (λ b. (b || list_any is_of_word cs) ≡ true → filter has_some (cond (not b) ([] ∷ parts_of cs) (onto_first c (parts_of cs))) ≡ [] → ⊥) [
      | true ↦ λ e none. some_onto c (parts_of cs) none
      | false ↦ λ e none. runs_some cs e none
    ] e none

map_none : {X Y : Type 0} (f : X → Y) (xs : List X) → map f xs ≡ [] → xs ≡ []
map_none f [] e = refl
map_none f (x ∷ xs) e = absurd (let n = ap length e in omega (arith, n))

any-append : {X : Type 0} (p : X → Bool) (xs ys : List X) → list_any p (xs ++ ys) ≡ (list_any p xs || list_any p ys)
any-append p [] ys = refl
any-append p (x ∷ xs) ys =
    ap (λ b. p x || b) (any-append p xs ys)
    ∙ (elim (p x) as (λ b. (b || (list_any p xs || list_any p ys)) ≡ ((b || list_any p xs) || list_any p ys)) [ true ↦ refl | false ↦ refl ])

any_folded : (cs : List ℕ) → list_any is_of_word (flat_map unmarked (flat_map full_fold cs)) ≡ list_any (λ c. list_any is_of_word (flat_map unmarked (full_fold c))) cs
any_folded [] = refl
any_folded (c ∷ cs) =
    ap (list_any is_of_word) (flat_map-append unmarked (full_fold c) (flat_map full_fold cs))
    ∙ any-append is_of_word (flat_map unmarked (full_fold c)) (flat_map unmarked (flat_map full_fold cs))
    ∙ ap (λ b. list_any is_of_word (flat_map unmarked (full_fold c)) || b) (any_folded cs)

pub any_unmarked : (cs : List ℕ) → list_any is_of_word (flat_map unmarked cs) ≡ list_any (λ c. list_any is_of_word (unmarked c)) cs
any_unmarked [] = refl
any_unmarked (c ∷ cs) =
    any-append is_of_word (unmarked c) (flat_map unmarked cs) ∙ ap (λ b. list_any is_of_word (unmarked c) || b) (any_unmarked cs)

pub any_no_mark : (cs : List ℕ) → list_any is_of_word (filter is_no_mark cs) ≡ list_any (λ c. is_no_mark c && is_of_word c) cs
any_no_mark [] = refl
any_no_mark (c ∷ cs) =
    (elim (is_no_mark c) as (λ b. list_any is_of_word (cond b (c ∷ filter is_no_mark cs) (filter is_no_mark cs)) ≡ ((b && is_of_word c) || list_any is_of_word (filter is_no_mark cs))) [ true ↦ refl | false ↦ refl ])
    ∙ ap (λ b. (is_no_mark c && is_of_word c) || b) (any_no_mark cs)

of_words : (text : List ℕ) (b : Bool) → b ≡ list_any is_of_word (plain text) → IsTrue b ↔ (words text ≢ [])
unfolding words
of_words text true e = (λ t none. runs_some (plain text) (sym e) (map_none encode_utf8_all (runs (plain text)) none), λ h. refl)
of_words text false e = (λ t none. absurd (cc), λ h. absurd (h (ap (map encode_utf8_all) (runs_none (plain text) (sym e)))))

pub has_some_word : (text : List ℕ) (b : Bool) → b ≡ list_any (λ c. list_any is_of_word (flat_map unmarked (full_fold c))) (chars text) → IsTrue b ↔ (words text ≢ [])
unfolding plain default_case_fold
has_some_word text b e = of_words text b (e ∙ sym (any_folded (chars text)))
