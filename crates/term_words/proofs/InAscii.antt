-- Characters of ASCII: each is its own decomposition without marks, and is folded to its lower case.
use Rattle.std.proofs.Common.{◌≡◌, ℕ, zero, suc, ◌+◌, ◌<◌, Bool, true, false, MatchBool, not, List, [], ◌∷◌, ◌++◌, length, get_or, map, refl, sym, ap, subst, ◌∙◌, arith, append-nil, take}
use Rattle.std.specs.Prelude.{encode_utf8, flat_map, IsAscii}
use Rattle.std.specs.Char.{to_ascii_lowercase, is_ascii_alphanumeric}
use Rattle.std.specs.List.{filter}
use Rattle.std.proofs.UnicodeAscii.{is_alphanumeric_ascii}
use Rattle.std.proofs.lemmas.Bool.{not-true}
use Rattle.std.proofs.lemmas.List.{take_more, map_push}
use Rattle.std.proofs.lemmas.Str.{chars-IsAscii, encodes-IsAscii}
use Rattle.std.proofs.lemmas.Str.Ascii.{All-from_ascii}
use Rattle.ucd_table.proofs.Facts.{Stepped-below}
use Rattle.ucd_category.specs.GeneralCategory.{general_category}
use Rattle.ucd_category.specs.GeneralCategoryGroup.{in_group}
use Rattle.ucd_category.specs.declared.GeneralCategoryGroup.TheVariants.{Mark}
use Rattle.ucd_category.proofs.GeneralCategoryLemmas.{general_category_stepped}
use Rattle.ucd_table.proofs.Computing.{tables}
use Rattle.unicode_normalization.specs.Forms.{Nfd}
use Rattle.unicode_normalization.specs.Decompose.{decompose_canonical}
use Rattle.unicode_normalization.specs.Lookups.{is_combining_mark}
use Rattle.unicode_normalization.proofs.DecomposeLemmas.{decompose-final}
use Rattle.unicode_normalization.proofs.FormsLemmas.{is_final-Nfd, quick_check-ascii}
use Rattle.caseless.proofs.CaselessLemmas.{default_case_fold-ascii}
use Rattle.word_model.specs.Words.{is_of_word, is_no_mark, unmarked, plain}
use Rattle.term_words.specs.declared.keys.KeyAt.{KeyAt}
use Rattle.term_words.specs.Private.{Follows}
use Rattle.term_words.proofs.Runs.{no_mark, follows_both}

-- what holds where a test passes
pub where_true : (P Q : Type 0) (b : Bool) → MatchBool b P Q → b ≡ true → P
where_true P Q b h e = subst (λ x. MatchBool x P Q) e h

pub of_word : (c : ℕ) → c < 128 → is_ascii_alphanumeric c ≡ is_of_word c
of_word c low = is_alphanumeric_ascii c low

pub one_byte : (c : ℕ) → c < 128 → encode_utf8 c ≡ c ∷ []
one_byte c low = sym (append-nil (encode_utf8 c)) ∙ encodes-IsAscii (c ∷ []) (alone c low)
  where
    alone : (c : ℕ) → c < 128 → IsAscii (c ∷ [])
    alone c low zero = low
    alone c low (suc i) = omega arith

is_no_combining : (c : ℕ) → c < 128 → is_combining_mark c ≡ false
unfolding tables general_category_stepped
is_no_combining c low = not-true _ (Stepped-below general_category general_category_stepped (λ d category. not (in_group Mark category)) 128 refl c low)

itself : (c : ℕ) → c < 128 → decompose_canonical c ≡ c ∷ []
itself c low = decompose-final Nfd c (is_final-Nfd c (quick_check-ascii Nfd c low))

pub unmarked_itself : (c : ℕ) → c < 128 → unmarked c ≡ c ∷ []
unmarked_itself c low = ap (filter is_no_mark) (itself c low) ∙ no_mark c (is_no_combining c low)

pub lower_is_low : (c : ℕ) → c < 128 → to_ascii_lowercase c < 128
lower_is_low c low = grind arith

all_unmarked : (cs : List ℕ) → IsAscii cs → flat_map unmarked (map to_ascii_lowercase cs) ≡ map to_ascii_lowercase cs
all_unmarked [] low = refl
all_unmarked (c ∷ cs) low =
    let rest = all_unmarked cs (λ i. low (suc i)) in
    let one = unmarked_itself (to_ascii_lowercase c) (lower_is_low c (low zero)) in
    λ i. one i ++ rest i

pub plain_is_lower : (text : List ℕ) → IsAscii text → plain text ≡ map to_ascii_lowercase text
unfolding plain
plain_is_lower text ascii =
    ap (flat_map unmarked) (rw (chars-IsAscii text ascii) (default_case_fold-ascii text (All-from_ascii text ascii))) ∙ all_unmarked text ascii

-- one byte of a text more
pub follows_byte : (text text' text'' : List ℕ) (keys keys' keys'' : List KeyAt) (start start' start'' : ℕ) (term : List ℕ) (i byte : ℕ) → i < length term → byte ≡ get_or term i 0
    → Follows text keys start (map to_ascii_lowercase (take i term)) text' keys' start' → Follows text' keys' start' (to_ascii_lowercase byte ∷ []) text'' keys'' start''
    → Follows text keys start (map to_ascii_lowercase (take (i + 1) term)) text'' keys'' start''
follows_byte text text' text'' keys keys' keys'' start start' start'' term i byte lt is first second =
    subst (λ cs. Follows text keys start cs text'' keys'' start'')
    (sym (map_push to_ascii_lowercase (take i term) byte) ∙ ap (map to_ascii_lowercase) (ap (λ b. take i term ++ b ∷ []) is ∙ sym (take_more term i 0 lt)))
    (follows_both text text' text'' keys keys' keys'' start start' start'' (map to_ascii_lowercase (take i term)) (to_ascii_lowercase byte ∷ []) first second)
