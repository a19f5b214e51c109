-- Words that are read character by character.
use Rattle.std.proofs.Common.{◌≡◌, ◌⊎◌, ℕ, zero, suc, ◌+◌, ◌-◌, ◌<◌, ◌≤◌, Bool, true, false, not, cond, List, [], ◌∷◌, ◌++◌, length, map, take, drop, refl, sym, ap, subst, inl, inr, ◌∙◌, arith, append_assoc, append-nil, take_all, encode_utf8_all}
use Rattle.std.specs.Prelude.{encode_utf8, chars, flat_map, get_or}
use Rattle.std.specs.List.{AllByRecursion, filter, slice_split, onto_first}
use Rattle.std.proofs.lemmas.List.{length-append, length-drop, drop-append-le, map_push, take_more}
use Rattle.std.proofs.lemmas.Grind.{flat_map-append}
use Rattle.unicode_normalization.specs.Lookups.{is_combining_mark}
use Rattle.caseless.specs.Caseless.{default_case_fold}
use Rattle.std.proofs.lemmas.Str.{encodes-append, length-le-encodes}
use Rattle.list_lemmas.proofs.Parts.{drop_whole}
use Rattle.word_model.specs.Words.{is_of_word, is_between_words, is_no_mark, has_some, runs, plain, unmarked, words}
use Rattle.term_words.specs.declared.keys.KeyAt.{KeyAt}
use Rattle.term_words.specs.declared.keys.KeyAt.TheVariants as places
use Rattle.term_words.specs.Posted.{word_key}
use Rattle.term_words.specs.Laid.{key_in, keys_in, EachEndsWithin}
use Rattle.term_words.specs.Private.{IsClosed, Leads, Follows}
use Rattle.term_words.proofs.Chained.{keys-append, each-later, each-push}

-- ---- runs

abbrev pub AreOfWord : List ℕ → Type 0
AreOfWord word = AllByRecursion (λ c. is_of_word c ≡ true) word

abbrev onto : ℕ → List (List ℕ) → List (List ℕ)
onto = onto_first

split_word : (word : List ℕ) → AreOfWord word → slice_split is_between_words word ≡ word ∷ []
split_word [] h = refl
split_word (c ∷ word) h =
    ap (λ b. cond (not b) ([] ∷ slice_split is_between_words word) (onto c (slice_split is_between_words word))) h.0
    ∙ ap (onto c) (split_word word h.1)

split_between : (word : List ℕ) (c : ℕ) (cs : List ℕ) → AreOfWord word → is_of_word c ≡ false → slice_split is_between_words (word ++ c ∷ cs) ≡ word ∷ slice_split is_between_words cs
split_between [] c cs h other = ap (λ b. cond (not b) ([] ∷ slice_split is_between_words cs) (onto c (slice_split is_between_words cs))) other
split_between (d ∷ word) c cs h other =
    ap (λ b. cond (not b) ([] ∷ slice_split is_between_words (word ++ c ∷ cs)) (onto d (slice_split is_between_words (word ++ c ∷ cs)))) h.0
    ∙ ap (onto d) (split_between word c cs h.1 other)

abbrev own_run : List ℕ → List (List ℕ)
own_run word = filter has_some (word ∷ [])

runs_end : (word : List ℕ) → AreOfWord word → runs (word ++ []) ≡ own_run word
runs_end word h = ap runs (append-nil word) ∙ ap (filter has_some) (split_word word h)

one_more : (word : List ℕ) (others : List (List ℕ)) → filter has_some (word ∷ others) ≡ own_run word ++ filter has_some others
one_more [] others = refl
one_more (c ∷ word) others = refl

runs_between : (word : List ℕ) (c : ℕ) (cs : List ℕ) → AreOfWord word → is_of_word c ≡ false → runs (word ++ c ∷ cs) ≡ own_run word ++ runs cs
runs_between word c cs h other = ap (filter has_some) (split_between word c cs h other) ∙ one_more word (slice_split is_between_words cs)

-- ---- keys of runs

abbrev pub run_keys : List (List ℕ) → List (List ℕ)
run_keys all = map word_key (map encode_utf8_all all)

run_keys-append : (xs ys : List (List ℕ)) → run_keys (xs ++ ys) ≡ run_keys xs ++ run_keys ys
run_keys-append [] ys = refl
run_keys-append (x ∷ xs) ys = ap (λ zs. word_key (encode_utf8_all x) ∷ zs) (run_keys-append xs ys)

of_word-push : (word : List ℕ) (c : ℕ) → AreOfWord word → is_of_word c ≡ true → AreOfWord (word ++ c ∷ [])
of_word-push [] c h e = (e, tt)
of_word-push (d ∷ word) c h e = (h.0, of_word-push word c h.1 e)

-- ---- one character

pub follows_none : (text : List ℕ) (keys : List KeyAt) (start : ℕ) → Follows text keys start [] text keys start
follows_none text keys start left whole h = h

pub follows_both : (text text' text'' : List ℕ) (keys keys' keys'' : List KeyAt) (start start' start'' : ℕ) (cs ds : List ℕ)
    → Follows text keys start cs text' keys' start' → Follows text' keys' start' ds text'' keys'' start'' → Follows text keys start (cs ++ ds) text'' keys'' start''
follows_both text text' text'' keys keys' keys'' start start' start'' cs ds first second left whole h =
    second left whole (first (ds ++ left) whole (subst (λ xs. Leads text keys start xs whole) (append_assoc cs ds left) h))

pub follows_word : (text text' : List ℕ) (keys : List KeyAt) (start c : ℕ) → is_of_word c ≡ true → text' ≡ text ++ encode_utf8 c → Follows text keys start (c ∷ []) text' keys start
follows_word text text' keys start c of_word is left whole h =
    let longer : length text ≤ length text' = (let a = ap (λ (xs : List ℕ). length xs) is in let b = length-append text (encode_utf8 c) in omega (arith, a, b)) in
    let within = h.within in
    let same : keys_in text' keys ≡ keys_in text keys = ap (λ t. keys_in t keys) is ∙ keys-append text (encode_utf8 c) keys (each-later start (length text) keys within h.closed) in
    record {
      word = h.word ++ c ∷ [];
      word_is =
          ap (drop start) is
          ∙ drop-append-le start text (encode_utf8 c) within
          ∙ ap (λ bs. bs ++ encode_utf8 c) h.word_is
          ∙ ap (λ bs. encode_utf8_all h.word ++ bs) (sym (append-nil (encode_utf8 c)))
          ∙ sym (encodes-append h.word (c ∷ []));
      of_word = of_word-push h.word c h.of_word of_word;
      within = omega (arith, longer, within);
      closed = h.closed;
      whole_is = (λ i. same i ++ run_keys (runs (append_assoc h.word (c ∷ []) left i))) ∙ h.whole_is;
    }

-- ---- the end of a word

some_of : (word : List ℕ) (n : ℕ) → length (encode_utf8_all word) ≡ n → 0 < n → own_run word ≡ word ∷ []
some_of [] n e lt = absurd (omega (arith, e))
some_of (c ∷ word) n e lt = refl

none_of : (word : List ℕ) → length (encode_utf8_all word) ≡ 0 → own_run word ≡ []
none_of [] e = refl
none_of (c ∷ word) e = absurd (let le = length-le-encodes (c ∷ word) in omega (arith, le, e))

below_or_not : (m n : ℕ) → (m < n) ⊎ (n ≤ m)
below_or_not zero zero = inr (omega arith)
below_or_not zero (suc n) = inl (omega arith)
below_or_not (suc m) zero = inr (omega arith)
below_or_not (suc m) (suc n) = elim (below_or_not m n) [ inl lt ↦ inl (omega arith) | inr le ↦ inr (omega arith) ]

-- with the word that ends its run is among the keys
pub record IsEnded (text : List ℕ) (keys : List KeyAt) (word : List ℕ) (keys' : List KeyAt) : Type 0 where
  pub within : EachEndsWithin (length text) keys'
  pub same : keys_in text keys' ≡ keys_in text keys ++ run_keys (own_run word)

ended : (text : List ℕ) (keys : List KeyAt) (start : ℕ) (left : List ℕ) (whole : List (List ℕ)) (keys' : List KeyAt) (next : ℕ) (h : Leads text keys start left whole) → IsClosed text keys start keys' next → IsEnded text keys h.word keys'
ended text keys start left whole keys' next h closed =
    let within = h.within in
    let before = each-later start (length text) keys within h.closed in
    let size = length-drop start text in
    let bytes = ap (λ (xs : List ℕ). length xs) h.word_is in
    elim (below_or_not start (length text)) [
      | inl lt ↦ (
          let at : KeyAt = places.Word start (length text - start) in
          let is = closed.some lt in
          let run : own_run h.word ≡ h.word ∷ [] = some_of h.word (length text - start) (omega (arith, size, bytes)) (omega arith) in
          let piece : take (length text - start) (drop start text) ≡ encode_utf8_all h.word = take_all (length text - start) (drop start text) (omega (arith, size)) ∙ h.word_is in
          record {
            within = subst (λ ks. EachEndsWithin (length text) ks) (sym is) (each-push (length text) keys at before (omega arith));
            same =
                ap (keys_in text) is
                ∙ map_push (key_in text) keys at
                ∙ ap (λ bs. keys_in text keys ++ word_key bs ∷ []) piece
                ∙ ap (λ all. keys_in text keys ++ run_keys all) (sym run);
          })
      | inr le ↦ (
          let is = closed.none le in
          let run : own_run h.word ≡ [] = none_of h.word (omega (arith, size, bytes)) in
          record {
            within = subst (λ ks. EachEndsWithin (length text) ks) (sym is) before;
            same = ap (keys_in text) is ∙ sym (append-nil (keys_in text keys)) ∙ ap (λ all. keys_in text keys ++ run_keys all) (sym run);
          })
    ]

pub follows_between : (text : List ℕ) (keys : List KeyAt) (start c : ℕ) (keys' : List KeyAt) (next : ℕ) → is_of_word c ≡ false → IsClosed text keys start keys' next → Follows text keys start (c ∷ []) text keys' next
follows_between text keys start c keys' next other closed left whole h =
    let w = ended text keys start (c ∷ left) whole keys' next h closed in
    let at = closed.next_is in
    record {
      word = [];
      word_is = ap (λ n. drop n text) at ∙ drop_whole text;
      of_word = tt;
      within = omega (arith, at);
      closed = subst (λ n. EachEndsWithin n keys') (sym at) w.within;
      whole_is =
          ap (λ ks. ks ++ run_keys (runs left)) w.same
          ∙ append_assoc (keys_in text keys) (run_keys (own_run h.word)) (run_keys (runs left))
          ∙ ap (λ ks. keys_in text keys ++ ks) (sym (run_keys-append (own_run h.word) (runs left)) ∙ ap run_keys (sym (runs_between h.word c left h.of_word other)))
          ∙ h.whole_is;
    }

-- ---- a whole text

pub leads_first : (text : List ℕ) (keys : List KeyAt) (left : List ℕ) → EachEndsWithin (length text) keys → Leads text keys (length text) left (keys_in text keys ++ run_keys (runs left))
leads_first text keys left h = record {
  word = [];
  word_is = drop_whole text;
  of_word = tt;
  within = omega arith;
  closed = h;
  whole_is = refl;
}

pub leads_last : (text : List ℕ) (keys : List KeyAt) (start : ℕ) (whole : List (List ℕ)) (keys' : List KeyAt) (next : ℕ) → Leads text keys start [] whole → IsClosed text keys start keys' next
    → (keys_in text keys' ≡ whole) × EachEndsWithin (length text) keys'
leads_last text keys start whole keys' next h closed =
    let w = ended text keys start [] whole keys' next h closed in (
      w.same ∙ ap (λ all. keys_in text keys ++ run_keys all) (sym (runs_end h.word h.of_word)) ∙ h.whole_is,
      w.within,
    )

-- ---- characters without marks

pub mark_left : (c : ℕ) → is_combining_mark c ≡ true → filter is_no_mark (c ∷ []) ≡ []
mark_left c e = ap (λ b. cond (not b) (c ∷ []) []) e

pub no_mark : (c : ℕ) → is_combining_mark c ≡ false → filter is_no_mark (c ∷ []) ≡ c ∷ []
no_mark c e = ap (λ b. cond (not b) (c ∷ []) []) e

pub filter_both : {X : Type 0} (p : X → Bool) (xs ys : List X) → filter p (xs ++ ys) ≡ filter p xs ++ filter p ys
filter_both p [] ys = refl
filter_both p (x ∷ xs) ys =
    elim (p x) as (λ b. cond b (x ∷ filter p (xs ++ ys)) (filter p (xs ++ ys)) ≡ cond b (x ∷ filter p xs) (filter p xs) ++ filter p ys) [
      | true ↦ ap (λ zs. x ∷ zs) (filter_both p xs ys)
      | false ↦ filter_both p xs ys
    ]

-- one of a list more
pub follows_more : (text text' text'' : List ℕ) (keys keys' keys'' : List KeyAt) (start start' start'' : ℕ) (p : ℕ → Bool) (cs : List ℕ) (i c d : ℕ) → i < length cs → c ≡ get_or cs i d
    → Follows text keys start (filter p (take i cs)) text' keys' start' → Follows text' keys' start' (filter p (c ∷ [])) text'' keys'' start'' → Follows text keys start (filter p (take (i + 1) cs)) text'' keys'' start''
follows_more text text' text'' keys keys' keys'' start start' start'' p cs i c d lt is first second =
    subst (λ ds. Follows text keys start ds text'' keys'' start'') (sym (filter_both p (take i cs) (c ∷ [])) ∙ ap (filter p) (ap (λ x. take i cs ++ x ∷ []) is ∙ sym (take_more cs i d lt)))
    (follows_both text text' text'' keys keys' keys'' start start' start'' (filter p (take i cs)) (filter p (c ∷ [])) first second)

-- one character more
pub follows_next : (text text' text'' : List ℕ) (keys keys' keys'' : List KeyAt) (start start' start'' : ℕ) (cs : List ℕ) (c : ℕ)
    → Follows text keys start (flat_map unmarked cs) text' keys' start' → Follows text' keys' start' (unmarked c) text'' keys'' start'' → Follows text keys start (flat_map unmarked (cs ++ c ∷ [])) text'' keys'' start''
follows_next text text' text'' keys keys' keys'' start start' start'' cs c first second =
    subst (λ ds. Follows text keys start ds text'' keys'' start'') (sym (flat_map-append unmarked cs (c ∷ []) ∙ ap (λ ds. flat_map unmarked cs ++ ds) (append-nil (unmarked c))))
    (follows_both text text' text'' keys keys' keys'' start start' start'' (flat_map unmarked cs) (unmarked c) first second)

-- ---- all words of a text

-- what is read of a term is what its folding has
pub plain_is : (term folded : List ℕ) → folded ≡ default_case_fold (chars term) → flat_map unmarked folded ≡ plain term
unfolding plain
plain_is term folded is = ap (flat_map unmarked) is

pub words_added : (text text' : List ℕ) (keys keys' keys'' : List KeyAt) (start last next : ℕ) (term : List ℕ) → EachEndsWithin (length text) keys → start ≡ length text → Follows text keys start (plain term) text' keys' last → IsClosed text' keys' last keys'' next
    → (keys_in text' keys'' ≡ keys_in text keys ++ map word_key (words term)) × EachEndsWithin (length text') keys''
unfolding words
words_added text text' keys keys' keys'' start last next term h start_is follows closed =
    let p = plain term in
    let whole = keys_in text keys ++ run_keys (runs (p ++ [])) in
    let begun : Leads text keys start (p ++ []) whole = subst (λ n. Leads text keys n (p ++ []) whole) (sym start_is) (leads_first text keys (p ++ []) h) in
    let e = leads_last text' keys' last whole keys'' next (follows [] whole begun) closed in
    (e.0 ∙ ap (λ xs. keys_in text keys ++ run_keys (runs xs)) (append-nil p), e.1)

pub map_same : (cs : List ℕ) → map (λ (c : ℕ). c) cs ≡ cs
map_same [] = refl
map_same (c ∷ cs) = ap (λ ds. c ∷ ds) (map_same cs)
