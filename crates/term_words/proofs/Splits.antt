-- Postings in two parts.
use Rattle.std.proofs.Common.{◌≡◌, ℕ, zero, suc, ◌+◌, ◌-◌, ◌<◌, ◌≤◌, ◌^◌, true, false, List, [], ◌∷◌, ◌++◌, length, get_or, map, refl, sym, ap, subst, inl, inr, ◌∙◌, arith, append_assoc, append-nil}
use Rattle.std.specs.Prelude.{Option, Some, None, Result, Ok, Err, OnOk, OnErr, slice_get, nat_eq}
use Rattle.std.specs.Option.{option_map}
use Rattle.std.specs.List.{AllByRecursion, starts_with}
use Rattle.std.specs.Ordering.{nat_cmp, is_lt}
use Rattle.std.specs.Cmp.Lexicographic.{slice_cmp}
use Rattle.std.proofs.lemmas.List.{length-append, length-map, map_push}
use Rattle.std.proofs.lemmas.Option.{same_Some, slice_get-map, get_or_from_slice_get}
use Rattle.history_model.specs.InOrder.{Has}
use Rattle.history_model.proofs.InOrder.{Has-all, Has-append_left, Has-append_right, Has-append_cases}
use Rattle.history_model.proofs.Filtered.{Has-map, Has-map_from}
use Rattle.history_model.proofs.Items.{Has-slice_get, number_of_item}
use Rattle.term_prefix.specs.Terms.{TermAt, TextsRise}
use Rattle.term_words.specs.declared.ordered.Placed.{Placed}
use Rattle.term_words.specs.declared.ordered.Split.{Split}
use Rattle.term_words.specs.Posted.{keyed, measure_key, word_key}
use Rattle.term_words.specs.Laid.{IsSizeKey, IsWordKey, row_of_rank, by_rank, seen_in, AreParted}
use Rattle.term_words.specs.Private.{SaysPlaced, all_in, PartsRise, IsSplit, IsUsable, AreSplit, IsBegun}
use Rattle.term_words.proofs.Entries.{rise-behind, entries_rise}

-- ---- the row of a rank

pub rank_row : (sizes : List TermAt) (rank row : ℕ) → option_map (λ (t : TermAt). t.row) (slice_get sizes rank) ≡ Some row → (row_of_rank sizes rank ≡ row) × (rank < length sizes)
rank_row [] rank row e = absurd cc
rank_row (t ∷ sizes) zero row e = (same_Some t.row row e, omega arith)
rank_row (t ∷ sizes) (suc rank) row e = let w = rank_row sizes rank row e in let lt = w.1 in (w.0, omega (arith, lt))

pub no_row : (sizes : List TermAt) (rank : ℕ) → rank < length sizes → option_map (λ (t : TermAt). t.row) (slice_get sizes rank) ≡ None → ⊥
no_row [] rank lt e = absurd (omega arith)
no_row (t ∷ sizes) zero lt e = absurd cc
no_row (t ∷ sizes) (suc rank) lt e = no_row sizes rank (omega arith) e

rank_there : (sizes : List TermAt) (rank : ℕ) → rank < length sizes → (t : TermAt) × (slice_get sizes rank ≡ Some t) × (row_of_rank sizes rank ≡ t.row)
rank_there [] rank lt = absurd (omega arith)
rank_there (t ∷ sizes) zero lt = (t, refl, refl)
rank_there (t ∷ sizes) (suc rank) lt = rank_there sizes rank (omega arith)

rank_is : (sizes : List TermAt) (rank : ℕ) (t : TermAt) → slice_get sizes rank ≡ Some t → row_of_rank sizes rank ≡ t.row
rank_is sizes rank t e = ap (λ (u : TermAt). u.row) (get_or_from_slice_get sizes rank t (keyed 0 []) e)

-- ---- postings by words are behind the others

behind : (sizes rest : List TermAt) → AllByRecursion (λ (u : TermAt). IsSizeKey u.folded) sizes → (i : ℕ) (t : TermAt) → slice_get (sizes ++ rest) i ≡ Some t → IsWordKey t.folded → length sizes ≤ i
behind [] rest are i t e word = omega arith
behind (s ∷ sizes) rest are zero t e word =
    let size = are.0 in
    let same = ap (λ (u : TermAt). get_or u.folded 0 2) (same_Some s t e) in
    absurd (omega (arith, size, same, word))
behind (s ∷ sizes) rest are (suc i) t e word = let le = behind sizes rest are.1 i t e word in omega (arith, le)

pub words_are_behind : (sizes words : List TermAt) → AreParted sizes words → (i : ℕ) (t : TermAt) → slice_get (seen_in sizes words) i ≡ Some t → IsWordKey t.folded → length sizes ≤ i
words_are_behind sizes words are i t e word = behind sizes (map (by_rank sizes) words) are.of_sizes i t e word

-- ---- postings that are added

pub nothing_of : (xs : List TermAt) → length xs ≡ 0 → xs ≡ []
nothing_of [] e = refl
nothing_of (x ∷ xs) e = absurd (omega (arith, e))

pub seen_length : (sizes words : List TermAt) → length (seen_in sizes words) ≡ length sizes + length words
seen_length sizes words = length-append sizes (map (by_rank sizes) words) ∙ ap (λ n. length sizes + n) (length-map words (by_rank sizes))

pub size_pushed : (sizes sizes' words : List TermAt) (t : TermAt) → words ≡ [] → sizes' ≡ sizes ++ t ∷ [] → seen_in sizes' words ≡ seen_in sizes words ++ t ∷ []
size_pushed sizes sizes' words t none e =
    subst (λ ws. seen_in sizes' ws ≡ seen_in sizes ws ++ t ∷ []) (sym none) (append-nil sizes' ∙ e ∙ ap (λ xs. xs ++ t ∷ []) (sym (append-nil sizes)))

all_push : (P : TermAt → Type 0) (xs : List TermAt) (x : TermAt) → AllByRecursion P xs → P x → AllByRecursion P (xs ++ x ∷ [])
all_push P [] x h k = (k, tt)
all_push P (y ∷ xs) x h k = (h.0, all_push P xs x h.1 k)

longer : (xs : List TermAt) (x : TermAt) → length (xs ++ x ∷ []) ≡ length xs + 1
longer xs x = length-append xs (x ∷ [])

pub size_parted : {A B : Type 0} (r : Result A B) (sizes sizes' words : List TermAt) (t : TermAt) → words ≡ [] → IsSizeKey t.folded → (length sizes + length words) + 1 < 2 ^ 32 → OnOk r (sizes' ≡ sizes ++ t ∷ []) → OnErr r (sizes' ≡ sizes) → AreParted sizes words → AreParted sizes' words
size_parted (Ok x) sizes sizes' words t none size few ok err are =
    subst (λ xs. AreParted xs words) (sym ok) (record {
      of_sizes = all_push (λ (u : TermAt). IsSizeKey u.folded) sizes t are.of_sizes size;
      of_words = subst (λ ws. AllByRecursion (λ (u : TermAt). IsWordKey u.folded × (u.row < length (sizes ++ t ∷ []))) ws) (sym none) tt;
      few = (let more = longer sizes t in omega (arith, more, few));
    })
size_parted (Err x) sizes sizes' words t none size few ok err are = subst (λ xs. AreParted xs words) (sym err) are

pub word_pushed : (sizes words words' : List TermAt) (rank row : ℕ) (key : List ℕ) → option_map (λ (t : TermAt). t.row) (slice_get sizes rank) ≡ Some row → words' ≡ words ++ keyed rank key ∷ [] → seen_in sizes words' ≡ seen_in sizes words ++ keyed row key ∷ []
word_pushed sizes words words' rank row key there e =
    ap (seen_in sizes) e
    ∙ ap (λ ts. sizes ++ ts) (map_push (by_rank sizes) words (keyed rank key))
    ∙ sym (append_assoc sizes (map (by_rank sizes) words) (by_rank sizes (keyed rank key) ∷ []))
    ∙ ap (λ n. seen_in sizes words ++ keyed n key ∷ []) (rank_row sizes rank row there).0

pub word_parted : {A B : Type 0} (r : Result A B) (sizes words words' : List TermAt) (rank row : ℕ) (key : List ℕ) → option_map (λ (t : TermAt). t.row) (slice_get sizes rank) ≡ Some row → IsWordKey key → (length sizes + length words) + 1 < 2 ^ 32 → OnOk r (words' ≡ words ++ keyed rank key ∷ []) → OnErr r (words' ≡ words) → AreParted sizes words → AreParted sizes words'
word_parted (Ok x) sizes words words' rank row key there word few ok err are =
    subst (AreParted sizes) (sym ok) (record {
      of_sizes = are.of_sizes;
      of_words = all_push (λ (u : TermAt). IsWordKey u.folded × (u.row < length sizes)) words (keyed rank key) are.of_words (word, (rank_row sizes rank row there).1);
      few = (let more = longer words (keyed rank key) in omega (arith, more, few));
    })
word_parted (Err x) sizes words words' rank row key there word few ok err are = subst (AreParted sizes) (sym err) are

-- ---- postings that are read

get_front : {X : Type 0} (xs ys : List X) (i : ℕ) → i < length xs → slice_get (xs ++ ys) i ≡ slice_get xs i
get_front [] ys i lt = absurd (omega arith)
get_front (x ∷ xs) ys zero lt = refl
get_front (x ∷ xs) ys (suc i) lt = get_front xs ys i (omega arith)

get_behind : {X : Type 0} (xs ys : List X) (i : ℕ) → length xs ≤ i → slice_get (xs ++ ys) i ≡ slice_get ys (i - length xs)
get_behind [] ys i le = ap (slice_get ys) (omega arith)
get_behind (x ∷ xs) ys zero le = absurd (omega arith)
get_behind (x ∷ xs) ys (suc i) le =
    let number : i - length xs ≡ suc i - suc (length xs) = omega arith in
    get_behind xs ys i (omega arith) ∙ ap (slice_get ys) number

pub says_front : (sizes words : List TermAt) (i count : ℕ) (r : Option Placed) → count ≡ length sizes → i < count → SaysPlaced (slice_get sizes i) r → SaysPlaced (slice_get (seen_in sizes words) i) r
says_front sizes words i count r is lt says = subst (λ o. SaysPlaced o r) (sym (get_front sizes (map (by_rank sizes) words) i (omega (arith, is, lt)))) says

pub says_behind : (sizes words : List TermAt) (i count : ℕ) (r : Option Placed) → count ≡ length sizes → count ≤ i → SaysPlaced (slice_get (map (by_rank sizes) words) (i - count)) r → SaysPlaced (slice_get (seen_in sizes words) i) r
says_behind sizes words i count r is le says =
    subst (λ o. SaysPlaced o r) (ap (λ n. slice_get (map (by_rank sizes) words) (i - n)) is ∙ sym (get_behind sizes (map (by_rank sizes) words) i (omega (arith, is, le)))) says

-- a word's posting is stored with a rank
pub word_below : (sizes words : List TermAt) (i : ℕ) (t : TermAt) → AreParted sizes words → slice_get words i ≡ Some t → t.row < length sizes
word_below sizes words i t are e = (Has-all (λ (u : TermAt). IsWordKey u.folded × (u.row < length sizes)) words t are.of_words (Has-slice_get words i t e)).1

pub says_word : (sizes words : List TermAt) (i : ℕ) (t : TermAt) (r : Option Placed) → slice_get words i ≡ Some t → SaysPlaced (Some (by_rank sizes t)) r → SaysPlaced (slice_get (map (by_rank sizes) words) i) r
says_word sizes words i t r e says = subst (λ o. SaysPlaced o r) (sym (slice_get-map (by_rank sizes) words i ∙ ap (option_map (by_rank sizes)) e)) says

pub says_no_word : (sizes words : List TermAt) (i : ℕ) → slice_get words i ≡ None → slice_get (map (by_rank sizes) words) i ≡ None
says_no_word sizes words i e = slice_get-map (by_rank sizes) words i ∙ ap (option_map (by_rank sizes)) e

-- ---- the parts of a list

rise-named : (sizes words : List TermAt) → TextsRise (map (by_rank sizes) words) → TextsRise words
rise-named sizes [] up = tt
rise-named sizes (t ∷ words) up = (each t words up.0, rise-named sizes words up.1) where
  each : (t : TermAt) (us : List TermAt) → AllByRecursion (λ (u : TermAt). is_lt (slice_cmp nat_cmp u.folded t.folded) ≡ false) (map (by_rank sizes) us) → AllByRecursion (λ (u : TermAt). is_lt (slice_cmp nat_cmp u.folded t.folded) ≡ false) us
  each t [] h = tt
  each t (u ∷ us) h = (h.0, each t us h.1)

pub split_rising : (ts : List TermAt) (s : Split) → IsSplit ts s → TextsRise ts → PartsRise s.words
split_rising ts s is up =
    let sizes = all_in s.sizes in
    let words = all_in s.words in
    let both : TextsRise (seen_in sizes words) = subst TextsRise (sym is.same) up in
    entries_rise s.words.text.now s.words.rows.now s.words.entries.now is.words_are (rise-named sizes words (rise-behind sizes (map (by_rank sizes) words) both))

pub split_push : (lists : List (List TermAt)) (splits : List Split) (ts : List TermAt) (s : Split) → AreSplit lists splits → IsSplit ts s → PartsRise s.words → AreSplit (lists ++ ts ∷ []) (splits ++ s ∷ [])
split_push [] [] ts s are is up = ((is, up), tt)
split_push [] (r ∷ splits) ts s are is up = absurd are
split_push (us ∷ lists) [] ts s are is up = absurd are
split_push (us ∷ lists) (r ∷ splits) ts s are is up = (are.0, split_push lists splits ts s are.1 is up)

pub each_usable : (lists : List (List TermAt)) (splits : List Split) → AreSplit lists splits → AllByRecursion IsUsable splits
each_usable [] [] are = tt
each_usable [] (s ∷ splits) are = absurd are
each_usable (ts ∷ lists) [] are = absurd are
each_usable (ts ∷ lists) (s ∷ splits) are = ((are.0.0.sizes_are, are.0.1), each_usable lists splits are.1)

-- the parts of the list with this number, and the list of the parts
pub split_of : (lists : List (List TermAt)) (splits : List Split) (n : ℕ) (ts : List TermAt) → AreSplit lists splits → slice_get lists n ≡ Some ts → (s : Split) × (slice_get splits n ≡ Some s) × IsSplit ts s
split_of [] splits n ts are e = absurd cc
split_of (us ∷ lists) [] n ts are e = absurd are
split_of (us ∷ lists) (s ∷ splits) zero ts are e = (s, refl, subst (λ us. IsSplit us s) (same_Some us ts e) are.0.0)
split_of (us ∷ lists) (s ∷ splits) (suc n) ts are e = split_of lists splits n ts are.1 e

pub list_of : (lists : List (List TermAt)) (splits : List Split) (n : ℕ) (s : Split) → AreSplit lists splits → slice_get splits n ≡ Some s → (ts : List TermAt) × (slice_get lists n ≡ Some ts) × IsSplit ts s
list_of lists [] n s are e = absurd cc
list_of [] (r ∷ splits) n s are e = absurd are
list_of (ts ∷ lists) (r ∷ splits) zero s are e = (ts, refl, subst (IsSplit ts) (same_Some r s e) are.0.0)
list_of (ts ∷ lists) (r ∷ splits) (suc n) s are e = list_of lists splits n s are.1 e

-- ---- what the parts say of a row

module _ (ts : List TermAt) (s : Split) (is : IsSplit ts s) where
  abbrev sizes : List TermAt
  sizes = all_in s.sizes

  abbrev words : List TermAt
  words = all_in s.words

  pub size_has : (rank : ℕ) (t : TermAt) → slice_get (all_in s.sizes) rank ≡ Some t → Has ts t
  size_has rank t e = subst (λ us. Has us t) is.same (Has-append_left sizes (map (by_rank sizes) words) t (Has-slice_get sizes rank t e))

  -- a row of a description whose words begin so has words that do
  pub begun_row : (rank i : ℕ) (key prefix : List ℕ) → slice_get (all_in s.sizes) rank ≡ Some (keyed i key) → IsBegun (all_in s.words) prefix rank → IsBegun ts prefix i
  begun_row rank i key prefix e w =
      let t = w.0 in
      let row_is : row_of_rank sizes t.row ≡ i = ap (row_of_rank sizes) w.2 ∙ rank_is sizes rank (keyed i key) e in
      (by_rank sizes t, subst (λ us. Has us (by_rank sizes t)) is.same (Has-append_right sizes (map (by_rank sizes) words) (by_rank sizes t) (Has-map_from (by_rank sizes) words t w.1)), row_is, w.3)

  -- a posting by length and type has a rank
  pub sized_rank : (i len type_id : ℕ) → Has ts (keyed i (measure_key len type_id)) → (rank : ℕ) × (slice_get (all_in s.sizes) rank ≡ Some (keyed i (measure_key len type_id)))
  sized_rank i len type_id h = elim (Has-append_cases sizes (map (by_rank sizes) words) (keyed i (measure_key len type_id)) (subst (λ us. Has us (keyed i (measure_key len type_id))) (sym is.same) h)) [
    | inl l ↦ number_of_item sizes (keyed i (measure_key len type_id)) l
    | inr r ↦ absurd (
        let m = Has-map (by_rank sizes) words (keyed i (measure_key len type_id)) r in
        let word = (Has-all (λ (u : TermAt). IsWordKey u.folded × (u.row < length sizes)) words m.0 is.parted.of_words m.1).0 in
        let first : 1 ≡ 0 = sym word ∙ ap (λ (u : TermAt). get_or u.folded 0 2) m.2 in
        omega (arith, first))
  ]

  -- a posting by a word is stored with a rank of the row
  pub word_rank : (i : ℕ) (word key : List ℕ) → Has ts (keyed i key) → starts_with nat_eq key (word_key word) ≡ true → (rank : ℕ) × (t : TermAt) × (slice_get (all_in s.sizes) rank ≡ Some t) × (t.row ≡ i) × IsBegun (all_in s.words) (word_key word) rank
  word_rank i word key h e = elim (Has-append_cases sizes (map (by_rank sizes) words) (keyed i key) (subst (λ us. Has us (keyed i key)) (sym is.same) h)) [
    | inl l ↦ absurd (not_size word key (Has-all (λ (u : TermAt). IsSizeKey u.folded) sizes (keyed i key) is.parted.of_sizes l) e)
    | inr r ↦ (
        let m = Has-map (by_rank sizes) words (keyed i key) r in
        let below = (Has-all (λ (u : TermAt). IsWordKey u.folded × (u.row < length sizes)) words m.0 is.parted.of_words m.1).1 in
        let w = rank_there sizes m.0.row below in
        let row_is : row_of_rank sizes m.0.row ≡ i = ap (λ (u : TermAt). u.row) m.2 in
        let key_is : m.0.folded ≡ key = ap (λ (u : TermAt). u.folded) m.2 in
        (m.0.row, w.0, w.1, sym w.2 ∙ row_is, (m.0, m.1, refl, ap (λ k. starts_with nat_eq k (word_key word)) key_is ∙ e)))
  ] where
    not_size : (word key : List ℕ) → IsSizeKey key → starts_with nat_eq key (word_key word) ≡ true → ⊥
    not_size word [] size e = absurd (omega (arith, size))
    not_size word (zero ∷ key) size e = absurd cc
    not_size word (suc x ∷ key) size e = absurd (omega (arith, size))

  pub size_key : (rank : ℕ) (t : TermAt) → slice_get (all_in s.sizes) rank ≡ Some t → IsSizeKey t.folded
  size_key rank t e = Has-all (λ (u : TermAt). IsSizeKey u.folded) sizes t is.parted.of_sizes (Has-slice_get sizes rank t e)
