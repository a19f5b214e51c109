-- Postings of lists that change.
use Rattle.std.proofs.Common.{◌≡◌, ℕ, Bool, true, false, List, [], ◌∷◌, map, take, refl, sym, ap, subst, ◌∙◌, arith, take_all}
use Rattle.std.specs.Prelude.{slice_set, if◌then◌else◌}
use Rattle.std.specs.List.Sorted.{IsPermutation}
use Rattle.rf2_values.specs.declared.row.Body.TheVariants as body
use Rattle.rf2_values.specs.declared.row.Description.{Description}
use Rattle.rf2_values.specs.Row.{RowValue}
use Rattle.segment.specs.Standing.{places_of}
use Rattle.as_of_index.specs.Numbers.{TwoLists}
use Rattle.as_of_index.proofs.Pushing.{all_more, all_set, all_removed}
use Rattle.as_of_index.proofs.Unions.{merged_postings}
use Rattle.term_prefix.specs.Merged.{moved, in_both}
use Rattle.term_words.specs.Posted.{posted_words, keyed, keys_of, term_keys, PostedWordsMore, PostedWordsMerged, MergedWordsArePosted}

pub posted_words_more : PostedWordsMore
posted_words_more lists words rows ts a p = all_more posted_words lists words rows ts a p

pub posted_words_merged : PostedWordsMerged
posted_words_merged lists words i j rows ts a p = all_removed posted_words (slice_set lists i rows) (slice_set words i ts) j (all_set posted_words lists words i rows ts a p)

moved_keys : (f : ℕ → ℕ) (keys : List (List ℕ)) (i : ℕ) → map (moved f) (map (keyed i) keys) ≡ map (keyed (f i)) keys
moved_keys f [] i = refl
moved_keys f (key ∷ keys) i = ap (λ ts. keyed (f i) key ∷ ts) (moved_keys f keys i)

moved_row : (f : ℕ → ℕ) (row : RowValue) (i : ℕ) → map (moved f) (posted_words row i) ≡ posted_words row (f i)
moved_row f row i = split row.active where
  split : (b : Bool) → map (moved f) (if b then map (keyed i) (keys_of row.body) else []) ≡ (if b then map (keyed (f i)) (keys_of row.body) else [])
  split true = moved_keys f (keys_of row.body) i
  split false = refl

pub merged_words_are_posted : MergedWordsArePosted
merged_words_are_posted a_rows b_rows a b m are of_a of_b h none =
    let lists : TwoLists = record { first = places_of a_rows; second = places_of b_rows } in
    let whole_a : take m.taken.first a ≡ a = take_all m.taken.first a (omega (arith, none)) in
    let whole_b : take m.taken.second b ≡ b = take_all m.taken.second b (omega (arith, none)) in
    merged_postings posted_words moved moved_row a_rows b_rows a b m.terms are of_a of_b
    (subst (λ xs. IsPermutation (in_both lists xs b) m.terms) whole_a (subst (λ ys. IsPermutation (in_both lists (take m.taken.first a) ys) m.terms) whole_b h.same))

pub posted_is : (row : RowValue) (d : Description) (i type_id : ℕ) (term : List ℕ) → row.active ≡ true → row.body ≡ body.Description d → type_id ≡ d.type_id → term ≡ d.term → map (keyed i) (term_keys type_id term) ≡ posted_words row i
posted_is row d i type_id term active is type_is term_is =
    (λ j. map (keyed i) (term_keys (type_is j) (term_is j)))
    ∙ sym (ap (λ b. if b then map (keyed i) (keys_of row.body) else []) active ∙ ap (λ b. map (keyed i) (keys_of b)) is)
