-- The rows of two lists of which some are taken.
use Rattle.std.specs.Prelude.{min, Some, None, Option, IsSome, IfSome, slice_get, option_map}
use Rattle.std.specs.List.{AllZip, sum_by}
use Rattle.std.proofs.Common.{◌≡◌, ℕ, ◌+◌, ◌-◌, ◌^◌, ◌<◌, ◌≤◌, List, [], ◌∷◌, ◌++◌, length, take, drop, get_or, refl, sym, ap, subst, ◌∙◌, arith, length-append}
use Rattle.std.proofs.lemmas.List.{take_all, take_min, length-take, drop-drop, take-take, nil_from_length, drop_min}
use Rattle.std.proofs.lemmas.List.Sums.{sum_by-cons}
use Rattle.std.proofs.lemmas.Option.{slice_get-map, slice_get_read}
use Rattle.list_lemmas.proofs.Parts.{zip_lengths, take_sum}
use Rattle.history_model.specs.declared.stamped.StampedRow.{StampedRow}
use Rattle.history_model.specs.Lists.{AreLists, union}
use Rattle.history_model.proofs.Unions.{sum_by-union, length-union}
use Rattle.segment.specs.declared.place.RowPlace.{RowPlace}
use Rattle.segment.specs.Records.{record_of, segment_of}
use Rattle.segment.specs.Standing.{record_len, places_of}
use Rattle.checksum.specs.declared.form.Form.TheVariants as forms
use Rattle.segment.proofs.SegmentLaws.{segment_length_both}
use Rattle.segment.proofs.Posting.{as_many_places, rows_at_most_bytes}
use Rattle.merge.specs.declared.MergeProgress.{MergeProgress}
use Rattle.merge.specs.declared.Taken.{Taken}
use Rattle.merge.specs.Merged.{IsOf, IsNew, count_left, rows_left, StandsTaken}
use Rattle.as_of_index.specs.Places.{Lists}
use Rattle.segment_index.specs.declared.output_postings.OutputPostings.{OutputPostings}
use Rattle.segment_index.specs.declared.index_merge.MergeMark.{MergeMark}
use Rattle.segment_index.specs.Output.{OutputRows, IsMarkOf, IsOutput, HasPostings, left_count}
use Rattle.segment_index.specs.Private.{moved_from}
use Rattle.segment_index.specs.Indexed.{IsIndexed}
use Rattle.segment_index.specs.declared.words.Words.{Words}
use Rattle.segment_index.proofs.Built.{with_words, first_places, segment_within}
use Rattle.segment_index.proofs.Moving.{places_append, places_from, moved_places, moved_bytes, moved_length}

-- ---- the union of two lists

both_long : (a b : List StampedRow) → AreLists (a ∷ b ∷ []) → length (union a b) ≡ length a + length b
both_long a b are = length-union a b are.ascending.0 are.ascending.1.0 are.apart.0.0

segment_bytes : (rows : List StampedRow) → length (segment_of rows) ≡ sum_by record_len rows
unfolding segment_of
segment_bytes [] = refl
segment_bytes (r ∷ rows) = omega (arith, segment_bytes rows, length-append (record_of r) (segment_of rows), sum_by-cons record_len r rows)

pub both_bytes : (a b : List StampedRow) → AreLists (a ∷ b ∷ []) → length (segment_of (union a b)) ≡ length (segment_of a) + length (segment_of b)
both_bytes a b are =
    omega (arith, sum_by-union record_len a b are.ascending.0 are.ascending.1.0 are.apart.0.0, segment_bytes a, segment_bytes b, segment_bytes (union a b))

-- ---- taking a few more

-- ---- the places of two lists of an index

index_at : (index : List (List RowPlace)) (lists : List (List StampedRow)) (i : ℕ) (rows : List StampedRow) → Lists index lists → slice_get lists i ≡ Some rows → slice_get index i ≡ Some (places_of rows)
index_at index lists i rows same is = ap (λ (l : List (List RowPlace)). slice_get l i) same ∙ slice_get-map places_of lists i ∙ ap (option_map places_of) is

pub list_is : (index : List (List RowPlace)) (lists : List (List StampedRow)) (i : ℕ) (rows : List StampedRow) (list : List RowPlace) → Lists index lists → slice_get lists i ≡ Some rows → slice_get index i ≡ Some list → list ≡ places_of rows
list_is index lists i rows list same is found = let e : Some list ≡ Some (places_of rows) = sym found ∙ index_at index lists i rows same is in cc

pub of_lists : (m : MergeProgress) (a b : List StampedRow) (p q : List RowPlace) → p ≡ places_of a → q ≡ places_of b → IsOf m a b → IsOf m p q
of_lists m a b p q is_a is_b of = (ap length is_a ∙ as_many_places 0 a ∙ of.0, ap length is_b ∙ as_many_places 0 b ∙ of.1)

pub of_rows : (m : MergeProgress) (a b : List StampedRow) (p q : List RowPlace) → p ≡ places_of a → q ≡ places_of b → IsOf m p q → IsOf m a b
of_rows m a b p q is_a is_b of = (sym (ap length is_a ∙ as_many_places 0 a) ∙ of.0, sym (ap length is_b ∙ as_many_places 0 b) ∙ of.1)

-- ---- nothing is taken

no_bytes : length (segment_of []) ≡ 0
unfolding segment_of
no_bytes = refl

union_none : (a b : List StampedRow) → length a + length b ≡ 0 → [] ≡ union a b
unfolding union
union_none a b none =
    sym (ap (λ (l : List StampedRow). union l b) (nil_from_length a (omega (arith, none))) ∙ ap (λ (l : List StampedRow). union [] l) (nil_from_length b (omega (arith, none))))

-- what is posted, if all is: where no row is left all is posted
abbrev pub AreComplete : Words → List StampedRow → List StampedRow → MergeProgress → Option OutputPostings → Type 0
AreComplete keeps a b progress postings = IfSome postings (HasPostings keeps (union a b)) × (count_left progress ≡ 0 → IsSome postings)

pub none_complete : (keeps : Words) (a b : List StampedRow) (progress : MergeProgress) (p : OutputPostings) → IsNew progress (length a) (length b) → count_left progress ≡ 0 → HasPostings keeps [] p → AreComplete keeps a b progress (Some p)
none_complete keeps a b progress p new none is =
    (subst (λ (l : List StampedRow). HasPostings keeps l p) (union_none a b (omega (arith, none, new.a_len_is, new.b_len_is, new.a_place_is, new.b_place_is))) is, λ done. refl)

pub some_left : (keeps : Words) (a b : List StampedRow) (progress : MergeProgress) → (count_left progress ≡ 0 → ⊥) → AreComplete keeps a b progress None
some_left keeps a b progress some = (tt, λ done. absurd (some done))

pub new_output : (keeps : Words) (a b : List StampedRow) (mark : MergeMark) (places : List RowPlace) (postings : Option OutputPostings) → AreLists (a ∷ b ∷ []) → length (segment_of a) + length (segment_of b) < 2 ^ 32 → IsNew mark.progress (length a) (length b) → mark.rows ≡ 0 → mark.bytes ≡ 0 → places ≡ []
    → AreComplete keeps a b mark.progress postings → IsOutput a b keeps mark places postings
new_output keeps a b mark places postings are short new rows bytes none complete = record {
  lists = are;
  short = short;
  mark_is = record {
    lengths = (sym new.a_len_is, sym new.b_len_is);
    places_are = omega (arith, new.a_place_is, new.b_place_is, rows);
    left_are = ap (λ (k : ℕ). union (drop k a) (drop mark.progress.b_place b)) new.a_place_is ∙ ap (λ (k : ℕ). union a (drop k b)) new.b_place_is ∙ sym (ap (λ (k : ℕ). drop k (union a b)) rows);
    rows_are = refl;
    bytes_are = bytes ∙ sym (ap (λ (k : ℕ). length (segment_of (take k (union a b)))) rows ∙ no_bytes);
  };
  places_are = none ∙ sym (ap (λ (k : ℕ). places_of (take k (union a b))) rows);
  posted = complete.0;
  complete = complete.1;
}

-- ---- a step

-- how many rows are left is what is left of the places
pub left_agrees : (m : OutputRows) (mark : MergeMark) → mark.progress.a_place ≤ mark.progress.a_len → mark.progress.b_place ≤ mark.progress.b_len → IsMarkOf m mark → count_left mark.progress ≡ left_count m
left_agrees m mark a_within b_within is = omega (arith, a_within, b_within, is.lengths.0, is.lengths.1, is.places_are)

bytes_then : (keeps : Words) (a b : List StampedRow) (old : MergeMark) (taken : List Taken) (n : ℕ) {places : List RowPlace} {was : Option OutputPostings} → IsOutput a b keeps old places was → AllZip (StandsTaken a b) taken (take n (drop old.rows (union a b)))
    → old.bytes + sum_by (λ (t : Taken). t.place.bytes) taken ≡ length (segment_of (take old.rows (union a b) ++ take n (drop old.rows (union a b))))
bytes_then keeps a b old taken n is standing =
    omega (arith, is.mark_is.bytes_are, moved_bytes a b taken (take n (drop old.rows (union a b))) standing, segment_length_both (take old.rows (union a b)) (take n (drop old.rows (union a b))))

-- the bytes of the rows taken and of those to come are at most those of both lists
pub step_fits : (keeps : Words) (a b : List StampedRow) (old : MergeMark) (taken : List Taken) (n : ℕ) (places : List RowPlace) (was : Option OutputPostings) → IsOutput a b keeps old places was → AllZip (StandsTaken a b) taken (take n (rows_left old.progress a b))
    → old.bytes + sum_by (λ (t : Taken). t.place.bytes) taken < 2 ^ 32
step_fits keeps a b old taken n places was is stand =
    let u = union a b in
    let standing = subst (λ (l : List StampedRow). AllZip (StandsTaken a b) taken (take n l)) is.mark_is.left_are stand in
    let one = bytes_then keeps a b old taken n is standing in
    let same = ap (λ (l : List StampedRow). length (segment_of l)) (sym (take_sum old.rows n u)) in
    omega (arith, one, same, segment_within (old.rows + n) u, both_bytes a b is.lists, is.short)

-- up to n rows more are taken
pub step_output : (keeps : Words) (a b : List StampedRow) (old next : MergeMark) (places more : List RowPlace) (taken : List Taken) (n : ℕ) (was postings : Option OutputPostings) → IsOutput a b keeps old places was
    → old.progress.a_place ≤ old.progress.a_len → old.progress.b_place ≤ old.progress.b_len → next.progress.a_place ≤ next.progress.a_len → next.progress.b_place ≤ next.progress.b_len
    → IsOf next.progress a b → length taken ≡ min n (count_left old.progress) → count_left next.progress ≡ count_left old.progress - n
    → AllZip (StandsTaken a b) taken (take n (rows_left old.progress a b)) → rows_left next.progress a b ≡ drop n (rows_left old.progress a b)
    → more ≡ places ++ moved_from old.bytes taken → next.rows ≡ length more → next.bytes ≡ old.bytes + sum_by (λ (t : Taken). t.place.bytes) taken
    → AreComplete keeps a b next.progress postings → IsOutput a b keeps next more postings
step_output keeps a b old next places more taken n was postings is a1 b1 a2 b2 of count left stand others more_is rows_is bytes_is complete =
    let u = union a b in
    let k = old.rows in
    let mark = is.mark_is in
    let before = left_agrees (record { a = a; b = b; taken = k; words = keeps }) old a1 b1 mark in
    let whole = both_long a b is.lists in
    let standing = subst (λ (l : List StampedRow). AllZip (StandsTaken a b) taken (take n l)) mark.left_are stand in
    let added = ap length more_is ∙ length-append places (moved_from old.bytes taken) in
    let had = ap length is.places_are ∙ as_many_places 0 (take k u) ∙ length-take k u in
    let moved = moved_places a b old.bytes taken (take n (drop k u)) standing in
    let moved_count = ap length moved ∙ as_many_places old.bytes (take n (drop k u)) ∙ sym (zip_lengths (StandsTaken a b) taken (take n (drop k u)) standing) in
    let rows : next.rows ≡ k + length taken = omega (arith, added, had, moved_count, rows_is, whole, mark.lengths.0, mark.lengths.1, mark.places_are, a1, b1) in
    let rows_n : next.rows ≡ min (k + n) (length u) = omega (arith, rows, count, before, whole) in
    let taken_are : take next.rows u ≡ take k u ++ take n (drop k u) = ap (λ (i : ℕ). take i u) rows_n ∙ take_min (k + n) u ∙ take_sum k n u in
    let at_end : old.bytes ≡ 0 + length (segment_of (take k u)) = omega (arith, mark.bytes_are) in
    let places_are : more ≡ places_of (take next.rows u) =
    more_is ∙ ap (λ (l : List RowPlace). l ++ moved_from old.bytes taken) is.places_are ∙ ap (λ (l : List RowPlace). places_of (take k u) ++ l) moved
    ∙ ap (λ (at : ℕ). places_of (take k u) ++ places_from at (take n (drop k u))) at_end
    ∙ sym (ap places_of taken_are ∙ places_append 0 (take k u) (take n (drop k u))) in
    let left_is : rows_left next.progress a b ≡ drop next.rows u =
    others ∙ ap (drop n) mark.left_are ∙ sym ((sym (drop-drop n k u))) ∙ sym (ap (λ (i : ℕ). drop i u) rows_n ∙ drop_min (k + n) u) in
    record {
      lists = is.lists;
      short = is.short;
      mark_is = record {
        lengths = of;
        places_are = omega (arith, of.0, of.1, mark.lengths.0, mark.lengths.1, mark.places_are, rows, count, left, a1, b1, a2, b2);
        left_are = left_is;
        rows_are = refl;
        bytes_are = bytes_is ∙ bytes_then keeps a b old taken n is standing ∙ sym (ap (λ (l : List StampedRow). length (segment_of l)) taken_are);
      };
      places_are = places_are;
      posted = complete.0;
      complete = complete.1;
    }

-- rows are given back
pub cut_output : (keeps : Words) (a b : List StampedRow) (old mark : MergeMark) (places less : List RowPlace) (postings : Option OutputPostings) → IsOutput a b keeps old places postings → old.progress.a_place ≤ old.progress.a_len → old.progress.b_place ≤ old.progress.b_len → mark.progress.a_place ≤ mark.progress.a_len
    → mark.progress.b_place ≤ mark.progress.b_len → mark.rows ≤ old.rows → IsMarkOf (record { a = a; b = b; taken = mark.rows; words = keeps }) mark → less ≡ take mark.rows places → IsOutput a b keeps mark less postings
cut_output keeps a b old mark places less postings is a1 b1 a2 b2 fewer at less_is =
    let u = union a b in
    record {
      lists = is.lists;
      short = is.short;
      mark_is = at;
      places_are = less_is ∙ ap (take mark.rows) is.places_are ∙ first_places mark.rows 0 (take old.rows u) ∙ ap places_of (take-take mark.rows old.rows u fewer);
      posted = is.posted;
      complete = λ done. is.complete (omega (arith, done, fewer, at.lengths.0, at.lengths.1, is.mark_is.lengths.0, is.mark_is.lengths.1, at.places_are, is.mark_is.places_are, a1, b1, a2, b2));
    }

-- all rows are taken
pub all_taken : (keeps : Words) (a b : List StampedRow) (mark : MergeMark) (places : List RowPlace) (postings : Option OutputPostings) → IsOutput a b keeps mark places postings → length a + length b - mark.rows ≡ 0 → places ≡ places_of (union a b)
all_taken keeps a b mark places postings is none =
    is.places_are ∙ ap places_of (take_all mark.rows (union a b) (omega (arith, none, both_long a b is.lists)))

-- ---- what is posted of the output

pub posted_index : (keeps : Words) (rows : List StampedRow) (places : List RowPlace) (p : OutputPostings) → places ≡ places_of rows → HasPostings keeps rows p → IsIndexed (with_words keeps rows) places p.terms p.links p.words
posted_index keeps rows places p places_are posted = record { places_are = places_are; terms_are = posted.terms_are; links_are = posted.links_are; words_are = posted.words_are }

pub if_some : (keeps : Words) (rows : List StampedRow) (postings : Option OutputPostings) (p : OutputPostings) → postings ≡ Some p → IfSome postings (HasPostings keeps rows) → HasPostings keeps rows p
if_some keeps rows (Some q) p same posted = let is : q ≡ p = cc in subst (HasPostings keeps rows) is posted
if_some keeps rows None p same posted = absurd cc

pub list_at : (lists rows : List (List StampedRow)) (i : ℕ) (found list : List StampedRow) → rows ≡ lists → i < length lists → found ≡ get_or rows i found → list ≡ found → slice_get lists i ≡ Some list
list_at lists rows i found list same within at is =
    let here : slice_get rows i ≡ Some found = slice_get_read rows (length rows) i found refl (omega (arith, within, ap length same)) at in
    ap (λ (l : List (List StampedRow)). slice_get l i) (sym same) ∙ here ∙ sym (ap Some is)

-- more is posted than before or as much, of an index that keeps words or not as the output does
pub goes_on : (keeps listed : Words) (a b : List StampedRow) (was postings : Option OutputPostings) → keeps ≡ listed → (IfSome was (HasPostings listed (union a b)) → IfSome postings (HasPostings listed (union a b))) → IfSome was (HasPostings keeps (union a b)) → IfSome postings (HasPostings keeps (union a b))
goes_on keeps listed a b was postings same goes had = subst (λ (k : Words). IfSome postings (HasPostings k (union a b))) (sym same) (goes (subst (λ (k : Words). IfSome was (HasPostings k (union a b))) same had))

-- an answer of a step
pub posted_on : (keeps : Words) (a b : List StampedRow) (progress : MergeProgress) (was postings : Option OutputPostings) → AreLists (a ∷ b ∷ []) → IfSome was (HasPostings keeps (union a b)) → (IfSome was (HasPostings keeps (union a b)) → IfSome postings (HasPostings keeps (union a b)))
    → (count_left progress ≡ 0 → IsSome postings) → AreComplete keeps a b progress postings
posted_on keeps a b progress was postings are had goes all = (goes had, all)

-- where the merge was cut short what is posted of the output is as before, or is all
pub same_output : (keeps : Words) (a b : List StampedRow) (mark : MergeMark) (places same : List RowPlace) (was postings : Option OutputPostings) → IsOutput a b keeps mark places was → same ≡ places → IfSome postings (HasPostings keeps (union a b)) → (IsSome was → IsSome postings) → IsOutput a b keeps mark same postings
same_output keeps a b mark places same was postings is places_same posted still = record {
  lists = is.lists;
  short = is.short;
  mark_is = is.mark_is;
  places_are = places_same ∙ is.places_are;
  posted = posted;
  complete = λ none. still (is.complete none);
}

-- the value after a step
pub more_taken : (keeps : Words) (a b : List StampedRow) (old next : MergeMark) (places more : List RowPlace) (taken : List Taken) (n : ℕ) (was postings : Option OutputPostings) → IsOutput a b keeps old places was → old.progress.a_place ≤ old.progress.a_len → old.progress.b_place ≤ old.progress.b_len
    → length taken ≡ min n (count_left old.progress) → more ≡ places ++ moved_from old.bytes taken → next.rows ≡ length more → next.rows ≡ old.rows + min n (length a + length b - old.rows)
more_taken keeps a b old next places more taken n was postings is a1 b1 count more_is rows_is =
    let before = left_agrees (record { a = a; b = b; taken = old.rows; words = keeps }) old a1 b1 is.mark_is in
    let had = ap length is.places_are ∙ as_many_places 0 (take old.rows (union a b)) ∙ length-take old.rows (union a b) in
    omega (arith, rows_is, ap length more_is ∙ length-append places (moved_from old.bytes taken), moved_length old.bytes taken, had, count, before, both_long a b is.lists, is.mark_is.lengths.0, is.mark_is.lengths.1, is.mark_is.places_are, a1, b1)

-- there are few rows where their records have few bytes
pub few_rows : (a b : List StampedRow) → length (segment_of a) + length (segment_of b) < 2 ^ 32 → length a + length b < 2 ^ 32
few_rows a b short = omega (arith, short, rows_at_most_bytes a, rows_at_most_bytes b)

pub found_same : (lists : List (List StampedRow)) (i : ℕ) (a b : List StampedRow) → slice_get lists i ≡ Some a → slice_get lists i ≡ Some b → a ≡ b
found_same lists i a b is other = let same : Some a ≡ Some b = sym is ∙ other in cc
