-- What is posted of two segments, merged while their store goes on.
use Rattle.std.specs.Prelude.{Some, None, Option, slice_get, slice_index_or, option_map}
use Rattle.std.proofs.Common.{◌≡◌, ℕ, zero, suc, ◌+◌, ◌-◌, ◌^◌, ◌<◌, List, [], ◌∷◌, ◌++◌, length, map, get_or, length-append, sym, ap, subst, ◌∙◌, arith}
use Rattle.std.proofs.lemmas.Option.{slice_get-map, slice_get-get_or, get_or_from_slice_get}
use Rattle.std.proofs.lemmas.List.{get_or_read, get_or_append_left}
use Rattle.history_model.specs.declared.stamped.StampedRow.{StampedRow}
use Rattle.history_model.specs.InOrder.{IsAscending}
use Rattle.history_model.specs.Lists.{AreLists, union}
use Rattle.segment.specs.declared.place.RowPlace.{RowPlace}
use Rattle.segment.specs.Standing.{places_of}
use Rattle.segment.proofs.Posting.{as_many_places}
use Rattle.as_of_index.specs.Numbers.{TwoLists, AreKnown}
use Rattle.as_of_index.specs.Places.{Lists, place_cmp}
use Rattle.term_prefix.specs.Terms.{TermAt}
use Rattle.term_prefix.specs.Pushed.{IsPosted, ArePosted}
use Rattle.term_prefix.specs.Merged.{MergedTerms, IsMergeOfTerms, terms_left}
use Rattle.term_prefix.proofs.Posted.{posted_terms_are_few}
use Rattle.term_prefix.proofs.InTurns.{merged_terms_are_posted}
use Rattle.term_words.specs.Posted as by_words
use Rattle.term_words.proofs.Posting.{merged_words_are_posted}
use Rattle.links.specs.Edges.{Edges, EdgeCount, no_edges}
use Rattle.links.specs.Laws.{ArePostingsOf, EachPosted}
use Rattle.links.specs.MergedEdges.{IsMergeOf, AtMostOfRows, edges_left, less_of_rows}
use Rattle.links.proofs.MergedEdges.{postings_are_few, merged_are_posted}
use Rattle.segment_index.specs.declared.output_postings.OutputPostings.{OutputPostings}
use Rattle.segment_index.specs.declared.postings_merge.PostingsMerge.{PostingsMerge}
use Rattle.segment_index.specs.declared.words.Words.{Words}
use Rattle.segment_index.specs.declared.words.Words.TheVariants as words
use Rattle.segment_index.specs.Indexed.{HaveWords, AreIndexed}
use Rattle.segment_index.specs.Output.{HasPostings}
use Rattle.segment_index.specs.UnderWay.{IsPostingsMerge, IsUnderWay, places_at, terms_at, edges_at}
use Rattle.segment_index.specs.Private.{most_steps}
use Rattle.segment_index.proofs.Built.{ascending_places}
use Rattle.segment_index.proofs.AllLists.{all_with_words}

abbrev pub two : List RowPlace → List RowPlace → TwoLists
two first second = record { first = first; second = second }

-- ---- the item at a place

pub read_at : {X : Type 0} (xs shown : List X) (i : ℕ) (x d : X) → shown ≡ xs → i < length xs → x ≡ get_or shown i x → slice_index_or xs i d ≡ x
read_at {X = X} xs shown i x d same within at = (sym (get_or_read xs i x within (subst (λ (l : List X). x ≡ get_or l i x) same at) d))

-- ---- a segment more

module _ (places : List (List RowPlace)) (terms : List (List TermAt)) (links : List Edges) (posted : List (List TermAt)) (p : List RowPlace) (ts : List TermAt) (e : Edges) (own : List TermAt) (terms_many : length terms ≡ length places) (links_many : length links ≡ length places) (words_many : length posted ≡ length places) where
  two_before : (m : PostingsMerge) → m.i < length places → m.j < length places → places_at (places ++ p ∷ []) m ≡ places_at places m
  two_before m i_in j_in =
      ap (λ (l : List RowPlace). two l (slice_index_or (places ++ p ∷ []) m.j [])) (get_or_append_left places (p ∷ []) [] m.i i_in) ∙ ap (λ (l : List RowPlace). two (slice_index_or places m.i []) l) (get_or_append_left places (p ∷ []) [] m.j j_in)

  still_merge : (m : PostingsMerge) → IsPostingsMerge places terms links posted m → IsPostingsMerge (places ++ p ∷ []) (terms ++ ts ∷ []) (links ++ e ∷ []) (posted ++ own ∷ []) m
  still_merge m is =
      let more = length-append places (p ∷ []) in
      let both = two_before m is.first_within is.second_within in
      let i_terms = get_or_append_left terms (ts ∷ []) [] m.i (omega (arith, is.first_within, terms_many)) in
      let j_terms = get_or_append_left terms (ts ∷ []) [] m.j (omega (arith, is.second_within, terms_many)) in
      let i_words = get_or_append_left posted (own ∷ []) [] m.i (omega (arith, is.first_within, words_many)) in
      let j_words = get_or_append_left posted (own ∷ []) [] m.j (omega (arith, is.second_within, words_many)) in
      let i_links = get_or_append_left links (e ∷ []) no_edges m.i (omega (arith, is.first_within, links_many)) in
      let j_links = get_or_append_left links (e ∷ []) no_edges m.j (omega (arith, is.second_within, links_many)) in
      record {
        first_within = omega (arith, is.first_within, more);
        second_within = omega (arith, is.second_within, more);
        numbers_are = subst (λ (l : TwoLists). AreKnown l m.numbers) (sym both) is.numbers_are;
        terms_are = subst (λ (l : TwoLists). IsMergeOfTerms l (terms_at (terms ++ ts ∷ []) m.i) (terms_at (terms ++ ts ∷ []) m.j) m.terms) (sym both)
            (subst (λ (l : List TermAt). IsMergeOfTerms (places_at places m) l (terms_at (terms ++ ts ∷ []) m.j) m.terms) (sym i_terms) (subst (λ (l : List TermAt). IsMergeOfTerms (places_at places m) (terms_at terms m.i) l m.terms) (sym j_terms) is.terms_are));
        links_are = subst (λ (l : TwoLists). IsMergeOf l (edges_at (links ++ e ∷ []) m.i) (edges_at (links ++ e ∷ []) m.j) m.links) (sym both)
            (subst (λ (l : Edges). IsMergeOf (places_at places m) l (edges_at (links ++ e ∷ []) m.j) m.links) (sym i_links) (subst (λ (l : Edges). IsMergeOf (places_at places m) (edges_at links m.i) l m.links) (sym j_links) is.links_are));
        words_are = subst (λ (l : TwoLists). IsMergeOfTerms l (terms_at (posted ++ own ∷ []) m.i) (terms_at (posted ++ own ∷ []) m.j) m.words) (sym both)
            (subst (λ (l : List TermAt). IsMergeOfTerms (places_at places m) l (terms_at (posted ++ own ∷ []) m.j) m.words) (sym i_words) (subst (λ (l : List TermAt). IsMergeOfTerms (places_at places m) (terms_at posted m.i) l m.words) (sym j_words) is.words_are));
      }

  pub still_under_way : (m : Option PostingsMerge) → IsUnderWay places terms links posted m → IsUnderWay (places ++ p ∷ []) (terms ++ ts ∷ []) (links ++ e ∷ []) (posted ++ own ∷ []) m
  still_under_way None is = tt
  still_under_way (Some m) is = still_merge m is

pub under_way_is : (places nplaces : List (List RowPlace)) (terms nterms : List (List TermAt)) (links nlinks : List Edges) (posted nposted : List (List TermAt)) (m : Option PostingsMerge) → nplaces ≡ places → nterms ≡ terms → nlinks ≡ links → nposted ≡ posted → IsUnderWay places terms links posted m → IsUnderWay nplaces nterms nlinks nposted m
under_way_is places nplaces terms nterms links nlinks posted nposted m p t l w is =
    subst (λ x. IsUnderWay x nterms nlinks nposted m) (sym p) (subst (λ x. IsUnderWay places x nlinks nposted m) (sym t) (subst (λ x. IsUnderWay places terms x nposted m) (sym l) (subst (λ x. IsUnderWay places terms links x m) (sym w) is)))

-- ---- what is posted of the segment with a number

posted_at : (lists : List (List StampedRow)) (terms : List (List TermAt)) (i : ℕ) (rows : List StampedRow) → ArePosted lists terms → slice_get lists i ≡ Some rows → IsPosted rows (terms_at terms i)
posted_at [] terms i rows are at = absurd cc
posted_at (r ∷ lists) [] i rows are at = absurd are
posted_at (r ∷ lists) (ts ∷ terms) zero rows are at = let same : r ≡ rows = cc in subst (λ (l : List StampedRow). IsPosted l ts) same are.0
posted_at (r ∷ lists) (ts ∷ terms) (suc i) rows are at = posted_at lists terms i rows are.1 at

linked_at : (lists : List (List StampedRow)) (links : List Edges) (i : ℕ) (rows : List StampedRow) → EachPosted lists links → slice_get lists i ≡ Some rows → ArePostingsOf rows (edges_at links i)
linked_at [] links i rows are at = absurd cc
linked_at (r ∷ lists) [] i rows are at = absurd are
linked_at (r ∷ lists) (e ∷ links) zero rows are at = let same : r ≡ rows = cc in subst (λ (l : List StampedRow). ArePostingsOf l e) same are.0
linked_at (r ∷ lists) (e ∷ links) (suc i) rows are at = linked_at lists links i rows are.1 at

worded_at : (lists : List (List StampedRow)) (posted : List (List TermAt)) (i : ℕ) (rows : List StampedRow) → by_words.ArePosted lists posted → slice_get lists i ≡ Some rows → by_words.IsPosted rows (terms_at posted i)
worded_at [] posted i rows are at = absurd cc
worded_at (r ∷ lists) [] i rows are at = absurd are
worded_at (r ∷ lists) (ts ∷ posted) zero rows are at = let same : r ≡ rows = cc in subst (λ (l : List StampedRow). by_words.IsPosted l ts) same are.0
worded_at (r ∷ lists) (ts ∷ posted) (suc i) rows are at = worded_at lists posted i rows are.1 at

pub placed_at : (lists : List (List StampedRow)) (places : List (List RowPlace)) (i : ℕ) (rows : List StampedRow) → Lists places lists → slice_get lists i ≡ Some rows → slice_index_or places i [] ≡ places_of rows
placed_at lists places i rows same at = ap (λ (l : List (List RowPlace)). slice_index_or l i []) same ∙ get_or_from_slice_get (map places_of lists) i (places_of rows) [] (slice_get-map places_of lists i ∙ ap (option_map places_of) at)

-- ---- the two segments

pub renumbered : (P : ℕ → ℕ → Type 0) (i j k l : ℕ) → k ≡ i → l ≡ j → P i j → P k l
renumbered P i j k l first second is = subst (λ x. P x l) (sym first) (subst (P i) (sym second) is)

module _ (lists : List (List StampedRow)) (places : List (List RowPlace)) (are : Lists places lists) (i j : ℕ) (i_in : i < length lists) (j_in : j < length lists)
    (both : (a b : List StampedRow) → slice_get lists i ≡ Some a → slice_get lists j ≡ Some b → AreLists (a ∷ b ∷ []) × (length a + length b < 2 ^ 32)) where
  abbrev a_rows : List StampedRow
  a_rows = get_or lists i []

  abbrev b_rows : List StampedRow
  b_rows = get_or lists j []

  a_at : slice_get lists i ≡ Some a_rows
  a_at = slice_get-get_or lists i [] i_in

  b_at : slice_get lists j ≡ Some b_rows
  b_at = slice_get-get_or lists j [] j_in

  pub first_ascends : IsAscending place_cmp (slice_index_or places i [])
  first_ascends = subst (λ (l : List RowPlace). IsAscending place_cmp l) (sym (placed_at lists places i a_rows are a_at)) (ascending_places a_rows (both a_rows b_rows a_at b_at).0.ascending.0)

  pub second_ascends : IsAscending place_cmp (slice_index_or places j [])
  second_ascends = subst (λ (l : List RowPlace). IsAscending place_cmp l) (sym (placed_at lists places j b_rows are b_at)) (ascending_places b_rows (both a_rows b_rows a_at b_at).0.ascending.1.0)

  pub both_few : length (slice_index_or places i []) + length (slice_index_or places j []) < 2 ^ 32
  both_few =
      let first = ap length (placed_at lists places i a_rows are a_at) ∙ as_many_places 0 a_rows in
      let second = ap length (placed_at lists places j b_rows are b_at) ∙ as_many_places 0 b_rows in
      omega (arith, first, second, (both a_rows b_rows a_at b_at).1)

-- ---- a merge that went on

-- of terms or words, of lists that are the same
merged_on : (lists numbers : TwoLists) (a b at bt : List TermAt) (old m : MergedTerms) → lists ≡ numbers → a ≡ at → b ≡ bt → (IsMergeOfTerms numbers at bt old → IsMergeOfTerms numbers at bt m) → IsMergeOfTerms lists a b old → IsMergeOfTerms lists a b m
merged_on lists numbers a b at bt old m both first second merged is =
    let before : IsMergeOfTerms numbers at bt old = subst (λ (l : TwoLists). IsMergeOfTerms l at bt old) both (subst (λ (l : List TermAt). IsMergeOfTerms lists l bt old) first (subst (λ (l : List TermAt). IsMergeOfTerms lists a l old) second is)) in
    subst (λ (l : TwoLists). IsMergeOfTerms l a b m) (sym both) (subst (λ (l : List TermAt). IsMergeOfTerms numbers l b m) (sym first) (subst (λ (l : List TermAt). IsMergeOfTerms numbers at l m) (sym second) (merged before)))

pub went_on : (places : List (List RowPlace)) (terms : List (List TermAt)) (links : List Edges) (posted : List (List TermAt)) (old m : PostingsMerge) (numbers : TwoLists) (a_places b_places : List RowPlace) (a_terms b_terms : List TermAt) (a_links b_links : Edges) (a_words b_words : List TermAt) → m.i ≡ old.i → m.j ≡ old.j → IsPostingsMerge places terms links posted old
    → slice_index_or places old.i [] ≡ a_places → slice_index_or places old.j [] ≡ b_places → numbers ≡ two a_places b_places → terms_at terms old.i ≡ a_terms → terms_at terms old.j ≡ b_terms → edges_at links old.i ≡ a_links → edges_at links old.j ≡ b_links → terms_at posted old.i ≡ a_words → terms_at posted old.j ≡ b_words
    → AreKnown numbers m.numbers → (IsMergeOfTerms numbers a_terms b_terms old.terms → IsMergeOfTerms numbers a_terms b_terms m.terms) → IsMergeOf numbers a_links b_links m.links → (IsMergeOfTerms numbers a_words b_words old.words → IsMergeOfTerms numbers a_words b_words m.words) → IsPostingsMerge places terms links posted m
went_on places terms links posted old m numbers ap_ bp at bt al bl aw bw i j is pa pb two_is ta tb la lb wa wb known merged linked worded =
    let both : places_at places old ≡ numbers = ap (λ (l : List RowPlace). two l (slice_index_or places old.j [])) pa ∙ ap (two ap_) pb ∙ sym two_is in
    let terms_are = merged_on (places_at places old) numbers (terms_at terms old.i) (terms_at terms old.j) at bt old.terms m.terms both ta tb merged is.terms_are in
    let words_are = merged_on (places_at places old) numbers (terms_at posted old.i) (terms_at posted old.j) aw bw old.words m.words both wa wb worded is.words_are in
    let links_are : IsMergeOf (places_at places old) (edges_at links old.i) (edges_at links old.j) m.links =
    subst (λ (l : TwoLists). IsMergeOf l (edges_at links old.i) (edges_at links old.j) m.links) (sym both) (subst (λ (l : Edges). IsMergeOf numbers l (edges_at links old.j) m.links) (sym la) (subst (λ (l : Edges). IsMergeOf numbers al l m.links) (sym lb) linked)) in
    record {
      first_within = omega (arith, is.first_within, i);
      second_within = omega (arith, is.second_within, j);
      numbers_are = renumbered (λ k l. AreKnown (two (slice_index_or places k []) (slice_index_or places l [])) m.numbers) old.i old.j m.i m.j i j (subst (λ (l : TwoLists). AreKnown l m.numbers) (sym both) known);
      terms_are = renumbered (λ k l. IsMergeOfTerms (two (slice_index_or places k []) (slice_index_or places l [])) (terms_at terms k) (terms_at terms l) m.terms) old.i old.j m.i m.j i j terms_are;
      links_are = renumbered (λ k l. IsMergeOf (two (slice_index_or places k []) (slice_index_or places l [])) (edges_at links k) (edges_at links l) m.links) old.i old.j m.i m.j i j links_are;
      words_are = renumbered (λ k l. IsMergeOfTerms (two (slice_index_or places k []) (slice_index_or places l [])) (terms_at posted k) (terms_at posted l) m.words) old.i old.j m.i m.j i j words_are;
    }

-- the other postings of two segments, of which the places and the postings are these
pub merged_before : (places : List (List RowPlace)) (terms : List (List TermAt)) (links : List Edges) (posted : List (List TermAt)) (m : PostingsMerge) (numbers : TwoLists) (a_places b_places : List RowPlace) (a_links b_links : Edges) → IsPostingsMerge places terms links posted m
    → slice_index_or places m.i [] ≡ a_places → slice_index_or places m.j [] ≡ b_places → numbers ≡ two a_places b_places → edges_at links m.i ≡ a_links → edges_at links m.j ≡ b_links → IsMergeOf numbers a_links b_links m.links
merged_before places terms links posted m numbers ap_ bp al bl is pa pb two_is la lb =
    let both : places_at places m ≡ numbers = ap (λ (l : List RowPlace). two l (slice_index_or places m.j [])) pa ∙ ap (two ap_) pb ∙ sym two_is in
    subst (λ (l : TwoLists). IsMergeOf l al bl m.links) both (subst (λ (l : Edges). IsMergeOf (places_at places m) l bl m.links) la (subst (λ (l : Edges). IsMergeOf (places_at places m) (edges_at links m.i) l m.links) lb is.links_are))

-- ---- the end of a merge

module _ (keeps : Words) (lists : List (List StampedRow)) (places : List (List RowPlace)) (terms : List (List TermAt)) (links : List Edges) (posted : List (List TermAt)) (are : AreIndexed (all_with_words keeps lists) places terms links posted) (old m : PostingsMerge) (a b : List StampedRow)
    (a_is : slice_get lists m.i ≡ Some a) (b_is : slice_get lists m.j ≡ Some b) (both : AreLists (a ∷ b ∷ [])) (few : length a + length b < 2 ^ 32) (merged : IsPostingsMerge places terms links posted m) where
  two_are : places_at places m ≡ record { first = places_of a; second = places_of b }
  two_are =
      ap (λ (l : List RowPlace). two l (slice_index_or places m.j [])) (placed_at lists places m.i a are.places_are a_is) ∙ ap (λ (l : List RowPlace). two (places_of a) l) (placed_at lists places m.j b are.places_are b_is)

  terms_end : terms_left (terms_at terms m.i) (terms_at terms m.j) m.terms ≡ terms_left (terms_at terms m.i) (terms_at terms m.j) old.terms - most_steps → IsPosted (union a b) m.terms.terms
  terms_end left =
      let first = posted_at lists terms m.i a are.terms_are a_is in
      let second = posted_at lists terms m.j b are.terms_are b_is in
      let none : terms_left (terms_at terms m.i) (terms_at terms m.j) m.terms ≡ 0 = omega (arith, left, posted_terms_are_few a (terms_at terms m.i) first, posted_terms_are_few b (terms_at terms m.j) second, few) in
      merged_terms_are_posted a b (terms_at terms m.i) (terms_at terms m.j) m.terms both first second (subst (λ (l : TwoLists). IsMergeOfTerms l (terms_at terms m.i) (terms_at terms m.j) m.terms) two_are merged.terms_are) none

  links_end : edges_left (edges_at links m.i) (edges_at links m.j) m.links ≡ less_of_rows most_steps (edges_left (edges_at links m.i) (edges_at links m.j) old.links) → ArePostingsOf (union a b) m.links.edges
  links_end left =
      let first = linked_at lists links m.i a are.links_are a_is in
      let second = linked_at lists links m.j b are.links_are b_is in
      let x = postings_are_few a (edges_at links m.i) first in
      let y = postings_are_few b (edges_at links m.j) second in
      let none : AtMostOfRows 0 (edges_left (edges_at links m.i) (edges_at links m.j) m.links) = record {
        subjects = omega (arith, ap (λ (n : EdgeCount). n.subjects) left, x.subjects, y.subjects, few);
        postings = omega (arith, ap (λ (n : EdgeCount). n.postings) left, x.postings, y.postings, few);
      } in
      merged_are_posted a b (edges_at links m.i) (edges_at links m.j) m.links both first second (subst (λ (l : TwoLists). IsMergeOf l (edges_at links m.i) (edges_at links m.j) m.links) two_are merged.links_are) none

  words_end : keeps ≡ words.Kept → terms_left (terms_at posted m.i) (terms_at posted m.j) m.words ≡ 0 → by_words.IsPosted (union a b) m.words.terms
  words_end is_kept none =
      let first = worded_at lists posted m.i a (are.words_are.are is_kept) a_is in
      let second = worded_at lists posted m.j b (are.words_are.are is_kept) b_is in
      merged_words_are_posted a b (terms_at posted m.i) (terms_at posted m.j) m.words both first second (subst (λ (l : TwoLists). IsMergeOfTerms l (terms_at posted m.i) (terms_at posted m.j) m.words) two_are merged.words_are) none

  pub all_posted : (p : OutputPostings) → terms_left (terms_at terms m.i) (terms_at terms m.j) m.terms ≡ terms_left (terms_at terms m.i) (terms_at terms m.j) old.terms - most_steps
      → edges_left (edges_at links m.i) (edges_at links m.j) m.links ≡ less_of_rows most_steps (edges_left (edges_at links m.i) (edges_at links m.j) old.links) → terms_left (terms_at posted m.i) (terms_at posted m.j) m.words ≡ 0 → p.terms ≡ m.terms.terms → p.links ≡ m.links.edges → p.words ≡ m.words.terms → HasPostings keeps (union a b) p
  all_posted p t l w terms_are links_are words_are = record { terms_are = subst (IsPosted (union a b)) (sym terms_are) (terms_end t); links_are = subst (ArePostingsOf (union a b)) (sym links_are) (links_end l); words_are = λ is_kept. subst (by_words.IsPosted (union a b)) (sym words_are) (words_end is_kept w) }
