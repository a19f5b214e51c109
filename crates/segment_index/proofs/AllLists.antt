-- What is kept of the rows of several segments, with one segment more, and with one in the place of two.
use Rattle.std.proofs.Common.{◌≡◌, ◌<◌, ℕ, suc, List, [], ◌∷◌, ◌++◌, length, map, refl, sym, ap, subst, ◌∙◌, arith, length-append}
use Rattle.std.specs.Prelude.{slice_set, remove}
use Rattle.std.proofs.lemmas.List.{length-map, length-set}
use Rattle.std.proofs.lemmas.List.Edits.{length-remove}
use Rattle.list_lemmas.proofs.Each.{each_of_front}
use Rattle.history_model.specs.declared.stamped.StampedRow.{StampedRow}
use Rattle.history_model.specs.InOrder.{IsAscending}
use Rattle.history_model.specs.History.{stamped_cmp}
use Rattle.history_model.specs.Lists.{AreLists, EachApart}
use Rattle.history_model.specs.Private.{ShareNoKey}
use Rattle.segment.specs.declared.place.RowPlace.{RowPlace}
use Rattle.segment.specs.Standing.{places_of}
use Rattle.as_of_index.specs.Places.{ArePlaces, Lists}
use Rattle.as_of_index.proofs.Storing.{places_of_lists, lists_more, lists_merged}
use Rattle.term_prefix.specs.Terms.{TermAt}
use Rattle.term_prefix.specs.Pushed.{ArePosted}
use Rattle.term_prefix.proofs.Posted.{posted_terms_more, posted_terms_merged}
use Rattle.term_words.specs.Posted as by_words
use Rattle.term_words.proofs.Posting.{posted_words_more, posted_words_merged}
use Rattle.links.specs.Edges.{Edges}
use Rattle.links.specs.Laws.{EachPosted}
use Rattle.links.proofs.Posted.{edges_more, edges_merged}
use Rattle.segment_index.specs.declared.words.Words.{Words}
use Rattle.segment_index.specs.declared.words.Words.TheVariants as words
use Rattle.segment_index.specs.Indexed.{StoreRows, HasWords, HaveWords, IsIndexed, AreIndexed}
use Rattle.segment_index.proofs.Built.{with_words}

-- some lists of rows, whose words are kept or left out
abbrev pub all_with_words : Words → List (List StampedRow) → StoreRows
all_with_words keeps lists = record { lists = lists; words = keeps }

-- ---- the first of some lists

apart_before : (xs ys : List (List StampedRow)) → EachApart (xs ++ ys) → EachApart xs
apart_before [] ys apart = tt
apart_before (x ∷ xs) ys apart = (each_of_front (λ others. ShareNoKey x others) xs ys apart.0, apart_before xs ys apart.1)

pub lists_before : (xs ys : List (List StampedRow)) → AreLists (xs ++ ys) → AreLists xs
lists_before xs ys are = record { ascending = each_of_front (λ rows. IsAscending stamped_cmp rows) xs ys are.ascending; apart = apart_before xs ys are.apart }

-- ---- there are as many lists of each

pub terms_count : (lists : List (List StampedRow)) (terms : List (List TermAt)) → ArePosted lists terms → length terms ≡ length lists
terms_count [] [] are = refl
terms_count [] (ts ∷ terms) are = absurd are
terms_count (rows ∷ lists) [] are = absurd are
terms_count (rows ∷ lists) (ts ∷ terms) are = ap (λ n. suc n) (terms_count lists terms are.1)

pub links_count : (lists : List (List StampedRow)) (links : List Edges) → EachPosted lists links → length links ≡ length lists
links_count [] [] are = refl
links_count [] (e ∷ links) are = absurd are
links_count (rows ∷ lists) [] are = absurd are
links_count (rows ∷ lists) (e ∷ links) are = ap (λ n. suc n) (links_count lists links are.1)

pub places_count : (lists : List (List StampedRow)) (places : List (List RowPlace)) → Lists places lists → length places ≡ length lists
places_count lists places are = ap (λ (l : List (List RowPlace)). length l) are ∙ length-map lists places_of

-- ---- no lists

pub none_kept : (keeps : Words) (lists : List (List StampedRow)) (places : List (List RowPlace)) (terms : List (List TermAt)) (links : List Edges) (posted : List (List TermAt)) → lists ≡ [] → places ≡ [] → terms ≡ [] → links ≡ [] → posted ≡ [] → AreIndexed (all_with_words keeps lists) places terms links posted
none_kept keeps lists places terms links posted none no_places no_terms no_links no_words = record {
  places_are = no_places ∙ sym (ap (map places_of) none);
  terms_are = subst (λ t. ArePosted lists t) (sym no_terms) (subst (λ l. ArePosted l []) (sym none) tt);
  links_are = subst (λ e. EachPosted lists e) (sym no_links) (subst (λ l. EachPosted l []) (sym none) tt);
  words_are = record {
    many = ap (λ (l : List (List TermAt)). length l) no_words ∙ sym (ap (λ (l : List (List StampedRow)). length l) none);
    are = λ is_kept. subst (λ w. by_words.ArePosted lists w) (sym no_words) (subst (λ l. by_words.ArePosted l []) (sym none) tt);
  };
}

-- ---- the same lists

pub all_kept : (keeps : Words) (lists nlists : List (List StampedRow)) (places nplaces : List (List RowPlace)) (terms nterms : List (List TermAt)) (links nlinks : List Edges) (posted nposted : List (List TermAt)) → AreIndexed (all_with_words keeps lists) places terms links posted
    → nlists ≡ lists → nplaces ≡ places → nterms ≡ terms → nlinks ≡ links → nposted ≡ posted → AreIndexed (all_with_words keeps nlists) nplaces nterms nlinks nposted
all_kept keeps lists nlists places nplaces terms nterms links nlinks posted nposted are lists_are places_are terms_are links_are words_are = record {
  places_are = places_are ∙ are.places_are ∙ sym (ap (map places_of) lists_are);
  terms_are = subst (λ l. ArePosted l nterms) (sym lists_are) (subst (λ t. ArePosted lists t) (sym terms_are) are.terms_are);
  links_are = subst (λ l. EachPosted l nlinks) (sym lists_are) (subst (λ e. EachPosted lists e) (sym links_are) are.links_are);
  words_are = subst (λ l. HaveWords keeps l nposted) (sym lists_are) (subst (λ w. HaveWords keeps lists w) (sym words_are) are.words_are);
}

-- ---- one list more

words_more : (keeps : Words) (lists : List (List StampedRow)) (posted : List (List TermAt)) (rows : List StampedRow) (own : List TermAt) → HaveWords keeps lists posted → HasWords keeps rows own → HaveWords keeps (lists ++ rows ∷ []) (posted ++ own ∷ [])
words_more keeps lists posted rows own are is = record {
  many = omega (arith, are.many, length-append posted (own ∷ []), length-append lists (rows ∷ []));
  are = λ is_kept. posted_words_more lists posted rows own (are.are is_kept) (is is_kept);
}

pub places_may_be_added : (lists : List (List StampedRow)) (places : List (List RowPlace)) (rows : List StampedRow) (list : List RowPlace) → Lists places lists → list ≡ places_of rows → AreLists (lists ++ rows ∷ []) → ArePlaces (places ++ list ∷ [])
places_may_be_added lists places rows list are list_is more =
    let listed = ap (λ (p : List RowPlace). places ++ p ∷ []) list_is ∙ lists_more places lists rows are in
    subst ArePlaces (sym listed) (places_of_lists (lists ++ rows ∷ []) more)

pub one_more : (keeps : Words) (lists nlists : List (List StampedRow)) (places nplaces : List (List RowPlace)) (terms nterms : List (List TermAt)) (links nlinks : List Edges) (posted nposted : List (List TermAt)) (rows : List StampedRow) (list : List RowPlace) (ts : List TermAt) (e : Edges) (own : List TermAt) → AreIndexed (all_with_words keeps lists) places terms links posted
    → IsIndexed (with_words keeps rows) list ts e own → nlists ≡ lists ++ rows ∷ [] → nplaces ≡ places ++ list ∷ [] → nterms ≡ terms ++ ts ∷ [] → nlinks ≡ links ++ e ∷ [] → nposted ≡ posted ++ own ∷ [] → AreIndexed (all_with_words keeps nlists) nplaces nterms nlinks nposted
one_more keeps lists nlists places nplaces terms nterms links nlinks posted nposted rows list ts e own are is lists_are places_are terms_are links_are words_are =
    all_kept keeps (lists ++ rows ∷ []) nlists (places ++ list ∷ []) nplaces (terms ++ ts ∷ []) nterms (links ++ e ∷ []) nlinks (posted ++ own ∷ []) nposted
    (record {
      places_are = ap (λ (p : List RowPlace). places ++ p ∷ []) is.places_are ∙ lists_more places lists rows are.places_are;
      terms_are = posted_terms_more lists terms rows ts are.terms_are is.terms_are;
      links_are = edges_more lists links rows e are.links_are is.links_are;
      words_are = words_more keeps lists posted rows own are.words_are is.words_are;
    }) lists_are places_are terms_are links_are words_are

-- ---- one list in the place of two

words_merged : (keeps : Words) (lists : List (List StampedRow)) (posted : List (List TermAt)) (i j : ℕ) (rows : List StampedRow) (own : List TermAt) → j < length lists → HaveWords keeps lists posted → HasWords keeps rows own → HaveWords keeps (remove (slice_set lists i rows) j) (remove (slice_set posted i own) j)
words_merged keeps lists posted i j rows own within are is = record {
  many =
      let p = length-set posted i own in
      let l = length-set lists i rows in
      omega (arith, p, l, are.many, length-remove (slice_set posted i own) j (omega (arith, p, are.many, within)), length-remove (slice_set lists i rows) j (omega (arith, l, within)));
  are = λ is_kept. posted_words_merged lists posted i j rows own (are.are is_kept) (is is_kept);
}

pub places_may_replace : (lists : List (List StampedRow)) (places : List (List RowPlace)) (i j : ℕ) (rows : List StampedRow) (list : List RowPlace) → Lists places lists → list ≡ places_of rows → AreLists (remove (slice_set lists i rows) j) → ArePlaces (remove (slice_set places i list) j)
places_may_replace lists places i j rows list are list_is fewer =
    let listed = ap (λ (p : List RowPlace). remove (slice_set places i p) j) list_is ∙ lists_merged places lists i j rows are in
    subst ArePlaces (sym listed) (places_of_lists (remove (slice_set lists i rows) j) fewer)

pub one_for_two : (keeps : Words) (lists nlists : List (List StampedRow)) (places nplaces : List (List RowPlace)) (terms nterms : List (List TermAt)) (links nlinks : List Edges) (posted nposted : List (List TermAt)) (i j : ℕ) (rows : List StampedRow) (list : List RowPlace) (ts : List TermAt) (e : Edges) (own : List TermAt) → j < length lists
    → AreIndexed (all_with_words keeps lists) places terms links posted → IsIndexed (with_words keeps rows) list ts e own → nlists ≡ remove (slice_set lists i rows) j → nplaces ≡ remove (slice_set places i list) j → nterms ≡ remove (slice_set terms i ts) j → nlinks ≡ remove (slice_set links i e) j → nposted ≡ remove (slice_set posted i own) j → AreIndexed (all_with_words keeps nlists) nplaces nterms nlinks nposted
one_for_two keeps lists nlists places nplaces terms nterms links nlinks posted nposted i j rows list ts e own within are is lists_are places_are terms_are links_are words_are =
    all_kept keeps (remove (slice_set lists i rows) j) nlists (remove (slice_set places i list) j) nplaces (remove (slice_set terms i ts) j) nterms (remove (slice_set links i e) j) nlinks (remove (slice_set posted i own) j) nposted
    (record {
      places_are = ap (λ (p : List RowPlace). remove (slice_set places i p) j) is.places_are ∙ lists_merged places lists i j rows are.places_are;
      terms_are = posted_terms_merged lists terms i j rows ts are.terms_are is.terms_are;
      links_are = edges_merged lists links i j rows e are.links_are is.links_are;
      words_are = words_merged keeps lists posted i j rows own within are.words_are is.words_are;
    }) lists_are places_are terms_are links_are words_are
