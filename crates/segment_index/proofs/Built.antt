-- What is kept of rows, with one row more.
use Rattle.std.proofs.Common.{◌≡◌, ℕ, zero, suc, ◌+◌, ◌≤◌, List, [], ◌∷◌, ◌++◌, length, take, map, refl, sym, ap, ◌∙◌, arith, length-append}
use Rattle.std.proofs.lemmas.List.{map-append}
use Rattle.std.proofs.Math.Seq.{take-append_seam}
use Rattle.history_model.specs.declared.stamped.StampedRow.{StampedRow}
use Rattle.history_model.specs.InOrder.{IsAscending}
use Rattle.history_model.specs.History.{stamped_cmp}
use Rattle.segment.specs.declared.place.RowPlace.{RowPlace}
use Rattle.segment.specs.Records.{record_of, segment_of}
use Rattle.segment.specs.Standing.{record_len, row_place, with_places, places_of}
use Rattle.segment.proofs.SegmentLaws.{push_plain, no_rows_plain}
use Rattle.segment.proofs.Posting.{as_many_places, place_bytes, with_places_push}
use Rattle.as_of_index.specs.Places.{place_cmp}
use Rattle.as_of_index.specs.Postings.{posted_all}
use Rattle.as_of_index.proofs.Pushing.{posted_push}
use Rattle.as_of_index.proofs.Storing.{places_of_lists}
use Rattle.term_prefix.specs.Terms.{TermAt}
use Rattle.term_prefix.specs.Pushed.{posted_term}
use Rattle.term_words.specs.Posted.{posted_words}
use Rattle.links.specs.Edges.{Edges, no_edges, edges_of, joined_edges, posted_edges}
use Rattle.links.proofs.Posted.{pushed_one_by_one}
use Rattle.segment_index.specs.declared.words.Words.{Words}
use Rattle.segment_index.specs.declared.words.Words.TheVariants as words
use Rattle.segment_index.specs.Indexed.{SegmentRows, terms_of, words_of, links_of, IsBuilt}

-- some rows, whose words are kept or left out
abbrev pub with_words : Words → List StampedRow → SegmentRows
with_words keeps rows = record { rows = rows; words = keeps }

-- ---- no rows

pub none_built : (keeps : Words) (rows : List StampedRow) (places : List RowPlace) (terms : List TermAt) (links : Edges) (posted : List TermAt) → rows ≡ [] → places ≡ [] → terms ≡ [] → links ≡ no_edges → posted ≡ [] → IsBuilt (with_words keeps rows) places terms links posted 0
none_built keeps rows places terms links posted none no_places no_terms no_links no_words = record {
  places_are = no_places ∙ sym (ap places_of none);
  terms_are = no_terms ∙ sym (ap terms_of none);
  links_are = no_links ∙ sym (ap links_of none);
  words_are = λ is_kept. no_words ∙ sym (ap words_of none);
  bytes_are = sym (ap (λ (l : List StampedRow). length (segment_of l)) none ∙ ap length no_rows_plain);
}

-- ---- one row more

placed_push : (rows : List StampedRow) (s : StampedRow) (at : ℕ) (place : RowPlace) → at ≡ length (segment_of rows) → place ≡ row_place s at → with_places 0 (rows ++ s ∷ []) ≡ with_places 0 rows ++ (s, place) ∷ []
placed_push rows s at place here is =
    let same : 0 + length (segment_of rows) ≡ at = omega (arith, here) in
    with_places_push 0 rows s ∙ ap (λ n. with_places 0 rows ++ (s, row_place s n) ∷ []) same ∙ sym (ap (λ (p : RowPlace). with_places 0 rows ++ (s, p) ∷ []) is)

pub built_push : (keeps : Words) (rows next : List StampedRow) (places more : List RowPlace) (terms terms' : List TermAt) (links links' : Edges) (posted posted' : List TermAt) (bytes bytes' number : ℕ) (row : StampedRow) (place : RowPlace) → IsBuilt (with_words keeps rows) places terms links posted bytes → place ≡ row_place row bytes → number ≡ length rows
    → next ≡ rows ++ row ∷ [] → more ≡ places ++ place ∷ [] → terms' ≡ terms ++ posted_term row.row number → links' ≡ joined_edges links (edges_of row.row number) → (keeps ≡ words.Kept → posted' ≡ posted ++ posted_words row.row number) → bytes' ≡ bytes + place.bytes → IsBuilt (with_words keeps next) more terms' links' posted' bytes'
built_push keeps rows next places more terms terms' links links' posted posted' bytes bytes' number row place is place_is number_is next_is more_is terms_is links_is words_is bytes_is =
    let with : with_places 0 next ≡ with_places 0 rows ++ (row, place) ∷ [] = ap (with_places 0) next_is ∙ placed_push rows row bytes place is.bytes_are place_is in
    let len = ap (λ (p : RowPlace). p.bytes) place_is ∙ place_bytes row bytes in
    let whole = ap (λ (l : List StampedRow). length (segment_of l)) next_is ∙ ap length (push_plain rows row) ∙ length-append (segment_of rows) (record_of row) in
    let last : 0 + length rows ≡ number = omega (arith, number_is) in
    record {
      places_are = more_is ∙ ap (λ (p : List RowPlace). p ++ place ∷ []) is.places_are ∙ sym (ap (map (λ (x : StampedRow × RowPlace). x.1)) with ∙ map-append (λ (x : StampedRow × RowPlace). x.1) (with_places 0 rows) ((row, place) ∷ []));
      terms_are = terms_is ∙ ap (λ (t : List TermAt). t ++ posted_term row.row number) is.terms_are ∙ sym (ap (posted_all posted_term 0) next_is ∙ posted_push posted_term 0 rows row ∙ ap (λ n. posted_all posted_term 0 rows ++ posted_term row.row n) last);
      links_are = links_is ∙ ap (λ (e : Edges). joined_edges e (edges_of row.row number)) is.links_are ∙ sym (ap posted_edges next_is ∙ pushed_one_by_one rows row ∙ ap (λ n. joined_edges (posted_edges rows) (edges_of row.row n)) (sym number_is));
      words_are = λ is_kept. words_is is_kept ∙ ap (λ (t : List TermAt). t ++ posted_words row.row number) (is.words_are is_kept) ∙ sym (ap (posted_all posted_words 0) next_is ∙ posted_push posted_words 0 rows row ∙ ap (λ n. posted_all posted_words 0 rows ++ posted_words row.row n) last);
      bytes_are = omega (arith, len, whole, bytes_is, is.bytes_are);
    }

-- ---- a row that is taken away again

pub place_taken_away : (rows : List StampedRow) (places more left : List RowPlace) (place : RowPlace) (number : ℕ) → places ≡ places_of rows → number ≡ length rows → more ≡ places ++ place ∷ [] → left ≡ take number more → left ≡ places
place_taken_away rows places more left place number is number_is more_is left_is =
    let count : number ≡ length places = number_is ∙ sym (as_many_places 0 rows) ∙ sym (ap length is) in
    left_is ∙ (λ i. take (count i) (more_is i)) ∙ take-append_seam places (place ∷ [])

pub row_taken_away : (rows more left : List StampedRow) (row : StampedRow) (number : ℕ) → number ≡ length rows → more ≡ rows ++ row ∷ [] → left ≡ take number more → left ≡ rows
row_taken_away rows more left row number number_is more_is left_is = left_is ∙ (λ i. take (number_is i) (more_is i)) ∙ take-append_seam rows (row ∷ [])

pub built_same : (keeps : Words) (rows same : List StampedRow) (places same_places : List RowPlace) (terms same_terms : List TermAt) (links same_links : Edges) (posted same_posted : List TermAt) (bytes : ℕ) → IsBuilt (with_words keeps rows) places terms links posted bytes
    → same ≡ rows → same_places ≡ places → same_terms ≡ terms → same_links ≡ links → same_posted ≡ posted → IsBuilt (with_words keeps same) same_places same_terms same_links same_posted bytes
built_same keeps rows same places same_places terms same_terms links same_links posted same_posted bytes is r p t l w = rw (r, p, t, l, w) is

-- ---- the first rows

pub first_places : (n at : ℕ) (rows : List StampedRow) → take n (map (λ (x : StampedRow × RowPlace). x.1) (with_places at rows)) ≡ map (λ (x : StampedRow × RowPlace). x.1) (with_places at (take n rows))
first_places zero at rows = refl
first_places (suc n) at [] = refl
first_places (suc n) at (r ∷ rows) = ap (λ (l : List RowPlace). row_place r at ∷ l) (first_places n (at + record_len r) rows)

-- ---- rows one after the other

-- the first of some rows have no more bytes than all of them
pub segment_within : (n : ℕ) (rows : List StampedRow) → length (segment_of (take n rows)) ≤ length (segment_of rows)
unfolding segment_of
segment_within zero rows = omega arith
segment_within (suc n) [] = omega arith
segment_within (suc n) (r ∷ rows) =
    let rest = segment_within n rows in
    let some = length-append (record_of r) (segment_of (take n rows)) in
    let all = length-append (record_of r) (segment_of rows) in
    omega (arith, rest, some, all)

-- ---- in order

pub ascending_places : (rows : List StampedRow) → IsAscending stamped_cmp rows → IsAscending place_cmp (places_of rows)
ascending_places rows up = (places_of_lists (rows ∷ []) (record { ascending = (up, tt); apart = (tt, tt) })).ascending.0
