-- Entries whose rows stand one after the other.
use Rattle.std.proofs.Common.{◌≡◌, ◌⊎◌, ℕ, zero, suc, ◌+◌, ◌-◌, ◌<◌, ◌≤◌, true, false, List, [], ◌∷◌, ◌++◌, length, map, take, drop, refl, sym, ap, subst, inl, inr, ◌∙◌, arith, append_assoc, append-nil, take_all}
use Rattle.std.specs.Prelude.{Bool, Some, slice_get, nat_le}
use Rattle.std.specs.Option.{option_map}
use Rattle.std.specs.List.{AllByRecursion}
use Rattle.std.proofs.lemmas.List.{length-append, length-drop, length-take-le, take-append-le, drop-append-le, map_push}
use Rattle.std.proofs.lemmas.Option.{slice_get-map, same_Some}
use Rattle.std.proofs.lemmas.Grind.{flat_map-append}
use Rattle.std.proofs.lemmas.Bool.Decides.{nat_tests}
use Rattle.std.proofs.Math.Seq.{drop-append_seam}
use Rattle.history_model.specs.InOrder.{Has}
use Rattle.history_model.proofs.Items.{number_of_item}
use Rattle.as_of_index.specs.Private.Search.{SplitsAt}
use Rattle.as_of_index.proofs.First.{Falls}
use Rattle.term_prefix.specs.Terms.{TermAt}
use Rattle.term_words.specs.declared.keys.KeyAt.{KeyAt}
use Rattle.term_words.specs.declared.keys.KeyAt.TheVariants as places
use Rattle.term_words.specs.declared.listing.Entry.{Entry}
use Rattle.term_words.specs.Posted.{keyed, word_key}
use Rattle.term_words.specs.Laid.{key_in, EndsWithin, EachEndsWithin, keys_in, rows_of, entry_postings, postings_in}
use Rattle.term_words.specs.Private.Chains.{AreChained, AreEntries}
use Rattle.term_words.specs.Private.{IsLaid, grown}

below_or_not : (m n : ℕ) → (m < n) ⊎ (n ≤ m)
below_or_not zero zero = inr (omega arith)
below_or_not zero (suc n) = inl (omega arith)
below_or_not (suc m) zero = inr (omega arith)
below_or_not (suc m) (suc n) = elim (below_or_not m n) [ inl lt ↦ inl (omega arith) | inr le ↦ inr (omega arith) ]

-- ---- a text that grows

pub piece-append : {X : Type 0} (text more : List X) (start len : ℕ) → start + len ≤ length text → take len (drop start (text ++ more)) ≡ take len (drop start text)
piece-append text more start len le =
    ap (take len) (drop-append-le start text more (omega arith))
    ∙ take-append-le len (drop start text) more (let e = length-drop start text in omega arith)

pub key-append : (text more : List ℕ) (key : KeyAt) → EndsWithin (length text) key → key_in (text ++ more) key ≡ key_in text key
key-append text more (places.Measure len type_id) h = refl
key-append text more (places.Word start len) h = ap word_key (piece-append text more start len h)

pub keys-append : (text more : List ℕ) (keys : List KeyAt) → EachEndsWithin (length text) keys → keys_in (text ++ more) keys ≡ keys_in text keys
keys-append text more [] h = refl
keys-append text more (key ∷ keys) h =
    let one = key-append text more key h.0 in
    let rest = keys-append text more keys h.1 in
    λ i. one i ∷ rest i

ends-later : (end later : ℕ) (key : KeyAt) → end ≤ later → EndsWithin end key → EndsWithin later key
ends-later end later (places.Measure len type_id) le h = tt
ends-later end later (places.Word start len) le h = omega arith

pub each-later : (end later : ℕ) (keys : List KeyAt) → end ≤ later → EachEndsWithin end keys → EachEndsWithin later keys
each-later end later [] le h = tt
each-later end later (key ∷ keys) le h = (ends-later end later key le h.0, each-later end later keys le h.1)

pub each-push : (end : ℕ) (keys : List KeyAt) (key : KeyAt) → EachEndsWithin end keys → EndsWithin end key → EachEndsWithin end (keys ++ key ∷ [])
each-push end [] key h k = (k, tt)
each-push end (other ∷ keys) key h k = (h.0, each-push end keys key h.1 k)

-- ---- entries in a chain

pub chain_end : (from : ℕ) (entries : List Entry) (end : ℕ) → AreChained from entries end → from ≤ end
chain_end from [] end h = omega (arith, h)
chain_end from (e ∷ entries) end h = let le = chain_end (from + e.count) entries end h.2 in omega arith

row-count : (rows : List ℕ) (from end : ℕ) (e : Entry) → e.first ≡ from → from + e.count ≤ end → end ≤ length rows → length (rows_of rows e) ≡ e.count
row-count rows from end e first le within =
    length-take-le e.count (drop e.first rows) (let size = length-drop e.first rows in omega (arith, first, size))

length-map : {X Y : Type 0} (f : X → Y) (xs : List X) → length (map f xs) ≡ length xs
length-map f [] = refl
length-map f (x ∷ xs) = ap suc (length-map f xs)

posting-count : (text rows : List ℕ) (from end : ℕ) (e : Entry) → e.first ≡ from → from + e.count ≤ end → end ≤ length rows → length (entry_postings text rows e) ≡ e.count
posting-count text rows from end e first le within =
    length-map (λ row. keyed row (key_in text e.key)) (rows_of rows e) ∙ row-count rows from end e first le within

-- there are as many postings as rows
pub postings-count : (text rows : List ℕ) (from : ℕ) (entries : List Entry) (end : ℕ) → AreChained from entries end → end ≤ length rows → from + length (postings_in text entries rows) ≡ end
postings-count text rows from [] end h within = omega (arith, h)
postings-count text rows from (e ∷ entries) end h within =
    let le = chain_end (from + e.count) entries end h.2 in
    let own = posting-count text rows from end e h.0 le within in
    let rest = postings-count text rows (from + e.count) entries end h.2 within in
    let both = length-append (entry_postings text rows e) (postings_in text entries rows) in
    omega (arith, own, rest, both)

-- ---- the posting with a number

get-append_left : {X : Type 0} (xs ys : List X) (i : ℕ) (x : X) → slice_get xs i ≡ Some x → slice_get (xs ++ ys) i ≡ Some x
get-append_left [] ys i x e = absurd cc
get-append_left (z ∷ xs) ys zero x e = e
get-append_left (z ∷ xs) ys (suc i) x e = get-append_left xs ys i x e

get-append_right : {X : Type 0} (xs ys : List X) (j n : ℕ) → length xs ≡ n → slice_get (xs ++ ys) (n + j) ≡ slice_get ys j
get-append_right [] ys j n e = ap (slice_get ys) (let z = e in omega (arith, z))
get-append_right (x ∷ xs) ys j zero e = absurd (omega (arith, e))
get-append_right (x ∷ xs) ys j (suc n) e =
    let shift : suc n + j ≡ suc (n + j) = omega arith in
    let size : length xs ≡ n = omega (arith, e) in
    ap (slice_get (x ∷ (xs ++ ys))) shift ∙ get-append_right xs ys j n size

pub get-take : {X : Type 0} (xs : List X) (n i : ℕ) → i < n → slice_get (take n xs) i ≡ slice_get xs i
get-take xs zero i lt = absurd (omega arith)
get-take [] (suc n) i lt = refl
get-take (x ∷ xs) (suc n) zero lt = refl
get-take (x ∷ xs) (suc n) (suc i) lt = get-take xs n i (omega arith)

pub get-drop : {X : Type 0} (xs : List X) (n j : ℕ) → slice_get (drop n xs) j ≡ slice_get xs (n + j)
get-drop xs zero j = ap (slice_get xs) (omega arith)
get-drop [] (suc n) j = refl
get-drop (x ∷ xs) (suc n) j =
    let shift : suc (n + j) ≡ suc n + j = omega arith in
    get-drop xs n j ∙ ap (slice_get (x ∷ xs)) shift

own-posting : (text rows : List ℕ) (e : Entry) (j row : ℕ) → j < e.count → slice_get rows (e.first + j) ≡ Some row → slice_get (entry_postings text rows e) j ≡ Some (keyed row (key_in text e.key))
own-posting text rows e j row lt there =
    slice_get-map (λ row. keyed row (key_in text e.key)) (rows_of rows e) j
    ∙ ap (option_map (λ (row : ℕ). keyed row (key_in text e.key))) (get-take (drop e.first rows) e.count j lt ∙ get-drop rows e.first j ∙ there)

-- the posting with number i, counted from the first one of the chain
pub posting-there : (text rows : List ℕ) (from : ℕ) (entries : List Entry) (end k j : ℕ) (e : Entry) (row : ℕ) → AreChained from entries end → end ≤ length rows → slice_get entries k ≡ Some e
    → e.first ≤ from + j → from + j < e.first + e.count → slice_get rows (from + j) ≡ Some row → slice_get (postings_in text entries rows) j ≡ Some (keyed row (key_in text e.key))
posting-there text rows from [] end k j e row h within at low high there = absurd cc
posting-there text rows from (d ∷ entries) end zero j e row h within at low high there =
    let same : d ≡ e = same_Some d e at in
    let first : e.first ≡ from = ap (λ (x : Entry). x.first) (sym same) ∙ h.0 in
    let number : from + j ≡ e.first + j = omega (arith, first) in
    subst (λ (x : Entry). slice_get (entry_postings text rows x ++ postings_in text entries rows) j ≡ Some (keyed row (key_in text e.key))) (sym same)
    (get-append_left (entry_postings text rows e) (postings_in text entries rows) j (keyed row (key_in text e.key))
    (own-posting text rows e j row (omega (arith, first)) (ap (slice_get rows) (sym number) ∙ there)))
posting-there text rows from (d ∷ entries) end (suc k) j e row h within at low high there =
    let le = chain_end (from + d.count) entries end h.2 in
    let own = posting-count text rows from end d h.0 le within in
    let after = chain-first (from + d.count) entries end k e h.2 at in
    let number : (from + d.count) + (j - d.count) ≡ from + j = omega (arith, after) in
    let shift : j ≡ d.count + (j - d.count) = omega (arith, after) in
    ap (slice_get (entry_postings text rows d ++ postings_in text entries rows)) shift
    ∙ get-append_right (entry_postings text rows d) (postings_in text entries rows) (j - d.count) d.count own
    ∙ posting-there text rows (from + d.count) entries end k (j - d.count) e row h.2 within at (omega (arith, number)) (omega (arith, number)) (ap (slice_get rows) number ∙ there) where
      chain-first : (from : ℕ) (entries : List Entry) (end k : ℕ) (e : Entry) → AreChained from entries end → slice_get entries k ≡ Some e → from ≤ e.first
      chain-first from [] end k e h at = absurd cc
      chain-first from (d ∷ entries) end zero e h at = let first : e.first ≡ from = ap (λ (x : Entry). x.first) (sym (same_Some d e at)) ∙ h.0 in omega (arith, first)
      chain-first from (d ∷ entries) end (suc k) e h at = let le = chain-first (from + d.count) entries end k e h.2 at in omega (arith, le)

pub posting-at : (text rows : List ℕ) (entries : List Entry) (k j : ℕ) (e : Entry) (row : ℕ) → AreChained 0 entries (length rows) → slice_get entries k ≡ Some e → e.first ≤ j → j < e.first + e.count → slice_get rows j ≡ Some row
    → slice_get (postings_in text entries rows) j ≡ Some (keyed row (key_in text e.key))
posting-at text rows entries k j e row h at low high there =
    let first : 0 + j ≡ j = omega arith in
    posting-there text rows 0 entries (length rows) k j e row h (omega arith) at (subst (λ n. e.first ≤ n) (sym first) low) (subst (λ n. n < e.first + e.count) (sym first) high) (ap (slice_get rows) first ∙ there)

-- ---- which entry it is

abbrev pub is_passed : ℕ → Entry → Bool
is_passed number e = nat_le (e.first + e.count) number

pub entry-there : (from : ℕ) (entries : List Entry) (end k number : ℕ) → AreChained from entries end → SplitsAt (is_passed number) entries k → from ≤ number → number < end
    → (e : Entry) × (slice_get entries k ≡ Some e) × (e.first ≤ number) × (number < e.first + e.count)
entry-there from [] end k number h split low high = absurd (omega (arith, h))
entry-there from (e ∷ entries) end zero number h split low high =
    let first = h.0 in
    (e, refl, omega (arith, first), not_passed e split.rest.0) where
      not_passed : (e : Entry) → is_passed number e ≡ false → number < e.first + e.count
      not_passed e f = grind (arith, nat_tests, f)
entry-there from (e ∷ entries) end (suc k) number h split low high =
    let first = h.0 in
    let behind = passed e split.before.0 in
    entry-there (from + e.count) entries end k number h.2 (record { before = split.before.1; rest = split.rest }) (omega (arith, first, behind)) high where
      passed : (e : Entry) → is_passed number e ≡ true → e.first + e.count ≤ number
      passed e f = grind (arith, nat_tests, f)

-- ---- entries that are added

pub postings-append : (text more rows others : List ℕ) (from : ℕ) (entries : List Entry) (end : ℕ) → AreChained from entries end → end ≤ length rows → EachEndsWithin (length text) (map (λ (e : Entry). e.key) entries)
    → postings_in (text ++ more) entries (rows ++ others) ≡ postings_in text entries rows
postings-append text more rows others from [] end h within ends = refl
postings-append text more rows others from (e ∷ entries) end h within ends =
    let le = chain_end (from + e.count) entries end h.2 in
    let first = h.0 in
    let own : rows_of (rows ++ others) e ≡ rows_of rows e = piece-append rows others e.first e.count (omega (arith, first, le)) in
    let key = key-append text more e.key ends.0 in
    let one : entry_postings (text ++ more) (rows ++ others) e ≡ entry_postings text rows e = λ i. map (λ row. keyed row (key i)) (own i) in
    let rest = postings-append text more rows others (from + e.count) entries end h.2 within ends.1 in
    λ i. one i ++ rest i

pub chain-push : (from : ℕ) (entries : List Entry) (end : ℕ) (e : Entry) → AreChained from entries end → e.first ≡ end → 0 < e.count → AreChained from (entries ++ e ∷ []) (end + e.count)
chain-push from [] end e h first some = (first ∙ sym h, some, ap (λ n. n + e.count) h)
chain-push from (d ∷ entries) end e h first some = (h.0, h.1, chain-push (from + d.count) entries end e h.2 first some)

-- the part of a chain before its last entry
pub chain-last : (from : ℕ) (entries : List Entry) (e : Entry) (end : ℕ) → AreChained from (entries ++ e ∷ []) end → AreChained from entries e.first × (0 < e.count) × (e.first + e.count ≡ end)
chain-last from [] e end h = (sym h.0, h.1, ap (λ n. n + e.count) h.0 ∙ h.2)
chain-last from (d ∷ entries) e end h = let w = chain-last (from + d.count) entries e end h.2 in ((h.0, h.1, w.0), w.1, w.2)

pub keys-split : (end : ℕ) (entries : List Entry) (e : Entry) → EachEndsWithin end (map (λ (x : Entry). x.key) (entries ++ e ∷ [])) → EachEndsWithin end (map (λ (x : Entry). x.key) entries) × EndsWithin end e.key
keys-split end [] e h = (tt, h.0)
keys-split end (d ∷ entries) e h = let w = keys-split end entries e h.1 in ((h.0, w.0), w.1)

-- one row more of the last entry
pub row_more : (rows : List ℕ) (e : Entry) (row : ℕ) → e.first + e.count ≡ length rows → rows_of (rows ++ row ∷ []) (grown e) ≡ rows_of rows e ++ row ∷ []
row_more rows e row end =
    let size : length (drop e.first rows) ≡ e.count = (let d = length-drop e.first rows in omega (arith, end, d)) in
    let longer : length (drop e.first rows ++ row ∷ []) ≡ e.count + 1 = (let a = length-append (drop e.first rows) (row ∷ []) in omega (arith, a, size)) in
    ap (take (e.count + 1)) (drop-append-le e.first rows (row ∷ []) (omega (arith, end)))
    ∙ take_all (e.count + 1) (drop e.first rows ++ row ∷ []) (omega (arith, longer))
    ∙ ap (λ xs. xs ++ row ∷ []) (sym (take_all e.count (drop e.first rows) (omega (arith, size))))

pub grown_postings : (text rows : List ℕ) (before : List Entry) (e : Entry) (row : ℕ) (key : List ℕ) → AreEntries text (before ++ e ∷ []) rows → key_in text e.key ≡ key
    → postings_in text (before ++ grown e ∷ []) (rows ++ row ∷ []) ≡ postings_in text (before ++ e ∷ []) rows ++ keyed row key ∷ []
grown_postings text rows before e row key are is =
    let w = chain-last 0 before e (length rows) are.chained in
    let ends = keys-split (length text) before e are.within in
    let le : e.first ≤ length rows = (let s = w.2 in omega (arith, s)) in
    let nothing : text ++ [] ≡ text = append-nil text in
    let old : postings_in text before (rows ++ row ∷ []) ≡ postings_in text before rows =
    ap (λ t. postings_in t before (rows ++ row ∷ [])) (sym nothing) ∙ postings-append text [] rows (row ∷ []) 0 before e.first w.0 le ends.0 in
    let named : ℕ → TermAt = λ r. keyed r (key_in text e.key) in
    let last : entry_postings text (rows ++ row ∷ []) (grown e) ≡ entry_postings text rows e ++ keyed row key ∷ [] =
    ap (map named) (row_more rows e row w.2) ∙ map_push named (rows_of rows e) row ∙ ap (λ k. entry_postings text rows e ++ keyed row k ∷ []) is in
    flat_map-append (entry_postings text (rows ++ row ∷ [])) before (grown e ∷ [])
    ∙ ap (λ xs. postings_in text before (rows ++ row ∷ []) ++ xs) (append-nil (entry_postings text (rows ++ row ∷ []) (grown e)))
    ∙ (λ i. old i ++ last i)
    ∙ sym (append_assoc (postings_in text before rows) (entry_postings text rows e) (keyed row key ∷ []))
    ∙ ap (λ xs. xs ++ keyed row key ∷ []) (sym (flat_map-append (entry_postings text rows) before (e ∷ []) ∙ ap (λ xs. postings_in text before rows ++ xs) (append-nil (entry_postings text rows e))))

pub grown_are : (text rows : List ℕ) (before : List Entry) (e : Entry) (row : ℕ) → AreEntries text (before ++ e ∷ []) rows → AreEntries text (before ++ grown e ∷ []) (rows ++ row ∷ [])
grown_are text rows before e row are =
    let w = chain-last 0 before e (length rows) are.chained in
    let ends = keys-split (length text) before e are.within in
    let end : e.first + (e.count + 1) ≡ length (rows ++ row ∷ []) = (let s = w.2 in let a = length-append rows (row ∷ []) in omega (arith, s, a)) in
    record {
      chained = subst (λ n. AreChained 0 (before ++ grown e ∷ []) n) end (chain-push 0 before e.first (grown e) w.0 refl (omega arith));
      within = joined before ends.0;
    } where
      joined : (xs : List Entry) → EachEndsWithin (length text) (map (λ (x : Entry). x.key) xs) → EachEndsWithin (length text) (map (λ (x : Entry). x.key) (xs ++ grown e ∷ []))
      joined [] h = ((keys-split (length text) before e are.within).1, tt)
      joined (x ∷ xs) h = (h.0, joined xs h.1)

-- a new entry with one row
abbrev pub new_entry : KeyAt → ℕ → Entry
new_entry key first = record { key = key; first = first; count = 1 }

pub added_postings : (text text' rows : List ℕ) (entries : List Entry) (row : ℕ) (key : List ℕ) (at : KeyAt) → AreEntries text entries rows → IsLaid text key text' at
    → postings_in text' (entries ++ new_entry at (length rows) ∷ []) (rows ++ row ∷ []) ≡ postings_in text entries rows ++ keyed row key ∷ []
added_postings text text' rows entries row key at are laid =
    let e = new_entry at (length rows) in
    let old : postings_in text' entries (rows ++ row ∷ []) ≡ postings_in text entries rows =
    ap (λ t. postings_in t entries (rows ++ row ∷ [])) laid.text_is ∙ postings-append text laid.added rows (row ∷ []) 0 entries (length rows) are.chained (omega arith) are.within in
    let own : rows_of (rows ++ row ∷ []) e ≡ row ∷ [] = ap (take 1) (drop-append_seam rows (row ∷ [])) in
    let named : ℕ → TermAt = λ r. keyed r (key_in text' at) in
    let last : entry_postings text' (rows ++ row ∷ []) e ≡ keyed row key ∷ [] = ap (map named) own ∙ ap (λ k. keyed row k ∷ []) laid.same in
    flat_map-append (entry_postings text' (rows ++ row ∷ [])) entries (e ∷ [])
    ∙ ap (λ xs. postings_in text' entries (rows ++ row ∷ []) ++ xs) (append-nil (entry_postings text' (rows ++ row ∷ []) e))
    ∙ (λ i. old i ++ last i)

pub added_are : (text text' rows : List ℕ) (entries : List Entry) (row : ℕ) (key : List ℕ) (at : KeyAt) → AreEntries text entries rows → IsLaid text key text' at → AreEntries text' (entries ++ new_entry at (length rows) ∷ []) (rows ++ row ∷ [])
added_are text text' rows entries row key at are laid =
    let longer : length text ≤ length text' = (let a = ap (λ (xs : List ℕ). length xs) laid.text_is in let b = length-append text laid.added in omega (arith, a, b)) in
    let end : length rows + 1 ≡ length (rows ++ row ∷ []) = (let a = length-append rows (row ∷ []) in omega (arith, a)) in
    record {
      chained = subst (λ n. AreChained 0 (entries ++ new_entry at (length rows) ∷ []) n) end (chain-push 0 entries (length rows) (new_entry at (length rows)) are.chained refl (omega arith));
      within = joined entries (each-later (length text) (length text') (map (λ (x : Entry). x.key) entries) longer are.within);
    } where
      joined : (xs : List Entry) → EachEndsWithin (length text') (map (λ (x : Entry). x.key) xs) → EachEndsWithin (length text') (map (λ (x : Entry). x.key) (xs ++ new_entry at (length rows) ∷ []))
      joined [] h = (laid.within, tt)
      joined (x ∷ xs) h = (h.0, joined xs h.1)

-- the entries still are those of the rows, in a text that grew
pub still_are : (text text' rows : List ℕ) (entries : List Entry) (more : List ℕ) → text' ≡ text ++ more → AreEntries text entries rows → AreEntries text' entries rows
still_are text text' rows entries more is are = record {
  chained = are.chained;
  within = each-later (length text) (length text') (map (λ (x : Entry). x.key) entries) (let a = ap (λ (xs : List ℕ). length xs) is in let b = length-append text more in omega (arith, a, b)) are.within;
}

-- where an entry is passed each before it is
pub passed-falls : (number from : ℕ) (entries : List Entry) (end : ℕ) → AreChained from entries end → Falls (is_passed number) entries
passed-falls number from [] end h = tt
passed-falls number from (e ∷ entries) end h = (each (from + e.count) entries (let first = h.0 in omega (arith, first)) h.2, passed-falls number (from + e.count) entries end h.2) where
  before : (d : Entry) → e.first + e.count ≤ d.first + d.count → is_passed number d ≡ true → is_passed number e ≡ true
  before d le f = grind (arith, nat_tests, le, f)

  each : (after : ℕ) (others : List Entry) → e.first + e.count ≤ after → AreChained after others end → AllByRecursion (λ d. is_passed number d ≡ true → is_passed number e ≡ true) others
  each after [] le chained = tt
  each after (d ∷ others) le chained = (
    before d (let first = chained.0 in omega (arith, first)),
    each (after + d.count) others (omega arith) chained.2,
  )

-- ---- the rows of the postings

take_none : {X : Type 0} (n : ℕ) → take {A = X} n [] ≡ []
take_none zero = refl
take_none (suc n) = refl

drop_none : {X : Type 0} (n : ℕ) → drop {A = X} n [] ≡ []
drop_none zero = refl
drop_none (suc n) = refl

take_sum : {X : Type 0} (m n : ℕ) (xs : List X) → take (m + n) xs ≡ take m xs ++ take n (drop m xs)
take_sum zero n xs = let number : zero + n ≡ n = omega arith in ap (λ k. take k xs) number
take_sum {X} (suc m) n [] =
    let shift : suc m + n ≡ suc (m + n) = omega arith in
    let none : List X = [] in
    ap (λ k. take k none) shift ∙ sym (take_none n)
take_sum (suc m) n (x ∷ xs) =
    let shift : suc m + n ≡ suc (m + n) = omega arith in
    ap (λ k. take k (x ∷ xs)) shift ∙ ap (λ zs. x ∷ zs) (take_sum m n xs)

drop_sum : {X : Type 0} (m n : ℕ) (xs : List X) → drop n (drop m xs) ≡ drop (m + n) xs
drop_sum zero n xs = let number : n ≡ zero + n = omega arith in ap (λ k. drop k xs) number
drop_sum {X} (suc m) n [] =
    let shift : suc (m + n) ≡ suc m + n = omega arith in
    let none : List X = [] in
    drop_none n ∙ ap (λ k. drop k none) shift
drop_sum (suc m) n (x ∷ xs) =
    let shift : suc (m + n) ≡ suc m + n = omega arith in
    drop_sum m n xs ∙ ap (λ k. drop k (x ∷ xs)) shift

map_both : {X Y : Type 0} (f : X → Y) (xs ys : List X) → map f (xs ++ ys) ≡ map f xs ++ map f ys
map_both f [] ys = refl
map_both f (x ∷ xs) ys = ap (λ zs. f x ∷ zs) (map_both f xs ys)

named_rows : (key rows : List ℕ) → map (λ (t : TermAt). t.row) (map (λ row. keyed row key) rows) ≡ rows
named_rows key [] = refl
named_rows key (row ∷ rows) = ap (λ zs. row ∷ zs) (named_rows key rows)

rows-chained : (text rows : List ℕ) (from : ℕ) (entries : List Entry) (end : ℕ) → AreChained from entries end → end ≤ length rows → map (λ (t : TermAt). t.row) (postings_in text entries rows) ≡ take (end - from) (drop from rows)
rows-chained text rows from [] end h within = let none : zero ≡ end - from = omega (arith, h) in ap (λ n. take n (drop from rows)) none
rows-chained text rows from (e ∷ entries) end h within =
    let le = chain_end (from + e.count) entries end h.2 in
    let rest = rows-chained text rows (from + e.count) entries end h.2 within in
    let own : map (λ (t : TermAt). t.row) (entry_postings text rows e) ≡ take e.count (drop from rows) = named_rows (key_in text e.key) (rows_of rows e) ∙ ap (λ n. take e.count (drop n rows)) h.0 in
    let left = end - (from + e.count) in
    let number : e.count + left ≡ end - from = omega (arith, le) in
    map_both (λ (t : TermAt). t.row) (entry_postings text rows e) (postings_in text entries rows)
    ∙ (λ i. own i ++ rest i)
    ∙ ap (λ xs. take e.count (drop from rows) ++ take left xs) (sym (drop_sum from e.count rows))
    ∙ sym (take_sum e.count left (drop from rows))
    ∙ ap (λ n. take n (drop from rows)) number

pub rows-posted : (text rows : List ℕ) (entries : List Entry) → AreEntries text entries rows → map (λ (t : TermAt). t.row) (postings_in text entries rows) ≡ rows
rows-posted text rows entries are = rows-chained text rows 0 entries (length rows) are.chained (omega arith) ∙ take_all (length rows - 0) rows (omega arith)

-- ---- the entry of a posting

-- the entry that has the posting with a number, and the number of its row there
pub record HasPosting (text rows : List ℕ) (entries : List Entry) (number : ℕ) (t : TermAt) : Type 0 where
  pub e : Entry
  pub there : Has entries e
  pub low : e.first ≤ number
  pub row_there : slice_get (rows_of rows e) (number - e.first) ≡ Some t.row
  pub key_is : key_in text e.key ≡ t.folded

get_left : {X : Type 0} (xs ys : List X) (i : ℕ) → i < length xs → slice_get (xs ++ ys) i ≡ slice_get xs i
get_left [] ys i lt = absurd (omega arith)
get_left (x ∷ xs) ys zero lt = refl
get_left (x ∷ xs) ys (suc i) lt = get_left xs ys i (omega arith)

pub posting-of : (text rows : List ℕ) (from : ℕ) (entries : List Entry) (end j : ℕ) (t : TermAt) → AreChained from entries end → end ≤ length rows → slice_get (postings_in text entries rows) j ≡ Some t → HasPosting text rows entries (from + j) t
posting-of text rows from [] end j t h within at = absurd cc
posting-of text rows from (e ∷ entries) end j t h within at =
    let le = chain_end (from + e.count) entries end h.2 in
    let own = posting-count text rows from end e h.0 le within in
    elim (below_or_not j e.count) [
      | inl lt ↦ (
          let first = h.0 in
          let key = key_in text e.key in
          let named : ℕ → TermAt = λ row. keyed row key in
          let here : slice_get (entry_postings text rows e) j ≡ Some t = sym (get_left (entry_postings text rows e) (postings_in text entries rows) j (omega (arith, own, lt))) ∙ at in
          let w = mapped named (rows_of rows e) j t here in
          let number : j ≡ (from + j) - e.first = omega (arith, first) in
          record {
            e = e;
            there = inl refl;
            low = omega (arith, first);
            row_there = ap (slice_get (rows_of rows e)) (sym number) ∙ w.1 ∙ ap (λ (x : TermAt). Some x.row) w.2;
            key_is = ap (λ (x : TermAt). x.folded) w.2;
          })
      | inr ge ↦ (
          let shift : e.count + (j - e.count) ≡ j = omega (arith, ge) in
          let after : slice_get (postings_in text entries rows) (j - e.count) ≡ Some t = sym (get-append_right (entry_postings text rows e) (postings_in text entries rows) (j - e.count) e.count own) ∙ ap (slice_get (entry_postings text rows e ++ postings_in text entries rows)) shift ∙ at in
          let w = posting-of text rows (from + e.count) entries end (j - e.count) t h.2 within after in
          let number : (from + e.count) + (j - e.count) ≡ from + j = omega (arith, ge) in
          subst (λ n. HasPosting text rows (e ∷ entries) n t) number (record { e = w.e; there = inr w.there; low = w.low; row_there = w.row_there; key_is = w.key_is }))
    ] where
      mapped : (f : ℕ → TermAt) (xs : List ℕ) (i : ℕ) (u : TermAt) → slice_get (map f xs) i ≡ Some u → (x : ℕ) × (slice_get xs i ≡ Some x) × (f x ≡ u)
      mapped f [] i u e = absurd cc
      mapped f (x ∷ xs) zero u e = (x, refl, same_Some (f x) u e)
      mapped f (x ∷ xs) (suc i) u e = mapped f xs i u e

-- a row of an entry is posted with its number
pub row-posted : (text rows : List ℕ) (entries : List Entry) (e : Entry) (j i : ℕ) → AreEntries text entries rows → Has entries e → slice_get (rows_of rows e) j ≡ Some i → slice_get (postings_in text entries rows) (e.first + j) ≡ Some (keyed i (key_in text e.key))
row-posted text rows entries e j i are h there =
    let w = number_of_item entries e h in
    let lt = part-within e.count (drop e.first rows) j i there in
    posting-at text rows entries w.0 (e.first + j) e i are.chained w.1 (omega arith) (omega (arith, lt)) (sym (get-drop rows e.first j) ∙ sym (get-take (drop e.first rows) e.count j lt) ∙ there) where
      part-within : (n : ℕ) (xs : List ℕ) (j i : ℕ) → slice_get (take n xs) j ≡ Some i → j < n
      part-within zero xs j i e = absurd cc
      part-within (suc n) [] j i e = absurd cc
      part-within (suc n) (x ∷ xs) zero i e = omega arith
      part-within (suc n) (x ∷ xs) (suc j) i e = let lt = part-within n xs j i e in omega (arith, lt)
