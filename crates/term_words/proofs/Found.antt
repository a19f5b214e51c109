-- The rows of the places that are kept are those that have the words, in their order.
use Rattle.std.proofs.Common.{◌≡◌, ◌⊎◌, ℕ, zero, suc, ◌+◌, ◌<◌, ◌≤◌, Bool, true, false, List, [], ◌∷◌, ◌++◌, length, get_or, take, drop, map, refl, sym, ap, subst, inl, inr, ◌∙◌, arith}
use Rattle.std.specs.Ordering.{nat_cmp}
use Rattle.std.specs.Prelude.{nat_eq, ◌||◌, if◌then◌else◌, Option, Some, chars, slice_get}
use Rattle.std.specs.List.{filter, list_any, list_all, starts_with}
use Rattle.std.specs.Ordering.{ordering_then}
use Rattle.std.specs.Cmp.{IsTotalOrder, nat_cmp_total, ranked as number_ranked, on_total}
use Rattle.std.specs.declared.cmp.Ordering.{Ordering}
use Rattle.std.specs.declared.cmp.Ordering.TheVariants.{Less, Equal}
use Rattle.std.proofs.lemmas.Cmp.{then_total}
use Rattle.std.proofs.lemmas.Bool.{and_parts}
use Rattle.list_lemmas.proofs.Tests.{both_equal, less_from_below}
use Rattle.rf2_values.specs.declared.row.Kind.TheVariants as kinds
use Rattle.rf2_values.specs.declared.row.Body.{Body}
use Rattle.rf2_values.specs.declared.row.Body.TheVariants as body
use Rattle.rf2_values.specs.declared.key.Key.{Key}
use Rattle.rf2_values.specs.Row.{RowValue, kind_of, kind_of_body}
use Rattle.rf2_values.specs.Key.{key_of}
use Rattle.history_model.specs.declared.stamped.StampedRow.{StampedRow}
use Rattle.history_model.specs.InOrder.{Has, IsAscending, in_order}
use Rattle.history_model.specs.History.{row_cmp}
use Rattle.history_model.specs.Queries.{get, snapshot}
use Rattle.word_model.specs.Words.{words, is_of_type, some_begins, begin_with_all, says_words, has_words, term_length, shortest_cmp, words_found, some_words_found}
use Rattle.std.proofs.lemmas.Option.{same_Some, slice_get_within}
use Rattle.history_model.proofs.InOrder.{Has-append_left, Has-append_right, Has-append_cases, Has-put_all_cases, Has-put_all_new, IsAscending-in_order}
use Rattle.history_model.proofs.Filtered.{Has-filter, Has-filter_from, Has-map, Has-map_from, IsAscending-take}
use Rattle.history_model.proofs.Items.{Has-if, Has-take}
use Rattle.history_model.proofs.Ascents.{one_row_of_a_component}
use Rattle.history_model.proofs.Snapshots.{IsAscending-rows_at, IsAscending-listed}
use Rattle.history_model.specs.Lists.{listed}
use Rattle.segment.specs.Standing.{places_of, StandsAt}
use Rattle.as_of_index.specs.declared.as_of.AsOf.{AsOf}
use Rattle.as_of_index.specs.declared.chosen.Chosen.{Chosen}
use Rattle.as_of_index.specs.Chosen.{StandAtAll}
use Rattle.as_of_index.specs.Current.{rows_seen, IsPlaceOfRow, IsCurrentAt}
use Rattle.as_of_index.specs.Places.{item_at, ArePlaces}
use Rattle.as_of_index.specs.Private.Chosen.{ranked_cmp}
use Rattle.as_of_index.specs.Private.Postings.{numbered}
use Rattle.as_of_index.proofs.Among.{looked_up}
use Rattle.as_of_index.proofs.Current.{standing_row, one_row, current_where, AllCurrent, rows_for, stand_for, length-rows_for, row_for, for_row, ascending_rows_for}
use Rattle.as_of_index.proofs.First.{taken_or_above, same_first}
use Rattle.as_of_index.proofs.Numbered.{stands_there, place_of_row}
use Rattle.as_of_index.proofs.Pushing.{stands, posting_there, posted_as}
use Rattle.term_prefix.specs.Terms.{TermAt}
use Rattle.term_words.specs.declared.grouping.Group.{Group}
use Rattle.term_words.specs.declared.listing.Parts.{Parts}
use Rattle.term_words.specs.declared.ordered.Split.{Split}
use Rattle.term_words.specs.Posted.{ArePosted, posted_words, keyed, keys_of, measure_key, word_key}
use Rattle.term_words.specs.Private.{all_in, AreStored, AreSplit, IsBegun, IsMarked, EachMarked, AreGroups, sized, IsOfSome, AreShortest}
use Rattle.term_words.proofs.Chained.{postings-count}
use Rattle.term_words.proofs.Splits.{split_of, list_of, size_has, begun_row, sized_rank, word_rank}
use Rattle.term_words.proofs.Once.{one_rank, rows_at_number}
use Rattle.term_words.proofs.Places.{hit_marked, marked_hit}

-- ---- orders

pub ranked_total : IsTotalOrder ranked_cmp
ranked_total = then_total (on_total (λ (k : Chosen). k.first) nat_cmp_total) (then_total (on_total (λ (k : Chosen). k.second) nat_cmp_total) (on_total (λ (k : Chosen). k.at.key.id) nat_cmp_total))

pub shortest_total : IsTotalOrder shortest_cmp
shortest_total = then_total (on_total (λ (row : RowValue). term_length row.body) nat_cmp_total) (on_total (λ (row : RowValue). row.id) nat_cmp_total)

-- rows that tie have one id
tied_id : (a b : RowValue) → shortest_cmp a b ≡ Equal → a.id ≡ b.id
tied_id a b e = number_ranked a.id b.id Equal (sym (both_equal (nat_cmp (term_length a.body) (term_length b.body)) (nat_cmp a.id b.id) e).1)

-- ---- the first so many of a list

-- what is there are at least the first n, in order, and nothing that isn't above them is missing
pub first_of_more : {X : Type 0} {cmp : X → X → Ordering} (o : IsTotalOrder cmp) (n : ℕ) (xs ys : List X) → IsAscending cmp xs → IsAscending cmp ys → ((z : X) → Has xs z → Has ys z)
    → ((z : X) → Has ys z → Has xs z ⊎ ((n ≤ length xs) × ((y : X) → Has xs y → cmp y z ≡ Less))) → take n xs ≡ take n ys
first_of_more {cmp = cmp} o n xs ys up rise there back =
    same_first o n (take n xs) ys (IsAscending-take cmp n xs up) rise (at_most n xs) (λ z h. there z (Has-take n xs z h)) (λ z h. elim (back z h) [
      | inl l ↦ taken_or_above o n xs z up l
      | inr r ↦ inr (all_taken n xs r.0, λ y k. r.1 y (Has-take n xs y k))
    ]) where
      at_most : {X : Type 0} (n : ℕ) (xs : List X) → length (take n xs) ≤ n
      at_most zero xs = omega arith
      at_most (suc n) [] = omega arith
      at_most (suc n) (x ∷ xs) = let le = at_most n xs in omega arith

      all_taken : {X : Type 0} (n : ℕ) (xs : List X) → n ≤ length xs → n ≤ length (take n xs)
      all_taken zero xs le = omega arith
      all_taken (suc n) [] le = absurd (omega arith)
      all_taken (suc n) (x ∷ xs) le = let rest = all_taken n xs (omega arith) in omega arith

-- a part within the first n of a list
part-of_first : {X : Type 0} (offset limit : ℕ) (xs : List X) → take limit (drop offset (take (offset + limit) xs)) ≡ take limit (drop offset xs)
part-of_first {X} zero limit xs =
    let number : zero + limit ≡ limit = omega arith in
    ap (λ n. take limit (take n xs)) number ∙ twice limit xs where
      twice : (n : ℕ) (xs : List X) → take n (take n xs) ≡ take n xs
      twice zero xs = refl
      twice (suc n) [] = refl
      twice (suc n) (x ∷ xs) = ap (λ zs. x ∷ zs) (twice n xs)
part-of_first {X} (suc offset) limit [] =
    let number : suc offset + limit ≡ suc (offset + limit) = omega arith in
    let none : List X = [] in
    ap (λ n. take limit (drop (suc offset) (take n none))) number
part-of_first (suc offset) limit (x ∷ xs) =
    let number : suc offset + limit ≡ suc (offset + limit) = omega arith in
    ap (λ n. take limit (drop (suc offset) (take n (x ∷ xs)))) number ∙ part-of_first offset limit xs

pub same_part : {X : Type 0} (offset limit : ℕ) (xs ys : List X) → take (offset + limit) xs ≡ take (offset + limit) ys → take limit (drop offset xs) ≡ take limit (drop offset ys)
same_part offset limit xs ys e = sym (part-of_first offset limit xs) ∙ ap (λ zs. take limit (drop offset zs)) e ∙ part-of_first offset limit ys

stand-take : (lists : List (List StampedRow)) (n : ℕ) (ks : List Chosen) (rows : List StampedRow) → StandAtAll lists ks rows → StandAtAll lists (take n ks) (take n rows)
stand-take lists zero ks rows h = tt
stand-take lists (suc n) [] [] h = tt
stand-take lists (suc n) [] (s ∷ rows) h = absurd h
stand-take lists (suc n) (k ∷ ks) [] h = absurd h
stand-take lists (suc n) (k ∷ ks) (s ∷ rows) h = (h.0, stand-take lists n ks rows h.1)

stand-drop : (lists : List (List StampedRow)) (n : ℕ) (ks : List Chosen) (rows : List StampedRow) → StandAtAll lists ks rows → StandAtAll lists (drop n ks) (drop n rows)
stand-drop lists zero ks rows h = h
stand-drop lists (suc n) [] [] h = tt
stand-drop lists (suc n) [] (s ∷ rows) h = absurd h
stand-drop lists (suc n) (k ∷ ks) [] h = absurd h
stand-drop lists (suc n) (k ∷ ks) (s ∷ rows) h = stand-drop lists n ks rows h.1

map-take : (n : ℕ) (rows : List StampedRow) → map (λ (s : StampedRow). s.row) (take n rows) ≡ take n (map (λ (s : StampedRow). s.row) rows)
map-take zero rows = refl
map-take (suc n) [] = refl
map-take (suc n) (s ∷ rows) = ap (λ zs. s.row ∷ zs) (map-take n rows)

map-drop : (n : ℕ) (rows : List StampedRow) → map (λ (s : StampedRow). s.row) (drop n rows) ≡ drop n (map (λ (s : StampedRow). s.row) rows)
map-drop zero rows = refl
map-drop (suc n) [] = refl
map-drop (suc n) (s ∷ rows) = map-drop n rows

-- ---- what a posting says of its row

-- the row is active, and the key is one of its body's
pub record IsKeyOf (t : TermAt) (row : RowValue) : Type 0 where
  pub active : row.active ≡ true
  pub key : Has (keys_of row.body) t.folded

of_row : (row : RowValue) (i : ℕ) (t : TermAt) → Has (posted_words row i) t → IsKeyOf t row × (t.row ≡ i)
of_row row i t h =
    let w = Has-if row.active (map (keyed i) (keys_of row.body)) t h in
    let m = Has-map (keyed i) (keys_of row.body) t w.1 in
    (record { active = w.0; key = subst (λ (x : TermAt). Has (keys_of row.body) x.folded) m.2 m.1 }, ap (λ (x : TermAt). x.row) (sym m.2))

-- the body is a description's, with a term of this length and of this type
abbrev pub IsMeasured : ℕ → ℕ → Body → Type 0
IsMeasured len type_id (body.Description d) = (length (chars d.term) ≡ len) × (d.type_id ≡ type_id)
IsMeasured len type_id _ = ⊥

same_second : (a b : ℕ) (xs ys : List ℕ) → a ∷ xs ≡ b ∷ ys → a ≡ b
same_second a b xs ys e = ap (λ (zs : List ℕ). get_or zs 0 0) e

measured : (len type_id : ℕ) (b : Body) → Has (keys_of b) (measure_key len type_id) → IsMeasured len type_id b
measured len type_id (body.Concept c) h = absurd h
measured len type_id (body.Description d) h = elim h [
  | inl e ↦ (ap (λ (zs : List ℕ). get_or zs 1 0) e, ap (λ (zs : List ℕ). get_or zs 2 0) e)
  | inr t ↦ absurd (
      let m = Has-map word_key (words d.term) (measure_key len type_id) t in
      let first : 1 ≡ 0 = same_second 1 0 m.0 (len ∷ type_id ∷ []) m.2 in
      omega (arith, first))
]
measured len type_id (body.Relationship r) h = absurd h
measured len type_id (body.Association a) h = absurd h
measured len type_id (body.Concrete c) h = absurd h
measured len type_id (body.Member m) h = absurd h

-- ---- words that begin so

any_from : (p : List ℕ → Bool) (xs : List (List ℕ)) (x : List ℕ) → Has xs x → p x ≡ true → list_any p xs ≡ true
any_from p [] x h e = absurd h
any_from p (y ∷ ys) x h e = elim h [
  | inl same ↦ (let first : p y ≡ true = subst (λ z. p z ≡ true) (sym same) e in rw first refl)
  | inr t ↦ (let rest = any_from p ys x t e in either (p y) (list_any p ys) rest)
] where
  either : (a b : Bool) → b ≡ true → (a || b) ≡ true
  either true b e = refl
  either false b e = e

any_of : (p : List ℕ → Bool) (xs : List (List ℕ)) → list_any p xs ≡ true → (x : List ℕ) × Has xs x × (p x ≡ true)
any_of p [] e = absurd cc
any_of p (y ∷ ys) e = by (p y) refl e (λ f. any_of p ys f) where
  by : (b : Bool) → p y ≡ b → (b || list_any p ys) ≡ true → (list_any p ys ≡ true → (x : List ℕ) × Has ys x × (p x ≡ true)) → (x : List ℕ) × Has (y ∷ ys) x × (p x ≡ true)
  by true is f rest = (y, inl refl, is)
  by false is f rest = let w = rest f in (w.0, inr w.1, w.2)

all_from : (p : List ℕ → Bool) (xs : List (List ℕ)) → ((x : List ℕ) → Has xs x → p x ≡ true) → list_all p xs ≡ true
all_from p [] h = refl
all_from p (y ∷ ys) h =
    let first = h y (inl refl) in
    let rest = all_from p ys (λ x k. h x (inr k)) in
    rw (first, rest) refl

all_of : (p : List ℕ → Bool) (xs : List (List ℕ)) → list_all p xs ≡ true → (x : List ℕ) → Has xs x → p x ≡ true
all_of p [] e x h = absurd h
all_of p (y ∷ ys) e x h =
    let w = and_parts (p y) (list_all p ys) e in
    elim h [ inl same ↦ subst (λ z. p z ≡ true) same w.0 | inr t ↦ all_of p ys w.1 x t ]

-- a key that begins with a word's is a word that begins with the word
key_begins : (word : List ℕ) (len type_id : ℕ) → starts_with nat_eq (measure_key len type_id) (word_key word) ≡ true → ⊥
key_begins word len type_id e = absurd cc

abbrev SaysWord : List ℕ → Body → Type 0
SaysWord word (body.Description d) = some_begins (words d.term) word ≡ true
SaysWord word _ = ⊥

begun_from : (word key : List ℕ) (b : Body) → Has (keys_of b) key → starts_with nat_eq key (word_key word) ≡ true → SaysWord word b
begun_from word key (body.Concept c) h e = absurd h
begun_from word key (body.Description d) h e = elim h [
  | inl same ↦ absurd (key_begins word (length (chars d.term)) d.type_id (subst (λ k. starts_with nat_eq k (word_key word) ≡ true) (sym same) e))
  | inr t ↦ (
      let m = Has-map word_key (words d.term) key t in
      any_from (λ w. starts_with nat_eq w word) (words d.term) m.0 m.1 (subst (λ k. starts_with nat_eq k (word_key word) ≡ true) (sym m.2) e))
]
begun_from word key (body.Relationship r) h e = absurd h
begun_from word key (body.Association a) h e = absurd h
begun_from word key (body.Concrete c) h e = absurd h
begun_from word key (body.Member m) h e = absurd h

-- what the postings of a row say together
pub record Says (wanted_type : Option ℕ) (wanted : List (List ℕ)) (len : ℕ) (b : Body) : Type 0 where
  pub says : says_words wanted_type wanted b ≡ true
  pub len_is : term_length b ≡ len
  pub kind : kind_of_body b ≡ kinds.Description

says_all : (wanted_type : Option ℕ) (wanted : List (List ℕ)) (len type_id : ℕ) (b : Body) → IsMeasured len type_id b → is_of_type wanted_type type_id ≡ true → ((word : List ℕ) → Has wanted word → SaysWord word b) → Says wanted_type wanted len b
says_all wanted_type wanted len type_id (body.Concept c) m e h = absurd m
says_all wanted_type wanted len type_id (body.Description d) m e h =
    let of_type : is_of_type wanted_type d.type_id ≡ true = subst (λ t. is_of_type wanted_type t ≡ true) (sym m.1) e in
    let all : begin_with_all (words d.term) wanted ≡ true = all_from (some_begins (words d.term)) wanted h in
    record { says = rw (of_type, all) refl; len_is = m.0; kind = refl }
says_all wanted_type wanted len type_id (body.Relationship r) m e h = absurd m
says_all wanted_type wanted len type_id (body.Association a) m e h = absurd m
says_all wanted_type wanted len type_id (body.Concrete c) m e h = absurd m
says_all wanted_type wanted len type_id (body.Member x) m e h = absurd m

-- the keys of a row that has the words
pub record HasKeys (wanted_type : Option ℕ) (wanted : List (List ℕ)) (b : Body) : Type 0 where
  pub type_id : ℕ
  pub measure : Has (keys_of b) (measure_key (term_length b) type_id)
  pub of_type : is_of_type wanted_type type_id ≡ true
  pub begun : (word : List ℕ) → Has wanted word → (key : List ℕ) × Has (keys_of b) key × (starts_with nat_eq key (word_key word) ≡ true)
  pub kind : kind_of_body b ≡ kinds.Description

keys_from : (wanted_type : Option ℕ) (wanted : List (List ℕ)) (b : Body) → says_words wanted_type wanted b ≡ true → HasKeys wanted_type wanted b
keys_from wanted_type wanted (body.Concept c) e = absurd cc
keys_from wanted_type wanted (body.Description d) e =
    let w = and_parts (is_of_type wanted_type d.type_id) (begin_with_all (words d.term) wanted) e in
    record {
      type_id = d.type_id;
      measure = inl refl;
      of_type = w.0;
      begun = λ word h.
          let a = any_of (λ own. starts_with nat_eq own word) (words d.term) (all_of (some_begins (words d.term)) wanted w.1 word h) in
          (word_key a.0, inr (Has-map_from word_key (words d.term) a.0 a.1), a.2);
      kind = refl;
    }
keys_from wanted_type wanted (body.Relationship r) e = absurd cc
keys_from wanted_type wanted (body.Association a) e = absurd cc
keys_from wanted_type wanted (body.Concrete c) e = absurd cc
keys_from wanted_type wanted (body.Member m) e = absurd cc

-- ---- postings with the numbers of their lists

to_numbered : (k n : ℕ) (terms : List (List TermAt)) (ts : List TermAt) (t : TermAt) → slice_get terms n ≡ Some ts → Has ts t → Has (numbered k terms) (k + n, t)
to_numbered k n [] ts t e h = absurd cc
to_numbered k zero (us ∷ terms) ts t e h =
    let same : us ≡ ts = same_Some us ts e in
    let number : k ≡ k + 0 = omega arith in
    subst (λ m. Has (map (λ (u : TermAt). (k, u)) us ++ numbered (k + 1) terms) (m, t)) number (Has-append_left (map (λ (u : TermAt). (k, u)) us) (numbered (k + 1) terms) (k, t) (Has-map_from (λ (u : TermAt). (k, u)) us t (subst (λ l. Has l t) (sym same) h)))
to_numbered k (suc n) (us ∷ terms) ts t e h =
    let number : (k + 1) + n ≡ k + suc n = omega arith in
    Has-append_right (map (λ (u : TermAt). (k, u)) us) (numbered (k + 1) terms) (k + suc n, t) (subst (λ m. Has (numbered (k + 1) terms) (m, t)) number (to_numbered (k + 1) n terms ts t e h))

from_numbered : (k n : ℕ) (terms : List (List TermAt)) (x : ℕ × TermAt) → Has (numbered k terms) x → x.0 ≡ k + n → (ts : List TermAt) × (slice_get terms n ≡ Some ts) × Has ts x.1
from_numbered k n [] x h e = absurd h
from_numbered k zero (us ∷ terms) x h e = elim (Has-append_cases (map (λ (u : TermAt). (k, u)) us) (numbered (k + 1) terms) x h) [
  | inl l ↦ (let m = Has-map (λ (u : TermAt). (k, u)) us x l in (us, refl, subst (λ (y : ℕ × TermAt). Has us y.1) m.2 m.1))
  | inr r ↦ absurd (let le = numbered_from (k + 1) terms x r in omega (arith, le, e))
] where
  numbered_from : (k : ℕ) (terms : List (List TermAt)) (x : ℕ × TermAt) → Has (numbered k terms) x → k ≤ x.0
  numbered_from k [] x h = absurd h
  numbered_from k (us ∷ terms) x h = elim (Has-append_cases (map (λ (u : TermAt). (k, u)) us) (numbered (k + 1) terms) x h) [
    | inl l ↦ (let m = Has-map (λ (u : TermAt). (k, u)) us x l in let same = ap (λ (y : ℕ × TermAt). y.0) m.2 in omega (arith, same))
    | inr r ↦ (let le = numbered_from (k + 1) terms x r in omega (arith, le))
  ]
from_numbered k (suc n) (us ∷ terms) x h e = elim (Has-append_cases (map (λ (u : TermAt). (k, u)) us) (numbered (k + 1) terms) x h) [
  | inl l ↦ absurd (let m = Has-map (λ (u : TermAt). (k, u)) us x l in let same = ap (λ (y : ℕ × TermAt). y.0) m.2 in omega (arith, same, e))
  | inr r ↦ from_numbered (k + 1) n terms x r (omega (arith, e))
]

-- a rank is below the count of the rows that are stored
within_rows : (p : Parts) (rank : ℕ) (t : TermAt) → AreStored p → slice_get (all_in p) rank ≡ Some t → rank < length p.rows.now
within_rows p rank t are e =
    let lt = slice_get_within (all_in p) rank t e in
    let many = postings-count p.text.now p.rows.now 0 p.entries.now (length p.rows.now) are.chained (omega arith) in
    omega (arith, lt, many)

-- ---- the rows that are kept

module _ (lists : List (List StampedRow)) (are : ArePlaces (map places_of lists)) (posted : List (List TermAt)) (posts : ArePosted lists posted) (as_of : AsOf) (wanted_type : Option ℕ) (text : List ℕ) (groups : List Group) (marks : List (List ℕ)) (splits : List Split) (split_so : AreSplit posted splits)
    (marked : EachMarked splits (map word_key (words text)) marks) (grouped : AreGroups splits wanted_type groups) where
  abbrev test : RowValue → Bool
  test = has_words wanted_type (words text)

  -- the row of a posting
  row_of : (n : ℕ) (ts : List TermAt) (t : TermAt) → slice_get posted n ≡ Some ts → Has ts t → (s : StampedRow) × (item_at lists n t.row ≡ Some s) × IsKeyOf t s.row
  row_of n ts t e h =
      let number : 0 + n ≡ n = omega arith in
      stands posted_words (λ (u : TermAt). u.row) IsKeyOf of_row lists posted posts (n, t) (subst (λ m. Has (numbered 0 posted) (m, t)) number (to_numbered 0 n posted ts t e h))

  -- what is known of a place that is kept
  record IsAnswer (k : Chosen) : Type 0 where
    s : StampedRow
    stands_so : StandsAt lists k.segment k.at s
    active : s.row.active ≡ true
    says : Says wanted_type (words text) k.first s.row.body
    second : k.second ≡ 0
    current : IsCurrentAt lists as_of k.segment k.at

  answer_of : (k : Chosen) → IsOfSome lists as_of groups marks k → IsAnswer k
  answer_of k w =
      let g = w.0 in
      let own = w.2 in
      let i = w.4.0 in
      let hit = hit_marked g own i w.4.1 in
      let rank = hit.0 in
      let sized_in = grouped.only g rank i w.1 hit.1 in
      let parts = sized_in.0 in
      let type_id = sized_in.2.0 in
      let t = keyed i (measure_key g.len type_id) in
      let listed_so = list_of posted splits g.segment parts split_so sized_in.1 in
      let ts = listed_so.0 in
      let row = row_of g.segment ts t listed_so.1 (size_has ts parts listed_so.2 rank t sized_in.2.1) in
      let s = row.0 in
      let m = marked g.segment parts sized_in.1 in
      let same : m.0 ≡ own = same_Some m.0 own (sym m.1 ∙ w.3) in
      let mark = (m.2.marked rank).0 (subst (λ ms. IsMarked ms rank) (sym same) hit.2) in
      let stands_at : StandsAt lists g.segment k.at s = stands_there lists g.segment i s k.at row.1 w.4.2 in
      let segment_is : k.segment ≡ g.segment = ap (λ (j : Chosen). j.segment) w.4.4 in
      let first_is : k.first ≡ g.len = ap (λ (j : Chosen). j.first) w.4.4 in
      record {
        s = s;
        stands_so = subst (λ n. StandsAt lists n k.at s) (sym segment_is) stands_at;
        active = row.2.active;
        says = subst (λ n. Says wanted_type (words text) n s.row.body) (sym first_is) (says_all wanted_type (words text) g.len type_id s.row.body (measured g.len type_id s.row.body row.2.key) sized_in.2.2 (λ word h.
            let begun = begun_row ts parts listed_so.2 rank i (measure_key g.len type_id) (word_key word) sized_in.2.1 (mark.1 (word_key word) (Has-map_from word_key (words text) word h)) in
            let other = row_of g.segment ts begun.0 listed_so.1 begun.1 in
            let one : other.0 ≡ s = same_Some other.0 s (sym other.1 ∙ ap (item_at lists g.segment) begun.2 ∙ row.1) in
            begun_from word begun.0.folded s.row.body (subst (λ (z : StampedRow). Has (keys_of z.row.body) begun.0.folded) one other.2.key) begun.3));
        second = ap (λ (j : Chosen). j.second) w.4.4;
        current = subst (λ n. IsCurrentAt lists as_of n k.at) (sym segment_is) w.4.3;
      }

  -- ---- and where a row that has the words is kept

  abbrev shown : List RowValue
  shown = snapshot (rows_seen as_of lists) as_of.date

  key_posted : (row : RowValue) (i : ℕ) (key : List ℕ) → row.active ≡ true → Has (keys_of row.body) key → Has (posted_words row i) (keyed i key)
  key_posted row i key active h = subst (λ b. Has (if b then map (keyed i) (keys_of row.body) else []) (keyed i key)) (sym active) (Has-map_from (keyed i) (keys_of row.body) key h)

  complete : (row : RowValue) (i : ℕ) → test row ≡ true → (t : TermAt) × Has (posted_words row i) t × (t.row ≡ i)
  complete row i e =
      let w = and_parts row.active (says_words wanted_type (words text) row.body) e in
      let keys = keys_from wanted_type (words text) row.body w.1 in
      let t = keyed i (measure_key (term_length row.body) keys.type_id) in
      (t, key_posted row i (measure_key (term_length row.body) keys.type_id) w.0 keys.measure, refl)

  record IsPlaced (row : RowValue) : Type 0 where
    k : Chosen
    some : IsOfSome lists as_of groups marks k
    s : StampedRow
    stands_so : StandsAt lists k.segment k.at s
    current : IsCurrentAt lists as_of k.segment k.at
    key_is : k.at.key ≡ key_of row
    row_is : row ≡ s.row
    len_is : k.first ≡ term_length row.body
    kind : kind_of row ≡ kinds.Description

  placed : (row : RowValue) → Has shown row → test row ≡ true → IsPlaced row
  placed row h e =
      let both = and_parts row.active (says_words wanted_type (words text) row.body) e in
      let keys = keys_from wanted_type (words text) row.body both.1 in
      let p = posted_as posted_words (λ (t : TermAt). t.row) test complete lists posted as_of posts row h e in
      let n = p.x.0 in
      let i = p.x.1.row in
      let s = p.s in
      let active : s.row.active ≡ true = ap (λ (z : RowValue). z.active) p.same ∙ both.0 in
      -- each key of the row is posted with its number
      let number : n ≡ 0 + n = omega arith in
      let key_there : (key : List ℕ) → Has (keys_of row.body) key → (ts : List TermAt) × (slice_get posted n ≡ Some ts) × Has ts (keyed i key) =
      λ key k. from_numbered 0 n posted (n, keyed i key) (posting_there posted_words lists posted posts n i s p.row_there (keyed i key) (key_posted s.row i key active (subst (λ (z : RowValue). Has (keys_of z.body) key) (sym p.same) k))) number in
      let size_is = measure_key (term_length row.body) keys.type_id in
      let own = key_there size_is keys.measure in
      let ts = own.0 in
      let parts = split_of posted splits n ts split_so own.1 in
      let is = parts.2 in
      let sized_at = sized_rank ts parts.0 is i (term_length row.body) keys.type_id own.2 in
      let rank = sized_at.0 in
      let g = grouped.all n (term_length row.body) rank i (parts.0, parts.1, (keys.type_id, sized_at.1, keys.of_type)) in
      let at = place_of_row lists n i s p.row_there in
      let m = marked n parts.0 parts.1 in
      let source = rows_at_number lists posted n ts posts own.1 in
      let within : rank < length parts.0.sizes.rows.now = within_rows parts.0.sizes rank (keyed i size_is) is.sizes_are sized_at.1 in
      let mark : IsMarked m.0 rank = (m.2.marked rank).1 (
        within,
        λ prefix k.
            let word = Has-map word_key (words text) prefix k in
            let begun = keys.begun word.0 word.1 in
            let there = key_there begun.0 begun.1 in
            let same : there.0 ≡ ts = same_Some there.0 ts (sym there.1 ∙ own.1) in
            let found = word_rank ts parts.0 is i word.0 begun.0 (subst (λ us. Has us (keyed i begun.0)) same there.2) begun.2 in
            let one : found.0 ≡ rank = one_rank i source.0 ts parts.0 found.0 rank found.1 (keyed i size_is) source.1 is found.2 sized_at.1 found.3 refl in
            subst (λ q. IsBegun (all_in parts.0.words) q rank) word.2 (subst (IsBegun (all_in parts.0.words) (word_key word.0)) one found.4),
      ) in
      let stands_at : StandsAt lists n at.0 s = stands_there lists n i s at.0 p.row_there at.1 in
      let key_is : at.0.key ≡ key_of row = (standing_row lists are n at.0 s stands_at).1 ∙ ap key_of p.same in
      let now = current_where lists are as_of n at.0 s row stands_at h key_is in
      let segment_is = g.2 in
      let k = sized g.0.segment g.0.len at.0 in
      record {
        k = k;
        some = (
          g.0,
          g.1,
          m.0,
          ap (slice_get marks) segment_is ∙ m.1,
          (i, marked_hit g.0 m.0 rank i g.4 mark, subst (λ n. IsPlaceOfRow lists n i at.0) (sym segment_is) at.1, subst (λ n. IsCurrentAt lists as_of n at.0) (sym segment_is) now.1, refl),
        );
        s = s;
        stands_so = subst (λ n. StandsAt lists n at.0 s) (sym segment_is) stands_at;
        current = subst (λ n. IsCurrentAt lists as_of n at.0) (sym segment_is) now.1;
        key_is = key_is;
        row_is = now.0;
        len_is = g.3;
        kind = keys.kind;
      }

  -- ---- both together

  module _ (count : ℕ) (kept : List Chosen) (a : AreShortest lists as_of groups marks count kept) where
    each_current : AllCurrent lists as_of kept
    each_current k h = (answer_of k (a.only k h)).current

    abbrev found_rows : List RowValue
    found_rows = map (λ (s : StampedRow). s.row) (rows_for lists as_of kept each_current)

    -- what is known of the row that stands at a kept place
    at_kept : (k : Chosen) (s : StampedRow) → Has kept k → StandsAt lists k.segment k.at s → (s.row.active ≡ true) × Says wanted_type (words text) k.first s.row.body × (k.second ≡ 0) × (k.at.key.id ≡ s.row.id) × (k.at.key.kind ≡ kind_of s.row)
    at_kept k s h w =
        let x = answer_of k (a.only k h) in
        let same : x.s ≡ s = one_row lists are k.segment k.segment k.at k.at x.s s x.stands_so w refl in
        let key = (standing_row lists are k.segment k.at s w).1 in (
          subst (λ (z : StampedRow). z.row.active ≡ true) same x.active,
          subst (λ (z : StampedRow). Says wanted_type (words text) k.first z.row.body) same x.says,
          x.second,
          ap (λ (y : Key). y.id) key,
          ap (λ (y : Key). y.kind) key,
        )

    rows_ascend : IsAscending shortest_cmp found_rows
    rows_ascend = ascending_rows_for lists as_of shortest_cmp ranked_cmp kept each_current
        (λ j k s t g h v w less.
        let x = at_kept j s g v in
        let y = at_kept k t h w in
        (λ i. ordering_then (nat_cmp (x.1.len_is i) (y.1.len_is i)) (ordering_then (nat_cmp (sym x.2 i) (sym y.2 i)) (nat_cmp (sym x.3 i) (sym y.3 i)))) ∙ less)
        a.ascending

    abbrev filtered : List RowValue
    filtered = filter test shown

    abbrev wanted_rows : List RowValue
    wanted_rows = in_order shortest_cmp filtered

    up : IsAscending row_cmp (rows_seen as_of lists)
    up = IsAscending-rows_at as_of.pin (listed lists) (IsAscending-listed lists)

    kind_from : (row : RowValue) → test row ≡ true → kind_of row ≡ kinds.Description
    kind_from row e = (keys_from wanted_type (words text) row.body (and_parts row.active (says_words wanted_type (words text) row.body) e).1).kind

    in_wanted : (row : RowValue) → Has filtered row → Has wanted_rows row
    in_wanted row h = Has-put_all_new shortest_cmp filtered [] row (λ y there tie. elim there [
      | inl k ↦ (
          let f = Has-filter test shown row h in
          let g = Has-filter test shown y k in
          sym (one_row_of_a_component (rows_seen as_of lists) as_of.date row y up f.0 g.0 (kind_from row f.1 ∙ sym (kind_from y g.1)) (tied_id row y tie)))
      | inr none ↦ absurd none
    ]) h

    to_wanted : (row : RowValue) → Has found_rows row → Has wanted_rows row
    to_wanted row h =
        let r = row_for lists as_of kept each_current row h in
        let x = at_kept r.k r.s r.there r.stands in
        let passes : test r.s.row ≡ true = rw (x.0, x.1.says) refl in
        subst (λ z. Has wanted_rows z) r.row_is
        (in_wanted r.s.row (Has-filter_from test shown r.s.row (looked_up r.k.at.key.kind r.k.at.key.id as_of.date (rows_seen as_of lists) r.s.row r.found) passes))

    from_wanted : (row : RowValue) → Has wanted_rows row → Has found_rows row ⊎ ((count ≤ length found_rows) × ((y : RowValue) → Has found_rows y → shortest_cmp y row ≡ Less))
    from_wanted row h =
        let f = Has-filter test shown row (elim (Has-put_all_cases shortest_cmp filtered [] row h) [ inl k ↦ k | inr none ↦ absurd none ]) in
        let p = placed row f.0 f.1 in
        elim (a.all p.k p.some) [
          | inl there ↦ inl (
              let j = there.0 in
              let w = for_row lists as_of kept each_current j there.1 in
              let x = at_kept j w.0 there.1 w.1 in
              let ids : p.k.at.key.id ≡ j.at.key.id = number_ranked p.k.at.key.id j.at.key.id Equal (sym (both_equal (nat_cmp p.k.second j.second) (nat_cmp p.k.at.key.id j.at.key.id) (both_equal (nat_cmp p.k.first j.first) (ordering_then (nat_cmp p.k.second j.second) (nat_cmp p.k.at.key.id j.at.key.id)) there.2).1).1) in
              let kinds_are : j.at.key.kind ≡ p.k.at.key.kind = x.4 ∙ x.1.kind ∙ sym p.kind ∙ ap (λ (y : Key). y.kind) (sym p.key_is) in
              let both_found = sym w.2 ∙ (λ i. get (kinds_are i) (sym ids i) as_of.date (rows_seen as_of lists)) ∙ p.current.2 in
              let one : w.0.row ≡ p.current.0.row = same_Some w.0.row p.current.0.row both_found in
              let same : w.0.row ≡ row = one ∙ ap (λ (z : StampedRow). z.row) (one_row lists are p.k.segment p.k.segment p.k.at p.k.at p.current.0 p.s p.current.1 p.stands_so refl) ∙ sym p.row_is in
              subst (λ z. Has found_rows z) same w.3)
          | inr longer ↦ inr (
            (let e = length-rows_for lists as_of kept each_current in let le = longer.0 in omega arith),
            λ y there.
                let r = row_for lists as_of kept each_current y there in
                let x = at_kept r.k r.s r.there r.stands in
                let lt : term_length r.s.row.body < term_length row.body = (let low = longer.1 r.k r.there in let own = x.1.len_is in let other = p.len_is in omega (arith, low, own, other)) in
                subst (λ z. shortest_cmp z row ≡ Less) r.row_is (ap (λ o. ordering_then o (nat_cmp r.s.row.id row.id)) (less_from_below (term_length r.s.row.body) (term_length row.body) lt)),
          )
        ]

    pub rows_from_kept : (offset limit : ℕ) → count ≡ offset + limit → (rows : List StampedRow) × StandAtAll lists (take limit (drop offset kept)) rows × (map (λ (s : StampedRow). s.row) rows ≡ some_words_found as_of.date wanted_type text offset limit (rows_seen as_of lists))
    unfolding words_found some_words_found
    rows_from_kept offset limit e =
        let all = rows_for lists as_of kept each_current in
        let first = first_of_more shortest_total count found_rows wanted_rows rows_ascend (IsAscending-in_order shortest_total filtered) to_wanted from_wanted in (
          take limit (drop offset all),
          stand-take lists limit (drop offset kept) (drop offset all) (stand-drop lists offset kept all (stand_for lists as_of kept each_current)),
          map-take limit (drop offset all) ∙ ap (take limit) (map-drop offset all) ∙ same_part offset limit found_rows wanted_rows (ap (λ n. take n found_rows) (sym e) ∙ first ∙ ap (λ n. take n wanted_rows) e),
        )
