-- The rows of the places that are kept are the terms that are asked for.
use Rattle.std.proofs.Common.{◌≡◌, ◌⊎◌, ℕ, zero, suc, ◌+◌, ◌<◌, ◌≤◌, true, List, [], ◌∷◌, ◌++◌, length, get_or, take, map, refl, sym, ap, subst, inl, inr, ◌∙◌, arith, append-nil, append_assoc}
use Rattle.std.specs.Prelude.{nat_eq, Some, chars, encode_utf8_all, flat_map}
use Rattle.caseless.specs.Caseless.{default_case_fold}
use Rattle.std.specs.List.{filter, starts_with}
use Rattle.std.specs.Ordering.{nat_cmp, ordering_then}
use Rattle.std.specs.Cmp.{nat_cmp_total, ranked, tied_itself}
use Rattle.std.specs.declared.cmp.Ordering.TheVariants.{Less, Equal}
use Rattle.std.proofs.lemmas.List.{take_more}
use Rattle.std.proofs.lemmas.Bool.{and_parts}
use Rattle.list_lemmas.proofs.Tests.{less_from_below}
use Rattle.list_lemmas.proofs.Parts.{taken_before}
use Rattle.rf2_values.specs.declared.row.Kind.TheVariants as kinds
use Rattle.rf2_values.specs.declared.row.Body.{Body}
use Rattle.rf2_values.specs.declared.row.Body.TheVariants as body
use Rattle.rf2_values.specs.declared.key.Key.{Key}
use Rattle.rf2_values.specs.Row.{RowValue, kind_of, kind_of_body}
use Rattle.rf2_values.specs.Key.{kind_place, key_of}
use Rattle.history_model.specs.declared.stamped.StampedRow.{StampedRow}
use Rattle.history_model.specs.InOrder.{Has, IsAscending}
use Rattle.history_model.specs.History.{row_cmp}
use Rattle.history_model.specs.Queries.{get, snapshot, is_above, is_term, is_term_above, begins_with, folded, terms_above, search_terms}
use Rattle.history_model.proofs.InOrder.{Has-append_left, Has-append_right, Has-append_cases}
use Rattle.history_model.proofs.Filtered.{Has-filter, Has-filter_from, Has-map, Has-map_from, IsAscending-filter}
use Rattle.history_model.proofs.Keys.{rows_total}
use Rattle.history_model.proofs.Items.{Has-flat_map, Has-flat_map_from}
use Rattle.segment.specs.declared.place.RowPlace.{RowPlace}
use Rattle.as_of_index.specs.declared.chosen.Chosen.{Chosen}
use Rattle.term_prefix.specs.declared.search.Search.{Search}
use Rattle.term_prefix.specs.declared.text.Term.{Term}
use Rattle.segment.specs.Standing.{places_of, StandsAt}
use Rattle.as_of_index.specs.Places.{ArePlaces}
use Rattle.segment.proofs.Posting.{says}
use Rattle.as_of_index.specs.Chosen.{StandAtAll}
use Rattle.as_of_index.specs.Private.Chosen.{chosen, chosen_cmp}
use Rattle.as_of_index.specs.Places.{item_at}
use Rattle.as_of_index.specs.Current.{rows_seen, IsPlaceOfRow}
use Rattle.as_of_index.specs.Private.Postings.{numbered}
use Rattle.term_prefix.specs.Terms.{TermAt}
use Rattle.term_prefix.specs.Pushed.{ArePosted}
use Rattle.term_prefix.specs.Private.{begins, begun, chosen_at, AreOfDescriptions, AreKept}
use Rattle.term_prefix.proofs.Posted.{HasFolded, IsTermOf, term_stands, term_of_description}
use Rattle.as_of_index.proofs.Numbered.{stands_there, place_of_row, Has-option, Has-option_from}
use Rattle.as_of_index.proofs.Among.{looked_up}
use Rattle.as_of_index.proofs.First.{same_first}
use Rattle.as_of_index.proofs.Current.{standing_row, one_row, shown_ascends, current_where, AllCurrent, rows_for, stand_for, length-rows_for, row_for, for_row, ascending_rows_for}

abbrev in_list : ℕ → List TermAt → List (ℕ × TermAt)
in_list n ts = map (λ (t : TermAt). (n, t)) ts

one_of : (n : ℕ) (ts : List TermAt) (x : ℕ × TermAt) → Has (in_list n ts) x → (t : TermAt) × Has ts t × (x ≡ (n, t))
one_of n ts x h = let m = Has-map (λ (t : TermAt). (n, t)) ts x h in (m.0, m.1, sym m.2)

terms-push : (n : ℕ) (terms : List (List TermAt)) (ts : List TermAt) → numbered n (terms ++ ts ∷ []) ≡ numbered n terms ++ in_list (n + length terms) ts
terms-push n [] ts = append-nil (in_list n ts) ∙ ap (λ k. in_list k ts) (omega arith)
terms-push n (us ∷ terms) ts =
    ap (λ xs. in_list n us ++ xs) (terms-push (n + 1) terms ts ∙ ap (λ k. numbered (n + 1) terms ++ in_list k ts) (omega arith))
    ∙ sym (append_assoc (in_list n us) (numbered (n + 1) terms) (in_list (n + length (us ∷ terms)) ts))

pub terms-more : (terms : List (List TermAt)) (i : ℕ) (ts : List TermAt) → i < length terms → ts ≡ get_or terms i ts → numbered 0 (take (i + 1) terms) ≡ numbered 0 (take i terms) ++ in_list i ts
terms-more terms i ts lt is =
    ap (numbered 0) (take_more terms i ts lt ∙ ap (λ x. take i terms ++ x ∷ []) (sym is))
    ∙ terms-push 0 (take i terms) ts
    ∙ ap (λ k. numbered 0 (take i terms) ++ in_list k ts) (taken_before terms i lt)

-- ---- one list more

module _ (lists : List (List StampedRow)) (text : List ℕ) where
  -- a term that begins so, and the place of its row
  record IsBegun (xs : List (ℕ × TermAt)) (k : Chosen) : Type 0 where
    x : ℕ × TermAt
    there : Has xs x
    begins_so : begins text x.1 ≡ true
    at : RowPlace
    place_is : IsPlaceOfRow lists x.0 x.1.row at
    chosen_is : chosen x.0 at ≡ k

  begun-at : (xs : List (ℕ × TermAt)) (x : ℕ × TermAt) (at : RowPlace) → Has xs x → begins text x.1 ≡ true → IsPlaceOfRow lists x.0 x.1.row at → Has (begun lists text xs) (chosen x.0 at)
  begun-at xs x at h e place =
      Has-flat_map_from (λ (x : ℕ × TermAt). chosen_at lists x.0 x.1.row) (filter (λ (x : ℕ × TermAt). begins text x.1) xs) x (chosen x.0 at) (Has-filter_from (λ (x : ℕ × TermAt). begins text x.1) xs x h e)
      (Has-option_from (chosen x.0) (item_at (map places_of lists) x.0 x.1.row) at place)

  begun-cases : (xs : List (ℕ × TermAt)) (k : Chosen) → Has (begun lists text xs) k → IsBegun xs k
  begun-cases xs k h =
      let m = Has-flat_map (λ (x : ℕ × TermAt). chosen_at lists x.0 x.1.row) (filter (λ (x : ℕ × TermAt). begins text x.1) xs) k h in
      let f = Has-filter (λ (x : ℕ × TermAt). begins text x.1) xs m.0 m.1 in
      let o = Has-option (chosen m.0.0) (item_at (map places_of lists) m.0.0 m.0.1.row) k m.2 in
      record { x = m.0; there = f.0; begins_so = f.1; at = o.0; place_is = o.1; chosen_is = o.2 }

  -- those of a list, by the numbers of their rows
  abbrev numbers : List TermAt → List ℕ
  numbers ts = map (λ (t : TermAt). t.row) (filter (begins text) ts)

  from_numbers : (n : ℕ) (ts : List TermAt) (i : ℕ) (at : RowPlace) → Has (numbers ts) i → IsPlaceOfRow lists n i at → Has (begun lists text (in_list n ts)) (chosen n at)
  from_numbers n ts i at h place =
      let m = Has-map (λ (t : TermAt). t.row) (filter (begins text) ts) i h in
      let f = Has-filter (begins text) ts m.0 m.1 in
      begun-at (in_list n ts) (n, m.0) at (Has-map_from (λ (t : TermAt). (n, t)) ts m.0 f.0) f.1 (subst (λ j. IsPlaceOfRow lists n j at) (sym m.2) place)

  to_numbers : (n : ℕ) (ts : List TermAt) (k : Chosen) → Has (begun lists text (in_list n ts)) k → (i : ℕ) × (at : RowPlace) × Has (numbers ts) i × IsPlaceOfRow lists n i at × (chosen n at ≡ k)
  to_numbers n ts k h =
      let c = begun-cases (in_list n ts) k h in
      let m = one_of n ts c.x c.there in
      let t_is = ap (λ (y : ℕ × TermAt). y.1) m.2 in
      let n_is = ap (λ (y : ℕ × TermAt). y.0) m.2 in (
        m.0.row,
        c.at,
        Has-map_from (λ (t : TermAt). t.row) (filter (begins text) ts) m.0 (Has-filter_from (begins text) ts m.0 m.1 (subst (λ (t : TermAt). begins text t ≡ true) t_is c.begins_so)),
        subst (λ (y : ℕ × TermAt). IsPlaceOfRow lists y.0 y.1.row c.at) m.2 c.place_is,
        ap (λ j. chosen j c.at) (sym n_is) ∙ c.chosen_is,
      )

  pub begun_more : (xs : List (ℕ × TermAt)) (n : ℕ) (ts : List TermAt) (those : List Term)
      → ((i : ℕ) → (Has (map (λ (t : Term). t.row) those) i → Has (map (λ (t : TermAt). t.row) (filter (begins text) ts)) i) × (Has (map (λ (t : TermAt). t.row) (filter (begins text) ts)) i → Has (map (λ (t : Term). t.row) those) i))
      → (k : Chosen) → (Has (begun lists text xs ++ flat_map (λ (t : Term). chosen_at lists n t.row) those) k → Has (begun lists text (xs ++ in_list n ts)) k) × (Has (begun lists text (xs ++ in_list n ts)) k → Has (begun lists text xs ++ flat_map (λ (t : Term). chosen_at lists n t.row) those) k)
  begun_more xs n ts those which k = (
    λ h. elim (Has-append_cases (begun lists text xs) (flat_map (λ (t : Term). chosen_at lists n t.row) those) k h) [
      | inl l ↦ (let c = begun-cases xs k l in subst (λ j. Has (begun lists text (xs ++ in_list n ts)) j) c.chosen_is (begun-at (xs ++ in_list n ts) c.x c.at (Has-append_left xs (in_list n ts) c.x c.there) c.begins_so c.place_is))
      | inr r ↦ (
          let m = Has-flat_map (λ (t : Term). chosen_at lists n t.row) those k r in
          let o = Has-option (chosen n) (item_at (map places_of lists) n m.0.row) k m.2 in
          let c = begun-cases (in_list n ts) (chosen n o.0) (from_numbers n ts m.0.row o.0 ((which m.0.row).0 (Has-map_from (λ (t : Term). t.row) those m.0 m.1)) o.1) in
          subst (λ j. Has (begun lists text (xs ++ in_list n ts)) j) (c.chosen_is ∙ o.2) (begun-at (xs ++ in_list n ts) c.x c.at (Has-append_right xs (in_list n ts) c.x c.there) c.begins_so c.place_is))
    ],
    λ h.
        let c = begun-cases (xs ++ in_list n ts) k h in
        elim (Has-append_cases xs (in_list n ts) c.x c.there) [
          | inl l ↦ Has-append_left (begun lists text xs) (flat_map (λ (t : Term). chosen_at lists n t.row) those) k (subst (λ j. Has (begun lists text xs) j) c.chosen_is (begun-at xs c.x c.at l c.begins_so c.place_is))
          | inr r ↦ (
              let m = to_numbers n ts k (subst (λ j. Has (begun lists text (in_list n ts)) j) c.chosen_is (begun-at (in_list n ts) c.x c.at r c.begins_so c.place_is)) in
              let t = Has-map (λ (t : Term). t.row) those m.0 ((which m.0).1 m.2) in
              let place = subst (λ i. IsPlaceOfRow lists n i m.1) (sym t.2) m.3 in
              Has-append_right (begun lists text xs) (flat_map (λ (t : Term). chosen_at lists n t.row) those) k (subst (λ j. Has (flat_map (λ (t : Term). chosen_at lists n t.row) those) j) m.4
              (Has-flat_map_from (λ (t : Term). chosen_at lists n t.row) those t.0 (chosen n m.1) t.1 (Has-option_from (chosen n) (item_at (map places_of lists) n t.0.row) m.1 place))))
        ],
  )

pub is_folded : (prefix text : List ℕ) → text ≡ encode_utf8_all (default_case_fold (chars prefix)) → text ≡ folded prefix
unfolding folded
is_folded prefix text e = e

-- ---- a term and its row

begins_from : (prefix text : List ℕ) (b : Body) → HasFolded text b → starts_with nat_eq text (folded prefix) ≡ true → begins_with prefix b ≡ true
begins_from prefix text (body.Concept c) h e = absurd h
begins_from prefix text (body.Description d) h e = subst (λ t. starts_with nat_eq t (folded prefix) ≡ true) (sym h) e
begins_from prefix text (body.Relationship r) h e = absurd h
begins_from prefix text (body.Association a) h e = absurd h
begins_from prefix text (body.Concrete c) h e = absurd h
begins_from prefix text (body.Member m) h e = absurd h

begins_to : (prefix text : List ℕ) (b : Body) → HasFolded text b → begins_with prefix b ≡ true → starts_with nat_eq text (folded prefix) ≡ true
begins_to prefix text (body.Concept c) h e = absurd h
begins_to prefix text (body.Description d) h e = subst (λ t. starts_with nat_eq t (folded prefix) ≡ true) h e
begins_to prefix text (body.Relationship r) h e = absurd h
begins_to prefix text (body.Association a) h e = absurd h
begins_to prefix text (body.Concrete c) h e = absurd h
begins_to prefix text (body.Member m) h e = absurd h

described : (text : List ℕ) (row : RowValue) (b : Body) → row.body ≡ b → HasFolded text b → kind_of row ≡ kinds.Description
described text row (body.Concept c) e h = absurd h
described text row (body.Description d) e h = ap (λ (x : Body). kind_of_body x) e
described text row (body.Relationship r) e h = absurd h
described text row (body.Association a) e h = absurd h
described text row (body.Concrete c) e h = absurd h
described text row (body.Member m) e h = absurd h

has_numbered : (k n : ℕ) (terms : List (List TermAt)) (ts : List TermAt) (t : TermAt) → n < length terms → ts ≡ get_or terms n ts → Has ts t → Has (numbered k terms) (k + n, t)
has_numbered k n [] ts t lt is h = absurd (omega arith)
has_numbered k zero (us ∷ terms) ts t lt is h =
    let number : k ≡ k + 0 = omega arith in
    subst (λ m. Has (in_list k us ++ numbered (k + 1) terms) (m, t)) number (Has-append_left (in_list k us) (numbered (k + 1) terms) (k, t) (Has-map_from (λ (u : TermAt). (k, u)) us t (subst (λ l. Has l t) is h)))
has_numbered k (suc n) (us ∷ terms) ts t lt is h =
    let number : (k + 1) + n ≡ k + suc n = omega arith in
    Has-append_right (in_list k us) (numbered (k + 1) terms) (k + suc n, t) (subst (λ m. Has (numbered (k + 1) terms) (m, t)) number (has_numbered (k + 1) n terms ts t (omega arith) is h))

-- the terms of a list that begin so are of descriptions
pub described_those : (lists : List (List StampedRow)) (terms : List (List TermAt)) → ArePosted lists terms → (n : ℕ) (ts : List TermAt) → n < length terms → ts ≡ get_or terms n ts → (text : List ℕ) (those : List Term)
    → ((i : ℕ) → (Has (map (λ (t : Term). t.row) those) i → Has (map (λ (t : TermAt). t.row) (filter (begins text) ts)) i) × (Has (map (λ (t : TermAt). t.row) (filter (begins text) ts)) i → Has (map (λ (t : Term). t.row) those) i))
    → AreOfDescriptions lists n those
described_those lists terms posts n ts lt is text those which t h at place =
    let m = Has-map (λ (u : TermAt). u.row) (filter (begins text) ts) t.row ((which t.row).0 (Has-map_from (λ (u : Term). u.row) those t h)) in
    let number : 0 + n ≡ n = omega arith in
    let there = subst (λ k. Has (numbered 0 terms) (k, m.0)) number (has_numbered 0 n terms ts m.0 lt is (Has-filter (begins text) ts m.0 m.1).0) in
    let p = term_stands lists terms posts (n, m.0) there in
    let stands = stands_there lists n t.row p.0 at (subst (λ i. item_at lists n i ≡ Some p.0) m.2 p.1) place in
    ap (λ (k : Key). k.kind) (says 0 stands.rows (p.0, at) stands.there).key_is ∙ described m.0.folded p.0.row p.0.row.body refl p.2.folded_is

-- a lower id comes first among descriptions
first_id : (a b : RowValue) → kind_of a ≡ kinds.Description → kind_of b ≡ kinds.Description → a.id < b.id → row_cmp a b ≡ Less
first_id a b e f lt =
    ap (λ r. ordering_then r (ordering_then (nat_cmp a.id b.id) (nat_cmp a.time b.time))) (subst (λ k. nat_cmp (kind_place (kind_of a)) (kind_place k) ≡ Equal) (e ∙ sym f) (tied_itself nat_cmp_total (kind_place (kind_of a))))
    ∙ ap (λ r. ordering_then r (nat_cmp a.time b.time)) (less_from_below a.id b.id lt)

module _ (lists : List (List StampedRow)) (are : ArePlaces (map places_of lists)) (terms : List (List TermAt)) (posts : ArePosted lists terms) (prefix : List ℕ) (search : Search) where
  -- what is posted of a place that begins so
  record IsPosted (k : Chosen) : Type 0 where
    x : ℕ × TermAt
    there : Has (numbered 0 terms) x
    begins_so : begins (folded prefix) x.1 ≡ true
    s : StampedRow
    row_is : item_at lists x.0 x.1.row ≡ Some s
    stands : StandsAt lists k.segment k.at s
    says : IsTermOf x.1 s.row

  posted_of : (k : Chosen) → Has (begun lists (folded prefix) (numbered 0 terms)) k → IsPosted k
  posted_of k h =
      let c = begun-cases lists (folded prefix) (numbered 0 terms) k h in
      let p = term_stands lists terms posts c.x c.there in
      record {
        x = c.x;
        there = c.there;
        begins_so = c.begins_so;
        s = p.0;
        row_is = p.1;
        stands = subst (λ (j : Chosen). StandsAt lists j.segment j.at p.0) c.chosen_is (stands_there lists c.x.0 c.x.1.row p.0 c.at p.1 c.place_is);
        says = p.2;
      }

  module _ (kept : List Chosen) (a : AreKept lists search (begun lists (folded prefix) (numbered 0 terms)) kept) where
    each_current : AllCurrent lists search.as_of kept
    each_current k h = (a.only k h).1.current

    -- the row of a place that is kept
    kept_kind : (k : Chosen) (s : StampedRow) → Has kept k → StandsAt lists k.segment k.at s → kind_of s.row ≡ kinds.Description
    kept_kind k s h w =
        let p = posted_of k (a.only k h).0 in
        let same = one_row lists are k.segment k.segment k.at k.at p.s s p.stands w refl in
        ap (λ (z : StampedRow). kind_of z.row) (sym same) ∙ described p.x.1.folded p.s.row p.s.row.body refl p.says.folded_is

    id_at : (n : ℕ) (p : RowPlace) (s : StampedRow) → StandsAt lists n p s → p.key.id ≡ s.row.id
    id_at n p s w = ap (λ (k : Key). k.id) (standing_row lists are n p s w).1

    abbrev found_rows : List RowValue
    found_rows = map (λ (s : StampedRow). s.row) (rows_for lists search.as_of kept each_current)

    rows_ascend : IsAscending row_cmp found_rows
    rows_ascend = ascending_rows_for lists search.as_of row_cmp chosen_cmp kept each_current
        (λ j k s t g h v w less.
        let low = ranked j.at.key.id k.at.key.id Less (sym less) in
        let m = id_at j.segment j.at s v in
        let n = id_at k.segment k.at t w in
        first_id s.row t.row (kept_kind j s g v) (kept_kind k t h w) (omega arith))
        a.ascending

    abbrev wanted : List RowValue
    wanted = filter (is_term_above prefix search.after) (snapshot (rows_seen search.as_of lists) search.as_of.date)

    to_wanted : (row : RowValue) → Has found_rows row → Has wanted row
    to_wanted row h =
        let r = row_for lists search.as_of kept each_current row h in
        let p = posted_of r.k (a.only r.k r.there).0 in
        let same : p.s ≡ r.s = one_row lists are r.k.segment r.k.segment r.k.at r.k.at p.s r.s p.stands r.stands refl in
        let active : r.s.row.active ≡ true = subst (λ (z : StampedRow). z.row.active ≡ true) same p.says.active in
        let begins_so : begins_with prefix r.s.row.body ≡ true = subst (λ (z : StampedRow). begins_with prefix z.row.body ≡ true) same (begins_from prefix p.x.1.folded p.s.row.body p.says.folded_is p.begins_so) in
        let above : is_above search.after r.s.row.id ≡ true = subst (λ id. is_above search.after id ≡ true) (id_at r.k.segment r.k.at r.s r.stands) (a.only r.k r.there).1.above in
        subst (λ z. Has wanted z) r.row_is
        (Has-filter_from (is_term_above prefix search.after) (snapshot (rows_seen search.as_of lists) search.as_of.date) r.s.row (looked_up r.k.at.key.kind r.k.at.key.id search.as_of.date (rows_seen search.as_of lists) r.s.row r.found) (rw (active, begins_so, above) refl))

    from_wanted : (row : RowValue) → Has wanted row → Has found_rows row ⊎ ((search.limit ≤ length found_rows) × ((y : RowValue) → Has found_rows y → row_cmp y row ≡ Less))
    from_wanted row h =
        let f = Has-filter (is_term_above prefix search.after) (snapshot (rows_seen search.as_of lists) search.as_of.date) row h in
        let u = and_parts (is_term prefix row) (is_above search.after row.id) f.1 in
        let g = term_of_description lists terms posts prefix search.as_of search.after row f.0 f.1 in
        let n = g.x.0 in
        let term = g.x.1 in
        let post = term_stands lists terms posts g.x g.there in
        let own : g.s ≡ post.0 = (let rows_are = sym g.row_there ∙ post.1 in cc) in
        let p = place_of_row lists n term.row post.0 post.1 in
        let at = p.0 in
        let stands = stands_there lists n term.row post.0 at post.1 p.1 in
        let key_is : at.key ≡ key_of row = (standing_row lists are n at post.0 stands).1 ∙ ap (λ (z : StampedRow). key_of z.row) (sym own) ∙ ap key_of g.same in
        let now = current_where lists are search.as_of n at post.0 row stands f.0 key_is in
        let body_begins = (and_parts row.active (begins_with prefix row.body) u.0).1 in
        let begins_so : begins (folded prefix) term ≡ true = begins_to prefix term.folded post.0.row.body post.2.folded_is (subst (λ (z : RowValue). begins_with prefix z.body ≡ true) now.0 body_begins) in
        let kind : kind_of row ≡ kinds.Description = ap kind_of now.0 ∙ described term.folded post.0.row post.0.row.body refl post.2.folded_is in
        let id_is : at.key.id ≡ row.id = ap (λ (k : Key). k.id) key_is in
        elim (a.all (chosen n at) (begun-at lists (folded prefix) (numbered 0 terms) g.x at g.there begins_so p.1) (record { above = subst (λ id. is_above search.after id ≡ true) (sym id_is) u.1; current = now.1 })) [
          | inl j ↦ inl (
              let w = for_row lists search.as_of kept each_current j.0 j.1 in
              let keys = (standing_row lists are j.0.segment j.0.at w.0 w.1).1 in
              let kinds_are : j.0.at.key.kind ≡ at.key.kind = ap (λ (k : Key). k.kind) keys ∙ kept_kind j.0 w.0 j.1 w.1 ∙ sym kind ∙ ap (λ (k : Key). k.kind) (sym key_is) in
              let both_found = sym w.2 ∙ (λ i. get (kinds_are i) (j.2 i) search.as_of.date (rows_seen search.as_of lists)) ∙ now.1.2 in
              let one : w.0.row ≡ now.1.0.row = cc in
              let same : w.0.row ≡ row = one ∙ ap (λ (z : StampedRow). z.row) (one_row lists are n n at at now.1.0 post.0 now.1.1 stands refl) ∙ sym now.0 in
              subst (λ z. Has found_rows z) same w.3)
          | inr b ↦ inr (
            (let e = length-rows_for lists search.as_of kept each_current in let le = b.0 in omega arith),
            λ y there.
                let r = row_for lists search.as_of kept each_current y there in
                let low = b.1 r.k r.there in
                let m = id_at r.k.segment r.k.at r.s r.stands in
                subst (λ z. row_cmp z row ≡ Less) r.row_is (first_id r.s.row row (kept_kind r.k r.s r.there r.stands) kind (omega arith)),
          )
        ]

    pub terms_from_kept : (rows : List StampedRow) × StandAtAll lists kept rows × (map (λ (s : StampedRow). s.row) rows ≡ search_terms prefix search.as_of.date search.after search.limit (rows_seen search.as_of lists))
    unfolding search_terms terms_above
    terms_from_kept = (
      rows_for lists search.as_of kept each_current,
      stand_for lists search.as_of kept each_current,
      same_first rows_total search.limit found_rows wanted rows_ascend (IsAscending-filter (is_term_above prefix search.after) row_cmp (snapshot (rows_seen search.as_of lists) search.as_of.date) (shown_ascends lists are search.as_of))
          (let e = length-rows_for lists search.as_of kept each_current in let le = a.few in omega arith) to_wanted from_wanted,
    )
