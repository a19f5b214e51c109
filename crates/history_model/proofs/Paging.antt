-- Pages, and searches, one after the other.
use Rattle.std.proofs.Common.{◌≡◌, ◌↔◌, ℕ, zero, suc, ◌<◌, ◌≤◌, List, [], ◌∷◌, ◌++◌, length, take, refl, sym, ap, subst, inl, inr, ◌∙◌, arith, take_all, length-append}
use Rattle.std.specs.Prelude.{Option, Some, None}
use Rattle.std.specs.List.{filter}
use Rattle.std.proofs.lemmas.List.Elements.{filter_agree}
use Rattle.list_lemmas.proofs.Kept.{kept_at_most}
use Rattle.rf2_values.specs.Row.{RowValue}
use Rattle.history_model.specs.InOrder.{Has, IsAscending, joined}
use Rattle.history_model.specs.History.{row_cmp}
use Rattle.history_model.specs.Queries.{page, is_term, is_term_above, is_current, snapshot, terms, terms_above, search_terms}
use Rattle.history_model.specs.Laws.{last_by, AreInTurn}
use Rattle.history_model.specs.Laws.{SearchFromTheFirst}
use Rattle.history_model.proofs.Snapshots.{above_cons, and-true}
use Rattle.history_model.proofs.Ascents.{Rises-terms}

pub take_short : {X : Type 0} (n : ℕ) (xs : List X) → length (take n xs) < n → xs ≡ take n xs
take_short zero xs lt = absurd (omega arith)
take_short (suc n) [] lt = refl
take_short (suc n) (x ∷ xs) lt = ap (λ ys. x ∷ ys) (take_short n xs (omega arith))

none_left : {X : Type 0} (limit : ℕ) (xs : List X) → 1 ≤ limit → take limit xs ≡ [] → xs ≡ []
none_left zero xs le e = absurd (omega arith)
none_left (suc n) [] le e = refl
none_left (suc n) (x ∷ xs) le e = absurd (cc)

first_has_some : {X : Type 0} (n : ℕ) (x : X) (xs : List X) → 1 ≤ n → 1 ≤ length (take n (x ∷ xs))
first_has_some zero x xs le = absurd (omega arith)
first_has_some (suc n) x xs le = omega arith

-- all items from behind a mark: the first, and then all from behind that one
module _ {X C : Type 0} (mark : X → C) (all : Option C → List X) (split : (after : Option C) (b : X) (ys : List X) → all after ≡ b ∷ ys → all after ≡ b ∷ all (Some (mark b))) where
  pub goes_on : (limit : ℕ) (after : Option C) → all after ≡ take limit (all after) ++ all (last_by mark after (take limit (all after)))
  goes_on zero after = refl
  goes_on (suc n) after =
      elim (all after) as (λ xs. all after ≡ xs → all after ≡ take (suc n) (all after) ++ all (last_by mark after (take (suc n) (all after)))) [
        | [] ↦ λ e. subst (λ ys. all after ≡ take (suc n) ys ++ all (last_by mark after (take (suc n) ys))) (sym e) refl
        | ◌∷◌ b ys ↦ λ e.
            let first = split after b ys e in
            subst (λ zs. all after ≡ take (suc n) zs ++ all (last_by mark after (take (suc n) zs))) (sym first)
            (first ∙ ap (λ zs. b ∷ zs) (goes_on n (Some (mark b))))
      ] refl

  -- lists of which each is the first so many from behind the one before
  module _ (limit : ℕ) (some : 1 ≤ limit) (Are : Option C → List (List X) → Type 0) (last : (after : Option C) → Are after [] ↔ (take limit (all after) ≡ [])) (more : (after : Option C) (first : List X) (pages : List (List X)) → Are after (first ∷ pages) ↔ ((first ≡ take limit (all after)) × Are (last_by mark after first) pages)) where
    pub are_all : (after : Option C) (pages : List (List X)) → Are after pages → joined pages ≡ all after
    are_all after [] e = sym (none_left limit (all after) some ((last after).0 e))
    are_all after (first ∷ pages) e =
        let w = (more after first pages).0 e in
        ap (λ xs. first ++ xs) (are_all (last_by mark after first) pages w.1)
        ∙ ap (λ xs. xs ++ all (last_by mark after xs)) w.0
        ∙ sym (goes_on limit after)

    abbrev AreLeft : Option C → Type 0
    AreLeft after = (pages : List (List X)) × Are after pages × (Has pages [] → ⊥)

    -- what is behind a page is less than what is behind the one before
    next : (after : Option C) (xs : List X) → all after ≡ xs → ((later : Option C) → length (all later) < length xs → AreLeft later) → AreLeft after
    next after [] e shorter = ([], (last after).1 (subst (λ ys. take limit ys ≡ []) (sym e) (take_all limit [] (omega arith))), λ h. h)
    next after (x ∷ xs) e shorter =
        let first = take limit (all after) in
        let has_some : 1 ≤ length first = subst (λ ys. 1 ≤ length (take limit ys)) (sym e) (first_has_some limit x xs some) in
        let sum = ap length (sym e ∙ goes_on limit after) ∙ length-append first (all (last_by mark after first)) in
        let others = shorter (last_by mark after first) (omega (arith, has_some, sum)) in
        (first ∷ others.0, (more after first others.0).1 (refl, others.1), λ h. elim h [ inl none ↦ (let no = ap length none in omega (arith, no, has_some)) | inr t ↦ others.2 t ])

    pub ends : (n : ℕ) (after : Option C) → length (all after) ≤ n → AreLeft after
    ends zero after le = next after (all after) refl (λ later lt. absurd (omega (arith, lt, le)))
    ends (suc n) after le = next after (all after) refl (λ later lt. ends n later (omega (arith, lt, le)))

-- lists in turn are all, where each has at most so many, and there are such lists
module _ {X C : Type 0} (mark : X → C) (all : Option C → List X) (split : (after : Option C) (b : X) (ys : List X) → all after ≡ b ∷ ys → all after ≡ b ∷ all (Some (mark b))) (limit : ℕ) (some : 1 ≤ limit) where
  pub turns_are_all : (after : Option C) (pages : List (List X)) → AreInTurn mark (λ id. take limit (all id)) after pages → joined pages ≡ all after
  turns_are_all = are_all mark all split limit some (AreInTurn mark (λ id. take limit (all id))) (λ id. (λ e. e, λ e. e)) (λ id first others. (λ e. e, λ e. e))

  pub turns_end : (after : Option C) → (pages : List (List X)) × AreInTurn mark (λ id. take limit (all id)) after pages × (Has pages [] → ⊥)
  turns_end after = ends mark all split limit some (AreInTurn mark (λ id. take limit (all id))) (λ id. (λ e. e, λ e. e)) (λ id first others. (λ e. e, λ e. e)) (length (all after)) after (omega arith)

-- ---- searches

pub search_cons : (prefix : List ℕ) (date : ℕ) (after : Option ℕ) (rows : List RowValue) (b : RowValue) (ys : List RowValue) → IsAscending row_cmp rows → terms_above prefix date after rows ≡ b ∷ ys → terms_above prefix date after rows ≡ b ∷ terms_above prefix date (Some b.id) rows
unfolding terms_above
search_cons prefix date after rows b ys up here = above_cons (is_term prefix) after (snapshot rows date) b ys (Rises-terms prefix date after rows up) here

-- with no id to begin behind, the test of the id passes
terms_above-none : (prefix : List ℕ) (date : ℕ) (rows : List RowValue) → terms_above prefix date None rows ≡ filter (is_term prefix) (snapshot rows date)
unfolding terms_above
terms_above-none prefix date rows = filter_agree (is_term_above prefix None) (is_term prefix) (λ row. sym (and-true (is_term prefix row))) (snapshot rows date)

pub search_from_the_first : SearchFromTheFirst
unfolding search_terms terms
search_from_the_first prefix date limit rows = ap (take limit) (terms_above-none prefix date rows)

few_terms : (prefix : List ℕ) (date : ℕ) (rows : List RowValue) → length (filter (is_term prefix) (snapshot rows date)) ≤ length rows
unfolding snapshot
few_terms prefix date rows = omega (arith, kept_at_most (is_term prefix) (filter (is_current rows date) rows), kept_at_most (is_current rows date) rows)
