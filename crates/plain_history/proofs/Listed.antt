-- Lists that a loop makes.
use Rattle.std.proofs.Common.{◌≡◌, ℕ, zero, suc, Bool, true, false, cond, List, [], ◌∷◌, ◌++◌, map, take, refl, sym, ap, ◌∙◌, append-nil, append_assoc}
use Rattle.std.specs.Prelude.{◌&&◌, flat_map, None}
use Rattle.std.specs.List.{filter, filter_map, cons_option}
use Rattle.std.proofs.lemmas.List.Elements.{filter_agree}
use Rattle.rf2_values.specs.Row.{RowValue}
use Rattle.history_model.specs.Queries.{is_term, is_term_above, terms, terms_above, search_terms, snapshot}
use Rattle.plain_history.specs.Private.{if_so}

pub map_take : {X Y : Type 0} (f : X → Y) (n : ℕ) (xs : List X) → map f (take n xs) ≡ take n (map f xs)
map_take f zero xs = refl
map_take f (suc n) [] = refl
map_take f (suc n) (x ∷ xs) = ap (λ ys. f x ∷ ys) (map_take f n xs)

-- what passes, where f is looked at
pub filter_of_map : {X Y : Type 0} (f : X → Y) (p : Y → Bool) (xs : List X) → filter p (map f xs) ≡ map f (filter (λ x. p (f x)) xs)
filter_of_map f p [] = refl
filter_of_map f p (x ∷ xs) =
    let rest = filter_of_map f p xs in
    elim (p (f x)) as (λ t. cond t (f x ∷ filter p (map f xs)) (filter p (map f xs)) ≡ map f (cond t (x ∷ filter (λ x. p (f x)) xs) (filter (λ x. p (f x)) xs))) [
      | true ↦ ap (λ ys. f x ∷ ys) rest
      | false ↦ rest
    ]

-- one list more
pub flat_map_push : {X Y : Type 0} (f : X → List Y) (xs : List X) (x : X) → flat_map f (xs ++ x ∷ []) ≡ flat_map f xs ++ f x
flat_map_push f [] x = append-nil (f x)
flat_map_push f (y ∷ xs) x = ap (λ ys. f y ++ ys) (flat_map_push f xs x) ∙ sym (append_assoc (f y) (flat_map f xs) (f x))

-- the ends of what passes
pub filter_map_if_so : (p : RowValue → Bool) (f : RowValue → ℕ) (rows : List RowValue) → filter_map (λ row. if_so (p row) (f row)) rows ≡ map f (filter p rows)
filter_map_if_so p f [] = refl
filter_map_if_so p f (row ∷ rows) =
    let rest = filter_map_if_so p f rows in
    elim (p row) as (λ t. cons_option (if_so t (f row)) (filter_map (λ row. if_so (p row) (f row)) rows) ≡ map f (cond t (row ∷ filter p rows) (filter p rows))) [
      | true ↦ ap (λ ys. f row ∷ ys) rest
      | false ↦ rest
    ]

-- all descriptions with such terms are those with any id
also_any : (t : Bool) → (t && true) ≡ t
also_any true = refl
also_any false = refl

pub any_terms : (prefix : List ℕ) (date limit : ℕ) (rows : List RowValue) → search_terms prefix date None limit rows ≡ terms prefix date limit rows
unfolding search_terms terms_above terms
any_terms prefix date limit rows = ap (take limit) (filter_agree (is_term_above prefix None) (is_term prefix) (λ row. also_any (is_term prefix row)) (snapshot rows date))
