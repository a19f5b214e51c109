-- All rows of a kind, page by page.
use Rattle.std.proofs.Common.{◌≡◌, ℕ, zero, suc, ◌<◌, ◌≤◌, List, [], ◌∷◌, ◌++◌, length, take, refl, sym, ap, ◌∙◌, arith, length-append}
use Rattle.std.specs.Prelude.{Option, Some, None}
use Rattle.std.specs.List.{AllZip}
use Rattle.rf2_values.specs.declared.row.Kind.{Kind}
use Rattle.rf2_values.specs.declared.key.Key.{Key}
use Rattle.rf2_values.specs.Row.{RowValue}
use Rattle.rf2_values.specs.Key.{key_of}
use Rattle.history_model.specs.InOrder.{IsAscending}
use Rattle.history_model.specs.History.{row_cmp}
use Rattle.history_model.specs.Queries.{page, all_above}
use Rattle.history_model.specs.Laws.{last_id}
use Rattle.history_model.proofs.Paging.{goes_on}
use Rattle.history_model.proofs.Snapshots.{page_cons}

-- the last of some rows
pub last_pushed : (xs : List RowValue) (x : RowValue) (after : Option ℕ) → last_id after (xs ++ x ∷ []) ≡ Some x.id
last_pushed [] x after = refl
last_pushed (y ∷ ys) x after = last_pushed ys x (Some y.id)

-- rows with the same keys have the same last identifier
pub same_last : (R : RowValue → RowValue → Type 0) → ((read wanted : RowValue) → R read wanted → key_of read ≡ key_of wanted) → (read wanted : List RowValue) → AllZip R read wanted → (after : Option ℕ) → last_id after read ≡ last_id after wanted
same_last R keyed [] [] zip after = refl
same_last R keyed [] (w ∷ ws) zip after = absurd zip
same_last R keyed (x ∷ xs) [] zip after = absurd zip
same_last R keyed (x ∷ xs) (w ∷ ws) zip after =
    ap (λ (k : Key). last_id (Some k.id) xs) (keyed x w zip.0) ∙ same_last R keyed xs ws zip.1 (Some w.id)

some_last : (xs : List RowValue) (after : Option ℕ) (id : ℕ) → Some id ≡ last_id None xs → last_id after xs ≡ Some id
some_last [] after id is = absurd cc
some_last (x ∷ xs) after id is = sym is

no_last : (xs : List RowValue) (id : ℕ) → None ≡ last_id (Some id) xs → ⊥
no_last [] id is = cc
no_last (x ∷ xs) id is = no_last xs x.id is

none_last : (xs : List RowValue) → None ≡ last_id None xs → xs ≡ []
none_last [] is = refl
none_last (x ∷ xs) is = absurd (no_last xs x.id is)

none_first : {X : Type 0} (limit : ℕ) (xs : List X) → 1 ≤ limit → take limit xs ≡ [] → xs ≡ []
none_first zero xs some none = absurd (omega arith)
none_first (suc n) [] some none = refl
none_first (suc n) (x ∷ xs) some none = absurd cc

module _ (kind : Kind) (date limit : ℕ) (rows : List RowValue) (up : IsAscending row_cmp rows) where
  page_and_rest : (after : Option ℕ) → all_above kind date after rows ≡ page kind date after limit rows ++ all_above kind date (last_id after (page kind date after limit rows)) rows
  unfolding page
  page_and_rest after = goes_on (λ row. row.id) (λ id. all_above kind date id rows) (λ id b ys here. page_cons kind date id rows b ys up here) limit after

  -- a page that has a last row, and what is left after it
  pub page_then : (after : Option ℕ) (id : ℕ) → Some id ≡ last_id None (page kind date after limit rows) → all_above kind date after rows ≡ page kind date after limit rows ++ all_above kind date (Some id) rows
  page_then after id is = page_and_rest after ∙ ap (λ o. page kind date after limit rows ++ all_above kind date o rows) (some_last (page kind date after limit rows) after id is)

  pub fewer_left : (after : Option ℕ) (id : ℕ) → Some id ≡ last_id None (page kind date after limit rows) → length (all_above kind date (Some id) rows) < length (all_above kind date after rows)
  fewer_left after id is =
      let sum = ap length (page_then after id is) ∙ length-append (page kind date after limit rows) (all_above kind date (Some id) rows) in
      let some = some_there (page kind date after limit rows) is in
      omega (arith, sum, some) where
        some_there : (xs : List RowValue) → Some id ≡ last_id None xs → 1 ≤ length xs
        some_there [] is = absurd cc
        some_there (x ∷ xs) is = omega arith

  -- a page without a last row is the last one
  pub page_ends : (after : Option ℕ) → 1 ≤ limit → None ≡ last_id None (page kind date after limit rows) → (page kind date after limit rows ≡ []) × (all_above kind date after rows ≡ [])
  unfolding page
  page_ends after some is =
      let none = none_last (page kind date after limit rows) is in
      (none, none_first limit (all_above kind date after rows) some none)
