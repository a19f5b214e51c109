-- What is sorted is in order, where no two items tie.
use Rattle.std.proofs.Common.{◌≡◌, ℕ, ◌+◌, ◌≤◌, true, false, cond, List, [], ◌∷◌, ◌++◌, refl, sym, ap, subst, inl, inr, ◌∙◌, arith, append-nil}
use Rattle.std.specs.Prelude.{Bool, ◌&&◌, ◌==◌}
use Rattle.std.specs.List.{sum_by, dedup, dedup_from, filter}
use Rattle.std.specs.List.Sorted.{IsPermutation, IsSorted}
use Rattle.std.specs.Ordering.{eq_by_cmp, nat_cmp, ordering_reverse, ordering_then}
use Rattle.std.specs.Cmp.{IsTotalOrder, tied_itself, Equal-is, ranked}
use Rattle.std.specs.declared.cmp.Ordering.{Ordering}
use Rattle.std.specs.declared.cmp.Ordering.TheVariants.{Less, Equal, Greater}
use Rattle.std.proofs.lemmas.Bool.{and_parts}
use Rattle.list_lemmas.proofs.Tests.{both_equal}
use Rattle.rf2_values.specs.declared.row.Body.{Body}
use Rattle.rf2_values.specs.declared.row.Body.TheVariants as body
use Rattle.rf2_values.specs.declared.row.Kind.TheVariants.{Association}
use Rattle.rf2_values.specs.Row.{RowValue, kind_of_body}
use Rattle.history_model.specs.History.{row_cmp}
use Rattle.history_model.specs.Queries.{snapshot, is_about, about, is_replacement_of, refers_to, replacement_cmp, is_replaced_by, has_target, replaced_cmp, refset_of, referenced_of}
use Rattle.history_model.proofs.InOrder.{Has-all}
use Rattle.history_model.proofs.Filtered.{Has-filter, IsAscending-filter, filter_same}
use Rattle.history_model.proofs.Keys.{rows_total}
use Rattle.history_model.proofs.Snapshots.{IsAscending-snapshot}
use Rattle.history_model.proofs.Ascents.{one_row_of_a_component}
use Rattle.std.proofs.lemmas.List.Sums.{sum_by-cons}
use Rattle.std.proofs.lemmas.List.Sorted.{sum_by-IsPermutation, IsPermutation-refl, IsPermutation-sym, IsPermutation-trans, IsPermutation-append, IsPermutation-middle}
use Rattle.history_model.specs.InOrder.{Has, placed, put, put_all, in_order, IsAscending}
use Rattle.history_model.proofs.InOrder.{Has-put_cases, Has-put_all_cases, Has-put_all_new, IsAscending-in_order, same_ascending}
use Rattle.as_of_index.specs.Private.Once.{AreOnce}
use Rattle.as_of_index.proofs.Once.{sorted_once}
use Rattle.links.proofs.Ranked.{one_row_id}

-- no two tie
abbrev pub ApartBy : {X : Type 0} → (X → X → Ordering) → List X → Type 0
ApartBy cmp [] = Unit {0}
ApartBy {X} cmp (x ∷ xs) = ((y : X) → Has xs y → cmp x y ≡ Equal → ⊥) × ApartBy cmp xs

module _ {X : Type 0} {cmp : X → X → Ordering} (o : IsTotalOrder cmp) where
  abbrev Apart : List X → Type 0
  Apart xs = ApartBy cmp xs

  abbrev tie : X → X → ℕ
  tie x z = cond (eq_by_cmp cmp z x) 1 0

  tied : (x z : X) → eq_by_cmp cmp z x ≡ true → cmp z x ≡ Equal
  tied x z e = (Equal-is (cmp z x)).0 e

  turned : (x z : X) → cmp z x ≡ Equal → cmp x z ≡ Equal
  turned x z e = o.antisymm x z ∙ ap ordering_reverse e

  none_ties : (x : X) (xs : List X) → ((y : X) → Has xs y → cmp y x ≡ Equal → ⊥) → sum_by (tie x) xs ≡ 0
  none_ties x [] none = refl
  none_ties x (y ∷ ys) none =
      let rest = none_ties x ys (λ z h. none z (inr h)) in
      let cons = sum_by-cons (tie x) y ys in
      elim (eq_by_cmp cmp y x) as (λ b. eq_by_cmp cmp y x ≡ b → sum_by (tie x) (y ∷ ys) ≡ cond b 1 0 + sum_by (tie x) ys → sum_by (tie x) (y ∷ ys) ≡ 0) [
        | true ↦ λ e f. absurd (none y (inl refl) (tied x y e))
        | false ↦ λ e f. omega (arith, f, rest)
      ] refl cons

  one_ties : (x : X) (xs : List X) → Apart xs → sum_by (tie x) xs ≤ 1
  one_ties x [] a = omega arith
  one_ties x (y ∷ ys) a =
      let cons = sum_by-cons (tie x) y ys in
      elim (eq_by_cmp cmp y x) as (λ b. eq_by_cmp cmp y x ≡ b → sum_by (tie x) (y ∷ ys) ≡ cond b 1 0 + sum_by (tie x) ys → sum_by (tie x) (y ∷ ys) ≤ 1) [
        | true ↦ λ e f.
            let others = none_ties x ys (λ z h k. a.0 z h (o.congr y x z (tied x y e) ∙ turned x z k)) in
            omega (arith, f, others)
        | false ↦ λ e f. let rest = one_ties x ys a.1 in omega (arith, f, rest)
      ] refl cons

  kept_from : (x : X) (ys : List X) → ((z : X) → sum_by (tie z) (x ∷ ys) ≤ 1) → dedup_from (eq_by_cmp cmp) x ys ≡ x ∷ ys
  kept_from x [] le = refl
  kept_from x (y ∷ ys) le =
      elim (eq_by_cmp cmp y x) as (λ b. eq_by_cmp cmp y x ≡ b → cond b (dedup_from (eq_by_cmp cmp) x ys) (x ∷ dedup_from (eq_by_cmp cmp) y ys) ≡ x ∷ y ∷ ys) [
        | true ↦ λ e. absurd (
            let a = sum_by-cons (tie x) x (y ∷ ys) in
            let b = sum_by-cons (tie x) y ys in
            let own : tie x x ≡ 1 = ap (λ t. cond t 1 0) ((Equal-is (cmp x x)).1 (tied_itself o x)) in
            let other : tie x y ≡ 1 = ap (λ t. cond t 1 0) e in
            let most = le x in
            omega (arith, a, b, own, other, most))
        | false ↦ λ e. ap (λ zs. x ∷ zs) (kept_from y ys (λ z. let a = sum_by-cons (tie z) x (y ∷ ys) in let most = le z in omega (arith, a, most)))
      ] refl

  kept_all : (ys : List X) → ((z : X) → sum_by (tie z) ys ≤ 1) → dedup (eq_by_cmp cmp) ys ≡ ys
  kept_all [] le = refl
  kept_all (y ∷ ys) le = kept_from y ys le

  pub are_once : (xs ys : List X) → Apart xs → IsPermutation xs ys → IsSorted cmp ys → AreOnce cmp xs ys
  are_once xs ys a moved up = sorted_once o (eq_by_cmp cmp) (λ x y. refl) xs ys ys moved up (sym (kept_all ys (λ z. let same = sum_by-IsPermutation (tie z) xs ys moved in let le = one_ties z xs a in omega (arith, same, le))))

  apart_has : (xs : List X) → Apart xs → (x y : X) → Has xs x → Has xs y → cmp x y ≡ Equal → x ≡ y
  apart_has [] a x y h k e = absurd h
  apart_has (z ∷ zs) a x y h k e = elim h [
    | inl p ↦ elim k [
      | inl q ↦ sym p ∙ q
      | inr t ↦ absurd (a.0 y t (ap (λ w. cmp w y) p ∙ e))
    ]
    | inr s ↦ elim k [
      | inl q ↦ absurd (a.0 x s (ap (λ w. cmp w x) q ∙ turned y x e))
      | inr t ↦ apart_has zs a.1 x y s t e
    ]
  ]

  pub in_order_is : (xs ys : List X) → Apart xs → IsPermutation xs ys → IsSorted cmp ys → ys ≡ in_order cmp xs
  in_order_is xs ys a moved up =
      let once = are_once xs ys a moved up in
      same_ascending o ys (in_order cmp xs) once.ascending (IsAscending-in_order o xs)
      (λ z h. Has-put_all_new cmp xs [] z (λ y there e. elim there [ inl k ↦ sym (apart_has xs a z y (once.only z h) k e) | inr f ↦ absurd f ]) (once.only z h))
      (λ z h. elim (Has-put_all_cases cmp xs [] z h) [
        | inl k ↦ (
            let t = once.there z k in
            subst (λ w. Has ys w) (apart_has xs a t.0 z (once.only t.0 t.1) k (turned t.0 z t.2)) t.1)
        | inr f ↦ absurd f
      ])

  put_moves : (x : X) (ys : List X) → ((y : X) → Has ys y → cmp x y ≡ Equal → ⊥) → IsPermutation (x ∷ ys) (put cmp x ys)
  put_moves x [] none = IsPermutation-refl (x ∷ [])
  put_moves x (y ∷ ys) none =
      elim (cmp x y) as (λ r. cmp x y ≡ r → IsPermutation (x ∷ y ∷ ys) (placed r x y ys (put cmp x ys))) [
        | Less ↦ λ e. IsPermutation-refl (x ∷ y ∷ ys)
        | Equal ↦ λ e. absurd (none y (inl refl) e)
        | Greater ↦ λ e. IsPermutation-trans (x ∷ y ∷ ys) (y ∷ x ∷ ys) (y ∷ put cmp x ys) (IsPermutation-middle (x ∷ []) y ys)
            (IsPermutation-append (y ∷ []) (y ∷ []) (x ∷ ys) (put cmp x ys) (IsPermutation-refl (y ∷ [])) (put_moves x ys (λ z h. none z (inr h))))
      ] refl

  put_all_moves : (xs ys : List X) → Apart xs → ((x y : X) → Has xs x → Has ys y → cmp x y ≡ Equal → ⊥) → IsPermutation (xs ++ ys) (put_all cmp xs ys)
  put_all_moves [] ys a none = IsPermutation-refl ys
  put_all_moves (x ∷ xs) ys a none =
      IsPermutation-trans (x ∷ (xs ++ ys)) (xs ++ put cmp x ys) (put_all cmp xs (put cmp x ys))
      (IsPermutation-trans (x ∷ (xs ++ ys)) (xs ++ x ∷ ys) (xs ++ put cmp x ys)
      (IsPermutation-sym (xs ++ x ∷ ys) (x ∷ (xs ++ ys)) (IsPermutation-middle xs x ys))
      (IsPermutation-append xs xs (x ∷ ys) (put cmp x ys) (IsPermutation-refl xs) (put_moves x ys (λ y h. none x y (inl refl) h))))
      (put_all_moves xs (put cmp x ys) a.1 (λ z y h k e. elim (Has-put_cases cmp x ys y k) [
        | inl same ↦ a.0 z h (turned x z (subst (λ w. cmp z w ≡ Equal) (sym same) e))
        | inr old ↦ none z y (inr h) old e
      ]))

  pub in_order_moved : (xs : List X) → Apart xs → IsPermutation xs (in_order cmp xs)
  in_order_moved xs a = subst (λ ys. IsPermutation ys (in_order cmp xs)) (append-nil xs) (put_all_moves xs [] a (λ x y h k e. absurd k))

-- ---- associations in their order

pub apart_from : (order : RowValue → RowValue → Ordering) (xs : List RowValue) → IsAscending row_cmp xs → ((x y : RowValue) → Has xs x → Has xs y → order x y ≡ Equal → x ≡ y) → ApartBy order xs
apart_from order [] up same = tt
apart_from order (x ∷ xs) up same = (
  λ y h e.
      let is : x ≡ y = same x y (inl refl) (inr h) e in
      let less : row_cmp x x ≡ Less = subst (λ z. row_cmp x z ≡ Less) (sym is) (Has-all (λ z. row_cmp x z ≡ Less) xs y up.0 h) in
      let tie_is : Less ≡ Equal = sym less ∙ tied_itself rows_total x in
      absurd (cc),
  apart_from order xs up.1 (λ y z h k. same y z (inr h) (inr k)),
)

target_kind : (id : ℕ) (b : Body) → has_target id b ≡ true → kind_of_body b ≡ Association
target_kind id (body.Concept c) e = absurd (cc)
target_kind id (body.Description d) e = absurd (cc)
target_kind id (body.Relationship r) e = absurd (cc)
target_kind id (body.Association a) e = refl
target_kind id (body.Concrete c) e = absurd (cc)
target_kind id (body.Member m) e = absurd (cc)

reference_kind : (id : ℕ) (b : Body) → refers_to id b ≡ true → kind_of_body b ≡ Association
reference_kind id (body.Concept c) e = absurd (cc)
reference_kind id (body.Description d) e = absurd (cc)
reference_kind id (body.Relationship r) e = absurd (cc)
reference_kind id (body.Association a) e = refl
reference_kind id (body.Concrete c) e = absurd (cc)
reference_kind id (body.Member m) e = absurd (cc)

-- rows of one kind at a date, of which no two have one id
apart_at : (order : RowValue → RowValue → Ordering) (says : Body → Bool) (date : ℕ) (rows : List RowValue) → IsAscending row_cmp rows → ((b : Body) → says b ≡ true → kind_of_body b ≡ Association) → ((x y : RowValue) → order x y ≡ Equal → x.id ≡ y.id)
    → ApartBy order (filter (λ row. row.active && says row.body) (snapshot rows date))
apart_at order says date rows up kinds ids =
    let shown = snapshot rows date in
    let test : RowValue → Bool = λ row. row.active && says row.body in
    apart_from order (filter test shown) (IsAscending-filter test row_cmp shown (IsAscending-snapshot rows date up)) (λ x y h k e.
    let a = Has-filter test shown x h in
    let b = Has-filter test shown y k in
    let p = kinds x.body (and_parts x.active (says x.body) a.1).1 in
    let q = kinds y.body (and_parts y.active (says y.body) b.1).1 in
    one_row_of_a_component rows date x y up a.0 b.0 (p ∙ sym q) (ids x y e))

same_id : (a b : RowValue) → replaced_cmp a b ≡ Equal → a.id ≡ b.id
same_id a b e =
    let rest = (both_equal (nat_cmp (refset_of a.body) (refset_of b.body)) (ordering_then (nat_cmp (referenced_of a.body) (referenced_of b.body)) (nat_cmp a.id b.id)) e).1 in
    ranked a.id b.id Equal (sym (both_equal (nat_cmp (referenced_of a.body) (referenced_of b.body)) (nat_cmp a.id b.id) rest).1)

pub replaced_apart : (id date : ℕ) (rows : List RowValue) → IsAscending row_cmp rows → ApartBy replaced_cmp (filter (is_replaced_by id) (snapshot rows date))
replaced_apart id date rows up = apart_at replaced_cmp (has_target id) date rows up (target_kind id) same_id

pub replacements_apart : (id date : ℕ) (rows : List RowValue) → IsAscending row_cmp rows → ApartBy replacement_cmp (filter (is_replacement_of id) (snapshot rows date))
replacements_apart id date rows up = apart_at replacement_cmp (refers_to id) date rows up (reference_kind id) one_row_id

-- ---- the associations about a component are its replacements

and_false : (a b : Bool) → ((a && false) && b) ≡ (a && false)
and_false true b = refl
and_false false b = refl

about_refers : (id : ℕ) (active : Bool) (b : Body) (row : RowValue) → row.active ≡ active → row.body ≡ b → is_about Association id row ≡ is_replacement_of id row
about_refers id active (body.Concept c) row e f = rw (e, f) (and_false active false)
about_refers id active (body.Description d) row e f = rw (e, f) (and_false active (d.concept == id))
about_refers id active (body.Relationship r) row e f = rw (e, f) (and_false active (r.source == id))
about_refers id true (body.Association a) row e f = rw (e, f) refl
about_refers id false (body.Association a) row e f = rw e refl
about_refers id active (body.Concrete c) row e f = rw (e, f) (and_false active (c.source == id))
about_refers id active (body.Member m) row e f = rw (e, f) (and_false active (m.referenced == id))

pub about_are_replacements : (id date : ℕ) (rows : List RowValue) → about Association id date rows ≡ filter (is_replacement_of id) (snapshot rows date)
unfolding about
about_are_replacements id date rows = filter_same (is_about Association id) (is_replacement_of id) (snapshot rows date) (λ row h. about_refers id row.active row.body row refl refl)
