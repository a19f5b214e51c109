-- Texts in order, and those that begin with one.
use Rattle.std.proofs.Common.{◌≡◌, ◌⊎◌, ℕ, zero, suc, Bool, true, false, List, [], ◌∷◌, take, drop, map, refl, sym, ap, subst, inl, inr, ◌∙◌, arith, take-append-drop}
use Rattle.std.specs.Prelude.{nat_eq}
use Rattle.std.specs.List.{AllByRecursion, filter, starts_with}
use Rattle.std.specs.Ordering.{nat_cmp, ordering_then, is_lt}
use Rattle.std.specs.Cmp.{nat_cmp_total, ranked, tied_itself}
use Rattle.std.specs.Cmp.Lexicographic.{slice_cmp}
use Rattle.std.specs.declared.cmp.Ordering.{Ordering}
use Rattle.std.specs.declared.cmp.Ordering.TheVariants.{Less, Equal, Greater}
use Rattle.std.proofs.lemmas.Bool.Decides.{nat_tests}
use Rattle.std.proofs.lemmas.Cmp.{nat_list_cmp_total}
use Rattle.std.proofs.lemmas.List.Sorted.{ranks_by}
use Rattle.std.proofs.lemmas.Bool.{and_parts}
use Rattle.history_model.specs.InOrder.{Has}
use Rattle.history_model.proofs.InOrder.{Has-all, Has-append_left, Has-append_right, Has-append_cases}
use Rattle.history_model.proofs.Filtered.{Has-map, Has-map_from, Has-filter, Has-filter_from}
use Rattle.term_prefix.specs.declared.text.Term.{Term}
use Rattle.as_of_index.specs.Private.Search.{SplitsAt}
use Rattle.term_prefix.specs.Terms.{TermAt, TextsRise}
use Rattle.term_prefix.specs.Laid.{term_at, terms_at}
use Rattle.term_prefix.specs.Private.{begins}
use Rattle.as_of_index.proofs.First.{Falls}

-- what begins with a prefix isn't below it
pub begins_above : (p t : List ℕ) → starts_with nat_eq t p ≡ true → is_lt (slice_cmp nat_cmp t p) ≡ false
begins_above [] [] e = refl
begins_above [] (x ∷ t) e = refl
begins_above (y ∷ p) [] e = absurd (cc)
begins_above (y ∷ p) (x ∷ t) e =
    let w = and_parts (nat_eq y x) (starts_with nat_eq t p) e in
    let same : x ≡ y = grind (arith, nat_tests, w.0) in
    ap (λ r. is_lt (ordering_then r (slice_cmp nat_cmp t p))) (subst (λ n. nat_cmp x n ≡ Equal) same (tied_itself nat_cmp_total x)) ∙ begins_above p t w.1

then_not : (r s : Ordering) → is_lt (ordering_then r s) ≡ false → (r ≡ Greater) ⊎ ((r ≡ Equal) × (is_lt s ≡ false))
then_not Less s e = absurd (cc)
then_not Equal s e = inr (refl, e)
then_not Greater s e = inl refl

-- what isn't below a prefix and stands before what begins with it begins with it
pub between : (p t u : List ℕ) → is_lt (slice_cmp nat_cmp t p) ≡ false → is_lt (slice_cmp nat_cmp u t) ≡ false → starts_with nat_eq u p ≡ true → starts_with nat_eq t p ≡ true
between [] t u a b e = refl
between (y ∷ p) [] u a b e = absurd (cc)
between (y ∷ p) (x ∷ t) [] a b e = absurd (cc)
between (y ∷ p) (x ∷ t) (z ∷ u) a b e =
    let w = and_parts (nat_eq y z) (starts_with nat_eq u p) e in
    let same : z ≡ y = grind (arith, nat_tests, w.0) in
    elim (then_not (nat_cmp x y) (slice_cmp nat_cmp t p) a) [
      | inl g ↦ elim (then_not (nat_cmp z x) (slice_cmp nat_cmp u t) b) [
        | inl h ↦ absurd (let m = ranked x y Greater (sym g) in let n = ranked z x Greater (sym h) in omega arith)
        | inr h ↦ absurd (let m = ranked x y Greater (sym g) in let n = ranked z x Equal (sym h.0) in omega arith)
      ]
      | inr g ↦
          let like : x ≡ y = ranked x y Equal (sym g.0) in
          elim (then_not (nat_cmp z x) (slice_cmp nat_cmp u t) b) [
            | inl h ↦ absurd (let n = ranked z x Greater (sym h) in omega arith)
            | inr h ↦ (let here : nat_eq y x ≡ true = grind (arith, nat_tests, like) in rw here (between p t u g.1 h.1 w.1))
          ]
    ]

-- ---- terms in order, and where a search splits them

module _ (text prefix : List ℕ) where
  abbrev pub fold_of : Term → List ℕ
  fold_of t = take t.len (drop t.start text)

  abbrev pub is_under : Term → Bool
  is_under t = is_lt (slice_cmp nat_cmp (fold_of t) prefix)

  abbrev pub begins_so : Term → Bool
  begins_so t = begins prefix (term_at text t)

  under-each : (t : Term) (us : List Term) → AllByRecursion (λ u. is_lt (slice_cmp nat_cmp u.folded (fold_of t)) ≡ false) (terms_at text us) → AllByRecursion (λ u. is_under u ≡ true → is_under t ≡ true) us
  under-each t [] a = tt
  under-each t (u ∷ us) a = (
    λ e. elim (is_under t) as (λ b. is_under t ≡ b → b ≡ true) [
      | true ↦ λ f. refl
      | false ↦ λ f. absurd (let g = (ranks_by nat_list_cmp_total (λ (x : List ℕ). x)).chain (fold_of u) (fold_of t) prefix a.0 f in let h = sym g ∙ e in cc)
    ] refl,
    under-each t us a.1,
  )

  pub under-falls : (ts : List Term) → TextsRise (terms_at text ts) → Falls is_under ts
  under-falls [] up = tt
  under-falls (t ∷ ts) up = (under-each t ts up.0, under-falls ts up.1)

  begun-each : (t : Term) (us : List Term) → is_under t ≡ false → AllByRecursion (λ u. is_lt (slice_cmp nat_cmp u.folded (fold_of t)) ≡ false) (terms_at text us) → AllByRecursion (λ u. begins_so u ≡ true → begins_so t ≡ true) us
  begun-each t [] no_lower a = tt
  begun-each t (u ∷ us) no_lower a = (λ e. between prefix (fold_of t) (fold_of u) no_lower a.0 e, begun-each t us no_lower a.1)

  pub begun-falls : (ts : List Term) → TextsRise (terms_at text ts) → AllByRecursion (λ t. is_under t ≡ false) ts → Falls begins_so ts
  begun-falls [] up rest = tt
  begun-falls (t ∷ ts) up rest = (begun-each t ts rest.0 up.0, begun-falls ts up.1 rest.1)

  pub rise-drop : (i : ℕ) (ts : List Term) → TextsRise (terms_at text ts) → TextsRise (terms_at text (drop i ts))
  rise-drop zero ts up = up
  rise-drop (suc i) [] up = up
  rise-drop (suc i) (t ∷ ts) up = rise-drop i ts up.1

  module _ (ts : List Term) (first count : ℕ) (low : SplitsAt is_under ts first) (high : SplitsAt begins_so (drop first ts) count) where
    pub begun_from : (t : Term) → Has (take count (drop first ts)) t → Has ts t × (begins_so t ≡ true)
    begun_from t h =
        let inside : Has (drop first ts) t = subst (λ xs. Has xs t) (take-append-drop count (drop first ts)) (Has-append_left (take count (drop first ts)) (drop count (drop first ts)) t h) in
        (subst (λ xs. Has xs t) (take-append-drop first ts) (Has-append_right (take first ts) (drop first ts) t inside), Has-all (λ t. begins_so t ≡ true) (take count (drop first ts)) t high.before h)

    pub begun_all : (t : Term) → Has ts t → begins_so t ≡ true → Has (take count (drop first ts)) t
    begun_all t h e = elim (Has-append_cases (take first ts) (drop first ts) t (subst (λ xs. Has xs t) (sym (take-append-drop first ts)) h)) [
      | inl a ↦ absurd (let lt = Has-all (λ t. is_under t ≡ true) (take first ts) t low.before a in let ge = begins_above prefix (fold_of t) e in let z = sym lt ∙ ge in cc)
      | inr b ↦ elim (Has-append_cases (take count (drop first ts)) (drop count (drop first ts)) t (subst (λ xs. Has xs t) (sym (take-append-drop count (drop first ts))) b)) [
        | inl c ↦ c
        | inr f ↦ absurd (let gt = Has-all (λ t. begins_so t ≡ false) (drop count (drop first ts)) t high.rest f in let z = sym e ∙ gt in cc)
      ]
    ]

  -- the numbers of the rows of those that are found
  pub numbers_from : (ts those : List Term) → ((t : Term) → (Has those t → Has ts t × (begins_so t ≡ true)) × (Has ts t × (begins_so t ≡ true) → Has those t)) → (p : ℕ)
      → (Has (map (λ (t : Term). t.row) those) p → Has (map (λ (t : TermAt). t.row) (filter (begins prefix) (terms_at text ts))) p)
      × (Has (map (λ (t : TermAt). t.row) (filter (begins prefix) (terms_at text ts))) p → Has (map (λ (t : Term). t.row) those) p)
  numbers_from ts those which p = (
    λ h.
        let m = Has-map (λ (t : Term). t.row) those p h in
        let w = (which m.0).0 m.1 in
        subst (λ q. Has (map (λ (t : TermAt). t.row) (filter (begins prefix) (terms_at text ts))) q) m.2
        (Has-map_from (λ (t : TermAt). t.row) (filter (begins prefix) (terms_at text ts)) (term_at text m.0) (Has-filter_from (begins prefix) (terms_at text ts) (term_at text m.0) (Has-map_from (term_at text) ts m.0 w.0) w.1)),
    λ h.
        let m = Has-map (λ (t : TermAt). t.row) (filter (begins prefix) (terms_at text ts)) p h in
        let f = Has-filter (begins prefix) (terms_at text ts) m.0 m.1 in
        let t = Has-map (term_at text) ts m.0 f.0 in
        let number : t.0.row ≡ p = ap (λ (x : TermAt). x.row) t.2 ∙ m.2 in
        subst (λ q. Has (map (λ (t : Term). t.row) those) q) number
        (Has-map_from (λ (t : Term). t.row) those t.0 ((which t.0).1 (t.1, subst (λ (x : TermAt). begins prefix x ≡ true) (sym t.2) f.1))),
  )
