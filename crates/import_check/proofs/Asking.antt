-- What is known is asked once for each key.
use Rattle.std.proofs.Common.{◌≡◌, ℕ, ◌+◌, ◌≤◌, Bool, true, false, List, [], ◌∷◌, ◌++◌, refl, sym, ap, subst, inl, inr, ◌∙◌, arith}
use Rattle.std.specs.Prelude.{Option, Some, None, MatchOption, IfSome, IsSomeAnd, cond, ◌||◌, ◌↔◌, ◌⊎◌}
use Rattle.std.specs.List.{filter, sum_by}
use Rattle.std.specs.Ordering.{is_eq}
use Rattle.std.specs.declared.cmp.Ordering.{Ordering}
use Rattle.std.specs.declared.cmp.Ordering.TheVariants.{Less, Equal, Greater}
use Rattle.std.proofs.lemmas.List.Sums.{sum_by-cons}
use Rattle.rf2_values.specs.declared.key.Key.{Key}
use Rattle.rf2_values.specs.Row.{RowValue}
use Rattle.rf2_values.specs.Key.{key_of, key_cmp}
use Rattle.history_model.specs.InOrder.{Has}
use Rattle.history_model.specs.History.{row_cmp}
use Rattle.history_model.proofs.InOrder.{Has-append_left, Has-append_right, Has-append_cases}
use Rattle.history_model.proofs.Filtered.{Has-map, Has-map_from}
use Rattle.history_model.proofs.Keys.{rows_total, same_key, tie_of_same}
use Rattle.history_model.proofs.Items.{Has-permuted}
use Rattle.import_check.specs.declared.release.PlacedLine.{PlacedLine}
use Rattle.import_check.specs.Known.{IsUnknown, IsKnown, MayBeKnown, IsReturnedFor, KnownView, has_key, already_known}
use Rattle.import_check.specs.Release.{rows_of}
use Rattle.import_check.specs.Private.Sweep.{AsksOnce, IsAhead, standing_row}
use Rattle.import_check.specs.Private.Sweep.{IsRising}
use Rattle.import_check.specs.Contradictions.{rank_cmp}
use Rattle.std.specs.List.Sorted.{IsPermutation}
use Rattle.import_check.proofs.Sweeping.{IsAt, last_pushed, rank_split, rising_before, rising_after}

-- ---- the row that stands has the key of the last line

abbrev pub InStep : Option Key → Option RowValue → Type 0
InStep last standing = MatchOption last (standing ≡ None) (λ key. IsSomeAnd standing (λ row. key_of row ≡ key))

pub stands_at : (last : Option Key) (standing : Option RowValue) (key : Key) → InStep last standing → IsSomeAnd last (λ k. k ≡ key) → IsAt standing key
stands_at None standing key step at = absurd at
stands_at (Some k) None key step at = absurd step
stands_at (Some k) (Some row) key step at = step ∙ at

pub last_at : (last : Option Key) (standing : Option RowValue) (key : Key) → InStep last standing → IsAt standing key → IsSomeAnd last (λ k. k ≡ key)
last_at None standing key none at = absurd (subst (λ o. IsAt o key) none at)
last_at (Some k) None key step at = absurd step
last_at (Some k) (Some row) key step at = sym step ∙ at

pub some_last : (last : Option Key) (key : Key) → last ≡ Some key → IsSomeAnd last (λ k. k ≡ key)
some_last last key e = subst (λ o. IsSomeAnd o (λ k. k ≡ key)) (sym e) refl

pub last_is : (last : Option Key) (key : Key) → IsSomeAnd last (λ k. k ≡ key) → last ≡ Some key
last_is None key at = absurd at
last_is (Some k) key at = ap Some at

pub in_step_new : (last : Option Key) (known_row : Option RowValue) (now fresh : List RowValue) (row : RowValue) (key : Key) → last ≡ Some key → known_row ≡ None → now ≡ fresh ++ row ∷ [] → key_of row ≡ key → InStep last (standing_row known_row now)
in_step_new last known_row now fresh row key at none rows same =
    let standing : standing_row known_row now ≡ Some row = (λ i. standing_row (none i) (rows i)) ∙ last_pushed fresh row in
    subst (λ o. InStep o (standing_row known_row now)) (sym at) (subst (λ o. IsSomeAnd o (λ r. key_of r ≡ key)) (sym standing) same)

-- ---- sums over those that pass a test

module _ (f : RowValue → ℕ) where
  pick : (p : RowValue → Bool) (x : RowValue) (xs : List RowValue) (b : Bool) → p x ≡ b → sum_by f (filter p (x ∷ xs)) ≡ cond b (f x) 0 + sum_by f (filter p xs)
  pick p x xs true e = ap (λ c. sum_by f (cond c (x ∷ filter p xs) (filter p xs))) e ∙ sum_by-cons f x (filter p xs)
  pick p x xs false e = let same = ap (λ c. sum_by f (cond c (x ∷ filter p xs) (filter p xs))) e in omega (arith, same)

  pub sum_less : (p q : RowValue → Bool) (xs : List RowValue) → ((x : RowValue) → p x ≡ true → q x ≡ true) → sum_by f (filter p xs) ≤ sum_by f (filter q xs)
  sum_less p q [] each = omega arith
  sum_less p q (x ∷ xs) each = by (sum_less p q xs each) (p x) (q x) refl refl where
    by : sum_by f (filter p xs) ≤ sum_by f (filter q xs) → (b c : Bool) → p x ≡ b → q x ≡ c → sum_by f (filter p (x ∷ xs)) ≤ sum_by f (filter q (x ∷ xs))
    by rest true true e g = omega (arith, rest, pick p x xs true e, pick q x xs true g)
    by rest true false e g = absurd (let both : true ≡ false = sym (each x e) ∙ g in cc)
    by rest false true e g = omega (arith, rest, pick p x xs false e, pick q x xs true g)
    by rest false false e g = omega (arith, rest, pick p x xs false e, pick q x xs false g)

  pub sum_less_one : (p q : RowValue → Bool) (xs : List RowValue) (r : RowValue) → ((x : RowValue) → p x ≡ true → q x ≡ true) → Has xs r → p r ≡ false → q r ≡ true → sum_by f (filter p xs) + f r ≤ sum_by f (filter q xs)
  sum_less_one p q [] r each h not_p is_q = absurd h
  sum_less_one p q (x ∷ xs) r each (inl e) not_p is_q =
      let a = pick p x xs false (subst (λ (z : RowValue). p z ≡ false) (sym e) not_p) in
      let b = pick q x xs true (subst (λ (z : RowValue). q z ≡ true) (sym e) is_q) in
      let one : f x ≡ f r = ap f e in
      omega (arith, a, b, one, sum_less p q xs each)
  sum_less_one p q (x ∷ xs) r each (inr h) not_p is_q = by (sum_less_one p q xs r each h not_p is_q) (p x) (q x) refl refl where
    by : sum_by f (filter p xs) + f r ≤ sum_by f (filter q xs) → (b c : Bool) → p x ≡ b → q x ≡ c → sum_by f (filter p (x ∷ xs)) + f r ≤ sum_by f (filter q (x ∷ xs))
    by rest true true e g = omega (arith, rest, pick p x xs true e, pick q x xs true g)
    by rest true false e g = absurd (let both : true ≡ false = sym (each x e) ∙ g in cc)
    by rest false true e g = omega (arith, rest, pick p x xs false e, pick q x xs true g)
    by rest false false e g = omega (arith, rest, pick p x xs false e, pick q x xs false g)

-- ---- keys among rows

eq_of : (k l : Key) (r : Ordering) → key_cmp k l ≡ r → is_eq r ≡ true → k ≡ l
eq_of k l Less e f = absurd (cc)
eq_of k l Equal e f = same_key k l e
eq_of k l Greater e f = absurd (cc)

pub has_from : (rows : List RowValue) (key : Key) → has_key rows key ≡ true → (row : RowValue) × Has rows row × (key_of row ≡ key)
has_from [] key h = absurd (cc)
has_from (x ∷ xs) key h = by (has_from xs key) (is_eq (key_cmp (key_of x) key)) refl where
  by : (has_key xs key ≡ true → (row : RowValue) × Has xs row × (key_of row ≡ key)) → (b : Bool) → is_eq (key_cmp (key_of x) key) ≡ b → (row : RowValue) × Has (x ∷ xs) row × (key_of row ≡ key)
  by rest true e = (x, inl refl, eq_of (key_of x) key (key_cmp (key_of x) key) refl e)
  by rest false e = let r = rest (sym (ap (λ b. b || has_key xs key) e) ∙ h) in (r.0, inr r.1, r.2)

pub has_to : (rows : List RowValue) (key : Key) (row : RowValue) → Has rows row → key_of row ≡ key → has_key rows key ≡ true
has_to [] key row h e = absurd h
has_to (x ∷ xs) key row (inl s) e = ap (λ b. b || has_key xs key) (ap is_eq (subst (λ k. key_cmp (key_of x) k ≡ Equal) (ap key_of s ∙ e) (tie_of_same x x refl)))
has_to (x ∷ xs) key row (inr t) e = by (is_eq (key_cmp (key_of x) key)) (has_to xs key row t e) where
  by : (b : Bool) → has_key xs key ≡ true → (b || has_key xs key) ≡ true
  by true g = refl
  by false g = g

pub no_key : (rows : List RowValue) (key : Key) → has_key rows key ≡ false → IsUnknown rows key
no_key rows key none row h e = let yes : true ≡ false = sym (has_to rows key row h e) ∙ none in absurd (cc)

known_or_not : (rows : List RowValue) (key : Key) → IsKnown rows key ⊎ IsUnknown rows key
known_or_not rows key = by (has_key rows key) refl where
  by : (b : Bool) → has_key rows key ≡ b → IsKnown rows key ⊎ IsUnknown rows key
  by true e = inl (has_from rows key e)
  by false e = inr (no_key rows key e)

-- a row that is returned for a key may be known, and has the key
pub returned_known : (view : KnownView) (key : Key) (found : Option RowValue) (row : RowValue) → found ≡ Some row → IfSome found (IsReturnedFor view key) → ((found ≡ None) ↔ IsUnknown view.rows key) → MayBeKnown view.rows view.may_be row × (key_of row ≡ key)
returned_known view key found row some returned absent =
    let is = subst (λ o. IfSome o (IsReturnedFor view key)) some returned in
    elim (known_or_not view.rows key) [
      | inl k ↦ ((subst (λ k. IsKnown view.rows k) (sym is.keyed) k, is.may_be), is.keyed)
      | inr unknown ↦ absurd (let none = absent.1 unknown in cc)
    ]

more_keys : (rows others : List RowValue) → ((row : RowValue) → Has rows row → Has others row) → (key : Key) → has_key rows key ≡ true → has_key others key ≡ true
more_keys rows others each key h = let r = has_from rows key h in has_to others key r.0 (each r.0 r.1) r.2

pub more_rows : (lines others : List PlacedLine) → ((l : PlacedLine) → Has lines l → Has others l) → (row : RowValue) → Has (rows_of lines) row → Has (rows_of others) row
more_rows lines others each row h =
    let m = Has-map (λ (l : PlacedLine). l.row) lines row h in
    subst (λ (r : RowValue). Has (rows_of others) r) m.2 (Has-map_from (λ (l : PlacedLine). l.row) others m.0 (each m.0 m.1))

-- what the keys of lines take is no more than what those of more lines take
pub more_lines : (cost : RowValue → ℕ) (known : List RowValue) (lines others : List PlacedLine) → ((l : PlacedLine) → Has lines l → Has others l) → sum_by cost (already_known known (rows_of lines)) ≤ sum_by cost (already_known known (rows_of others))
more_lines cost known lines others each = sum_less cost (λ row. has_key (rows_of lines) (key_of row)) (λ row. has_key (rows_of others) (key_of row)) known (λ x h. more_keys (rows_of lines) (rows_of others) (more_rows lines others each) (key_of x) h)

pub more_sorted : (cost : RowValue → ℕ) (known : List RowValue) (lines sorted : List PlacedLine) → IsPermutation lines sorted → sum_by cost (already_known known (rows_of sorted)) ≤ sum_by cost (already_known known (rows_of lines))
more_sorted cost known lines sorted permuted = more_lines cost known sorted lines (λ l h. Has-permuted lines sorted permuted l h)

-- ---- one line more

module _ (done : List PlacedLine) (line : PlacedLine) (rest : List PlacedLine) where
  pub ahead_more : IsRising rank_cmp (done ++ line ∷ rest) → IsAhead (done ++ line ∷ []) (Some (key_of line.row)) rest
  ahead_more rising l later h k same = elim (Has-append_cases done (line ∷ []) l h) [
    | inl d ↦ elim (rank_split l line (rising_before rank_cmp done line rest l rising d)) [
      | inl less ↦ elim (rank_split line later (rising_after rank_cmp done line rest later rising k)) [
        | inl lower ↦ absurd (let below : row_cmp l.row later.row ≡ Less = rows_total.trans l.row line.row later.row less lower in let tie = tie_of_same l.row later.row same in cc)
        | inr tie ↦ ap Some tie.0
      ]
      | inr tie ↦ ap Some (sym tie.0 ∙ same)
    ]
    | inr t ↦ elim t [ inl e ↦ ap Some (ap (λ (m : PlacedLine). key_of m.row) e ∙ same) | inr n ↦ absurd n ]
  ]

  module _ (cost : RowValue → ℕ) (known : List RowValue) (last : Option Key) (start old new : ℕ) where
    abbrev Sum : List PlacedLine → ℕ
    Sum lines = sum_by cost (already_known known (rows_of lines))

    pub asked_more : IsAhead done last (line ∷ rest) → AsksOnce cost known last line old new → old ≤ start + Sum done → new ≤ start + Sum (done ++ line ∷ [])
    asked_more ahead asks so = by (has_key (rows_of done) (key_of line.row)) (has_key known (key_of line.row)) refl refl where
      each : (l : PlacedLine) → Has done l → Has (done ++ line ∷ []) l
      each l h = Has-append_left done (line ∷ []) l h

      no_less : Sum done ≤ Sum (done ++ line ∷ [])
      no_less = more_lines cost known done (done ++ line ∷ []) each

      by : (b c : Bool) → has_key (rows_of done) (key_of line.row) ≡ b → has_key known (key_of line.row) ≡ c → new ≤ start + Sum (done ++ line ∷ [])
      by true c e g =
          let r = has_from (rows_of done) (key_of line.row) e in
          let m = Has-map (λ (l : PlacedLine). l.row) done r.0 r.1 in
          let none = asks.again (ahead m.0 line m.1 (inl refl) (ap key_of m.2 ∙ r.2)) in
          omega (arith, none, so, no_less)
      by false false e g = let none = asks.unknown (no_key known (key_of line.row) g) in omega (arith, none, so, no_less)
      by false true e g =
          let r = has_from known (key_of line.row) g in
          let one = asks.one r.0 r.1 r.2 in
          let there : Has (rows_of (done ++ line ∷ [])) line.row = Has-map_from (λ (l : PlacedLine). l.row) (done ++ line ∷ []) line (Has-append_right done (line ∷ []) line (inl refl)) in
          let more = sum_less_one cost (λ row. has_key (rows_of done) (key_of row)) (λ row. has_key (rows_of (done ++ line ∷ [])) (key_of row)) known r.0
          (λ x h. more_keys (rows_of done) (rows_of (done ++ line ∷ [])) (more_rows done (done ++ line ∷ []) each) (key_of x) h)
          r.1 (ap (has_key (rows_of done)) r.2 ∙ e) (has_to (rows_of (done ++ line ∷ [])) (key_of r.0) line.row there (sym r.2)) in
          omega (arith, one, so, more)
