-- Which rows of the lines so far are new by their keys, whatever rows are given.
use Rattle.std.proofs.Common.{◌≡◌, ◌⊎◌, ◌≤◌, List, [], ◌∷◌, ◌++◌, length, refl, sym, ap, subst, inl, inr, ◌∙◌, arith}
use Rattle.std.specs.Prelude.{ℕ, suc, ◌-◌, Option, Some, None, IfSome, IsSomeAnd, MatchOption, Result, Ok, Err, IfOk, IsOkAnd}
use Rattle.std.specs.List.Sorted.{IsPermutation}
use Rattle.std.proofs.lemmas.List.Sorted.{IsPermutation-sym}
use Rattle.rf2_values.specs.declared.key.Key.{Key}
use Rattle.rf2_values.specs.Row.{RowValue}
use Rattle.rf2_values.specs.Key.{key_of}
use Rattle.history_model.specs.InOrder.{Has}
use Rattle.history_model.proofs.InOrder.{Has-append_left, Has-append_right, Has-append_cases}
use Rattle.history_model.proofs.Items.{Has-slice_get, Has-permuted}
use Rattle.import_check.specs.declared.sweep.Contradiction.{Contradiction}
use Rattle.import_check.specs.declared.sweep.Sweep.{Sweep}
use Rattle.import_check.specs.declared.release.PlacedLine.{PlacedLine}
use Rattle.import_check.specs.declared.found.NewRows.{NewRows}
use Rattle.import_check.specs.declared.fault.ImportFault.{ImportFault}
use Rattle.import_check.specs.declared.fault.ImportFault.TheVariants as importfault
use Rattle.import_check.specs.Known.{MayBeKnown}
use Rattle.import_check.specs.Release.{rows_of}
use Rattle.import_check.specs.NewRows.{AreNewByKey}
use Rattle.import_check.specs.Private.Sweep.{IsApart, IsGathered, GoesOn, GoesOnWithKey, GoesOnWithKnown, GoesOnWithNew, IsOutcome, IsVerdict, standing_row, standing_of}
use Rattle.import_check.proofs.Asking.{more_rows}
use Rattle.import_check.proofs.Sweeping.{last_pushed}

-- the row that counts is that of a line that was taken
abbrev pub LastIs : List PlacedLine → List RowValue → Key → Type 0
LastIs done fresh key = (first : PlacedLine) × Has done first × (standing_row None fresh ≡ Some first.row) × (key_of first.row ≡ key)

pub last_with : (done : List PlacedLine) (fresh : List RowValue) (last : Option Key) (key : Key) → IfSome last (LastIs done fresh) → IsSomeAnd last (λ k. k ≡ key) → LastIs done fresh key
last_with done fresh None key is at = absurd at
last_with done fresh (Some k) key is at = (is.0, is.1, is.2, is.3 ∙ at)

last_more : (done : List PlacedLine) (line : PlacedLine) (fresh : List RowValue) (last : Option Key) → IfSome last (LastIs done fresh) → IfSome last (LastIs (done ++ line ∷ []) fresh)
last_more done line fresh None is = tt
last_more done line fresh (Some k) is = (is.0, Has-append_left done (line ∷ []) is.0 is.1, is.2, is.3)

pub gathered_none : (known : List RowValue) (may_be : RowValue → Type 0) (s : Sweep) → s.fresh.items ≡ [] → s.known_row ≡ None → s.key ≡ None → IsGathered known may_be [] s
gathered_none known may_be s none unread at = record {
  from_lines = λ row h. absurd (subst (λ rows. Has rows row) none h);
  each = λ first row h. absurd h;
  known_row = λ row e. absurd (cc);
  new_key = λ e. subst (λ o. IfSome o (LastIs [] s.fresh.items)) (sym at) tt;
}

rows_cases : (done : List PlacedLine) (line : PlacedLine) (row : RowValue) → Has (rows_of (done ++ line ∷ [])) row → Has (rows_of done) row ⊎ (line.row ≡ row)
rows_cases [] line row (inl e) = inr e
rows_cases [] line row (inr n) = absurd n
rows_cases (l ∷ done) line row (inl e) = inl (inl e)
rows_cases (l ∷ done) line row (inr h) = elim (rows_cases done line row h) [ inl before ↦ inl (inr before) | inr e ↦ inr e ]

rows_before : (done : List PlacedLine) (line : PlacedLine) (row : RowValue) → Has (rows_of done) row → Has (rows_of (done ++ line ∷ [])) row
rows_before [] line row h = absurd h
rows_before (l ∷ done) line row (inl e) = inl e
rows_before (l ∷ done) line row (inr h) = inr (rows_before done line row h)

row_last : (done : List PlacedLine) (line : PlacedLine) → Has (rows_of (done ++ line ∷ [])) line.row
row_last [] line = inl refl
row_last (l ∷ done) line = inr (row_last done line)

-- where none contradicts after a line, its row is the one that stands, and none did before
agreed : (standing : Option RowValue) (first : Option Contradiction) (line : PlacedLine) (now : Option Contradiction) → IsVerdict standing first line now → now ≡ None → (standing ≡ Some line.row) × (first ≡ None)
agreed standing first line now (inl p) none = (p.0, sym p.1 ∙ none)
agreed standing first line now (inr p) none = let found = p.2 in absurd (cc)

-- a line that agrees with the row that counts is new, or may be known
agrees_with : (known : List RowValue) (may_be : RowValue → Type 0) (known_row : Option RowValue) (fresh : List RowValue) (row : RowValue) → ((r : RowValue) → known_row ≡ Some r → MayBeKnown known may_be r) → standing_row known_row fresh ≡ Some row
    → Has fresh row ⊎ MayBeKnown known may_be row
agrees_with known may_be None fresh row shown standing = inl (Has-slice_get fresh (length fresh - 1) row standing)
agrees_with known may_be (Some r) fresh row shown standing = let same : r ≡ row = cc in inr (subst (λ (x : RowValue). MayBeKnown known may_be x) same (shown r refl))

module _ (known : List RowValue) (may_be : RowValue → Type 0) (done : List PlacedLine) (line : PlacedLine) (old new : Sweep) (g : IsGathered known may_be done old) where
  gathered_same : GoesOnWithKey line old new → IsGathered known may_be (done ++ line ∷ []) new
  gathered_same same =
      let rows : new.fresh.items ≡ old.fresh.items = ap (λ (s : Sweep). s.fresh.items) same.kept in
      record {
        from_lines = λ row h. rows_before done line row (g.from_lines row (subst (λ x. Has x row) rows h));
        each = λ none row h.
            let so = agreed (standing_of old) old.first line new.first same.verdict none in
            subst (λ x. Has x row ⊎ MayBeKnown known may_be row) (sym rows) (elim (rows_cases done line row h) as (λ _. Has old.fresh.items row ⊎ MayBeKnown known may_be row) [
              | inl before ↦ g.each so.1 row before
              | inr e ↦ subst (λ (r : RowValue). Has old.fresh.items r ⊎ MayBeKnown known may_be r) e (agrees_with known may_be old.known_row old.fresh.items line.row (λ r is. (g.known_row r is).1) so.0)
            ]);
        known_row = λ row e.
            let was = g.known_row row (sym (ap (λ (s : Sweep). s.known_row) same.kept) ∙ e) in
            (subst (λ k. IsSomeAnd k (λ key. key_of row ≡ key)) (sym (ap (λ (s : Sweep). s.key) same.kept)) was.0, was.1);
        new_key = λ e.
            subst (λ o. IfSome o (LastIs (done ++ line ∷ []) new.fresh.items)) (sym (ap (λ (s : Sweep). s.key) same.kept))
            (subst (λ fresh. IfSome old.key (LastIs (done ++ line ∷ []) fresh)) (sym rows) (last_more done line old.fresh.items old.key (g.new_key (sym (ap (λ (s : Sweep). s.known_row) same.kept) ∙ e))));
      }

  gathered_known : GoesOnWithKnown known may_be line old new → IsGathered known may_be (done ++ line ∷ []) new
  gathered_known k = record {
    from_lines = λ row h. rows_before done line row (g.from_lines row (subst (λ x. Has x row) k.fresh h));
    each = λ none row h.
        let so = agreed (Some k.found) old.first line new.first k.verdict none in
        subst (λ x. Has x row ⊎ MayBeKnown known may_be row) (sym k.fresh) (elim (rows_cases done line row h) as (λ _. Has old.fresh.items row ⊎ MayBeKnown known may_be row) [
          | inl before ↦ g.each so.1 row before
          | inr e ↦ let agrees = so.0 in let same : k.found ≡ line.row = cc in inr (subst (λ (r : RowValue). MayBeKnown known may_be r) (same ∙ e) k.may_be_known)
        ]);
    known_row = λ row e.
        let at = k.known_row in
        let same : k.found ≡ row = cc in (
          subst (λ (r : RowValue). IsSomeAnd new.key (λ key. key_of r ≡ key)) same (subst (λ o. IsSomeAnd o (λ key. key_of k.found ≡ key)) (sym k.key) k.same_key),
          subst (λ (r : RowValue). MayBeKnown known may_be r) same k.may_be_known,
        );
    new_key = λ e. let at = k.known_row in absurd (cc);
  }

  gathered_new : GoesOnWithNew known line old new → IsGathered known may_be (done ++ line ∷ []) new
  gathered_new n = record {
    from_lines = λ row h. elim (Has-append_cases old.fresh.items (line.row ∷ []) row (subst (λ x. Has x row) n.fresh h)) as (λ _. Has (rows_of (done ++ line ∷ [])) row) [
      | inl before ↦ rows_before done line row (g.from_lines row before)
      | inr t ↦ elim t [ inl e ↦ subst (λ r. Has (rows_of (done ++ line ∷ [])) r) e (row_last done line) | inr never ↦ absurd never ]
    ];
    each = λ none row h. subst (λ x. Has x row ⊎ MayBeKnown known may_be row) (sym n.fresh) (elim (rows_cases done line row h) as (λ _. Has (old.fresh.items ++ line.row ∷ []) row ⊎ MayBeKnown known may_be row) [
      | inl before ↦ elim (g.each (sym n.first ∙ none) row before) as (λ _. Has (old.fresh.items ++ line.row ∷ []) row ⊎ MayBeKnown known may_be row) [
        | inl fresh ↦ inl (Has-append_left old.fresh.items (line.row ∷ []) row fresh)
        | inr may ↦ inr may
      ]
      | inr e ↦ inl (Has-append_right old.fresh.items (line.row ∷ []) row (inl e))
    ]);
    known_row = λ row e. let none = n.known_row in absurd (cc);
    new_key = λ e. subst (λ o. IfSome o (LastIs (done ++ line ∷ []) new.fresh.items)) (sym n.key) (line, Has-append_right done (line ∷ []) line (inl refl), ap (standing_row None) n.fresh ∙ last_pushed old.fresh.items line.row, refl);
  }

  pub gathered_on : GoesOn known may_be line old new → IsGathered known may_be (done ++ line ∷ []) new
  gathered_on (inl same) = gathered_same same
  gathered_on (inr (inl k)) = gathered_known k
  gathered_on (inr (inr n)) = gathered_new n

-- what a pass over the lines in another order ends with, where none contradicts
pub outcome_by_key : (known : List RowValue) (may_be : RowValue → Type 0) (lines sorted : List PlacedLine) (s : Sweep) (count : ℕ) (r : Result NewRows ImportFault) → IsPermutation lines sorted → count ≡ length lines → length s.fresh.items ≤ length sorted → length sorted ≡ length lines
    → IsApart known s.fresh.items → IsGathered known may_be sorted s → IsOutcome s count r → IfOk r (AreNewByKey known may_be (rows_of lines))
outcome_by_key known may_be lines sorted s count r permuted count_is few same apart g outcome = by s.first refl r outcome where
  here : (row : RowValue) → Has (rows_of sorted) row → Has (rows_of lines) row
  here = more_rows sorted lines (λ l h. Has-permuted lines sorted permuted l h)

  back : (row : RowValue) → Has (rows_of lines) row → Has (rows_of sorted) row
  back = more_rows lines sorted (λ l h. Has-permuted sorted lines (IsPermutation-sym lines sorted permuted) l h)

  length_rows : (ls : List PlacedLine) → length (rows_of ls) ≡ length ls
  length_rows [] = refl
  length_rows (l ∷ ls) = ap suc (length_rows ls)

  by : (first : Option Contradiction) → s.first ≡ first → (r : Result NewRows ImportFault)
      → MatchOption first (IsOkAnd r (λ f. (f.rows.items ≡ s.fresh.items) × (f.repeated ≡ count - length s.fresh.items))) (λ c. r ≡ Err (importfault.Contradiction c.file c.line c.key))
      → IfOk r (AreNewByKey known may_be (rows_of lines))
  by None none (Ok f) ok =
      let rows : f.rows.items ≡ s.fresh.items = ok.0 in
      record {
        ascending = (subst (λ x. IsApart known x) (sym rows) apart).ascending;
        from_release = λ row h. here row (g.from_lines row (subst (λ x. Has x row) rows h));
        unknown = (subst (λ x. IsApart known x) (sym rows) apart).unknown;
        each = λ row h. subst (λ x. Has x row ⊎ MayBeKnown known may_be row) (sym rows) (g.each none row (back row h));
        counted = let all = length_rows lines in let own : length f.rows.items ≡ length s.fresh.items = ap length rows in let left = ok.1 in omega (arith, all, own, left, few, same, count_is);
      }
  by None none (Err e) ok = tt
  by (Some c) found (Ok f) out = absurd (cc)
  by (Some c) found (Err e) out = tt
