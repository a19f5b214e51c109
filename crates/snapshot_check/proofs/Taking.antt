-- Rows of a Snapshot are compared, one after the other.
use Rattle.std.proofs.Common.{◌≡◌, ℕ, List, [], ◌∷◌, ◌++◌, refl, sym, subst, inl, inr, ◌∙◌}
use Rattle.std.specs.Prelude.{true, false, Option, Some, None}
use Rattle.std.specs.List.{AllZip}
use Rattle.rf2_values.specs.declared.row.Kind.{Kind}
use Rattle.rf2_values.specs.declared.row.Kind.TheVariants as kinds
use Rattle.rf2_values.specs.Row.{RowValue}
use Rattle.fault_counts.specs.declared.fault.ReadFault.{ReadFault}
use Rattle.snapshot_check.specs.declared.comparing.Compared.{Compared}
use Rattle.snapshot_check.specs.declared.comparing.Verdict.{Verdict}
use Rattle.snapshot_check.specs.declared.comparing.Verdict.TheVariants as verdict
use Rattle.snapshot_check.specs.declared.told.Told.{Told}
use Rattle.snapshot_check.specs.declared.found.DifferentRow.{DifferentRow}
use Rattle.snapshot_check.specs.declared.found.Differences.{Differences}
use Rattle.snapshot_check.specs.declared.fault.PackageFault.{PackageFault}
use Rattle.snapshot_check.specs.declared.fault.CompareFault.{CompareFault}
use Rattle.snapshot_check.specs.declared.fault.CompareFault.TheVariants as comparefault
use Rattle.snapshot_check.specs.Differences.{ShownRows, AreDifferences, AreTold, TellsMissing, IsShown, TellsDifferent, HasNoOther, IsDifferent, Agrees, TellsMore, IsExpected, all_shown, shown_of_kind, is_more}
use Rattle.snapshot_check.specs.Reading.{IsFailure, IsReadOf}
use Rattle.snapshot_check.specs.Private.{IsSeen, IsTaken, IsCompared, IsNothingTold, IsVerdictOn, Notes, Adds, AddsMore, AddsThose, IsItself}
use Rattle.snapshot_check.proofs.Picking.{none_told, told_then, told_weaker, adds_one, adds_other, adds_weaker, adds_for}

module _ (reads : RowValue → RowValue → Type 0) (shown : ShownRows) (limit : ℕ) where
  pub none_compared : (c : Compared) → IsSeen [] c.seen → IsNothingTold c.missing → IsNothingTold c.different → IsCompared reads [] shown limit c
  none_compared c seen missing different = record {
    seen = seen;
    missing = none_told (TellsMissing shown) (IsShown shown) limit c.missing missing;
    different = none_told (TellsDifferent reads shown) (HasNoOther reads shown) limit c.different different;
  }

  -- one row more was compared
  pub taken : (rows : List RowValue) (row : RowValue) (old new : Compared) → IsCompared reads rows shown limit old → IsTaken reads shown limit row old new → IsCompared reads (rows ++ row ∷ []) shown limit new
  taken rows row old new c t = record {
    seen = t.seen rows c.seen;
    missing = told_then (TellsMissing shown) (IsShown shown) limit rows (row ∷ []) old.missing new.missing c.missing t.missing;
    different = told_then (TellsDifferent reads shown) (HasNoOther reads shown) limit rows (row ∷ []) old.different new.different c.different t.different;
  }

  -- a row was seen, and then the verdict on it was noted
  pub judged : (row : RowValue) (v : Verdict) (old mid new : Compared) → IsVerdictOn reads shown row v → Notes limit v mid new → mid.missing ≡ old.missing → mid.different ≡ old.different
      → Adds (TellsMissing shown) (IsShown shown) (row ∷ []) limit old.missing new.missing × Adds (TellsDifferent reads shown) (HasNoOther reads shown) (row ∷ []) limit old.different new.different
  judged row (verdict.Missing told) old mid new is notes m d = (
    subst (λ t. Adds (TellsMissing shown) (IsShown shown) (row ∷ []) limit t new.missing) m (adds_one (TellsMissing shown) (IsShown shown) limit row told mid.missing new.missing is notes.0),
    adds_other (TellsDifferent reads shown) (HasNoOther reads shown) limit row old.different new.different (inl is.0) (notes.1 ∙ d),
  )
  judged row (verdict.Different told) old mid new is notes m d = (
    adds_other (TellsMissing shown) (IsShown shown) limit row old.missing new.missing (is.1.wanted, is.1.component) (notes.1 ∙ m),
    subst (λ t. Adds (TellsDifferent reads shown) (HasNoOther reads shown) (row ∷ []) limit t new.different) d (adds_one (TellsDifferent reads shown) (HasNoOther reads shown) limit row told mid.different new.different is notes.0),
  )
  judged row verdict.Same old mid new is notes m d = (
    adds_other (TellsMissing shown) (IsShown shown) limit row old.missing new.missing (is.wanted, is.component) (notes.0 ∙ m),
    adds_other (TellsDifferent reads shown) (HasNoOther reads shown) limit row old.different new.different (inr is) (notes.1 ∙ d),
  )

-- what may be read more often is read so
module _ (reads more : RowValue → RowValue → Type 0) (weaker : (read wanted : RowValue) → reads read wanted → more read wanted) where
  different_so : (shown : ShownRows) (row other : RowValue) → IsDifferent reads shown row other → IsDifferent more shown row other
  different_so shown row other d = record { wanted = d.wanted; component = d.component; read = weaker other d.wanted d.read; differs = d.differs }

  agrees_so : (shown : ShownRows) (row : RowValue) → Agrees reads shown row → Agrees more shown row
  agrees_so shown row a = record { wanted = a.wanted; component = a.component; read = weaker row a.wanted a.read }

  tells_so : (shown : ShownRows) (row : RowValue) (told : DifferentRow) → TellsDifferent reads shown row told → TellsDifferent more shown row told
  tells_so shown row told t = (t.0, different_so shown row told.shown t.1)

  no_other_so : (shown : ShownRows) (row : RowValue) → HasNoOther reads shown row → HasNoOther more shown row
  no_other_so shown row n = elim n [ inl m ↦ inl m | inr a ↦ inr (agrees_so shown row a) ]

  pub taken_so : (shown : ShownRows) (limit : ℕ) (row : RowValue) (old new : Compared) → IsTaken reads shown limit row old new → IsTaken more shown limit row old new
  taken_so shown limit row old new t = record {
    seen = t.seen;
    missing = t.missing;
    different = adds_weaker (TellsDifferent reads shown) (TellsDifferent more shown) (HasNoOther reads shown) (HasNoOther more shown) (tells_so shown) (no_other_so shown) (row ∷ []) limit old.different new.different t.different;
  }

  more_told : (rows : List RowValue) (wanted read : RowValue) → TellsMore reads rows wanted read → TellsMore more rows wanted read
  more_told rows wanted read m = (weaker read wanted m.0, m.1)

  expected_so : (rows : List RowValue) (wanted : RowValue) → IsExpected reads rows wanted → IsExpected more rows wanted
  expected_so rows wanted e = (e.0, weaker e.0 wanted e.1, e.2)

  pub adds_more_so : (rows wanted : List RowValue) (limit : ℕ) (old new : Told RowValue) → AddsMore reads rows wanted limit old new → AddsMore more rows wanted limit old new
  adds_more_so rows wanted limit old new a = adds_weaker (TellsMore reads rows) (TellsMore more rows) (IsExpected reads rows) (IsExpected more rows) (more_told rows) (expected_so rows) wanted limit old new a

  -- the same, of the rows that were shown before
  pub adds_at : (rows : List RowValue) (kind : Kind) (now was : ShownRows) (limit : ℕ) (old new : Told RowValue) → now ≡ was → AddsMore reads rows (shown_of_kind now kind) limit old new → AddsMore more rows (shown_of_kind was kind) limit old new
  adds_at rows kind now was limit old new same a = adds_more_so rows (shown_of_kind was kind) limit old new (subst (λ s. AddsMore reads rows (shown_of_kind s kind) limit old new) same a)

  pub told_at : (rows : List RowValue) (now was : ShownRows) (limit : ℕ) (told : Told RowValue) → now ≡ was → AreTold (TellsMore reads rows) (IsExpected reads rows) (all_shown now) limit told → AreTold (TellsMore more rows) (IsExpected more rows) (all_shown was) limit told
  told_at rows now was limit told same t =
      told_weaker (TellsMore reads rows) (TellsMore more rows) (IsExpected reads rows) (IsExpected more rows) (more_told rows) (expected_so rows) (all_shown was) limit told
      (subst (λ s. AreTold (TellsMore reads rows) (IsExpected reads rows) (all_shown s) limit told) same t)

  pub differences_so : (rows : List RowValue) (shown : ShownRows) (limit : ℕ) (found : Differences) → AreDifferences reads rows shown limit found → AreDifferences more rows shown limit found
  differences_so rows shown limit found d = record {
    counted = d.counted;
    missing = d.missing;
    different = told_weaker (TellsDifferent reads shown) (TellsDifferent more shown) (HasNoOther reads shown) (HasNoOther more shown) (tells_so shown) (no_other_so shown) rows limit found.different d.different;
    more = told_weaker (TellsMore reads rows) (TellsMore more rows) (IsExpected reads rows) (IsExpected more rows) (more_told rows) (expected_so rows) (all_shown shown) limit found.more d.more;
  }

-- what was added of a page that was read, was added of the rows that are shown
pub adds_page : (reads : RowValue → RowValue → Type 0) (rows read wanted : List RowValue) (limit : ℕ) (old new : Told RowValue) → AllZip reads read wanted → AddsThose rows read limit old new → AddsMore reads rows wanted limit old new
adds_page reads rows read wanted limit old new zip a =
    adds_for reads (IsItself rows) (TellsMore reads rows) (λ row. is_more rows row ≡ false) (IsExpected reads rows)
    (λ x w y r i. (subst (λ z. reads z w) (sym i.0) r, subst (λ z. is_more rows z ≡ true) (sym i.0) i.1))
    (λ x w r o. (x, r, o))
    read wanted limit old new zip a

-- a call failed after others that were answered
pub failed_after : (faulty : PackageFault → Type 0) (stays stays_so : Type 0) (fails fails_so : ReadFault → Type 0) (e : CompareFault) → (stays → stays_so) → ((f : ReadFault) → fails f → fails_so f)
    → IsFailure (λ _. ⊥) stays fails e → IsFailure faulty stays_so fails_so e
failed_after faulty stays stays_so fails fails_so comparefault.OutOfMemory on fail w = on w
failed_after faulty stays stays_so fails fails_so (comparefault.Package f) on fail w = absurd w.0
failed_after faulty stays stays_so fails fails_so (comparefault.Shown f) on fail w = fail f w

-- those that are more of each kind in turn are those that are more of all
pub all_kinds : (reads : RowValue → RowValue → Type 0) (rows : List RowValue) (shown : ShownRows) (limit : ℕ) (t0 t1 t2 t3 t4 t5 t6 : Told RowValue) → IsNothingTold t0
    → AddsMore reads rows (shown_of_kind shown kinds.Concept) limit t0 t1
    → AddsMore reads rows (shown_of_kind shown kinds.Description) limit t1 t2
    → AddsMore reads rows (shown_of_kind shown kinds.Relationship) limit t2 t3
    → AddsMore reads rows (shown_of_kind shown kinds.Association) limit t3 t4
    → AddsMore reads rows (shown_of_kind shown kinds.Concrete) limit t4 t5
    → AddsMore reads rows (shown_of_kind shown kinds.Member) limit t5 t6
    → AreTold (TellsMore reads rows) (IsExpected reads rows) (all_shown shown) limit t6
all_kinds reads rows shown limit t0 t1 t2 t3 t4 t5 t6 none a1 a2 a3 a4 a5 a6 =
    let k = shown_of_kind shown in
    let c = k kinds.Concept in
    let d = k kinds.Description in
    let r = k kinds.Relationship in
    let a = k kinds.Association in
    let v = k kinds.Concrete in
    let on = told_then (TellsMore reads rows) (IsExpected reads rows) limit in
    let b0 = none_told (TellsMore reads rows) (IsExpected reads rows) limit t0 none in
    let b1 = on [] c t0 t1 b0 a1 in
    let b2 = on c d t1 t2 b1 a2 in
    let b3 = on (c ++ d) r t2 t3 b2 a3 in
    let b4 = on (c ++ d ++ r) a t3 t4 b3 a4 in
    let b5 = on (c ++ d ++ r ++ a) v t4 t5 b4 a5 in
    on (c ++ d ++ r ++ a ++ v) (k kinds.Member) t5 t6 b5 a6

-- what was read of a component
pub none_read : (reads : RowValue → RowValue → Type 0) (wanted : Option RowValue) → IsReadOf reads wanted None → wanted ≡ None
none_read reads None is = refl
none_read reads (Some w) is = absurd is

pub some_read : (reads : RowValue → RowValue → Type 0) (wanted : Option RowValue) (read : RowValue) → IsReadOf reads wanted (Some read) → (w : RowValue) × (wanted ≡ Some w) × reads read w
some_read reads None read is = absurd is
some_read reads (Some w) read is = (w, refl, is)
