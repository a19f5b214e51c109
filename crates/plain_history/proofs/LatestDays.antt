-- The latest day of the rows that a loop has looked at.
use Rattle.std.proofs.Common.{◌≡◌, ◌≢◌, ◌⊎◌, ℕ, ◌+◌, ◌<◌, Bool, true, false, cond, List, [], ◌∷◌, ◌++◌, length, get_or, take, refl, sym, ap, subst, inl, inr, ◌∙◌, arith}
use Rattle.std.specs.Prelude.{◌==◌, Option, Some, None}
use Rattle.std.specs.List.{filter}
use Rattle.std.proofs.lemmas.Bool.Decides.{nat_tests, leb_tells}
use Rattle.std.proofs.lemmas.List.{take_more, append-nil}
use Rattle.std.proofs.lemmas.List.Elements.{filter-append}
use Rattle.history_model.specs.declared.stamped.StampedRow.{StampedRow}
use Rattle.history_model.specs.InOrder.{Has}
use Rattle.history_model.specs.Brought.{brought_by, IsLatestDay}
use Rattle.history_model.proofs.InOrder.{Has-append_left, Has-append_right, Has-append_cases}
use Rattle.plain_history.specs.Private.{later}

-- with one row more
latest_with : (s : StampedRow) (rows more : List StampedRow) (day : Option ℕ) → Has more s → ((r : StampedRow) → Has more r → (s ≡ r) ⊎ Has rows r) → ((r : StampedRow) → Has rows r → Has more r) → IsLatestDay day rows → IsLatestDay (Some (later s.row.time day)) more
latest_with s rows more None own within from e = (
  (s, own, refl),
  λ r h. elim (within r h) [
    | inl same ↦ let times = ap (λ (u : StampedRow). u.row.time) same in omega (arith, times)
    | inr k ↦ absurd (subst (λ rs. Has rs r) e k)
  ],
)
latest_with s rows more (Some day) own within from e = (
  elim (leb_tells s.row.time day) [
    | inl t ↦ (e.0.0, from e.0.0 e.0.1, omega (arith, t.1, e.0.2))
    | inr t ↦ (s, own, omega (arith, t.1))
  ],
  λ r h. elim (within r h) [
    | inl same ↦ let times = ap (λ (u : StampedRow). u.row.time) same in omega (arith, times)
    | inr k ↦ let low = e.1 r k in omega (arith, low)
  ],
)

-- the next row is looked at: one that the import brought, or another
brought_next : (number : ℕ) (rows : List StampedRow) (i : ℕ) (s : StampedRow) (t : Bool) → i < length rows → s ≡ get_or rows i s → (s.import == number) ≡ t → brought_by number (take (i + 1) rows) ≡ brought_by number (take i rows) ++ cond t (s ∷ []) []
unfolding brought_by
brought_next number rows i s t lt is e =
    ap (filter (λ s. s.import == number)) (take_more rows i s lt ∙ ap (λ r. take i rows ++ r ∷ []) (sym is))
    ∙ filter-append (λ s. s.import == number) (take i rows) (s ∷ [])
    ∙ ap (λ u. filter (λ s. s.import == number) (take i rows) ++ cond u (s ∷ []) []) e

latest_next : (rows : List StampedRow) (s : StampedRow) (day : Option ℕ) → IsLatestDay day rows → IsLatestDay (Some (later s.row.time day)) (rows ++ s ∷ [])
latest_next rows s day e =
    latest_with s rows (rows ++ s ∷ []) day (Has-append_right rows (s ∷ []) s (inl refl))
    (λ r h. elim (Has-append_cases rows (s ∷ []) r h) [ inl k ↦ inr k | inr k ↦ elim k [ inl same ↦ inl same | inr none ↦ absurd none ] ])
    (λ r h. Has-append_left rows (s ∷ []) r h)
    e

pub latest_more : (number : ℕ) (rows : List StampedRow) (i : ℕ) (s : StampedRow) (day found : Option ℕ) → i < length rows → s ≡ get_or rows i s → s.import ≡ number → found ≡ Some (later s.row.time day) → IsLatestDay day (brought_by number (take i rows)) → IsLatestDay found (brought_by number (take (i + 1) rows))
latest_more number rows i s day found lt is own e known =
    let next = brought_next number rows i s true lt is (grind (arith, nat_tests, own)) in
    subst (λ d. IsLatestDay d (brought_by number (take (i + 1) rows))) (sym e)
    (subst (λ rs. IsLatestDay (Some (later s.row.time day)) rs) (sym next) (latest_next (brought_by number (take i rows)) s day known))

pub latest_same : (number : ℕ) (rows : List StampedRow) (i : ℕ) (s : StampedRow) (day found : Option ℕ) → i < length rows → s ≡ get_or rows i s → s.import ≢ number → found ≡ day → IsLatestDay day (brought_by number (take i rows)) → IsLatestDay found (brought_by number (take (i + 1) rows))
latest_same number rows i s day found lt is other e known =
    let next = brought_next number rows i s false lt is (grind (arith, nat_tests, other)) ∙ append-nil (brought_by number (take i rows)) in
    subst (λ d. IsLatestDay d (brought_by number (take (i + 1) rows))) (sym e) (subst (λ rs. IsLatestDay day rs) (sym next) known)
