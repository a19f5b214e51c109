-- A release is consistent with what is known where each of its rows agrees with each.
use Rattle.std.proofs.Common.{◌≡◌, ◌↔◌, List, ◌++◌, map, All, sym, ap, subst, inl, inr, ◌∙◌}
use Rattle.std.specs.Prelude.{Bool, false, IsTrue}
use Rattle.std.proofs.lemmas.List.Elements.{recursion_from_All, All-from_recursion}
use Rattle.rf2_values.specs.Row.{RowValue}
use Rattle.rf2_values.specs.Key.{key_of}
use Rattle.history_model.specs.declared.stamped.StampedRow.{StampedRow}
use Rattle.history_model.specs.InOrder.{Has}
use Rattle.history_model.specs.History.{IsConsistent}
use Rattle.plain_history.specs.Private.{Agree, AgreesWithKnown, AgreesWithEach}
use Rattle.history_model.proofs.InOrder.{Has-all, all_from_has, Has-append_left, Has-append_right, Has-append_cases}
use Rattle.history_model.proofs.Filtered.{Has-map, Has-map_from}

Has-All : {X : Type 0} (P : X → Type 0) (xs : List X) (x : X) → All P xs → Has xs x → P x
Has-All P xs x all h = Has-all P xs x (recursion_from_All P xs all) h

All-from_has : {X : Type 0} (P : X → Type 0) (xs : List X) → ((x : X) → Has xs x → P x) → All P xs
All-from_has P xs each = All-from_recursion P xs (all_from_has P xs each)

module _ (rows : List StampedRow) (release : List RowValue) where
  abbrev known : List RowValue
  known = map (λ (s : StampedRow). s.row) rows

  -- a row of the release agrees with any
  agrees : All (AgreesWithEach rows release) release → (a b : RowValue) → Has release a → Has (known ++ release) b → key_of a ≡ key_of b → a ≡ b
  unfolding AgreesWithEach AgreesWithKnown
  agrees all a b h k e =
      let own = Has-All (AgreesWithEach rows release) release a all h in
      elim (Has-append_cases known release b k) [
        | inl l ↦ let m = Has-map (λ (s : StampedRow). s.row) rows b l in subst (λ r. key_of a ≡ key_of r → a ≡ r) m.2 (Has-All (λ (s : StampedRow). Agree a s.row) rows m.0 own.0 m.1) e
        | inr r ↦ Has-All (Agree a) release b own.1 r e
      ]

  each_from_consistent : IsConsistent (known ++ release) → All (AgreesWithEach rows release) release
  unfolding AgreesWithEach AgreesWithKnown
  each_from_consistent c = All-from_has (λ row. All (λ (s : StampedRow). Agree row s.row) rows × All (Agree row) release) release (λ row there. (
    All-from_has (λ (s : StampedRow). Agree row s.row) rows (λ s h e. c row s.row (Has-append_right known release row there) (Has-append_left known release s.row (Has-map_from (λ (s : StampedRow). s.row) rows s h)) e),
    All-from_has (Agree row) release (λ other h e. c row other (Has-append_right known release row there) (Has-append_right known release other h) e),
  ))

  known_consistent : All (λ (s : StampedRow). AgreesWithKnown rows s.row) rows → IsConsistent known
  unfolding AgreesWithKnown
  known_consistent all a b h k e =
      let m = Has-map (λ (s : StampedRow). s.row) rows a h in
      let n = Has-map (λ (s : StampedRow). s.row) rows b k in
      let own = Has-All (λ (s : StampedRow). All (λ (t : StampedRow). Agree s.row t.row) rows) rows m.0 all m.1 in
      sym m.2 ∙ Has-All (λ (t : StampedRow). Agree m.0.row t.row) rows n.0 own n.1 (ap key_of m.2 ∙ e ∙ ap key_of (sym n.2)) ∙ n.2

  each_known : IsConsistent (known ++ release) → All (λ (s : StampedRow). AgreesWithKnown rows s.row) rows
  unfolding AgreesWithKnown
  each_known c = All-from_has (λ (s : StampedRow). All (λ (t : StampedRow). Agree s.row t.row) rows) rows (λ s h. All-from_has (λ (t : StampedRow). Agree s.row t.row) rows (λ t k e. c s.row t.row (Has-append_left known release s.row (Has-map_from (λ (s : StampedRow). s.row) rows s h)) (Has-append_left known release t.row (Has-map_from (λ (s : StampedRow). s.row) rows t k)) e))

  consistent_from_both : All (λ (s : StampedRow). AgreesWithKnown rows s.row) rows → All (AgreesWithEach rows release) release → IsConsistent (known ++ release)
  consistent_from_both one all a b h k e = elim (Has-append_cases known release a h) [
    | inl l ↦ elim (Has-append_cases known release b k) [
      | inl m ↦ known_consistent one a b l m e
      | inr r ↦ sym (agrees all b a r h (sym e))
    ]
    | inr r ↦ agrees all a b r k e
  ]

  -- the first test passes, and the second decides
  pub accepted_by_second : (a b : Bool) → IsTrue a ↔ All (λ (s : StampedRow). AgreesWithKnown rows s.row) rows → IsTrue a → IsTrue b ↔ All (AgreesWithEach rows release) release → IsTrue b ↔ IsConsistent (known ++ release)
  accepted_by_second a b says passed tells = (λ t. consistent_from_both (says.0 passed) (tells.0 t), λ c. tells.1 (each_from_consistent c))

  -- the first test fails
  pub refused_by_first : (a : Bool) → IsTrue a ↔ All (λ (s : StampedRow). AgreesWithKnown rows s.row) rows → a ≡ false → IsTrue a ↔ IsConsistent (known ++ release)
  refused_by_first a says failed = (λ t. absurd (cc), λ c. says.1 (each_known c))
