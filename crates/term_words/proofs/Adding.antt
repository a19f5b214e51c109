-- Rows that are added one after the other.
use Rattle.std.proofs.Common.{◌≡◌, ℕ, List, [], ◌∷◌, ◌++◌, refl, sym, ap, subst, inl, inr, ◌∙◌, append-nil, append_assoc}
use Rattle.std.specs.Prelude.{Option, Some, None, slice_get}
use Rattle.std.specs.Option.{option_to_list}
use Rattle.std.proofs.lemmas.Grind.{flat_map-append}
use Rattle.std.proofs.lemmas.Option.{same_Some}
use Rattle.history_model.specs.declared.stamped.StampedRow.{StampedRow}
use Rattle.history_model.proofs.InOrder.{Has-append_left, Has-append_right, Has-append_cases}
use Rattle.segment.specs.declared.place.RowPlace.{RowPlace}
use Rattle.as_of_index.specs.declared.as_of.AsOf.{AsOf}
use Rattle.as_of_index.specs.declared.chosen.Chosen.{Chosen}
use Rattle.as_of_index.specs.Current.{IsPlaceOfRow, IsCurrentAt}
use Rattle.term_words.specs.declared.grouping.Group.{Group}
use Rattle.term_words.specs.Private.{picked, sized, IsOfRows, AddsRows, AddsRowsOf, AddsMarked}

module _ (lists : List (List StampedRow)) (as_of : AsOf) (n len : ℕ) where
  pub rows_none : (kept : List Chosen) → AddsRows lists as_of n len [] kept kept
  rows_none kept = record { more = []; kept_are = sym (append-nil kept); only = λ k h. absurd h; all = λ k w. absurd w.1 }

  pub rows_both : (xs ys : List ℕ) (kept kept' kept'' : List Chosen) → AddsRows lists as_of n len xs kept kept' → AddsRows lists as_of n len ys kept' kept'' → AddsRows lists as_of n len (xs ++ ys) kept kept''
  rows_both xs ys kept kept' kept'' a b = record {
    more = a.more ++ b.more;
    kept_are = b.kept_are ∙ ap (λ ks. ks ++ b.more) a.kept_are ∙ append_assoc kept a.more b.more;
    only = λ k h. elim (Has-append_cases a.more b.more k h) [
      | inl l ↦ (let w = a.only k l in (w.0, Has-append_left xs ys w.0 w.1, w.2, w.3, w.4))
      | inr r ↦ (let w = b.only k r in (w.0, Has-append_right xs ys w.0 w.1, w.2, w.3, w.4))
    ];
    all = λ k w. elim (Has-append_cases xs ys w.0 w.1) [
      | inl l ↦ Has-append_left a.more b.more k (a.all k (w.0, l, w.2, w.3, w.4))
      | inr r ↦ Has-append_right a.more b.more k (b.all k (w.0, r, w.2, w.3, w.4))
    ];
  }

  -- the rows with one number more
  pub rows_next : (rows numbers : List ℕ) (number : ℕ) (kept kept' kept'' : List Chosen) → AddsRows lists as_of n len (picked rows numbers) kept kept' → AddsRows lists as_of n len (picked rows (number ∷ [])) kept' kept'' → AddsRows lists as_of n len (picked rows (numbers ++ number ∷ [])) kept kept''
  rows_next rows numbers number kept kept' kept'' a b =
      subst (λ rs. AddsRows lists as_of n len rs kept kept'') (sym (flat_map-append (λ j. option_to_list (slice_get rows j)) numbers (number ∷ []))) (rows_both (picked rows numbers) (picked rows (number ∷ [])) kept kept' kept'' a b)

  -- the row with a number
  pub row_picked : (rows : List ℕ) (number row : ℕ) (kept kept' : List Chosen) → slice_get rows number ≡ Some row → AddsRows lists as_of n len (row ∷ []) kept kept' → AddsRows lists as_of n len (picked rows (number ∷ [])) kept kept'
  row_picked rows number row kept kept' is adds = subst (λ o. AddsRows lists as_of n len (option_to_list o ++ []) kept kept') (sym is) adds

  pub none_picked : (rows : List ℕ) (number : ℕ) (kept : List Chosen) → slice_get rows number ≡ None → AddsRows lists as_of n len (picked rows (number ∷ [])) kept kept
  none_picked rows number kept is = subst (λ o. AddsRows lists as_of n len (option_to_list o ++ []) kept kept) (sym is) (rows_none kept)

  module _ (row : ℕ) (found : Option RowPlace) (which : (at : RowPlace) → (found ≡ Some at → IsPlaceOfRow lists n row at × IsCurrentAt lists as_of n at) × (IsPlaceOfRow lists n row at × IsCurrentAt lists as_of n at → found ≡ Some at)) (kept : List Chosen) where
    pub row_old : found ≡ None → AddsRows lists as_of n len (row ∷ []) kept kept
    row_old none = record {
      more = [];
      kept_are = sym (append-nil kept);
      only = λ k h. absurd h;
      all = λ k w. elim w.1 [
        | inl same ↦ absurd (let there = (which k.at).1 (subst (λ i. IsPlaceOfRow lists n i k.at) (sym same) w.2, w.3) in let both = sym none ∙ there in cc)
        | inr none_else ↦ absurd none_else
      ];
    }

    pub row_one : (at : RowPlace) (kept' : List Chosen) → found ≡ Some at → kept' ≡ kept ++ sized n len at ∷ [] → AddsRows lists as_of n len (row ∷ []) kept kept'
    row_one at kept' is are =
        let own = (which at).0 is in
        record {
          more = sized n len at ∷ [];
          kept_are = are;
          only = λ k h. elim h [ inl same ↦ subst (λ (j : Chosen). IsOfRows lists as_of n len (row ∷ []) j) same (row, inl refl, own.0, own.1, refl) | inr none ↦ absurd none ];
          all = λ k w. elim w.1 [
            | inl same ↦ inl (
                let there = (which k.at).1 (subst (λ i. IsPlaceOfRow lists n i k.at) (sym same) w.2, w.3) in
                let place : at ≡ k.at = same_Some at k.at (sym is ∙ there) in
                ap (sized n len) place ∙ sym w.4)
            | inr none ↦ absurd none
          ];
        }

-- ---- the marks of a group's list

pub marked_some : (lists : List (List StampedRow)) (as_of : AsOf) (g : Group) (marks : List (List ℕ)) (own : List ℕ) (kept kept' : List Chosen) → slice_get marks g.segment ≡ Some own → AddsRowsOf lists as_of g own kept kept' → AddsMarked lists as_of g marks kept kept'
marked_some lists as_of g marks own kept kept' are adds = record {
  some = λ others is. (let same : own ≡ others = same_Some own others (sym are ∙ is) in subst (λ ms. AddsRowsOf lists as_of g ms kept kept') same adds);
  none = λ is. absurd (let both = sym are ∙ is in cc);
}

pub marked_none : (lists : List (List StampedRow)) (as_of : AsOf) (g : Group) (marks : List (List ℕ)) (kept : List Chosen) → slice_get marks g.segment ≡ None → AddsMarked lists as_of g marks kept kept
marked_none lists as_of g marks kept are = record { some = λ others is. absurd (let both = sym are ∙ is in cc); none = λ is. refl }
