use Rattle.std.proofs.Common.{◌≡◌, List, Some, None, sym, subst, ◌∙◌}
use Rattle.std.specs.Prelude.{Option}
use Rattle.segment.specs.declared.place.RowPlace.{RowPlace}
use Rattle.as_of_index.specs.Places.{item_at}
use Rattle.as_of_index.specs.Current.{IsPlaceOfRow, IsCurrentAt}
use Rattle.as_of_index.proofs.index.Index.current_at.Goals as goal

pub returns-then-is_current_near : goal.returns-then-is_current_near
returns-then-is_current_near c = λ lists listed_so at.
    let a = c.args in
    let own = c.in-Some.at in
    let there : IsPlaceOfRow lists a.segment a.number own = subst (λ index. item_at index a.segment a.number ≡ Some own) listed_so (sym c.in-Some.ensures) in (
      λ e.
          let same : own ≡ at = cc in
          subst (λ (p : RowPlace). IsPlaceOfRow lists a.segment a.number p × IsCurrentAt lists a.as_of a.segment p) same (there, (c.is_current_near.ensures lists listed_so).0 c.if-is_current_near.true),
      λ k. sym there ∙ k.0,
    )

pub returns-else-is_current_near : goal.returns-else-is_current_near
returns-else-is_current_near c = λ lists listed_so at.
    let a = c.args in
    let own = c.in-Some.at in
    let there : IsPlaceOfRow lists a.segment a.number own = subst (λ index. item_at index a.segment a.number ≡ Some own) listed_so (sym c.in-Some.ensures) in (
      λ e. absurd (cc),
      λ k. absurd (
          let both = sym there ∙ k.0 in
          let same : at ≡ own = cc in
          let t = (c.is_current_near.ensures lists listed_so).1 (subst (λ (p : RowPlace). IsCurrentAt lists a.as_of a.segment p) same k.1) in
          let f = c.if-is_current_near.false in
          cc),
    )

pub returns-in-None : goal.returns-in-None
returns-in-None c = λ lists listed_so at.
    let a = c.args in (
      λ e. absurd (cc),
      λ k. absurd (
          let none = subst (λ (index : List (List RowPlace)). ◌≡◌ {A = Option RowPlace} (item_at index a.segment a.number) None) listed_so (sym c.in-None.ensures) in
          let both = sym none ∙ k.0 in
          cc),
    )
