use Rattle.std.proofs.Common.{◌≡◌, ◌≤◌, sym, subst, ◌∙◌}
use Rattle.segment.specs.declared.place.RowPlace.{RowPlace}
use Rattle.as_of_index.proofs.index.Index.shown_at.Goals as goal

pub returns-then-is_shown : goal.returns-then-is_shown
returns-then-is_shown c = λ at. (
  λ e.
      let same : c.in-Some.at ≡ at = cc in
      (sym c.in-Some.ensures ∙ e, subst (λ (p : RowPlace). p.import ≤ c.args.pin) same (c.is_shown.ensures.0 c.if-is_shown.true)),
  λ k. c.in-Some.ensures ∙ k.0,
)

pub returns-else-is_shown : goal.returns-else-is_shown
returns-else-is_shown c = λ at. (
  λ e. absurd (cc),
  λ k. absurd (
      let both = c.in-Some.ensures ∙ k.0 in
      let same : at ≡ c.in-Some.at = cc in
      let t = c.is_shown.ensures.1 (subst (λ (p : RowPlace). p.import ≤ c.args.pin) same k.1) in
      let f = c.if-is_shown.false in
      cc),
)

pub returns-in-None : goal.returns-in-None
returns-in-None c = λ at. (
  λ e. absurd (cc),
  λ k. absurd (let both = c.in-None.ensures ∙ k.0 in cc),
)
