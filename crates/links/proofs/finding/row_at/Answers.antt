use Rattle.std.proofs.Common.{◌≡◌, true, List, Some, sym, ap, ◌∙◌}
use Rattle.std.specs.Option.{option_map}
use Rattle.segment.specs.declared.place.RowPlace.{RowPlace}
use Rattle.as_of_index.specs.Places.{item_at}
use Rattle.as_of_index.specs.Current.{IsPlaceOfRow}
use Rattle.links.specs.Private.Asking.{is_asked}
use Rattle.links.proofs.finding.row_at.Goals as goal

pub returns : goal.returns
returns c = λ lists listed_so at.
    let a = c.args in
    let asked = a.asked.now in
    let now = c.current_at.ensures lists listed_so at in
    let asked_so : is_asked asked a.p.now c.in-Some.id ≡ true = sym c.is_asked.ensures ∙ c.if-not-is_asked.false in
    let id_is : IsPlaceOfRow lists a.segment a.p.now.row at → c.in-Some.id ≡ at.key.id = λ place. (
    let same : Some c.in-Some.id ≡ Some at.key.id = sym c.in-Some.is ∙ c.id_at.ensures ∙ ap (λ (ps : List (List RowPlace)). option_map (λ (p : RowPlace). p.key.id) (item_at ps a.segment a.p.now.row)) listed_so ∙ ap (option_map (λ (p : RowPlace). p.key.id)) place in
    cc) in (
      λ e. (let w = now.0 e in (w.0, w.1, sym (ap (is_asked asked a.p.now) (id_is w.0)) ∙ asked_so)),
      λ h. now.1 (h.0, h.1),
    )
