use Rattle.std.proofs.Common.{◌≡◌, List, Some, None, sym, ap, subst, ◌∙◌}
use Rattle.std.specs.Prelude.{Option}
use Rattle.std.specs.Option.{option_map}
use Rattle.segment.specs.declared.place.RowPlace.{RowPlace}
use Rattle.as_of_index.specs.Places.{item_at}
use Rattle.term_prefix.specs.Private.{SaysFull}
use Rattle.term_prefix.proofs.FirstKept.{says_wanted, says_old}
use Rattle.term_prefix.proofs.search.judge.Goals as goal

pub returns-in-Some-current_at : goal.returns-in-Some-current_at
returns-in-Some-current_at c = λ lists listed_so up.
    let a = c.args in
    let id_is = c.in-Some.ensures ∙ ap (λ (index : List (List RowPlace)). option_map (λ (p : RowPlace). p.key.id) (item_at index a.segment a.number)) listed_so in
    let room = subst (λ b. SaysFull a.search.now.limit a.kept.now c.in-Some.id b) c.if-is_full.false (c.is_full.ensures up) in
    let at = c.in-Some-current_at.at in
    says_wanted lists a.search.now a.kept.now a.segment a.number c.in-Some.id id_is at (sym c.is_above.ensures ∙ c.if-not-is_above.false) room ((c.current_at.ensures lists listed_so at).0 c.in-Some-current_at.is)

pub returns-in-None : goal.returns-in-None
returns-in-None c = λ lists listed_so up.
    let a = c.args in
    says_old lists a.search.now a.kept.now a.segment a.number (λ at w. absurd (
    let found : ◌≡◌ {A = Option RowPlace} None (Some at) = sym c.in-None.is ∙ (c.current_at.ensures lists listed_so at).1 w in
    cc))
