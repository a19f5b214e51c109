use Rattle.std.proofs.Common.{subst, List, map}
use Rattle.std.specs.List.{filter}
use Rattle.history_model.specs.InOrder.{Has}
use Rattle.term_prefix.specs.declared.text.Term.{Term}
use Rattle.term_prefix.specs.Terms.{TermAt}
use Rattle.term_prefix.specs.Private.{begins}
use Rattle.term_prefix.proofs.Prefixed.{numbers_from}
use Rattle.term_prefix.proofs.sealed.Sealed.candidates.Goals as goal

pub returns : goal.returns
returns c = λ i.
    let those = c.candidates.result.now in
    let prefix = c.args.prefix.now in
    subst (λ (ts : List TermAt). (Has (map (λ (t : Term). t.row) those) i → Has (map (λ (t : TermAt). t.row) (filter (begins prefix) ts)) i) × (Has (map (λ (t : TermAt). t.row) (filter (begins prefix) ts)) i → Has (map (λ (t : Term). t.row) those) i))
    c.self.view_is
    (numbers_from c.self.inside.text.items prefix c.self.inside.terms.items those (λ t. (rw (c.as_slice.ensures.value, c.as_slice-2.ensures.value) at c.candidates.ensures.found) c.self.invariant.0 t) i)
