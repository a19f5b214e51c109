use Rattle.std.proofs.Common.{◌∷◌, length}
use Rattle.std.specs.Prelude.{replicate}
use Rattle.std.proofs.lemmas.Result.{err_from_is_err_and}
use Rattle.rf2_rows.specs.Line.{ConceptReference, ComponentReference, Any, FirstFault}
use Rattle.rf2_rows.specs.Private.{texts}
use Rattle.rf2_rows.proofs.Faults.{fault_here, fault_later, given_map}
use Rattle.rf2_rows.proofs.line.read_member.Goals as goal

pub returns-in_err-concept_reference : goal.returns-in_err-concept_reference
returns-in_err-concept_reference c =
    let p = err_from_is_err_and c.from_residual.result c.from_residual.ensures.1 in
    rw (p.1, p.2) (fault_here _ _ _ _ _ c.in_err-concept_reference.ensures)

pub returns-in_err-component_reference : goal.returns-in_err-component_reference
returns-in_err-component_reference c =
    let p = err_from_is_err_and c.from_residual-in_err-component_reference.result c.from_residual-in_err-component_reference.ensures.1 in
    rw (p.1, p.2) (fault_later _ _ _ _ _ (_, c.in_ok-concept_reference.ensures.0, c.in_ok-concept_reference.ensures.1)
    (fault_here _ _ _ _ _ c.in_err-component_reference.ensures))

pub returns-in_err-further : goal.returns-in_err-further
returns-in_err-further c =
    let a = c.args in
    let p = err_from_is_err_and c.from_residual-in_err-further.result c.from_residual-in_err-further.ensures.1 in
    rw (p.1, p.2) (given_map (FirstFault (replicate (length a.others.now) Any) (texts a.others.now))
    (FirstFault (ConceptReference ∷ ComponentReference ∷ replicate (length a.others.now) Any) (a.refset.now ∷ a.referenced.now ∷ texts a.others.now))
    (λ f h. fault_later _ _ _ _ f (_, c.in_ok-concept_reference.ensures.0, c.in_ok-concept_reference.ensures.1)
    (fault_later _ _ _ _ f (_, c.in_ok-component_reference.ensures.0, c.in_ok-component_reference.ensures.1) h)) c.in_err-further.field-0.0 c.in_err-further.ensures)
