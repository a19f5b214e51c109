use Rattle.std.proofs.Common.{subst}
use Rattle.std.proofs.lemmas.Result.{err_from_is_err_and}
use Rattle.rf2_values.specs.Text.{IsText}
use Rattle.rf2_rows.proofs.Faults.{fault_here, fault_later, fault_past_three}
use Rattle.rf2_rows.proofs.line.read_concrete.Goals as goal

pub returns-in_err-concept_reference-2 : goal.returns-in_err-concept_reference-2
returns-in_err-concept_reference-2 c =
    let p = err_from_is_err_and c.from_residual-in_err-concept_reference-2.result c.from_residual-in_err-concept_reference-2.ensures.1 in
    let a = c.in_ok-some_text.ensures in
    rw (p.1, p.2) (fault_past_three _ _ _ _ _ _ _ _ _ (_, c.in_ok-concept_reference.ensures.0, c.in_ok-concept_reference.ensures.1) (subst IsText a.1 a.0) (_, c.in_ok-group.ensures.0, c.in_ok-group.ensures.1)
    (fault_here _ _ _ _ _ c.in_err-concept_reference-2.ensures))

pub returns-in_err-concept_reference-3 : goal.returns-in_err-concept_reference-3
returns-in_err-concept_reference-3 c =
    let p = err_from_is_err_and c.from_residual-in_err-concept_reference-3.result c.from_residual-in_err-concept_reference-3.ensures.1 in
    let a = c.in_ok-some_text.ensures in
    rw (p.1, p.2) (fault_past_three _ _ _ _ _ _ _ _ _ (_, c.in_ok-concept_reference.ensures.0, c.in_ok-concept_reference.ensures.1) (subst IsText a.1 a.0) (_, c.in_ok-group.ensures.0, c.in_ok-group.ensures.1)
    (fault_later _ _ _ _ _ (_, c.in_ok-concept_reference-2.ensures.0, c.in_ok-concept_reference-2.ensures.1)
    (fault_here _ _ _ _ _ c.in_err-concept_reference-3.ensures)))

pub returns-in_err-concept_reference-4 : goal.returns-in_err-concept_reference-4
returns-in_err-concept_reference-4 c =
    let p = err_from_is_err_and c.from_residual-in_err-concept_reference-4.result c.from_residual-in_err-concept_reference-4.ensures.1 in
    let a = c.in_ok-some_text.ensures in
    rw (p.1, p.2) (fault_past_three _ _ _ _ _ _ _ _ _ (_, c.in_ok-concept_reference.ensures.0, c.in_ok-concept_reference.ensures.1) (subst IsText a.1 a.0) (_, c.in_ok-group.ensures.0, c.in_ok-group.ensures.1)
    (fault_later _ _ _ _ _ (_, c.in_ok-concept_reference-2.ensures.0, c.in_ok-concept_reference-2.ensures.1)
    (fault_later _ _ _ _ _ (_, c.in_ok-concept_reference-3.ensures.0, c.in_ok-concept_reference-3.ensures.1)
    (fault_here _ _ _ _ _ c.in_err-concept_reference-4.ensures))))
