use Rattle.std.proofs.Common.{refl}
use Rattle.rf2_rows.proofs.columns.member_id.Goals as goal

pub returns-in-None : goal.returns-in-None
returns-in-None c = (λ h. let e = c.in-None.ensures.only h.0 h.2 in absurd cc, refl)
