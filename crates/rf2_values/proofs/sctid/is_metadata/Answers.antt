use Rattle.std.proofs.Common.{refl}
use Rattle.rf2_values.proofs.Metadata.{ends_at_0, is_right, only, either}
use Rattle.rf2_values.proofs.sctid.is_metadata.Goals as goal

pub returns-in-900000000000003001 : goal.returns-in-900000000000003001
unfolding is_right ends_at_0
returns-in-900000000000003001 c = λ known.
    let n = c.args.value in
    (either n 900000000000003001 refl
    (either n 900000000000010007 refl
    (either n 900000000000011006 refl
    (either n 900000000000012004 refl
    (either n 900000000000013009 refl
    (either n 900000000000017005 refl
    (either n 900000000000020002 refl
    (either n 900000000000073002 refl
    (either n 900000000000074008 refl
    (either n 900000000000207008 refl
    (either n 900000000000227009 refl
    (either n 900000000000448009 refl
    (either n 900000000000451002 refl
    (either n 900000000000523009 refl
    (either n 900000000000526001 refl
    (only n 900000000000527005 refl))))))))))))))))
    c.in-900000000000003001.is
