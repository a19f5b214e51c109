use Rattle.std.proofs.Common.{◌≡◌, ◌+◌, ◌*◌, ◌-◌, ap, ◌∙◌, arith}
use Rattle.checksum.specs.Crc32c.{shifted_by}
use Rattle.checksum.proofs.Registers.{shifted_more}
use Rattle.checksum.proofs.zeros.after_some_zeros.Goals as goal

pub loop-left-preserved : goal.loop-left-preserved
loop-left-preserved c =
    let rest = 8 * (c.loop-left.left - 16) in
    let many = c.loop-left-test.true in
    let bits : 128 + rest ≡ 8 * c.loop-left.left = omega (arith, many) in
    ap (shifted_by rest) c.after_few_zeros-reached.ensures
    ∙ shifted_more 128 rest c.loop-left.reached
    ∙ ap (λ n. shifted_by n c.loop-left.reached) bits
    ∙ c.loop-left.invariant
