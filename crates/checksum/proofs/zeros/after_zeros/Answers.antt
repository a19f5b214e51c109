use Rattle.std.proofs.Common.{◌≡◌, ◌+◌, ◌*◌, ◌-◌, ap, ◌∙◌, arith}
use Rattle.checksum.specs.Crc32c.{shifted_by}
use Rattle.checksum.proofs.Registers.{shifted_more}
use Rattle.checksum.proofs.zeros.after_zeros.Goals as goal

pub loop-left-preserved : goal.loop-left-preserved
loop-left-preserved c =
    let rest = 8 * (c.loop-left.left - 64) in
    let many = c.loop-left-test.true in
    let bits : 512 + rest ≡ 8 * c.loop-left.left = omega (arith, many) in
    ap (shifted_by rest) c.after_64_zeros-reached.ensures
    ∙ shifted_more 512 rest c.loop-left.reached
    ∙ ap (λ n. shifted_by n c.loop-left.reached) bits
    ∙ c.loop-left.invariant
