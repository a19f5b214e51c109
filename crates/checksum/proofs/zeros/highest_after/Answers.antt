use Rattle.std.proofs.Common.{ap, ◌∙◌, ◌+◌, ◌*◌, arith, slice_index_or}
use Rattle.checksum.specs.declared.tables.TheConstants.{AFTER_ZEROS}
use Rattle.checksum.proofs.Entries.{near_entry}
use Rattle.checksum.proofs.zeros.highest_after.Goals as goal

pub returns : goal.returns
returns c =
    ap (λ i. slice_index_or AFTER_ZEROS (256 * c.args.zeros + i) 0) c.from.ensures
    ∙ near_entry c.args.zeros c.args.byte 0 c.requires (omega (arith, c.ranges.byte))
