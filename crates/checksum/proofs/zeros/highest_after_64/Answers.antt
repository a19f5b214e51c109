use Rattle.std.proofs.Common.{ap, ◌∙◌, ◌+◌, ◌*◌, arith, slice_index_or}
use Rattle.checksum.specs.declared.tables.TheConstants.{AFTER_64_ZEROS}
use Rattle.checksum.proofs.Entries.{far_entry}
use Rattle.checksum.proofs.zeros.highest_after_64.Goals as goal

pub returns : goal.returns
returns c =
    ap (λ i. slice_index_or AFTER_64_ZEROS (256 * c.args.more + i) 0) c.from.ensures
    ∙ far_entry c.args.more c.args.byte 0 c.requires (omega (arith, c.ranges.byte))
