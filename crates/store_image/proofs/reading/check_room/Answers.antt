use Rattle.std.proofs.Common.{arith}
use Rattle.store_image.proofs.Segments.{disk_ends, too_many_rows}
use Rattle.store_image.proofs.reading.check_room.Goals as goal

pub returns-then-from-clause-exact : goal.returns-then-from-clause-exact
returns-then-from-clause-exact g c honest imports =
    let many = c.if-from.true in
    let rows = c.from-3.ensures in
    let bytes = c.from-4.ensures in
    too_many_rows imports c.args.entry _ (omega (arith, many, rows, bytes))

pub returns-then-branch-clause-exact : goal.returns-then-branch-clause-exact
returns-then-branch-clause-exact g c honest imports =
    let first = c.from.ensures in
    let bytes = c.from-2.ensures in
    let over = c.if-branch.true in
    let long = c.in_ok-len.ensures.value honest in
    disk_ends imports c.args.entry _ (omega (arith, first, bytes, over, long))
