use Rattle.std.proofs.Common.{◌++◌, refl, ◌≤◌, length, arith}
use Rattle.std.specs.Int.{w32, to_be_bytes}
use Rattle.directory.proofs.Written.{IsWritten, put_front, coded}
use Rattle.directory.proofs.encoding.write_entry.Goals as goal

pub returns : goal.returns
returns c =
    let old = c.args.out.now in
    let first = to_be_bytes w32 c.args.entry.first in
    let bytes = to_be_bytes w32 c.args.entry.bytes in
    let rows = to_be_bytes w32 c.args.entry.rows in
    let room : 16 ≤ length old = c.requires in
    let one : IsWritten first 4 old c.write_u32.new.buf = record { now_is = c.write_u32.ensures; place_is = refl } in
    let two = put_front first bytes 4 4 old c.write_u32.new.buf c.write_u32-2.new.buf one refl (omega arith) c.write_u32-2.ensures in
    let three = put_front (first ++ bytes) rows 8 4 old _ c.write_u32-3.new.buf two refl (omega arith) c.write_u32-3.ensures in
    let four = put_front ((first ++ bytes) ++ rows) (to_be_bytes w32 c.code.result) 12 4 old _ c.write_u32-4.new.buf three refl (omega arith) c.write_u32-4.ensures in
    coded c.args.entry c.code.result old _ four c.code.ensures
