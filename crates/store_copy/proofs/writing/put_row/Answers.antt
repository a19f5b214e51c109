use Rattle.std.proofs.Common.{[], ◌∷◌, ◌++◌, length, ap, arith, length-append}
use Rattle.segment.specs.Records.{record_in}
use Rattle.segment.proofs.RecordLaws.{length-record_in}
use Rattle.store_copy.proofs.Steps.{more_pending}
use Rattle.store_copy.proofs.writing.put_row.Goals as goal

pub returns-then-len-lt-PIECE-clause-len : goal.returns-then-len-lt-PIECE-clause-len
returns-then-len-lt-PIECE-clause-len g c =
    let added = record_in c.args.form c.args.row.now in
    omega (arith, ap length c.in-Ok.ensures.bytes, length-append c.args.pending.now.bytes.items added, length-record_in c.args.form c.args.row.now)

pub returns-then-len-lt-PIECE-clause-pending : goal.returns-then-len-lt-PIECE-clause-pending
returns-then-len-lt-PIECE-clause-pending g c = λ honest rows are.
    more_pending c.args.form c.args.to rows c.args.pending.now.written c.args.pending.now.crc c.args.pending.now.bytes.items c.put_record.new.out.items (g.T.Disk.view c.args.target.now).moments.state.now c.args.row.now are c.in-Ok.ensures.bytes

pub flush-requires-clause-inside : goal.flush-requires-clause-inside
flush-requires-clause-inside g c =
    let added = record_in c.args.form c.args.row.now in
    omega (arith, c.requires.inside, ap length c.in-Ok.ensures.bytes, length-append c.args.pending.now.bytes.items added, length-record_in c.args.form c.args.row.now)

pub returns-in-Ok-flush-clause-len : goal.returns-in-Ok-flush-clause-len
returns-in-Ok-flush-clause-len g c =
    let added = record_in c.args.form c.args.row.now in
    let done = c.in-Ok-flush.ensures in
    omega (arith, done.written, ap length done.none, ap length c.in-Ok.ensures.bytes, length-append c.args.pending.now.bytes.items added, length-record_in c.args.form c.args.row.now)

pub returns-in-Ok-flush-clause-pending : goal.returns-in-Ok-flush-clause-pending
returns-in-Ok-flush-clause-pending g c = λ honest rows are.
    let taken = more_pending c.args.form c.args.to rows c.args.pending.now.written c.args.pending.now.crc c.args.pending.now.bytes.items c.put_record.new.out.items (g.T.Disk.view c.args.target.now).moments.state.now c.args.row.now are c.in-Ok.ensures.bytes in
    c.in-Ok-flush.ensures.pending honest c.args.form (rows ++ c.args.row.now ∷ []) taken
