use Rattle.std.proofs.Common.{◌≡◌, ◌∙◌, ℕ, List, ◌+◌, length, ap, subst, arith}
use Rattle.blocks.specs.Extents.{start_of}
use Rattle.checksum.specs.Crc32c.{continued}
use Rattle.disk_model.specs.Disk.{after_write, followed_by}
use Rattle.store_copy.proofs.Steps.{flushed}
use Rattle.store_copy.proofs.writing.Pending.flush.Goals as goal

pub returns-clause-pending : goal.returns-clause-pending
returns-clause-pending g c = λ honest form rows are.
    let old = (g.T.Disk.view c.args.target.now).moments in
    let new = (g.T.Disk.view c.write_part.new.disk).moments in
    let items = c.args.self.now.bytes.items in
    let made = subst (λ (l : List ℕ). new ≡ followed_by old (after_write old.state (start_of c.args.extent + c.args.self.now.written) l)) c.as_slice.ensures.value (c.in_ok-write_part.ensures.made honest) in
    let next : c.args.self.now.written + c.len.result ≡ c.args.self.now.written + length items = omega (arith, c.len.ensures, c.as_slice.ensures.len, ap length c.as_slice.ensures.value) in
    let sum = c.append-self.ensures ∙ ap (continued c.args.self.now.crc) c.as_slice-2.ensures.value in
    flushed form c.args.extent rows c.args.self.now.written (c.args.self.now.written + c.len.result) c.args.self.now.crc c.append-self.result items c.clear.new.self.items old new made next sum c.clear.ensures.items are
