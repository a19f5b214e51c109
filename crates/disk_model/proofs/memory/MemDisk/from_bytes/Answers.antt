use Rattle.std.proofs.Common.{List, sym, ◌∙◌, ap}
use Rattle.disk_model.specs.Change.{Change, replayed, made}
use Rattle.disk_model.specs.Contents.{shown}
use Rattle.disk_model.specs.Record.{changes_in}
use Rattle.disk_model.proofs.Calls.{now-made}
use Rattle.disk_model.specs.declared.memory.contents.Contents.{Contents}
use Rattle.disk_model.proofs.memory.MemDisk.from_bytes.Goals as goal

pub invariant_of-result : goal.invariant_of-result
invariant_of-result c =
    let first = c.args.bytes.items in
    record {
      read_is_replayed = ap (λ (k : Contents). shown k) c.new.ensures
          ∙ sym (now-made first)
          ∙ ap (λ (l : List Change). (replayed (made first) l).state.now) (sym c.new-2.ensures)
          ∙ ap (λ (k : Contents). (replayed (made k.first.items) (changes_in c.new-2.result)).state.now) (sym c.new.ensures);
    }
