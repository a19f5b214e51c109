use Rattle.std.specs.Prelude.{All, vec_len}
use Rattle.std.proofs.Common.{◌≡◌, ◌+◌, ◌++◌, ◌∷◌, [], length, ◌∙◌, ap, subst, arith}
use Rattle.disk_model.specs.Change.{Change}
use Rattle.disk_model.specs.Entry.{change_of}
use Rattle.disk_model.specs.Private.Entry.{IsWithin}
use Rattle.disk_model.specs.Faults.{written_as}
use Rattle.disk_model.specs.Record.{changes_in}
use Rattle.disk_model.proofs.Entries.{changes_more, written_new, failed_new}
use Rattle.disk_model.proofs.memory.record.Record.note_write.Goals.{in-Passes, in-Fails}
use Rattle.disk_model.proofs.memory.record.Record.note_write.Goals as goal

pub returns-clause-changes : goal.returns-clause-changes
returns-clause-changes c =
    let old = c.args.self.now in
    let more = c.args.bytes.now in
    let from : c.len-from.result ≡ length old.bytes.items = omega (arith, c.len-from.ensures, old.bytes.ok) in
    let end : c.len-end.result ≡ length old.bytes.items + length more = omega (arith, c.len-end.ensures, c.in-Ok.ensures.len, old.bytes.ok) in
    let within = subst (λ n. All (IsWithin n) old.entries.items) (let e : vec_len old.bytes ≡ length old.bytes.items = omega (arith, old.bytes.ok) in e) old.within in
    let new : change_of (old.bytes.items ++ more) c.match-fate.entry ≡ written_as c.args.fate c.args.at more = elim c.match-fate.branch [
      | in-Passes w ↦ written_new old.bytes.items more c.args.at c.len-from.result c.len-end.result c.args.fate c.match-fate.entry from end w.in-Passes.is w.entry-is
      | in-Fails w ↦ failed_new old.bytes.items more c.args.at c.len-from.result c.len-end.result w.in-Fails.part c.args.fate c.match-fate.entry from end w.in-Fails.is w.entry-is
    ] in
    changes_more old.bytes.items more c.extend_from_slice.new.self.items old.entries.items c.push.new.self.items c.match-fate.entry within c.in-Ok.ensures.items c.in-Ok-push.ensures.items
    ∙ ap (λ (change : Change). changes_in old ++ change ∷ []) new
