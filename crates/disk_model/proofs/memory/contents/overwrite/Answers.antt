use Rattle.std.proofs.Common.{◌≡◌, ◌<◌, length, ◌∙◌, ap, rules, arith}
use Rattle.disk_model.proofs.Pasted.{paste_put, written_put, whole}
use Rattle.disk_model.proofs.memory.contents.overwrite.Goals as goal

pub returns-clause-ok : goal.returns-clause-ok
returns-clause-ok c =
    let file = c.args.file.now.items in
    let bytes = c.args.bytes.now in
    let slice = c.deref_mut.ensures in
    let same_len : length c.paste.new.file ≡ length c.deref_mut.result.now = search rules in
    let some : 0 < length bytes = search rules in
    whole c.reach.new.file.len c.paste.new.file c.reach.new.file.items (omega (arith, slice.len, same_len)) (omega (arith, ap length slice.value, same_len))
    ∙ c.paste.ensures
    ∙ paste_put file c.deref_mut.result.now c.args.at bytes (slice.value ∙ c.in_ok-reach.ensures.ok)
    ∙ written_put file c.args.at bytes some
