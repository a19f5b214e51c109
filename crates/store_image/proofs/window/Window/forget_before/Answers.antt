use Rattle.std.proofs.Common.{◌-◌, arith}
use Rattle.store_image.proofs.Windowed.{moved_front}
use Rattle.store_image.proofs.window.Window.forget_before.Goals as goal

pub returns-clause-bytes : goal.returns-clause-bytes
returns-clause-bytes c =
    let w = c.args.self.now in
    let from = c.requires.from in
    let reached = c.requires.reached in
    let short = w.short in
    let long = w.long in
    moved_front w.bytes.len (c.args.at - w.from) w.len w.bytes.items c.as_mut_slice.result.now c.copy_within.new.self c.as_mut_slice.ensures.len c.as_mut_slice.ensures.value c.copy_within.ensures.len c.copy_within.ensures.after (omega (arith, from, reached)) (omega (arith, short, long))
