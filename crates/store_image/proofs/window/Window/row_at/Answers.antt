use Rattle.std.proofs.Common.{refl, subst, ◌∙◌, arith}
use Rattle.std.proofs.lemmas.Result.{err_from_is_err_and}
use Rattle.checksum.specs.declared.form.Form.{Form}
use Rattle.store_image.specs.Reader.{bytes_of}
use Rattle.store_image.specs.Private.Reading.{HasRecord, IsNoRecord, of_segment}
use Rattle.store_image.proofs.Windowed.{found_in, not_found_in, sees_behind}
use Rattle.store_image.proofs.window.Window.row_at.Goals as goal

pub returns-in-Ok-clause-exact : goal.returns-in-Ok-clause-exact
returns-in-Ok-clause-exact g c honest sees =
    found_in c.args.self.now.form c.args.self.now c.args.self.now.extent c.args.at _ c.in-Ok.row refl c.requires.from sees c.in-Ok.ensures.found

pub returns-in_err-row-in-Err-BadSegment-clause-exact : goal.returns-in_err-row-in-Err-BadSegment-clause-exact
returns-in_err-row-in-Err-BadSegment-clause-exact g c honest sees =
    let p = err_from_is_err_and c.from_residual-in_err-row-in-Err-BadSegment.result c.from_residual-in_err-row-in-Err-BadSegment.ensures.1 in
    let moved = c.forget_before.ensures in
    let filled = c.in_ok-fill-in-Err-BadSegment.ensures in
    let before = sees_behind c.args.self.now c.forget_before.new.self c.args.at _ c.requires.from c.requires.reached moved.extent moved.from moved.end moved.asked moved.bytes sees in
    rw (p.1, p.2) (subst (λ (f : Form). IsNoRecord f (of_segment c.in_err-row-in-Err-BadSegment.field-0.0) (bytes_of c.args.self.now.extent (g.D.Disk.view c.args.disk.now).moments.state.now) c.args.at) (filled.form ∙ moved.form) (not_found_in c.fill.new.self.form c.in_err-row-in-Err-BadSegment.field-0.0 c.fill.new.self c.args.self.now.extent c.args.at _ (filled.extent ∙ moved.extent) (filled.from ∙ moved.from) (filled.sees honest before) (filled.full honest before) c.in_err-row-in-Err-BadSegment.ensures.only))

pub returns-in_ok-row-in-Err-BadSegment-clause-exact : goal.returns-in_ok-row-in-Err-BadSegment-clause-exact
returns-in_ok-row-in-Err-BadSegment-clause-exact g c honest sees =
    let moved = c.forget_before.ensures in
    let filled = c.in_ok-fill-in-Err-BadSegment.ensures in
    let before = sees_behind c.args.self.now c.forget_before.new.self c.args.at _ c.requires.from c.requires.reached moved.extent moved.from moved.end moved.asked moved.bytes sees in
    let from = filled.from ∙ moved.from in
    subst (λ (f : Form). HasRecord f (bytes_of c.args.self.now.extent (g.D.Disk.view c.args.disk.now).moments.state.now) c.args.at c.in_ok-row-in-Err-BadSegment.row) (filled.form ∙ moved.form) (found_in c.fill.new.self.form c.fill.new.self c.args.self.now.extent c.args.at _ c.in_ok-row-in-Err-BadSegment.row (filled.extent ∙ moved.extent) (omega (arith, from)) (filled.sees honest before) c.in_ok-row-in-Err-BadSegment.ensures.found)

pub returns-in_ok-row-in-Err-BadSegment-clause-sees : goal.returns-in_ok-row-in-Err-BadSegment-clause-sees
returns-in_ok-row-in-Err-BadSegment-clause-sees g c honest sees =
    let moved = c.forget_before.ensures in
    let filled = c.in_ok-fill-in-Err-BadSegment.ensures in
    filled.sees honest (sees_behind c.args.self.now c.forget_before.new.self c.args.at _ c.requires.from c.requires.reached moved.extent moved.from moved.end moved.asked moved.bytes sees)
