use Rattle.std.proofs.Common.{refl, sym, ◌∙◌}
use Rattle.snapshot_check.specs.Private.{IsItself}
use Rattle.snapshot_check.specs.Differences.{is_more}
use Rattle.std.specs.Prelude.{◌≡◌, false}
use Rattle.snapshot_check.proofs.Picking.{adds_one, adds_other}
use Rattle.snapshot_check.proofs.more.add_row.Goals as goal

pub returns-in_ok-note : goal.returns-in_ok-note
returns-in_ok-note c = λ rows sorted.
    adds_one (IsItself rows) (λ row. is_more rows row ≡ false) c.args.limit c.args.row c.args.row c.args.more.now c.note.new.self
    (refl, sym (c.is_more.ensures rows sorted) ∙ c.if-is_more.true) c.in_ok-note.ensures

pub returns-else-is_more : goal.returns-else-is_more
returns-else-is_more c = λ rows sorted.
    adds_other (IsItself rows) (λ row. is_more rows row ≡ false) c.args.limit c.args.row c.args.more.now c.args.more.now
    (sym (c.is_more.ensures rows sorted) ∙ c.if-is_more.false) refl
