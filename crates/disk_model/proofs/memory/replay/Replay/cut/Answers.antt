use Rattle.std.proofs.Common.{Bool, if◌then◌else◌, take, refl, sym, ◌∙◌, ap, arith}
use Rattle.disk_model.proofs.Replays.{shows_cut, shows_no_cut}
use Rattle.disk_model.proofs.memory.replay.Replay.cut.Goals as goal

pub returns-then-is_made : goal.returns-then-is_made
returns-then-is_made c = λ s shows.
    let now = c.args.self.now.now.items in
    shows_cut c.args.self.now _ s c.args.len c.args.is_made (omega (arith, c.len.ensures, c.args.self.now.now.ok)) shows
    (c.truncate.ensures.items ∙ ap (λ (b : Bool). if b then take c.args.len now else now) (sym c.if-is_made.true)) refl c.min-self.ensures refl

pub returns-else-is_made : goal.returns-else-is_made
returns-else-is_made c = λ s shows.
    let now = c.args.self.now.now.items in
    shows_cut c.args.self.now _ s c.args.len c.args.is_made (omega (arith, c.len.ensures, c.args.self.now.now.ok)) shows
    (ap (λ (b : Bool). if b then take c.args.len now else now) (sym c.if-is_made.false)) refl c.min-self.ensures refl

pub returns-else-len : goal.returns-else-len
returns-else-len c = λ s shows. shows_no_cut c.args.self.now s c.args.len c.args.is_made (omega (arith, c.len.ensures, c.args.self.now.now.ok)) shows
