use Rattle.std.proofs.Common.{◌≡◌, ◌<◌, ℕ, List, length, take, refl, ◌∙◌, ap, arith, length-take}
use Rattle.std.proofs.lemmas.Bool.Decides.{nat_tests}
use Rattle.disk_model.specs.Change.{written}
use Rattle.disk_model.proofs.Pasted.{take_min}
use Rattle.disk_model.proofs.Replays.{shows_write, shows_no_write}
use Rattle.disk_model.proofs.memory.replay.Replay.write.Goals as goal

pub returns-in_ok-push : goal.returns-in_ok-push
returns-in_ok-push c = λ s shows.
    let part = take_min c.args.part c.args.bytes.now c.min-count.result c.min-count.ensures in
    let some : 0 < length c.args.bytes.now = grind (arith, nat_tests, c.if-not-is_empty.ensures) in
    shows_write c.args.self.now _ s c.args.at c.args.bytes.now (take c.args.part c.args.bytes.now) some shows
    (c.in_ok-overwrite.ensures.ok ∙ ap (λ (l : List ℕ). written c.args.self.now.now.items c.args.at l) part) refl refl c.in_ok-push.ensures.items

pub returns-else-not-is_empty : goal.returns-else-not-is_empty
returns-else-not-is_empty c = λ s shows.
    let part = take_min c.args.part c.args.bytes.now c.min-count.result c.min-count.ensures in
    let none : length c.args.bytes.now ≡ 0 = grind (arith, nat_tests, c.if-not-is_empty.ensures) in
    shows_no_write c.args.self.now _ s c.args.at c.args.bytes.now (take c.args.part c.args.bytes.now) none (omega (arith, length-take c.args.part c.args.bytes.now)) shows
    (c.in_ok-overwrite.ensures.ok ∙ ap (λ (l : List ℕ). written c.args.self.now.now.items c.args.at l) part) refl refl refl
