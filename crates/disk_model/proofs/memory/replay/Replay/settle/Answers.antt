use Rattle.std.proofs.Common.{◌≡◌, length, ◌∙◌, ap, rules, arith}
use Rattle.disk_model.proofs.Replays.{shows_settled}
use Rattle.disk_model.proofs.memory.replay.Replay.settle.Goals as goal

pub returns : goal.returns
returns c = λ s shows.
    let durable : c.in_ok-self.field-0.items ≡ c.args.self.now.now.items = search rules in
    let least : c.len-self.result ≡ length s.now = omega (arith, c.len-self.ensures, ap length shows.now, c.args.self.now.now.ok) in
    shows_settled _ s.now shows.now (durable ∙ shows.now) least c.clear.ensures.items
