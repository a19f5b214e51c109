use Rattle.std.proofs.Common.{◌≡◌, refl, rules}
use Rattle.disk_model.proofs.Replays.{shows_settled}
use Rattle.disk_model.proofs.memory.replay.Replay.new.Goals as goal

pub returns : goal.returns
returns c =
    let now : c.in_ok-to_vec.field-0.items ≡ c.args.first.now = search rules in
    let durable : c.in_ok-to_vec-2.field-0.items ≡ c.args.first.now = search rules in
    shows_settled _ c.args.first.now now durable refl c.new.ensures.items
