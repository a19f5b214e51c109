use Rattle.disk_model.proofs.Replays.{advance_written, advance_shortened}
use Rattle.disk_model.proofs.memory.replay.Replay.advance.Goals as goal

pub returns-in-Written : goal.returns-in-Written
returns-in-Written c =
    advance_written c.write.result c.args.self.now c.write.new.self c.args.bytes.now c.args.entry c.in-Written.at c.in-Written.from c.in-Written.end c.in-Written.is c.write.ensures

pub returns-in-Shortened : goal.returns-in-Shortened
returns-in-Shortened c = advance_shortened c.args.self.now c.cut.new.self c.args.bytes.now c.args.entry c.in-Shortened.len c.in-Shortened.is c.cut.ensures
