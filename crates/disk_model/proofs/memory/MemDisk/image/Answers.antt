use Rattle.std.proofs.Common.{rules, take}
use Rattle.disk_model.specs.MemDisk.{first_bytes, record_of}
use Rattle.disk_model.specs.Change.{place_of}
use Rattle.disk_model.proofs.Chosen.{chosen_image, one_of_the_moments}
use Rattle.disk_model.proofs.memory.MemDisk.image.Goals as goal

pub returns-in_err-moment-clause-moment : goal.returns-in_err-moment-clause-moment
returns-in_err-moment-clause-moment c =
    let d = c.args.self.now in
    one_of_the_moments (first_bytes d) (record_of d) (place_of (record_of d) c.args.after)

pub returns-clause-image : goal.returns-clause-image
returns-clause-image c =
    let d = c.args.self.now in
    chosen_image (first_bytes d) (take (place_of (record_of d) c.args.after) (record_of d)) c.args.choice c.into_image.result.items (search rules)

pub returns-clause-moment : goal.returns-clause-moment
returns-clause-moment c =
    let d = c.args.self.now in
    one_of_the_moments (first_bytes d) (record_of d) (place_of (record_of d) c.args.after)
