use Rattle.std.proofs.Common.{◌≤◌, ℕ, List, take, length, subst, arith}
use Rattle.std.proofs.lemmas.List.{take_all}
use Rattle.disk_model.specs.Change.{Change, replayed, made}
use Rattle.disk_model.specs.MemDisk.{first_bytes, record_of, memory_moments}
use Rattle.disk_model.specs.Private.Replay.{Shows}
use Rattle.disk_model.proofs.Chosen.{chosen_image}
use Rattle.disk_model.proofs.memory.MemDisk.image_now.Goals as goal

pub returns-clause-image : goal.returns-clause-image
returns-clause-image c =
    let d = c.args.self.now in
    let whole : length (record_of d) ≤ c.len-count.result = omega (arith, c.len-count.ensures) in
    let firsts = c.deref.ensures.value in
    let shows = subst (λ (l : List Change). Shows c.in_ok-moment.moment (replayed (made (first_bytes d)) l).state) (take_all c.len-count.result (record_of d) whole)
    (subst (λ (f : List ℕ). Shows c.in_ok-moment.moment (replayed (made f) (take c.len-count.result (record_of d))).state) firsts c.in_ok-moment.ensures) in
    chosen_image (first_bytes d) (record_of d) c.args.choice c.into_image.result.items (c.into_image.ensures (memory_moments d).state shows)
