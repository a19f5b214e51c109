use Rattle.std.proofs.Common.{◌≡◌, ℕ, List, ◌++◌, length, take, drop, sym, ap, subst, rules, arith}
use Rattle.disk_model.specs.Choice.{IsChosen, IsFilled}
use Rattle.disk_model.specs.declared.choice.Choice.{Choice}
use Rattle.disk_model.proofs.Pasted.{whole}
use Rattle.disk_model.proofs.Replays.{filled_shown}
use Rattle.disk_model.proofs.memory.replay.Replay.into_image.Goals as goal

pub returns-in-Filled : goal.returns-in-Filled
returns-in-Filled c = λ s shows.
    let r = c.args.self in
    let image = c.fill_unsynced.new.image in
    let same : length image ≡ length c.deref_mut.result.now = search rules in
    let long = ap length c.deref_mut.ensures.value in
    let filled : IsFilled s c.in-Filled.byte image =
    filled_shown r s c.in-Filled.byte c.deref_mut.result.now c.deref.result.now image shows c.deref_mut.ensures.value c.deref.ensures.value same c.fill_unsynced.ensures.unsynced c.fill_unsynced.ensures.fixed in
    subst (λ (choice : Choice). IsChosen s choice (take r.now.len (image ++ drop (length image) r.now.items))) (sym c.in-Filled.is)
    (subst (λ (l : List ℕ). IsFilled s c.in-Filled.byte l) (sym (whole r.now.len image r.now.items (omega (arith, same, long, r.now.ok)) (omega (arith, same, long)))) filled)
