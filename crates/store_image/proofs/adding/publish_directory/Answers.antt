use Rattle.std.proofs.Common.{◌≤◌, ◌+◌}
use Rattle.std.proofs.lemmas.Result.{err_from_is_err_and}
use Rattle.blocks.specs.Calls.{call_count}
use Rattle.blocks.proofs.Counted.{at_most}
use Rattle.store_image.proofs.Published.{epoch_before, publish_run, publish_done}
use Rattle.store_image.proofs.adding.publish_directory.Goals as goal

pub publish-requires : goal.publish-requires
publish-requires g c = epoch_before c.content_of-content.result c.args.next.now c.epoch.result c.content_of-content.ensures c.epoch.ensures

pub returns-in_err-published-clause-any_moment : goal.returns-in_err-published-clause-any_moment
returns-in_err-published-clause-any_moment g c honest d lists others on following held =
    publish_run _ _ c.args.slot d c.args.next.now lists others c.content_of-content.result c.epoch.result on following c.content_of-content.ensures held c.epoch.ensures (c.publish.ensures.any_moment honest)

pub returns-clause-any_moment : goal.returns-clause-any_moment
returns-clause-any_moment g c honest d lists others on following held =
    publish_run _ _ c.args.slot d c.args.next.now lists others c.content_of-content.result c.epoch.result on following c.content_of-content.ensures held c.epoch.ensures (c.publish.ensures.any_moment honest)

pub returns-clause-on_disk : goal.returns-clause-on_disk
returns-clause-on_disk g c honest d lists others on following held =
    publish_done _ _ c.args.slot d c.args.next.now lists others c.content_of-content.result c.epoch.result on following c.content_of-content.ensures held c.epoch.ensures (c.publish.ensures.any_moment honest) (c.in_ok-published.ensures.published honest)

pub returns-in_err-published-clause-inside : goal.returns-in_err-published-clause-inside
returns-in_err-published-clause-inside g c honest = c.publish.ensures.inside honest

pub returns-clause-inside : goal.returns-clause-inside
returns-clause-inside g c honest = c.publish.ensures.inside honest

pub returns-in_err-published-clause-calls : goal.returns-in_err-published-clause-calls
returns-in_err-published-clause-calls g c honest =
    let old = (g.D.Disk.view c.args.disk.now).moments in
    let new = (g.D.Disk.view c.publish.new.disk).moments in
    let few : call_count new ≤ call_count old + 6 = at_most c.publish.result 6 old new (c.publish.ensures.calls honest) in
    let p = err_from_is_err_and c.from_residual.result c.from_residual.ensures.1 in rw p.1 few
