use Rattle.std.proofs.lemmas.Result.{on_ok_weaker}
use Rattle.store_copy.proofs.Gates.{opening_leaves, opened}
use Rattle.store_copy.proofs.writing.open_copy.Goals as goal

pub returns-clause-any_moment : goal.returns-clause-any_moment
returns-clause-any_moment g c = λ honest lists kept sums each long held.
    let file = (g.T.Disk.view c.args.target.now).moments.state.now in
    opening_leaves c.args.directory.now lists c.encode.new.block (record { lists_it = c.encode.ensures.lists; kept = kept; sums = sums }) file held (g.T.Disk.view c.args.target.now).moments (g.T.Disk.view c.open_first.new.disk).moments (c.open_first.ensures.any_moment honest each long)

pub returns-clause-on_disk : goal.returns-clause-on_disk
returns-clause-on_disk g c = λ honest lists kept sums each long held.
    let file = (g.T.Disk.view c.args.target.now).moments.state.now in
    on_ok_weaker c.open_first.result
    (λ each_first. opened c.args.directory.now lists c.encode.new.block (record { lists_it = c.encode.ensures.lists; kept = kept; sums = sums }) file held (g.T.Disk.view c.open_first.new.disk).moments.state each_first)
    (c.open_first.ensures.opened honest each long)
