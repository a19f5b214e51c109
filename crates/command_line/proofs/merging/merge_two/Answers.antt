use Rattle.std.proofs.Common.{◌∙◌, Ok, Err}
use Rattle.std.proofs.lemmas.Result.{err_from_is_err_and}
use Rattle.command_line.proofs.Merged.{begin_call, publish_call, begun, begin_stops, further, one_less, publish_goes}
use Rattle.command_line.proofs.merging.merge_two.Goals as goal

pub returns-in_err-merge_begin-clause-progress : goal.returns-in_err-merge_begin-clause-progress
returns-in_err-merge_begin-clause-progress g c =
    let view = g.D.Disk.view in
    let e = c.in_err-merge_begin.ensures in
    let refusal = c.in_err-merge_begin.field-0.0 in
    let p = err_from_is_err_and c.from_residual.result c.from_residual.ensures.1 in
    rw (p.1, p.2) (begin_stops view _ _ refusal c.requires (begin_call view (Err refusal) c.args.store.now c.merge_begin.new.self e.answer e.disk e.closed e.acknowledged))

pub take_rows-requires : goal.take_rows-requires
take_rows-requires g c =
    let view = g.D.Disk.view in
    let e = c.in_ok-merge_begin.ensures in
    let left = c.in_ok-merge_begin.field-0 in
    (begun view _ _ left (begin_call view (Ok left) c.args.store.now c.merge_begin.new.self e.answer e.disk e.closed e.acknowledged)).2

pub returns-in_err-take_rows-clause-progress : goal.returns-in_err-take_rows-clause-progress
returns-in_err-take_rows-clause-progress g c =
    let view = g.D.Disk.view in
    let e = c.in_ok-merge_begin.ensures in
    let left = c.in_ok-merge_begin.field-0 in
    let b = begun view _ _ left (begin_call view (Ok left) c.args.store.now c.merge_begin.new.self e.answer e.disk e.closed e.acknowledged) in
    let p = err_from_is_err_and c.from_residual-in_err-take_rows.result c.from_residual-in_err-take_rows.ensures.1 in
    rw (p.1, p.2) (further view _ _ _ (Err c.in_err-take_rows.field-0.0) b.0 b.1 c.in_err-take_rows.ensures.progress)

pub returns-clause-progress : goal.returns-clause-progress
returns-clause-progress g c =
    let view = g.D.Disk.view in
    let e = c.in_ok-merge_begin.ensures in
    let left = c.in_ok-merge_begin.field-0 in
    let b = begun view _ _ left (begin_call view (Ok left) c.args.store.now c.merge_begin.new.self e.answer e.disk e.closed e.acknowledged) in
    let t = c.in_ok-take_rows.ensures in
    let f = c.merge_publish.ensures in
    let result = c.merge_publish.result in
    let made = publish_call view result c.take_rows.new.store c.merge_publish.new.self f.answer (f.refused, f.meters.counts) f.history f.crash in
    further view _ _ _ result b.0 b.1 (further view _ _ _ result t.progress t.taken.0 (publish_goes view _ _ result t.taken.1 made).0)

pub returns-clause-merged : goal.returns-clause-merged
returns-clause-merged g c =
    let view = g.D.Disk.view in
    let e = c.in_ok-merge_begin.ensures in
    let left = c.in_ok-merge_begin.field-0 in
    let b = begun view _ _ left (begin_call view (Ok left) c.args.store.now c.merge_begin.new.self e.answer e.disk e.closed e.acknowledged) in
    let t = c.in_ok-take_rows.ensures in
    let f = c.merge_publish.ensures in
    let result = c.merge_publish.result in
    let made = publish_call view result c.take_rows.new.store c.merge_publish.new.self f.answer (f.refused, f.meters.counts) f.history f.crash in
    one_less view c.args.store.now c.take_rows.new.store c.merge_publish.new.self result (t.taken.0 ∙ b.1) (publish_goes view _ _ result t.taken.1 made).1
