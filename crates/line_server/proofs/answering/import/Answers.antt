use Rattle.std.proofs.lemmas.Result.{err_from_is_err_and}
use Rattle.line_server.proofs.Importing.{unhad, taking, refusing}
use Rattle.line_server.specs.Sources.{source_view}
use Rattle.line_server.proofs.answering.import.Goals as goal

pub returns-in_err-release-clause-response : goal.returns-in_err-release-clause-response
returns-in_err-release-clause-response g c session state free =
    let p = err_from_is_err_and c.from_residual.result c.from_residual.ensures.1 in
    rw (p.1, p.2) (unhad (source_view (g.S.Source.is_honest c.args.source.now) (g.S.Source.releases c.args.source.now)) g.D.Disk.view c.args.name.now session state free c.args.store.now c.scope-scope.result c.scope-scope.ensures c.in_err-release.field-0.0 (λ h. c.in_err-release.ensures.given h))

pub returns-in-Ok-clause-response : goal.returns-in-Ok-clause-response
returns-in-Ok-clause-response g c session state free =
    let e = c.in-Ok.ensures in
    taking (source_view (g.S.Source.is_honest c.args.source.now) (g.S.Source.releases c.args.source.now)) g.D.Disk.view c.args.name.now session state free c.args.store.now c.import.new.self c.in_ok-release.release
    c.scope-scope.result c.scope-scope.ensures (λ h. c.in_ok-release.ensures.given h) e.crash e.meters.counts.honesty e.meters.known c.in-Ok.receipt c.reply_import.result e.kept e.answer e.meters.counts.failures c.reply_import.ensures

pub returns-in-Err-clause-response : goal.returns-in-Err-clause-response
returns-in-Err-clause-response g c session state free =
    let e = c.in-Err.ensures in
    refusing (source_view (g.S.Source.is_honest c.args.source.now) (g.S.Source.releases c.args.source.now)) g.D.Disk.view c.args.name.now session state free c.args.store.now c.import.new.self c.in_ok-release.release
    c.scope-scope.result c.scope-scope.ensures (λ h. c.in_ok-release.ensures.given h) e.crash e.meters.counts.honesty e.meters.known c.in-Err.refusal e.kept e.answer e.meters.counts.failures e.refused
