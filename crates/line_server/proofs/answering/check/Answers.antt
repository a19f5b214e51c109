use Rattle.std.proofs.lemmas.Result.{err_from_is_err_and}
use Rattle.line_server.proofs.Checked.{unhad, checked, unchecked}
use Rattle.line_server.specs.Sources.{source_view}
use Rattle.line_server.proofs.answering.check.Goals as goal

pub returns-in_err-release-clause-response : goal.returns-in_err-release-clause-response
returns-in_err-release-clause-response g c session state free =
    let p = err_from_is_err_and c.from_residual.result c.from_residual.ensures.1 in
    rw (p.1, p.2) (unhad (source_view (g.S.Source.is_honest c.args.source.now) (g.S.Source.releases c.args.source.now)) g.D.Disk.view c.args.name.now session state free c.args.store.now c.scope-scope.result c.scope-scope.ensures c.in_err-release.field-0.0 (λ h. c.in_err-release.ensures.given h))

pub returns-in-Ok-clause-response : goal.returns-in-Ok-clause-response
returns-in-Ok-clause-response g c session state free =
    checked (source_view (g.S.Source.is_honest c.args.source.now) (g.S.Source.releases c.args.source.now)) g.D.Disk.view c.args.name.now session state free c.args.store.now c.check.new.self c.in_ok-release.release
    c.scope-scope.result c.scope-scope.ensures (λ h. c.in_ok-release.ensures.given h) c.in-Ok.receipt c.reply_import.result c.in-Ok.ensures.answer c.reply_import.ensures

pub returns-in-Err-clause-response : goal.returns-in-Err-clause-response
returns-in-Err-clause-response g c session state free =
    unchecked (source_view (g.S.Source.is_honest c.args.source.now) (g.S.Source.releases c.args.source.now)) g.D.Disk.view c.args.name.now session state free c.args.store.now c.check.new.self c.in_ok-release.release
    c.scope-scope.result c.scope-scope.ensures (λ h. c.in_ok-release.ensures.given h) c.in-Err.refusal c.in-Err.ensures.answer
