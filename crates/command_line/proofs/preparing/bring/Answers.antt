use Rattle.line_server.specs.Sources.{source_view}
use Rattle.command_line.proofs.Prepared.{refused_by_store}
use Rattle.command_line.proofs.preparing.bring.Goals as goal

pub returns-in-Ok : goal.returns-in-Ok
returns-in-Ok g c = record {
  release = c.in_ok-release.release;
  has = λ honest. rw c.scope-scope.ensures at (c.in_ok-release.ensures.given honest);
  exact = c.in-Ok.ensures.answer;
  possible = c.in-Ok.ensures.kept;
  crash = c.in-Ok.ensures.crash;
}

pub returns-in-Err : goal.returns-in-Err
returns-in-Err g c =
    refused_by_store (source_view (g.S.Source.is_honest c.args.source.now) (g.S.Source.releases c.args.source.now)) g.D.Disk.view c.args.name.now c.in-Err.refusal c.args.store.now c.import.new.self (record {
      release = c.in_ok-release.release;
      has = λ honest. rw c.scope-scope.ensures at (c.in_ok-release.ensures.given honest);
      exact = c.in-Err.ensures.answer;
      possible = c.in-Err.ensures.kept;
      crash = c.in-Err.ensures.crash;
    })
