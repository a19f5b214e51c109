use Rattle.plain_history.proofs.Accepting.{accepted_by_second, refused_by_first}
use Rattle.plain_history.proofs.releases.accepts.Goals as goal

pub returns-then-each_known_agrees : goal.returns-then-each_known_agrees
returns-then-each_known_agrees c =
    let a = c.args in
    accepted_by_second a.rows.now a.release.now c.each_known_agrees.result c.each_agrees.result c.each_known_agrees.ensures c.if-each_known_agrees.true c.each_agrees.ensures

pub returns-else-each_known_agrees : goal.returns-else-each_known_agrees
returns-else-each_known_agrees c =
    let a = c.args in
    refused_by_first a.rows.now a.release.now c.each_known_agrees.result c.each_known_agrees.ensures c.if-each_known_agrees.false
