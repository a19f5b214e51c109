use Rattle.snapshot_check.specs.Private.{IsCompared}
use Rattle.snapshot_check.proofs.comparing.compare_all.Given as goal

abbrev pub invariant-rows : goal.invariant-rows
invariant-rows g l = record {
  compared : IsCompared (g.S.Shown.reads l.fn.shown) (g.P.Package.given l.packaged) (g.S.Shown.at_date l.fn.shown) l.fn.limit l.compared;
  stays : g.S.Shown.stays l.fn.shown l.shown;
}

abbrev pub decreases-rows : goal.decreases-rows
decreases-rows g l = g.P.Package.left l.packaged
