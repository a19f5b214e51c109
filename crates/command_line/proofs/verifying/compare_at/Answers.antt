use Rattle.std.proofs.Common.{map, sym, subst}
use Rattle.history_model.proofs.Snapshots.{IsAscending-rows_at}
use Rattle.command_line.specs.OnlyRead.{IsOnlyRead}
use Rattle.command_line.specs.Verifying.{IsNotCompared}
use Rattle.command_line.specs.Private.Verifying.{refusal_for}
use Rattle.command_line.proofs.Comparing.{only_read_failing, not_compared, kept_failing}
use Rattle.command_line.proofs.verifying.compare_at.Goals as goal

pub compare-requires-clause-in_order : goal.compare-requires-clause-in_order
compare-requires-clause-in_order g c =
    let history = c.args.store.now.history in IsAscending-rows_at history.imports history.rows c.requires.history.ascending

pub returns-in-Ok-clause-only_read : goal.returns-in-Ok-clause-only_read
returns-in-Ok-clause-only_read g c =
    let stays = rw c.in-Ok.is at c.compare.ensures.stays in
    subst (λ store. IsOnlyRead g.D.Disk.view c.args.store.now.disk store.disk) (sym (c.store-1.given.1 (sym stays.2))) stays.0.only

pub returns-in-Ok-clause-compared : goal.returns-in-Ok-clause-compared
returns-in-Ok-clause-compared g c = record {
  packaged = map (λ stamped. stamped.row) c.compare.new.packaged.given;
  day = c.args.date;
  exact = λ honest. rw c.in-Ok.is at (c.compare.ensures.found honest);
  possible = rw c.in-Ok.is at c.compare.ensures.possible;
}

pub returns-clause-only_read : goal.returns-clause-only_read
returns-clause-only_read g c =
    let fails = rw c.in-Err.is at c.compare.ensures.fails in
    let kept = kept_failing _ _ _ (λ stays. stays.2) (λ e failed. failed.1) c.in-Err.fault fails in
    subst (λ store. IsOnlyRead g.D.Disk.view c.args.store.now.disk store.disk) (sym (c.store-1.given.1 (sym kept)))
    (only_read_failing g.D.Disk.view c.args.store.now c.compare.new.shown.store.now _ _ _ (λ stays. stays.0) (λ e failed. failed.0) c.in-Err.fault fails)

pub returns-clause-compared : goal.returns-clause-compared
returns-clause-compared g c =
    let fails = rw c.in-Err.is at c.compare.ensures.fails in
    let kept = kept_failing _ _ _ (λ stays. stays.2) (λ e failed. failed.1) c.in-Err.fault fails in
    rw c.refusal_of.ensures (subst (λ store. IsNotCompared g.D.Disk.view c.args.store.now.disk store.disk (refusal_for c.in-Err.fault)) (sym (c.store-1.given.1 (sym kept)))
    (not_compared g.D.Disk.view c.args.store.now c.compare.new.shown.store.now _ _ _ (λ stays. stays.0) (λ e failed. failed.0) c.in-Err.fault c.requires.open_still fails))
