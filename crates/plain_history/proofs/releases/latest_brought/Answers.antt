use Rattle.std.proofs.Common.{◌≡◌, ◌≢◌, Some, refl, sym, ap, ◌∙◌}
use Rattle.history_model.specs.declared.stamped.StampedRow.{StampedRow}
use Rattle.history_model.specs.Brought.{brought_by}
use Rattle.plain_history.specs.Private.{later}
use Rattle.plain_history.proofs.LatestDays.{latest_more, latest_same}
use Rattle.plain_history.proofs.releases.latest_brought.Goals as goal
use Rattle.plain_history.proofs.releases.latest_brought.Goals.{then-s-number, else-s-number}

pub loop-s-init : goal.loop-s-init
unfolding brought_by
loop-s-init c = refl

pub loop-s-preserved : goal.loop-s-preserved
loop-s-preserved c =
    let a = c.args in
    let same = c.s.view_is in
    elim c.if-s-number.branch [
      | then-s-number w ↦
          let own : c.s-item.result.import ≡ a.number = sym (ap (λ (s : StampedRow). s.import) same) ∙ w.if-s-number.true in
          let found = w.latest-is ∙ ap Some (w.later.ensures ∙ ap (λ (s : StampedRow). later s.row.time c.loop-s.latest) same) in
          latest_more a.number a.rows.now c.loop-s.s-index c.s-item.result c.loop-s.latest c.if-s-number.latest c.loop-s-test.true c.s-item.is own found c.loop-s.invariant
      | else-s-number w ↦
          let other : c.s-item.result.import ≢ a.number = λ e. w.if-s-number.false (ap (λ (s : StampedRow). s.import) same ∙ e) in
          latest_same a.number a.rows.now c.loop-s.s-index c.s-item.result c.loop-s.latest c.if-s-number.latest c.loop-s-test.true c.s-item.is other w.latest-is c.loop-s.invariant
    ]
