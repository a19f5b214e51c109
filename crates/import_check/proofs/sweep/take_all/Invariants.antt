use Rattle.std.proofs.Common.{◌≡◌, ◌+◌, ◌≤◌, length, List, ◌++◌}
use Rattle.import_check.specs.declared.release.PlacedLine.{PlacedLine}
use Rattle.std.specs.Prelude.{IfSome}
use Rattle.std.specs.List.{sum_by}
use Rattle.import_check.specs.Known.{already_known}
use Rattle.import_check.specs.Release.{rows_of}
use Rattle.import_check.specs.Private.Sweep.{IsInStep, IsAhead, IsSwept, IsOwn, IsGathered, IsBlameable}
use Rattle.import_check.specs.Private.Sweep.{IsRising}
use Rattle.import_check.specs.Contradictions.{rank_cmp}
use Rattle.import_check.proofs.Knowing.{HasAsked}
use Rattle.import_check.proofs.sweep.take_all.Given as goal

abbrev pub invariant-loop-line : goal.invariant-loop-line
invariant-loop-line g l = record {
  swept : (g.K.Known.view l.fn.known).is_honest → IsRising rank_cmp l.fn.lines.items →
      (done : List PlacedLine) × (l.fn.lines.items ≡ done ++ l.line-iterator) × IsSwept (g.K.Known.view l.fn.known).rows l.fn.lines.items done l.sweep;
  apart : (g.K.Known.view l.fn.known).is_sound → IsRising rank_cmp l.fn.lines.items → IsOwn (g.K.Known.view l.fn.known).rows l.line-iterator l.sweep × IsRising rank_cmp l.line-iterator;
  gathered : (g.K.Known.view l.fn.known).is_sound →
      (done : List PlacedLine) × (l.fn.lines.items ≡ done ++ l.line-iterator) × IsGathered (g.K.Known.view l.fn.known).rows (g.K.Known.view l.fn.known).may_be done l.sweep
      × (IsRising rank_cmp l.fn.lines.items → IfSome l.sweep.first (IsBlameable (g.K.Known.view l.fn.known).rows (g.K.Known.view l.fn.known).may_be l.fn.lines.items));
  in_step : (g.K.Known.view l.fn.known).is_honest → IsInStep l.sweep;
  asked : (g.K.Known.view l.fn.known).is_sound → IsRising rank_cmp l.fn.lines.items →
      (done : List PlacedLine) × (l.fn.lines.items ≡ done ++ l.line-iterator) × IsAhead done l.sweep.key l.line-iterator
      × ((g.K.Known.view l.known).work ≤ (g.K.Known.view l.fn.known).work + sum_by g.K.Known.cost (already_known (g.K.Known.view l.fn.known).rows (rows_of done)));
  few : length l.sweep.fresh.items + length l.line-iterator ≤ length l.fn.lines.items;
  known : HasAsked (g.K.Known.view l.fn.known) (g.K.Known.view l.known);
  stays : g.K.Known.stays l.fn.known l.known;
}
