use Rattle.std.proofs.Common.{◌≡◌, ◌+◌, ◌≤◌, length, List, ◌++◌}
use Rattle.history_model.specs.InOrder.{Has, IsAscending}
use Rattle.import_check.specs.declared.release.PlacedLine.{PlacedLine}
use Rattle.import_check.specs.Contradictions.{rank_cmp}
use Rattle.std.specs.List.{sum_by}
use Rattle.import_check.specs.Known.{already_known, MayBeKnown}
use Rattle.import_check.specs.Release.{rows_of}
use Rattle.import_check.specs.Private.Sweep.{IsAhead}
use Rattle.import_check.specs.Private.Contradictions.{last_key}
use Rattle.import_check.proofs.Differing.{IsSiftedTo}
use Rattle.import_check.proofs.Knowing.{HasAsked}
use Rattle.import_check.proofs.contradicting.compare_all.Given as goal

abbrev pub invariant-loop-line : goal.invariant-loop-line
invariant-loop-line g l = record {
  sifted : (g.K.Known.view l.fn.known).is_honest → IsAscending rank_cmp l.fn.lines.items →
      IsSiftedTo (Has (g.K.Known.view l.fn.known).rows) (g.K.Known.view l.fn.known).rows l.fn.limit l.fn.lines.items l.line-iterator l.last l.found;
  possible : (g.K.Known.view l.fn.known).is_sound → IsAscending rank_cmp l.fn.lines.items →
      IsSiftedTo (MayBeKnown (g.K.Known.view l.fn.known).rows (g.K.Known.view l.fn.known).may_be) (g.K.Known.view l.fn.known).rows l.fn.limit l.fn.lines.items l.line-iterator l.last l.found;
  asked : (g.K.Known.view l.fn.known).is_sound → IsAscending rank_cmp l.fn.lines.items →
      (done : List PlacedLine) × (l.fn.lines.items ≡ done ++ l.line-iterator) × IsAhead done (last_key l.last) l.line-iterator
      × ((g.K.Known.view l.known).work ≤ (g.K.Known.view l.fn.known).work + sum_by g.K.Known.cost (already_known (g.K.Known.view l.fn.known).rows (rows_of done)));
  room : l.found.further + length l.line-iterator ≤ length l.fn.lines.items;
  known : HasAsked (g.K.Known.view l.fn.known) (g.K.Known.view l.known);
  stays : g.K.Known.stays l.fn.known l.known;
}
