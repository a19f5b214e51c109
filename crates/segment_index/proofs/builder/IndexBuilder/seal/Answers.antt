use Rattle.std.proofs.Common.{List, sym, subst}
use Rattle.history_model.specs.InOrder.{IsAscending}
use Rattle.history_model.specs.History.{stamped_cmp}
use Rattle.segment.specs.declared.place.RowPlace.{RowPlace}
use Rattle.as_of_index.specs.Places.{place_cmp}
use Rattle.segment_index.specs.Indexed.{SegmentRows}
use Rattle.segment_index.proofs.Built.{ascending_places}
use Rattle.segment_index.proofs.builder.IndexBuilder.seal.Goals as goal

pub seal-requires-2 : goal.seal-requires-2
seal-requires-2 c =
    let up = subst (λ (s : SegmentRows). IsAscending stamped_cmp s.rows) (sym c.self.view_is) c.requires in
    subst (λ (p : List RowPlace). IsAscending place_cmp p) (sym c.self.invariant.places_are) (ascending_places c.self.inside.rows up)
