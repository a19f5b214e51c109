use Rattle.std.proofs.Common.{ap, ◌∙◌}
use Rattle.segment.specs.Standing.{places_of}
use Rattle.segment_index.specs.Indexed.{SegmentRows}
use Rattle.segment_index.proofs.sealed.SegmentIndex.places.Goals as goal

pub returns : goal.returns
returns c = c.places.ensures.places ∙ c.self.invariant.places_are ∙ ap (λ (s : SegmentRows). places_of s.rows) c.self.view_is
