use Rattle.std.proofs.Common.{List, sym, subst}
use Rattle.disk_model.specs.Disk.{Moments}
use Rattle.history_model.specs.declared.stamped.StampedRow.{StampedRow}
use Rattle.directory.specs.Places.{extent_of}
use Rattle.directory.specs.Listings.{HasSumOf, form_in}
use Rattle.store_image.specs.Kept.{IsSegmentOf, segment_with}
use Rattle.store_image.specs.Reading.{AreNumbered, IsAt}
use Rattle.store_image.specs.Reader.{bytes_of}
use Rattle.store_image.specs.Private.Reading.{BeginsWith}
use Rattle.store_image.proofs.Segments.{at_found}
use Rattle.store_image.proofs.reading.read_segment.Goals as goal

pub seal-requires : goal.seal-requires
seal-requires g c = c.in_ok-builder.ensures.found.is.ascending

pub returns-clause-found : goal.returns-clause-found
returns-clause-found g c = subst (λ (rows : List StampedRow). IsSegmentOf c.args.entry rows) (sym c.in_ok-seal.ensures.rows) c.in_ok-builder.ensures.found

pub returns-clause-sum : goal.returns-clause-sum
returns-clause-sum g c = subst (λ (rows : List StampedRow). HasSumOf c.args.entry.sums (segment_with c.args.entry rows)) (sym c.in_ok-seal.ensures.rows) c.in_ok-builder.ensures.sum

pub returns-clause-numbered : goal.returns-clause-numbered
returns-clause-numbered g c = subst (λ (rows : List StampedRow). AreNumbered c.args.imports rows) (sym c.in_ok-seal.ensures.rows) c.in_ok-builder.ensures.numbered

pub returns-clause-exact : goal.returns-clause-exact
returns-clause-exact g c honest =
    let entry = c.args.entry in
    let rows = g.B.SegmentBuilder.rows c.in_ok-builder.builder in
    let file = (g.D.Disk.view c.args.disk.now).moments.state.now in
    let room = c.in_ok-check_room.ensures in
    let begins = subst (λ (m : Moments). BeginsWith (form_in entry.sums) rows (bytes_of (extent_of entry) m.state.now)) (room.moments honest) (c.in_ok-builder.ensures.exact (room.meters.honesty.0 honest)) in
    subst (λ (l : List StampedRow). IsAt file entry l) (sym c.in_ok-seal.ensures.rows) (at_found file entry rows c.requires c.in_ok-builder.ensures.found c.in_ok-builder.ensures.sum begins)
