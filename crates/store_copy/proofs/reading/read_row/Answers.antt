use Rattle.std.proofs.Common.{◌≡◌, ◌+◌, refl, sym, subst, arith}
use Rattle.directory.specs.Listings.{form_in}
use Rattle.history_model.specs.declared.stamped.StampedRow.{StampedRow}
use Rattle.segment.specs.Records.{IsRecordAt}
use Rattle.segment.specs.Standing.{row_place}
use Rattle.segment.proofs.Places.{one_record}
use Rattle.store_image.specs.Reader.{segment_bytes}
use Rattle.store_copy.proofs.Records.{is_like, of_place}
use Rattle.store_copy.proofs.reading.read_row.Goals as goal

-- the row that was read is the one of the place
pub returns-clause-found : goal.returns-clause-found
returns-clause-found g c = λ honest seen entry s reads here there.
    let file = (g.S.Disk.view c.args.source.now).moments.state.now in
    let found = c.in_ok-row.ensures.exact honest seen entry reads in
    let at = subst (λ n. IsRecordAt (form_in entry.sums) (segment_bytes entry file) n s (c.args.at.at + c.args.at.bytes)) (sym here) there.record_is in
    (one_record (form_in entry.sums) (segment_bytes entry file) _ c.in_ok-row.row s _ _ found at).0

pub returns-clause-of_place : goal.returns-clause-of_place
returns-clause-of_place g c = of_place c.in_ok-row.row c.new.result c.args.at c.in_ok-row.ensures.is c.new.ensures (c.is_alike.ensures.0 c.if-not-is_alike.false)

pub returns-clause-place : goal.returns-clause-place
returns-clause-place g c =
    let of = of_place c.in_ok-row.row c.new.result c.args.at c.in_ok-row.ensures.is c.new.ensures (c.is_alike.ensures.0 c.if-not-is_alike.false) in
    omega (arith, c.in_ok-row.ensures.place, of.bytes)

pub returns-then-not-is_alike-clause-found : goal.returns-then-not-is_alike-clause-found
returns-then-not-is_alike-clause-found g c = λ honest seen entry s reads here there wrong.
    let file = (g.S.Disk.view c.args.source.now).moments.state.now in
    let found = c.in_ok-row.ensures.exact honest seen entry reads in
    let at = subst (λ n. IsRecordAt (form_in entry.sums) (segment_bytes entry file) n s (c.args.at.at + c.args.at.bytes)) (sym here) there.record_is in
    let same = (one_record (form_in entry.sums) (segment_bytes entry file) _ c.in_ok-row.row s _ _ found at).0 in
    let place = subst (λ (r : StampedRow). c.new.result ≡ row_place r c.args.at.at) same c.new.ensures in
    let yes = c.is_alike.ensures.1 (is_like s c.new.result c.args.at (c.args.at.at + c.args.at.bytes) place there.key_is there.import_is there.record_is.next_is refl) in
    let no = c.if-not-is_alike.true in
    absurd cc
