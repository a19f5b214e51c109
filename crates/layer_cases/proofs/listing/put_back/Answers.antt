use Rattle.std.proofs.Common.{ap, arith, length}
use Rattle.layer_cases.proofs.Listings.{back_listing}
use Rattle.layer_cases.proofs.listing.put_back.Goals as goal

pub put_back-requires-clause-listing : goal.put_back-requires-clause-listing
put_back-requires-clause-listing c =
    back_listing c.args.directory.now c.args.before.now c.entries.result.now _ c.layout.result c.epoch.result c.entries-2.ensures.listing c.entries.ensures.listing
    (omega (arith, c.if-entries-ne1.false, ap length c.entries-2.ensures.entries)) c.entries.ensures.entries
    (omega (arith, c.in-len2.len_at_least, c.in-len2.len_below)) c.layout.ensures c.epoch.ensures
