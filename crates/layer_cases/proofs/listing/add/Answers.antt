use Rattle.std.proofs.Common.{subst}
use Rattle.directory.specs.declared.layout.Layout.{Layout}
use Rattle.directory.specs.Listings.{HasForm}
use Rattle.layer_cases.proofs.Listings.{added_listing}
use Rattle.layer_cases.proofs.listing.add.Goals as goal

pub add-requires : goal.add-requires
add-requires c =
    added_listing c.args.directory.now c.in_ok-entry.entry _ c.has_room.ensures.listing (c.has_room.ensures.room c.if-not-has_room.false) (c.is_entry.ensures.is c.if-not-is_entry.false)
    (subst (λ (l : Layout). HasForm l c.in_ok-entry.entry) c.layout-layout.ensures (c.is_entry.ensures.form c.if-not-is_entry.false)) (c.is_fit.ensures c.if-not-is_fit.false)
