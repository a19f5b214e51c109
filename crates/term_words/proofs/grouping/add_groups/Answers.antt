use Rattle.std.proofs.Common.{get_or, refl, subst, take_all}
use Rattle.term_words.specs.declared.keys.KeyAt.TheVariants as places
use Rattle.term_words.specs.declared.listing.Entry.{Entry}
use Rattle.term_words.specs.Private.{AddsGroupsOf}
use Rattle.term_words.proofs.Groups.{no_groups, groups_next, groups_of_all}
use Rattle.term_words.proofs.grouping.add_groups.Goals as goal

pub loop-e-init : goal.loop-e-init
loop-e-init c = no_groups c.args.rows.now c.args.segment c.args.wanted_type c.args.groups.now.items

pub loop-e-preserved : goal.loop-e-preserved
loop-e-preserved c =
    let entries = c.args.entries.now in
    let i = c.loop-e.e-index in
    let d : Entry = record { key = places.Measure 0 0; first = 0; count = 0 } in
    groups_next c.args.rows.now c.args.segment c.args.wanted_type entries i d (get_or entries i d) c.args.groups.now.items c.loop-e.groups.items c.add_group.new.groups.items c.loop-e-test.true refl c.loop-e.invariant c.in_ok-add_group.ensures

pub returns : goal.returns
returns c = λ text are.
    groups_of_all text c.args.rows.now c.args.entries.now c.args.segment c.args.wanted_type c.args.groups.now.items c.loop-e.groups.items are
    (subst (λ es. AddsGroupsOf c.args.rows.now c.args.segment c.args.wanted_type es c.args.groups.now.items c.loop-e.groups.items) (take_all c.loop-e.e-index c.args.entries.now c.loop-e-test.false) c.loop-e.invariant)
