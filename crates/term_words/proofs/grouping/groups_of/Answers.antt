use Rattle.std.proofs.Common.{[], get_or, refl, sym, subst, take_all}
use Rattle.term_words.specs.declared.ordered.Split.{Split}
use Rattle.term_words.specs.Private.{AreGroups}
use Rattle.term_words.proofs.Groups.{groups_none, groups_after, groups_moved}
use Rattle.term_words.proofs.Marks.{usable_at}
use Rattle.term_words.proofs.grouping.groups_of.Goals as goal

pub loop-segment-init : goal.loop-segment-init
loop-segment-init c = subst (λ gs. AreGroups [] c.args.wanted_type gs) (sym c.new-groups.ensures.items) (groups_none c.args.wanted_type)

abbrev nothing : Split
nothing =
    record {
      sizes = record { text = record { ref_ptr = (0, 0); now = [] }; entries = record { ref_ptr = (0, 0); now = [] }; rows = record { ref_ptr = (0, 0); now = [] } };
      words = record { text = record { ref_ptr = (0, 0); now = [] }; entries = record { ref_ptr = (0, 0); now = [] }; rows = record { ref_ptr = (0, 0); now = [] } };
    }

pub loop-segment-preserved : goal.loop-segment-preserved
loop-segment-preserved c =
    let splits = c.args.splits.now in
    let i = c.loop-segment.segment in
    let split = get_or splits i nothing in
    let usable = usable_at splits i split nothing c.loop-segment-test.true refl c.requires in
    groups_after splits i split nothing c.args.wanted_type c.loop-segment.groups.items c.add_groups.new.groups.items c.loop-segment-test.true refl c.loop-segment.invariant (c.in_ok-add_groups.ensures split.sizes.text.now usable.0)

pub returns-clause-groups : goal.returns-clause-groups
returns-clause-groups c =
    groups_moved c.args.splits.now c.args.wanted_type c.loop-segment.groups.items c.sort_by_length.new.groups.items
    (subst (λ xs. AreGroups xs c.args.wanted_type c.loop-segment.groups.items) (take_all c.loop-segment.segment c.args.splits.now c.loop-segment-test.false) c.loop-segment.invariant) c.sort_by_length.ensures.permutation
