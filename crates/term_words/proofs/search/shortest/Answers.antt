use Rattle.std.proofs.Common.{[], get_or, map, refl, sym, subst, take_all}
use Rattle.term_words.specs.declared.grouping.Group.{Group}
use Rattle.term_words.specs.Private.{AreKept, SaysEnough}
use Rattle.term_words.proofs.Shortest.{IsSoFar, so_far_none, so_far_either, so_far_next, shortest_some, shortest_all}
use Rattle.term_words.proofs.search.shortest.Goals as goal

pub loop-group-init : goal.loop-group-init
loop-group-init c = λ lists listed_so rise.
    let marks = map (λ m. m.items) c.args.marks.now in
    subst (λ ks. IsSoFar lists c.args.as_of.now marks c.args.groups.now 0 0 ks) (sym c.new-kept.ensures.items) (so_far_none lists c.args.as_of.now marks c.args.groups.now)

abbrev nothing : Group
nothing = record { len = 0; segment = 0; first = 0; rows = record { ref_ptr = (0, 0); now = [] } }

pub returns-then-is_enough : goal.returns-then-is_enough
returns-then-is_enough c = λ lists listed_so rise.
    let a = c.args in
    let groups = a.groups.now in
    let i = c.loop-group.group-index in
    let g = get_or groups i nothing in
    let before = c.loop-group.invariant lists listed_so rise in
    let says = subst (λ b. SaysEnough a.count c.loop-group.last g.len c.loop-group.kept.items c.is_enough.new.kept.items b) c.if-is_enough.true c.is_enough.ensures in
    shortest_some lists a.as_of.now (map (λ m. m.items) a.marks.now) groups i a.count c.loop-group.last g nothing c.loop-group.kept.items c.is_enough.new.kept.items rise c.loop-group-test.true refl before.kept_so says.0 before.low says.2 says.1

pub loop-group-preserved : goal.loop-group-preserved
loop-group-preserved c = λ lists listed_so rise.
    let a = c.args in
    let groups = a.groups.now in
    let marks = map (λ m. m.items) a.marks.now in
    let i = c.loop-group.group-index in
    let g = get_or groups i nothing in
    let before = c.loop-group.invariant lists listed_so rise in
    let says = subst (λ b. SaysEnough a.count c.loop-group.last g.len c.loop-group.kept.items c.is_enough.new.kept.items b) c.if-is_enough.false c.is_enough.ensures in
    so_far_next lists a.as_of.now marks groups i c.loop-group.last g nothing c.is_enough.new.kept.items c.add_marked.new.kept.items rise c.loop-group-test.true refl
    (so_far_either lists a.as_of.now marks groups i c.loop-group.last c.loop-group.kept.items c.is_enough.new.kept.items before says) (c.in_ok-add_marked.ensures lists listed_so)

pub returns : goal.returns
returns c = λ lists listed_so rise.
    let a = c.args in
    let groups = a.groups.now in
    let marks = map (λ m. m.items) a.marks.now in
    let before = c.loop-group.invariant lists listed_so rise in
    shortest_all lists a.as_of.now marks groups a.count c.loop-group.kept.items c.sort_once.new.kept.items
    (subst (λ gs. AreKept lists a.as_of.now gs marks c.loop-group.kept.items) (take_all c.loop-group.group-index groups c.loop-group-test.false) before.kept_so) c.sort_once.ensures
