use Rattle.std.proofs.Common.{subst, take, take_all}
use Rattle.std.proofs.lemmas.Bool.{and_parts}
use Rattle.as_of_index.specs.Private.Postings.{numbered}
use Rattle.links.specs.declared.posting.Posting.{Posting}
use Rattle.links.specs.Edges.{Edges}
use Rattle.links.specs.Selection.{is_between, is_wanted}
use Rattle.links.specs.Private.{postings_in}
use Rattle.links.specs.Private.Asking.{key_of, GivesEnd, AreGiven}
use Rattle.links.proofs.Between.{none_given, more_given, wanted_within}
use Rattle.links.proofs.Numbering.{numbered-more}
use Rattle.links.proofs.incoming.find_ends.Goals as goal

pub loop-segment-init : goal.loop-segment-init
loop-segment-init c = λ lists listed_so.
    rw c.clear.ensures.items (none_given (GivesEnd lists c.args.asked.now))

pub loop-segment-preserved : goal.loop-segment-preserved
loop-segment-preserved c = λ lists listed_so.
    let a = c.args in
    let i = c.loop-segment.segment in
    let list = c.index-links-segment.result in
    let so_far = c.loop-segment.invariant lists listed_so in
    let which = rw c.postings.ensures.postings at (c.part-those.ensures (rw c.postings.ensures.postings c.postings.ensures.rising)) in
    rw (numbered-more (λ (e : Edges). e.postings) a.links.now i list c.loop-segment-test.true c.index-links-segment.is)
    (more_given (GivesEnd lists a.asked.now) i (numbered 0 (postings_in (take i a.links.now))) list.postings c.part-those.result.now c.loop-segment.ids.items c.add_ends.new.ids.items
    so_far (λ (m : Posting) h. ((which m).0 h).0) (λ (m : Posting) k h g.
    let within = wanted_within a.asked.now.wanted m (and_parts (is_between a.asked.now.above a.asked.now.up_to g.at.key.id) (is_wanted a.asked.now.wanted (key_of m)) g.asked_so).1 in
    (which m).1 (h, within.0, within.1)) (c.in_ok-add_ends.ensures lists listed_so))

pub returns : goal.returns
returns c = λ lists listed_so.
    let a = c.args in
    subst (λ xs. AreGiven (GivesEnd lists a.asked.now) (numbered 0 (postings_in xs)) c.loop-segment.ids.items) (take_all c.loop-segment.segment a.links.now c.loop-segment-test.false) (c.loop-segment.invariant lists listed_so)
