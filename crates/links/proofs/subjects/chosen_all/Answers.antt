use Rattle.std.proofs.Common.{subst, take, take_all}
use Rattle.as_of_index.specs.Private.Postings.{numbered}
use Rattle.links.specs.declared.postings.Subject.{Subject}
use Rattle.links.specs.Edges.{Edges, subject_rank}
use Rattle.links.specs.Private.{subjects_in, GivesRow, AreRowsTaken}
use Rattle.links.proofs.Numbering.{numbered-more}
use Rattle.links.proofs.Collected.{none_taken, more_taken}
use Rattle.links.proofs.subjects.chosen_all.Goals as goal

pub loop-segment-init : goal.loop-segment-init
loop-segment-init c = λ lists listed_so.
    let a = c.args in
    rw c.new-kept.ensures.items (none_taken (GivesRow lists a.as_of.now) (λ (x : Subject). subject_rank x.subject x.kind) (subject_rank a.id a.kind))

pub loop-segment-preserved : goal.loop-segment-preserved
loop-segment-preserved c = λ lists listed_so.
    let a = c.args in
    let i = c.loop-segment.segment in
    let list = c.index-links-segment.result in
    let so_far = c.loop-segment.invariant lists listed_so in
    let which = rw c.subjects.ensures.subjects at (c.subjects_of-those.ensures (rw c.subjects.ensures.subjects c.subjects.ensures.rising)) in
    rw (numbered-more (λ (e : Edges). e.subjects) a.links.now i list c.loop-segment-test.true c.index-links-segment.is)
    (more_taken (GivesRow lists a.as_of.now) (λ (x : Subject). subject_rank x.subject x.kind) (subject_rank a.id a.kind) i (numbered 0 (subjects_in (take i a.links.now))) list.subjects c.subjects_of-those.result.now c.loop-segment.kept.items c.add_current.new.kept.items
    so_far which (c.in_ok-add_current.ensures lists listed_so))

pub returns : goal.returns
returns c = λ lists listed_so.
    let a = c.args in
    let all = c.loop-segment.kept.items in
    (all, subst (λ xs. AreRowsTaken lists a.kind a.as_of.now a.id (numbered 0 (subjects_in xs)) all) (take_all c.loop-segment.segment a.links.now c.loop-segment-test.false) (c.loop-segment.invariant lists listed_so), c.sort_once.ensures)
