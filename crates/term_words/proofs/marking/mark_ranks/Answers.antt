use Rattle.std.proofs.Common.{get_or, refl, subst, take_all}
use Rattle.term_words.specs.Private.{AddsMarks}
use Rattle.term_words.proofs.Marks.{adds_none, adds_more}
use Rattle.term_words.proofs.marking.mark_ranks.Goals as goal

pub loop-rank-init : goal.loop-rank-init
loop-rank-init c = adds_none c.args.marks.now.items c.args.among.now

pub loop-rank-preserved : goal.loop-rank-preserved
loop-rank-preserved c =
    let ranks = c.args.ranks.now in
    let i = c.loop-rank.rank-index in
    adds_more c.args.marks.now.items c.loop-rank.marks.items c.mark_rank.new.marks.items c.args.among.now ranks i (get_or ranks i 0) 0 c.loop-rank-test.true refl c.loop-rank.invariant c.mark_rank.ensures

pub returns : goal.returns
returns c = subst (λ rs. AddsMarks c.args.marks.now.items c.args.among.now rs c.loop-rank.marks.items) (take_all c.loop-rank.rank-index c.args.ranks.now c.loop-rank-test.false) c.loop-rank.invariant
