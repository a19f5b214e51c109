use Rattle.std.proofs.Common.{arith}
use Rattle.std.proofs.lemmas.Option.{slice_get_past, slice_get-get_or}
use Rattle.term_words.proofs.Marks.{says_marked, says_none}
use Rattle.term_words.proofs.marking.is_marked.Goals as goal

pub returns-then-marks-rank : goal.returns-then-marks-rank
returns-then-marks-rank c = let past = c.if-marks-rank.true in says_none c.args.marks.now c.args.rank (slice_get_past c.args.marks.now c.args.rank (omega (arith, past)))

pub returns : goal.returns
returns c = let lt = c.if-marks-rank.false in says_marked c.args.marks.now c.args.rank _ (slice_get-get_or c.args.marks.now c.args.rank _ (omega (arith, lt)))
