use Rattle.std.proofs.Common.{◌∷◌, [], sym, subst, arith}
use Rattle.std.proofs.lemmas.Option.{slice_get_within}
use Rattle.term_words.specs.Private.{AddsMarks}
use Rattle.term_words.proofs.Marks.{marked_one, unmarked_one}
use Rattle.term_words.proofs.marking.mark_rank.Goals as goal

pub returns-then-not-is_marked : goal.returns-then-not-is_marked
returns-then-not-is_marked c = unmarked_one c.args.marks.now.items c.args.among.now c.args.rank (λ same mark. absurd (let yes = c.is_marked.ensures.1 mark in let not_so = c.if-not-is_marked.true in cc))

pub returns-then-len-rank : goal.returns-then-len-rank
returns-then-len-rank c = unmarked_one c.args.marks.now.items c.args.among.now c.args.rank (λ same mark. absurd (let lt = slice_get_within c.args.among.now c.args.rank 1 mark in let len = c.len.ensures in let le = c.if-len-rank.true in omega (arith, same, lt, len, le)))

pub returns : goal.returns
returns c =
    let len = c.len.ensures in
    let lt = c.if-len-rank.false in
    subst (λ ms. AddsMarks c.args.marks.now.items c.args.among.now (c.args.rank ∷ []) ms) (sym c.set_mark.ensures)
    (marked_one c.args.marks.now.items c.args.among.now c.args.rank (omega (arith, len, lt)) (c.is_marked.ensures.0 c.if-not-is_marked.false))
