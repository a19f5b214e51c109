use Rattle.std.proofs.Common.{inl, refl, arith}
use Rattle.std.proofs.lemmas.Bool.Decides.{nat_tests}
use Rattle.term_words.proofs.Shortest.{says_enough}
use Rattle.term_words.proofs.search.is_enough.Goals as goal

pub returns-then-next-last : goal.returns-then-next-last
returns-then-next-last c = inl refl

pub returns-then-len-count : goal.returns-then-len-count
returns-then-len-count c = inl refl

pub returns : goal.returns
returns c =
    let more = c.if-next-last.false in
    says_enough c.args.count c.args.last c.args.next c.args.kept.now.items c.sort_once.new.kept.items _ c.sort_once.ensures (omega (arith, more)) (λ e. grind (arith, nat_tests))
