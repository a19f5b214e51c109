use Rattle.std.proofs.Common.{subst}
use Rattle.term_words.specs.Private.{IsSplit}
use Rattle.term_words.proofs.Splits.{split_rising}
use Rattle.term_words.proofs.sealed.Sealed.split.Goals as goal

pub returns-clause-split : goal.returns-clause-split
returns-clause-split c = subst (λ ts. IsSplit ts c.split.result) c.self.view_is c.split.ensures

pub returns-clause-rising : goal.returns-clause-rising
returns-clause-rising c = split_rising c.self.inside.list c.split.result c.split.ensures c.self.invariant
