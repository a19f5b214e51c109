use Rattle.links.proofs.postings.Sealed.postings.Goals as goal

pub returns-clause-rising : goal.returns-clause-rising
returns-clause-rising c = rw (← c.self.view_is) c.self.invariant.by_rank
