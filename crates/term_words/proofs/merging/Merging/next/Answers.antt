use Rattle.std.proofs.Common.{ap, subst}
use Rattle.std.specs.Prelude.{slice_get}
use Rattle.term_prefix.specs.Terms.{TextsRise}
use Rattle.term_prefix.specs.Merged.{MergedTerms}
use Rattle.term_words.proofs.Stepping.{says_of}
use Rattle.term_words.proofs.merging.Merging.next.Goals as goal

pub returns-clause-rising : goal.returns-clause-rising
returns-clause-rising c = (subst TextsRise c.a.view_is c.a.invariant, subst TextsRise c.b.view_is c.b.invariant)

pub returns-clause-found : goal.returns-clause-found
returns-clause-found c =
    let a = c.args.a.now in
    let b = c.args.b.now in
    let m = c.args.self.now in
    c.next_of.ensures (slice_get a m.taken.first) (slice_get b m.taken.second)
    (says_of a c.a.inside.list m.taken.first c.self.inside.taken.first c.at-first.result c.a.view_is (ap (λ (x : MergedTerms). x.taken.first) c.self.view_is) c.at-first.ensures)
    (says_of b c.b.inside.list m.taken.second c.self.inside.taken.second c.at-second.result c.b.view_is (ap (λ (x : MergedTerms). x.taken.second) c.self.view_is) c.at-second.ensures)
