use Rattle.term_prefix.specs.Merged.{IsMergeOfTerms}
use Rattle.links.specs.MergedEdges.{IsMergeOf}
use Rattle.history_cases.proofs.posted.merge_posted.Given as goal

abbrev pub invariant-loop : goal.invariant-loop
invariant-loop l =
    IsMergeOfTerms l.numbers l.a_terms l.b_terms l.terms × IsMergeOfTerms l.numbers l.a_words l.b_words l.words
    × IsMergeOf l.numbers l.a_links l.b_links l.links
