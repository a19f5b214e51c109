use Rattle.std.proofs.Common.{List, sym, subst}
use Rattle.std.specs.List.Sorted.{IsNonDecreasingBy}
use Rattle.links.specs.declared.posting.Posting.{Posting}
use Rattle.links.specs.declared.postings.Subject.{Subject}
use Rattle.links.specs.Edges.{subject_rank, rank_of}
use Rattle.links.proofs.merging.Merging.advance.Goals as goal

abbrev IsRising : List Subject → Type 0
IsRising xs = IsNonDecreasingBy (λ x. subject_rank x.subject x.kind) xs

abbrev IsRisingByRank : List Posting → Type 0
IsRisingByRank ps = IsNonDecreasingBy rank_of ps

pub merge_on-requires-clause-first : goal.merge_on-requires-clause-first
merge_on-requires-clause-first c = subst IsRising (sym c.subjects-3.ensures.subjects) c.subjects-3.ensures.rising

pub merge_on-requires-clause-second : goal.merge_on-requires-clause-second
merge_on-requires-clause-second c = subst IsRising (sym c.subjects-4.ensures.subjects) c.subjects-4.ensures.rising

pub merge_on-requires-2-clause-first : goal.merge_on-requires-2-clause-first
merge_on-requires-2-clause-first c = subst IsRisingByRank (sym c.postings-3.ensures.postings) c.postings-3.ensures.rising

pub merge_on-requires-2-clause-second : goal.merge_on-requires-2-clause-second
merge_on-requires-2-clause-second c = subst IsRisingByRank (sym c.postings-4.ensures.postings) c.postings-4.ensures.rising

pub merge_on-requires-3-clause-first : goal.merge_on-requires-3-clause-first
merge_on-requires-3-clause-first c = subst IsRisingByRank (sym c.postings-5.ensures.postings) c.postings-5.ensures.rising

pub merge_on-requires-3-clause-second : goal.merge_on-requires-3-clause-second
merge_on-requires-3-clause-second c = subst IsRisingByRank (sym c.postings-6.ensures.postings) c.postings-6.ensures.rising
