use Rattle.segment_index.proofs.postings_merge.PostingsMerge.resume.Goals as goal

pub returns-clause-merge : goal.returns-clause-merge
returns-clause-merge c places terms links words i_in j_in under = c.new.ensures.merge places terms links words i_in j_in
