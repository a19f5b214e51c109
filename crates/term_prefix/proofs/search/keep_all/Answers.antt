use Rattle.std.proofs.Common.{◌++◌, map, subst, take, take_all}
use Rattle.std.specs.Prelude.{flat_map}
use Rattle.term_prefix.specs.declared.text.Term.{Term}
use Rattle.as_of_index.specs.Private.Postings.{numbered}
use Rattle.term_prefix.specs.Private.{begun, chosen_at, AreKept}
use Rattle.term_prefix.proofs.FirstKept.{kept_same}
use Rattle.term_prefix.proofs.Terming.{terms-more, begun_more, described_those}
use Rattle.term_prefix.proofs.search.keep_all.Goals as goal

pub loop-segment-preserved : goal.loop-segment-preserved
loop-segment-preserved c = λ rows listed_so posts.
    let a = c.args in
    let i = c.loop-segment.segment in
    let list = c.index-lists-segment.result in
    let those = c.candidates-those.result.now in
    let new = c.keep_candidates.new.kept.items in
    let before = numbered 0 (take i a.lists.now) in
    let described = described_those rows a.lists.now posts i list c.loop-segment-test.true c.index-lists-segment.is a.prefix.now those c.candidates-those.ensures in
    let step = c.in_ok-keep_candidates.ensures rows listed_so described (begun rows a.prefix.now before) (c.loop-segment.invariant rows listed_so posts) in
    let same = begun_more rows a.prefix.now before i list those c.candidates-those.ensures in
    rw (terms-more a.lists.now i list c.loop-segment-test.true c.index-lists-segment.is)
    (kept_same rows a.search.now (begun rows a.prefix.now before ++ flat_map (λ (t : Term). chosen_at rows i t.row) those) (begun rows a.prefix.now (before ++ map (λ t. (i, t)) list)) new (λ k. (same k).0) (λ k. (same k).1) step)

pub returns : goal.returns
returns c = λ rows listed_so posts.
    let a = c.args in
    subst (λ xs. AreKept rows a.search.now (begun rows a.prefix.now (numbered 0 xs)) c.loop-segment.kept.items) (take_all c.loop-segment.segment a.lists.now c.loop-segment-test.false) (c.loop-segment.invariant rows listed_so posts)
