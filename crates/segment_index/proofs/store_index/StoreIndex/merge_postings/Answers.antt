use Rattle.std.proofs.Common.{◌≡◌, ◌+◌, ◌-◌, ◌^◌, ◌<◌, ◌≤◌, ◌∷◌, [], ◌∙◌, ℕ, List, length, slice_index_or, sym, subst, arith}
use Rattle.std.specs.Prelude.{Some, Option, IfSome, slice_get}
use Rattle.history_model.specs.declared.stamped.StampedRow.{StampedRow}
use Rattle.history_model.specs.InOrder.{IsAscending}
use Rattle.history_model.specs.Lists.{AreLists, union}
use Rattle.as_of_index.specs.Places.{place_cmp}
use Rattle.term_prefix.specs.Merged.{terms_left}
use Rattle.links.specs.MergedEdges.{edges_left, less_of_rows}
use Rattle.segment_index.specs.declared.postings_merge.PostingsMerge.{PostingsMerge}
use Rattle.segment_index.specs.Output.{HasPostings}
use Rattle.segment_index.specs.UnderWay.{IsUnderWay, terms_at, edges_at}
use Rattle.segment_index.proofs.AllLists.{terms_count, links_count, places_count}
use Rattle.segment_index.specs.Private.{most_steps}
use Rattle.segment_index.specs.Indexed.{StoreRows}
use Rattle.segment_index.proofs.UnderWay.{first_ascends, second_ascends, both_few, renumbered, all_posted}
use Rattle.segment_index.proofs.store_index.StoreIndex.merge_postings.Goals as goal

-- what is asked of the two segments, of the lists that the index has
abbrev Within : List (List StampedRow) → ℕ → ℕ → Type 0
Within lists i j = (i < length lists) × (j < length lists)

abbrev Both : List (List StampedRow) → ℕ → ℕ → Type 0
Both lists i j = (a b : List StampedRow) → slice_get lists i ≡ Some a → slice_get lists j ≡ Some b → AreLists (a ∷ b ∷ []) × (length a + length b < 2 ^ 32)

pub step_size-size-requires-clause-places : goal.step_size-size-requires-clause-places
step_size-size-requires-clause-places c =
    let x = c.self.inside in
    let within = subst (λ (r : StoreRows). Within r.lists c.args.i c.args.j) (sym c.self.view_is) c.requires.within in
    let count = places_count x.rows x.places c.self.invariant.0.places_are in
    let numbers = c.resume-merge.ensures.numbers in
    (omega (arith, within.0, count, numbers.0), omega (arith, within.1, count, numbers.1))

pub step_size-size-requires-clause-words : goal.step_size-size-requires-clause-words
step_size-size-requires-clause-words c = c.self.invariant.0.words_are.many ∙ sym (places_count c.self.inside.rows c.self.inside.places c.self.invariant.0.places_are)

pub advance-requires-clause-merge : goal.advance-requires-clause-merge
advance-requires-clause-merge c =
    let x = c.self.inside in
    let within = subst (λ (r : StoreRows). Within r.lists c.args.i c.args.j) (sym c.self.view_is) c.requires.within in
    let count = places_count x.rows x.places c.self.invariant.0.places_are in
    c.resume-merge.ensures.merge x.places x.terms x.links x.posted_words (omega (arith, within.0, count)) (omega (arith, within.1, count)) (subst (λ (o : Option PostingsMerge). IsUnderWay x.places x.terms x.links x.posted_words o) (sym c.take.ensures.value) c.self.invariant.1)

pub advance-requires-clause-first : goal.advance-requires-clause-first
advance-requires-clause-first c =
    let x = c.self.inside in
    let within = subst (λ (r : StoreRows). Within r.lists c.args.i c.args.j) (sym c.self.view_is) c.requires.within in
    let both = subst (λ (r : StoreRows). Both r.lists c.args.i c.args.j) (sym c.self.view_is) c.requires.lists in
    subst (λ k. IsAscending place_cmp (slice_index_or x.places k [])) (sym c.resume-merge.ensures.numbers.0) (first_ascends x.rows x.places c.self.invariant.0.places_are c.args.i c.args.j within.0 within.1 both)

pub advance-requires-clause-second : goal.advance-requires-clause-second
advance-requires-clause-second c =
    let x = c.self.inside in
    let within = subst (λ (r : StoreRows). Within r.lists c.args.i c.args.j) (sym c.self.view_is) c.requires.within in
    let both = subst (λ (r : StoreRows). Both r.lists c.args.i c.args.j) (sym c.self.view_is) c.requires.lists in
    subst (λ k. IsAscending place_cmp (slice_index_or x.places k [])) (sym c.resume-merge.ensures.numbers.1) (second_ascends x.rows x.places c.self.invariant.0.places_are c.args.i c.args.j within.0 within.1 both)

pub advance-requires-clause-few : goal.advance-requires-clause-few
advance-requires-clause-few c =
    let x = c.self.inside in
    let within = subst (λ (r : StoreRows). Within r.lists c.args.i c.args.j) (sym c.self.view_is) c.requires.within in
    let both = subst (λ (r : StoreRows). Both r.lists c.args.i c.args.j) (sym c.self.view_is) c.requires.lists in
    renumbered (λ k l. length (slice_index_or x.places k []) + length (slice_index_or x.places l []) < 2 ^ 32) c.args.i c.args.j c.resume-merge.result.i c.resume-merge.result.j c.resume-merge.ensures.numbers.0 c.resume-merge.ensures.numbers.1
    (both_few x.rows x.places c.self.invariant.0.places_are c.args.i c.args.j within.0 within.1 both)

pub advance-requires-clause-terms : goal.advance-requires-clause-terms
advance-requires-clause-terms c = terms_count c.self.inside.rows c.self.inside.terms c.self.invariant.0.terms_are ∙ sym (places_count c.self.inside.rows c.self.inside.places c.self.invariant.0.places_are)

pub advance-requires-clause-links : goal.advance-requires-clause-links
advance-requires-clause-links c = links_count c.self.inside.rows c.self.inside.links c.self.invariant.0.links_are ∙ sym (places_count c.self.inside.rows c.self.inside.places c.self.invariant.0.places_are)

pub advance-requires-clause-words : goal.advance-requires-clause-words
advance-requires-clause-words c = c.self.invariant.0.words_are.many ∙ sym (places_count c.self.inside.rows c.self.inside.places c.self.invariant.0.places_are)

pub returns-then-left-eq0-clause-posted : goal.returns-then-left-eq0-clause-posted
returns-then-left-eq0-clause-posted c a b a_is b_is =
    let none : c.args.left ≡ 0 = c.if-left-eq0.true in
    let x = c.self.inside in
    let old = c.resume-merge.result in
    let m = c.advance.new.self in
    let went = c.advance.ensures in
    let number = c.resume-merge.ensures.numbers in
    let steps : c.step_size-size.result.postings ≡ most_steps = c.step_size-size.ensures.postings none in
    let both = c.requires.lists a b a_is b_is in
    let first : slice_get x.rows m.i ≡ Some a = subst (λ k. slice_get x.rows k ≡ Some a) (sym (went.numbers.0 ∙ number.0)) (subst (λ (r : StoreRows). slice_get r.lists c.args.i ≡ Some a) (sym c.self.view_is) a_is) in
    let second : slice_get x.rows m.j ≡ Some b = subst (λ k. slice_get x.rows k ≡ Some b) (sym (went.numbers.1 ∙ number.1)) (subst (λ (r : StoreRows). slice_get r.lists c.args.j ≡ Some b) (sym c.self.view_is) b_is) in
    let terms = renumbered (λ k l. terms_left (terms_at x.terms k) (terms_at x.terms l) m.terms ≡ terms_left (terms_at x.terms k) (terms_at x.terms l) old.terms - most_steps) old.i old.j m.i m.j went.numbers.0 went.numbers.1
    (subst (λ n. terms_left (terms_at x.terms old.i) (terms_at x.terms old.j) m.terms ≡ terms_left (terms_at x.terms old.i) (terms_at x.terms old.j) old.terms - n) steps c.in_default.ensures.terms) in
    let links = renumbered (λ k l. edges_left (edges_at x.links k) (edges_at x.links l) m.links ≡ less_of_rows most_steps (edges_left (edges_at x.links k) (edges_at x.links l) old.links)) old.i old.j m.i m.j went.numbers.0 went.numbers.1
    (subst (λ n. edges_left (edges_at x.links old.i) (edges_at x.links old.j) m.links ≡ less_of_rows n (edges_left (edges_at x.links old.i) (edges_at x.links old.j) old.links)) steps c.in_default.ensures.links) in
    let words = renumbered (λ k l. terms_left (terms_at x.posted_words k) (terms_at x.posted_words l) m.words ≡ terms_left (terms_at x.posted_words k) (terms_at x.posted_words l) old.words - c.step_size-size.result.words) old.i old.j m.i m.j went.numbers.0 went.numbers.1 c.in_default.ensures.words in
    let enough = renumbered (λ k l. terms_left (terms_at x.posted_words k) (terms_at x.posted_words l) old.words ≤ c.step_size-size.result.words) old.i old.j m.i m.j went.numbers.0 went.numbers.1 (c.step_size-size.ensures.words none) in
    subst (λ (r : StoreRows). IfSome (Some c.seal.result) (HasPostings r.words (union a b))) c.self.view_is
    (all_posted x.words x.rows x.places x.terms x.links x.posted_words c.self.invariant.0 old m a b first second both.0 both.1 went.merge c.seal.result terms links (omega (arith, words, enough)) c.seal.ensures.terms c.seal.ensures.links c.seal.ensures.words)
