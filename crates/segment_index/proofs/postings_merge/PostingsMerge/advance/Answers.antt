use Rattle.std.proofs.Common.{[], refl, arith, sym, subst}
use Rattle.std.proofs.lemmas.Option.{get_or_from_slice_get}
use Rattle.as_of_index.specs.Numbers.{TwoLists, AreKnown}
use Rattle.links.specs.Edges.{no_edges}
use Rattle.segment_index.specs.UnderWay.{terms_at, edges_at}
use Rattle.segment_index.proofs.UnderWay.{read_at, went_on, merged_before}
use Rattle.segment_index.proofs.postings_merge.PostingsMerge.advance.Goals as goal

pub returns-clause-merge : goal.returns-clause-merge
returns-clause-merge c =
    let m = c.args.self.now in
    let is = c.requires.merge in
    let places = c.args.places.now in
    let terms = c.args.terms.now in
    let links = c.args.links.now in
    let words = c.args.words.now in
    let known = subst (λ (l : TwoLists). AreKnown l c.extend.new.self) (sym c.with_table-numbers.ensures) c.extend.ensures.known in
    went_on places terms links words m (record { i = m.i; j = m.j; numbers = c.extend.new.self; terms = c.advance.new.self; links = c.advance-2.new.self; words = c.advance-3.new.self }) c.with_table-numbers.result c.list-first.result.now c.list-second.result.now
    c.index-as_slice-self.result c.index-as_slice-self-2.result c.index-as_slice-self-3.result c.index-as_slice-self-4.result c.index-as_slice-self-5.result c.index-as_slice-self-6.result refl refl is
    (get_or_from_slice_get places m.i c.list-first.result.now [] c.list-first.ensures) (get_or_from_slice_get places m.j c.list-second.result.now [] c.list-second.ensures) c.with_table-numbers.ensures
    (read_at terms c.as_slice.result.now m.i c.index-as_slice-self.result [] c.as_slice.ensures (omega (arith, is.first_within, c.requires.terms)) c.index-as_slice-self.is)
    (read_at terms c.as_slice-2.result.now m.j c.index-as_slice-self-2.result [] c.as_slice-2.ensures (omega (arith, is.second_within, c.requires.terms)) c.index-as_slice-self-2.is)
    (read_at links c.as_slice-3.result.now m.i c.index-as_slice-self-3.result no_edges c.as_slice-3.ensures (omega (arith, is.first_within, c.requires.links)) c.index-as_slice-self-3.is)
    (read_at links c.as_slice-4.result.now m.j c.index-as_slice-self-4.result no_edges c.as_slice-4.ensures (omega (arith, is.second_within, c.requires.links)) c.index-as_slice-self-4.is)
    (read_at words c.as_slice-5.result.now m.i c.index-as_slice-self-5.result [] c.as_slice-5.ensures (omega (arith, is.first_within, c.requires.words)) c.index-as_slice-self-5.is)
    (read_at words c.as_slice-6.result.now m.j c.index-as_slice-self-6.result [] c.as_slice-6.ensures (omega (arith, is.second_within, c.requires.words)) c.index-as_slice-self-6.is)
    known c.advance.ensures.merged c.advance-2.ensures.merged c.advance-3.ensures.merged

pub returns-in_err-advance-clause-merge : goal.returns-in_err-advance-clause-merge
returns-in_err-advance-clause-merge c =
    let m = c.args.self.now in
    let is = c.requires.merge in
    let places = c.args.places.now in
    let terms = c.args.terms.now in
    let links = c.args.links.now in
    let words = c.args.words.now in
    let first = get_or_from_slice_get places m.i c.list-first.result.now [] c.list-first.ensures in
    let second = get_or_from_slice_get places m.j c.list-second.result.now [] c.list-second.ensures in
    let known = subst (λ (l : TwoLists). AreKnown l c.extend.new.self) (sym c.with_table-numbers.ensures) c.extend.ensures.known in
    let linked = merged_before places terms links words m c.with_table-numbers.result c.list-first.result.now c.list-second.result.now (edges_at links m.i) (edges_at links m.j) is first second c.with_table-numbers.ensures refl refl in
    went_on places terms links words m (record { i = m.i; j = m.j; numbers = c.extend.new.self; terms = c.advance.new.self; links = m.links; words = m.words }) c.with_table-numbers.result c.list-first.result.now c.list-second.result.now
    c.index-as_slice-self.result c.index-as_slice-self-2.result (edges_at links m.i) (edges_at links m.j) (terms_at words m.i) (terms_at words m.j) refl refl is first second c.with_table-numbers.ensures
    (read_at terms c.as_slice.result.now m.i c.index-as_slice-self.result [] c.as_slice.ensures (omega (arith, is.first_within, c.requires.terms)) c.index-as_slice-self.is)
    (read_at terms c.as_slice-2.result.now m.j c.index-as_slice-self-2.result [] c.as_slice-2.ensures (omega (arith, is.second_within, c.requires.terms)) c.index-as_slice-self-2.is) refl refl refl refl
    known c.advance.ensures.merged linked (λ worded. worded)

pub returns-in_err-advance-2-clause-merge : goal.returns-in_err-advance-2-clause-merge
returns-in_err-advance-2-clause-merge c =
    let m = c.args.self.now in
    let is = c.requires.merge in
    let places = c.args.places.now in
    let terms = c.args.terms.now in
    let links = c.args.links.now in
    let words = c.args.words.now in
    let known = subst (λ (l : TwoLists). AreKnown l c.extend.new.self) (sym c.with_table-numbers.ensures) c.extend.ensures.known in
    went_on places terms links words m (record { i = m.i; j = m.j; numbers = c.extend.new.self; terms = c.advance.new.self; links = c.advance-2.new.self; words = m.words }) c.with_table-numbers.result c.list-first.result.now c.list-second.result.now
    c.index-as_slice-self.result c.index-as_slice-self-2.result c.index-as_slice-self-3.result c.index-as_slice-self-4.result (terms_at words m.i) (terms_at words m.j) refl refl is
    (get_or_from_slice_get places m.i c.list-first.result.now [] c.list-first.ensures) (get_or_from_slice_get places m.j c.list-second.result.now [] c.list-second.ensures) c.with_table-numbers.ensures
    (read_at terms c.as_slice.result.now m.i c.index-as_slice-self.result [] c.as_slice.ensures (omega (arith, is.first_within, c.requires.terms)) c.index-as_slice-self.is)
    (read_at terms c.as_slice-2.result.now m.j c.index-as_slice-self-2.result [] c.as_slice-2.ensures (omega (arith, is.second_within, c.requires.terms)) c.index-as_slice-self-2.is)
    (read_at links c.as_slice-3.result.now m.i c.index-as_slice-self-3.result no_edges c.as_slice-3.ensures (omega (arith, is.first_within, c.requires.links)) c.index-as_slice-self-3.is)
    (read_at links c.as_slice-4.result.now m.j c.index-as_slice-self-4.result no_edges c.as_slice-4.ensures (omega (arith, is.second_within, c.requires.links)) c.index-as_slice-self-4.is) refl refl
    known c.advance.ensures.merged c.advance-2.ensures.merged (λ worded. worded)

pub advance-requires-2 : goal.advance-requires-2
advance-requires-2 c =
    let m = c.args.self.now in
    let is = c.requires.merge in
    let places = c.args.places.now in
    let links = c.args.links.now in
    merged_before places c.args.terms.now links c.args.words.now m c.with_table-numbers.result c.list-first.result.now c.list-second.result.now c.index-as_slice-self-3.result c.index-as_slice-self-4.result is
    (get_or_from_slice_get places m.i c.list-first.result.now [] c.list-first.ensures) (get_or_from_slice_get places m.j c.list-second.result.now [] c.list-second.ensures) c.with_table-numbers.ensures
    (read_at links c.as_slice-3.result.now m.i c.index-as_slice-self-3.result no_edges c.as_slice-3.ensures (omega (arith, is.first_within, c.requires.links)) c.index-as_slice-self-3.is)
    (read_at links c.as_slice-4.result.now m.j c.index-as_slice-self-4.result no_edges c.as_slice-4.ensures (omega (arith, is.second_within, c.requires.links)) c.index-as_slice-self-4.is)
