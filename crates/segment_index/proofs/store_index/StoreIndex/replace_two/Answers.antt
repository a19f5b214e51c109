use Rattle.std.proofs.Common.{◌<◌, ◌∙◌, length, ap, sym, subst, arith}
use Rattle.std.specs.Prelude.{slice_set, remove}
use Rattle.history_model.specs.Lists.{AreLists}
use Rattle.segment_index.specs.declared.words.Words.{Words}
use Rattle.segment_index.specs.Indexed.{SegmentRows, StoreRows, IsIndexed}
use Rattle.segment_index.proofs.Built.{with_words}
use Rattle.segment_index.proofs.AllLists.{terms_count, links_count, places_may_replace, one_for_two}
use Rattle.segment_index.proofs.store_index.StoreIndex.replace_two.Goals as goal

pub replace_two-requires-clause-lists : goal.replace_two-requires-clause-lists
replace_two-requires-clause-lists c =
    let fewer = subst (λ (x : StoreRows). AreLists (remove (slice_set x.lists c.args.i c.segment.inside.rows) c.args.j)) (sym c.self.view_is) (subst (λ (s : SegmentRows). AreLists (remove (slice_set c.args.self.now.lists c.args.i s.rows) c.args.j)) (sym c.segment.view_is) c.requires.lists) in
    places_may_replace c.self.inside.rows c.self.inside.places c.args.i c.args.j c.segment.inside.rows c.segment.inside.places c.self.invariant.0.places_are c.segment.invariant.places_are fewer

pub replace_two-requires-2-clause-within : goal.replace_two-requires-2-clause-within
replace_two-requires-2-clause-within c =
    let within = subst (λ (x : StoreRows). c.args.j < length x.lists) (sym c.self.view_is) c.requires.within in
    omega (arith, within, terms_count c.self.inside.rows c.self.inside.terms c.self.invariant.0.terms_are)

pub replace_two-requires-3-clause-within : goal.replace_two-requires-3-clause-within
replace_two-requires-3-clause-within c =
    let within = subst (λ (x : StoreRows). c.args.j < length x.lists) (sym c.self.view_is) c.requires.within in
    omega (arith, within, links_count c.self.inside.rows c.self.inside.links c.self.invariant.0.links_are)

pub replace_two-requires-4-clause-within : goal.replace_two-requires-4-clause-within
replace_two-requires-4-clause-within c =
    let within = subst (λ (x : StoreRows). c.args.j < length x.lists) (sym c.self.view_is) c.requires.within in
    omega (arith, within, c.self.invariant.0.words_are.many)

pub invariant_of-self : goal.invariant_of-self
invariant_of-self c =
    let x = c.self.inside in
    let y = c.segment.inside in
    let within = subst (λ (x : StoreRows). c.args.j < length x.lists) (sym c.self.view_is) c.requires.within in
    let same = ap (λ (s : SegmentRows). s.words) c.segment.view_is ∙ c.requires.words ∙ sym (ap (λ (s : StoreRows). s.words) c.self.view_is) in
    let indexed = subst (λ (w : Words). IsIndexed (with_words w y.rows) y.places y.terms y.links y.posted_words) same c.segment.invariant in (
      one_for_two x.words x.rows c.replace_two-5.new.self x.places c.replace_two.new.self x.terms c.replace_two-2.new.self x.links c.replace_two-3.new.self x.posted_words c.replace_two-4.new.self c.args.i c.args.j y.rows y.places y.terms y.links y.posted_words within
          c.self.invariant.0 indexed c.replace_two-5.ensures c.replace_two.ensures c.replace_two-2.ensures c.replace_two-3.ensures c.replace_two-4.ensures,
      tt,
    )
