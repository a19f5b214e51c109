use Rattle.std.proofs.Common.{◌<◌, ◌++◌, ◌∷◌, [], ◌∙◌, length, ap, sym, subst, arith}
use Rattle.history_model.specs.Lists.{AreLists}
use Rattle.as_of_index.specs.Places.{max_lists}
use Rattle.segment_index.specs.declared.words.Words.{Words}
use Rattle.segment_index.specs.Indexed.{SegmentRows, StoreRows, IsIndexed}
use Rattle.segment_index.proofs.Built.{with_words}
use Rattle.segment_index.proofs.AllLists.{terms_count, links_count, places_count, places_may_be_added, one_more}
use Rattle.segment_index.proofs.UnderWay.{still_under_way, under_way_is}
use Rattle.segment_index.proofs.store_index.StoreIndex.add.Goals as goal

pub add-requires-clause-places : goal.add-requires-clause-places
add-requires-clause-places c =
    let more = subst (λ (x : StoreRows). AreLists (x.lists ++ c.segment.inside.rows ∷ [])) (sym c.self.view_is) (subst (λ (s : SegmentRows). AreLists (c.args.self.now.lists ++ s.rows ∷ [])) (sym c.segment.view_is) c.requires.lists) in
    places_may_be_added c.self.inside.rows c.self.inside.places c.segment.inside.rows c.segment.inside.places c.self.invariant.0.places_are c.segment.invariant.places_are more

pub add-requires-2 : goal.add-requires-2
add-requires-2 c =
    let room = subst (λ (x : StoreRows). length x.lists < max_lists) (sym c.self.view_is) c.requires.room in
    omega (arith, room, terms_count c.self.inside.rows c.self.inside.terms c.self.invariant.0.terms_are)

pub add-requires-3 : goal.add-requires-3
add-requires-3 c =
    let room = subst (λ (x : StoreRows). length x.lists < max_lists) (sym c.self.view_is) c.requires.room in
    omega (arith, room, links_count c.self.inside.rows c.self.inside.links c.self.invariant.0.links_are)

pub add-requires-4 : goal.add-requires-4
add-requires-4 c =
    let room = subst (λ (x : StoreRows). length x.lists < max_lists) (sym c.self.view_is) c.requires.room in
    omega (arith, room, c.self.invariant.0.words_are.many)

pub invariant_of-self : goal.invariant_of-self
invariant_of-self c =
    let x = c.self.inside in
    let y = c.segment.inside in
    let same = ap (λ (s : SegmentRows). s.words) c.segment.view_is ∙ c.requires.words ∙ sym (ap (λ (s : StoreRows). s.words) c.self.view_is) in
    let indexed = subst (λ (w : Words). IsIndexed (with_words w y.rows) y.places y.terms y.links y.posted_words) same c.segment.invariant in
    let count = places_count x.rows x.places c.self.invariant.0.places_are in
    let under = still_under_way x.places x.terms x.links x.posted_words y.places y.terms y.links y.posted_words (omega (arith, count, terms_count x.rows x.terms c.self.invariant.0.terms_are)) (omega (arith, count, links_count x.rows x.links c.self.invariant.0.links_are))
    (omega (arith, count, c.self.invariant.0.words_are.many)) x.merging c.self.invariant.1 in (
      one_more x.words x.rows c.add-5.new.self x.places c.add.new.self x.terms c.add-2.new.self x.links c.add-3.new.self x.posted_words c.add-4.new.self y.rows y.places y.terms y.links y.posted_words c.self.invariant.0 indexed
          c.add-5.ensures c.add.ensures c.add-2.ensures c.add-3.ensures c.add-4.ensures,
      under_way_is (x.places ++ y.places ∷ []) c.add.new.self (x.terms ++ y.terms ∷ []) c.add-2.new.self (x.links ++ y.links ∷ []) c.add-3.new.self (x.posted_words ++ y.posted_words ∷ []) c.add-4.new.self x.merging c.add.ensures c.add-2.ensures c.add-3.ensures c.add-4.ensures under,
    )
