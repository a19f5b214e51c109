use Rattle.std.proofs.Common.{◌≡◌, ◌∙◌, List, sym, subst}
use Rattle.history_model.specs.declared.stamped.StampedRow.{StampedRow}
use Rattle.history_model.specs.Lists.{union}
use Rattle.history_model.proofs.Listings.{IsAscending-union}
use Rattle.segment.specs.declared.place.RowPlace.{RowPlace}
use Rattle.as_of_index.specs.Places.{place_cmp}
use Rattle.history_model.specs.InOrder.{IsAscending}
use Rattle.segment_index.specs.Output.{OutputRows, left_count}
use Rattle.segment_index.specs.Indexed.{IsIndexed}
use Rattle.segment_index.proofs.Built.{with_words, ascending_places}
use Rattle.segment_index.proofs.Outputs.{all_taken, posted_index, if_some}
use Rattle.segment_index.proofs.index_merge.IndexMerge.seal.Goals as goal

pub seal-requires : goal.seal-requires
seal-requires c =
    let m = c.self.inside in
    let none = subst (λ (r : OutputRows). left_count r ≡ 0) (sym c.self.view_is) c.requires in
    subst (λ (p : List RowPlace). IsAscending place_cmp p) (sym (all_taken m.words m.a m.b m.at m.places m.postings c.self.invariant none)) (ascending_places (union m.a m.b) (IsAscending-union m.a m.b))

pub invariant_of-result : goal.invariant_of-result
invariant_of-result c =
    let m = c.self.inside in
    let none = subst (λ (r : OutputRows). left_count r ≡ 0) (sym c.self.view_is) c.requires in
    let places = c.seal.ensures ∙ all_taken m.words m.a m.b m.at m.places m.postings c.self.invariant none in
    subst (λ (rows : List StampedRow). IsIndexed (with_words m.words rows) c.seal.result c.in-Some.field-0.terms c.in-Some.field-0.links c.in-Some.field-0.words) (sym c.union.ensures)
    (posted_index m.words (union m.a m.b) c.seal.result c.in-Some.field-0 places (if_some m.words (union m.a m.b) m.postings c.in-Some.field-0 c.in-Some.is c.self.invariant.posted))
