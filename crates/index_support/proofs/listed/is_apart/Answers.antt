use Rattle.std.proofs.Common.{List, take, sym, subst, ◌∙◌}
use Rattle.std.specs.List.{AllByRecursion}
use Rattle.std.proofs.lemmas.Option.{get_or_from_slice_get, slice_get_within}
use Rattle.list_lemmas.proofs.Each.{each_of_pushed}
use Rattle.list_lemmas.proofs.Parts.{take_one_more}
use Rattle.segment.specs.declared.place.RowPlace.{RowPlace}
use Rattle.history_model.proofs.InOrder.{Has-all}
use Rattle.as_of_index.specs.Private.Search.{ShareNoKey}
use Rattle.as_of_index.proofs.Keyed.{has_got}
use Rattle.index_support.proofs.listed.is_apart.Goals as goal

pub loop-i-preserved : goal.loop-i-preserved
loop-i-preserved c =
    let index = c.args.index.now in
    let i = c.loop-i.i in
    let own = c.list.result.now in
    subst (λ (ls : List (List RowPlace)). AllByRecursion (λ places. ShareNoKey places c.args.list.now) ls) (sym (take_one_more index i own (slice_get_within index i own c.list.ensures) (sym (get_or_from_slice_get index i own own c.list.ensures))))
    (each_of_pushed (λ (places : List RowPlace). ShareNoKey places c.args.list.now) (take i index) own c.loop-i.invariant
    (rw c.places-places.ensures.places at (c.share_no_key.ensures.0 c.if-not-share_no_key.false)))

pub returns-then-not-share_no_key-clause-apart : goal.returns-then-not-share_no_key-clause-apart
returns-then-not-share_no_key-clause-apart c =
    let index = c.args.index.now in
    let own = c.list.result.now in (
      λ h. absurd (cc),
      λ each. absurd (
          let apart = Has-all (λ (places : List RowPlace). ShareNoKey places c.args.list.now) index own each (has_got index c.loop-i.i own (sym c.list.ensures)) in
          let t = c.share_no_key.ensures.1 (rw c.places-places.ensures.places apart) in
          let both = sym t ∙ c.if-not-share_no_key.true in
          cc),
    )
