use Rattle.std.proofs.Common.{◌≡◌, ◌≤◌, List, [], ◌∷◌, ◌++◌, length, sym, ap, subst, ◌∙◌, arith, append_assoc, length-append}
use Rattle.std.proofs.lemmas.List.{length-map}
use Rattle.std.specs.List.{AllByRecursion}
use Rattle.std.specs.Vec.Iter.{into_iter_items}
use Rattle.history_model.specs.declared.stamped.StampedRow.{StampedRow}
use Rattle.history_model.specs.Lists.{AreLists}
use Rattle.segment_index.specs.Indexed.{SegmentRows, StoreRows, rows_of_all}
use Rattle.segment_index.proofs.AllLists.{lists_before}
use Rattle.segment_index.proofs.store_index.StoreIndex.of_segments.Goals as goal

pub add-requires-clause-room : goal.add-requires-clause-room
add-requires-clause-room c =
    let rest = rows_of_all (into_iter_items c.next.new.self) in
    let split = c.loop-segment.invariant.split ∙ ap (λ l. c.loop-segment.index.lists ++ rows_of_all l) c.in-Some.ensures.steps.0 in
    let long = ap length split in
    let many = length-map c.args.segments.items (λ (s : SegmentRows). s.rows) in
    let all = length-append c.loop-segment.index.lists (c.in-Some.segment.rows ∷ rest) in
    omega (arith, c.requires.few, long, many, all)

pub add-requires-clause-lists : goal.add-requires-clause-lists
add-requires-clause-lists c =
    let rest = rows_of_all (into_iter_items c.next.new.self) in
    let split = c.loop-segment.invariant.split ∙ ap (λ l. c.loop-segment.index.lists ++ rows_of_all l) c.in-Some.ensures.steps.0 ∙ sym (append_assoc c.loop-segment.index.lists (c.in-Some.segment.rows ∷ []) rest) in
    lists_before (c.loop-segment.index.lists ++ c.in-Some.segment.rows ∷ []) rest (subst AreLists split c.requires.lists)

pub add-requires-clause-words : goal.add-requires-clause-words
add-requires-clause-words c =
    let others = subst (λ (l : List SegmentRows). AllByRecursion (λ s. s.words ≡ c.args.words) l) c.in-Some.ensures.steps.0 c.loop-segment.invariant.others in
    others.0 ∙ sym c.loop-segment.invariant.kept

pub loop-segment-preserved : goal.loop-segment-preserved
loop-segment-preserved c =
    let rest = rows_of_all (into_iter_items c.next.new.self) in
    let others = subst (λ (l : List SegmentRows). AllByRecursion (λ s. s.words ≡ c.args.words) l) c.in-Some.ensures.steps.0 c.loop-segment.invariant.others in
    let split = c.loop-segment.invariant.split ∙ ap (λ l. c.loop-segment.index.lists ++ rows_of_all l) c.in-Some.ensures.steps.0 ∙ sym (append_assoc c.loop-segment.index.lists (c.in-Some.segment.rows ∷ []) rest) in
    record {
      can = tt;
      finite = tt;
      split = split ∙ ap (λ (x : StoreRows). x.lists ++ rest) (sym c.add.ensures);
      kept = ap (λ (x : StoreRows). x.words) c.add.ensures ∙ c.loop-segment.invariant.kept;
      others = others.1;
    }
