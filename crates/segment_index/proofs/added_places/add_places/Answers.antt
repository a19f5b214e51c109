use Rattle.std.proofs.Common.{◌≡◌, ◌+◌, ◌++◌, ◌∷◌, [], ◌∙◌, List, take, ap, sym, arith, append_assoc}
use Rattle.std.specs.List.{sum_by}
use Rattle.list_lemmas.proofs.Parts.{take_one_more}
use Rattle.segment.specs.declared.place.RowPlace.{RowPlace}
use Rattle.merge.specs.declared.Taken.{Taken}
use Rattle.segment_index.specs.Private.{moved_from}
use Rattle.segment_index.proofs.Moving.{moved_push, bytes_push}
use Rattle.segment_index.proofs.added_places.add_places.Goals as goal

pub loop-t-preserved : goal.loop-t-preserved
loop-t-preserved c =
    let l = c.loop-t in
    let t = c.t-item.result in
    let so_far = take l.t-index c.args.taken.now in
    let more : take (l.t-index + 1) c.args.taken.now ≡ so_far ++ t ∷ [] = take_one_more c.args.taken.now l.t-index t c.loop-t-test.true c.t-item.is in
    record {
      places = c.in_default.ensures.ok ∙ ap (λ (p : List RowPlace). p ++ (record t.place { at = l.at }) ∷ []) l.invariant.places
          ∙ append_assoc c.args.places.now (moved_from c.args.from so_far) ((record t.place { at = l.at }) ∷ [])
          ∙ ap (λ (p : List RowPlace). c.args.places.now ++ p) (ap (λ n. moved_from c.args.from so_far ++ (record t.place { at = n }) ∷ []) l.invariant.at ∙ sym (moved_push c.args.from so_far t) ∙ ap (moved_from c.args.from) (sym more));
      at = omega (arith, l.invariant.at, bytes_push so_far t, ap (sum_by (λ (u : Taken). u.place.bytes)) more);
      before = l.invariant.before;
    }
