use Rattle.std.proofs.Common.{◌≡◌, ◌+◌, ◌++◌, ◌∷◌, [], ◌∙◌, List, length, take, drop, sym, ap, arith, length-append}
use Rattle.std.specs.Prelude.{Some, None}
use Rattle.std.specs.List.{AllZip}
use Rattle.history_model.specs.declared.stamped.StampedRow.{StampedRow}
use Rattle.history_model.specs.Lists.{union, AreLists}
use Rattle.segment.specs.declared.place.RowPlace.{RowPlace}
use Rattle.segment.specs.Standing.{places_of}
use Rattle.merge.specs.Merged.{rows_left, StandsTaken}
use Rattle.merge.proofs.Steps.{next_from, taken_a, taken_b, taken_so_many, taken_all, within_a, within_b, a_stays, b_stays, a_grows, b_grows}
use Rattle.merge.proofs.MergeProgress.take.Goals as goal
use Rattle.merge.proofs.MergeProgress.take.Goals.{then-from_b, else-from_b, else-loop-count-test, then-loop-count-test+in_default}

pub loop-count-preserved : goal.loop-count-preserved
loop-count-preserved c =
    let l = c.loop-count in
    let t = c.in-Some.next in
    let a = c.args.a.now in
    let b = c.args.b.now in
    let next = next_from l.a_place l.b_place a b (Some t) c.in-Some.ensures in
    let items : c.push.new.self.items ≡ l.taken.items ++ t ∷ [] = c.in_ok-push.ensures.items in
    let longer : length c.push.new.self.items ≡ length l.taken.items + 1 = ap length items ∙ length-append l.taken.items (t ∷ []) in
    elim c.if-from_b.branch [
      | then-from_b w ↦
          let side = w.if-from_b.true in
          let room = within_b a b l.a_place l.b_place t side next in
          record {
            a_within = omega arith;
            b_within = omega arith;
            count = omega arith;
            left = omega arith;
            a_front = rw (items, w.a_place-is) (ap (λ (p : List RowPlace). p ++ drop l.a_place a) (a_stays l.taken.items t side) ∙ l.invariant.a_front);
            b_front = rw (items, w.b_place-is) (b_grows a b l.a_place l.b_place l.taken.items t side next ∙ l.invariant.b_front);
            in_order = λ xs ys are is_a is_b. rw (items, w.a_place-is, w.b_place-is) (taken_b xs ys a b l.a_place l.b_place l.taken.items _ t are is_a is_b side next (l.invariant.in_order xs ys are is_a is_b));
          }
      | else-from_b w ↦
          let side = w.if-from_b.false in
          let room = within_a a b l.a_place l.b_place t side next in
          record {
            a_within = omega arith;
            b_within = omega arith;
            count = omega arith;
            left = omega arith;
            a_front = rw (items, w.a_place-is) (a_grows a b l.a_place l.b_place l.taken.items t side next ∙ l.invariant.a_front);
            b_front = rw (items, w.b_place-is) (ap (λ (p : List RowPlace). p ++ drop l.b_place b) (b_stays l.taken.items t side) ∙ l.invariant.b_front);
            in_order = λ xs ys are is_a is_b. rw (items, w.a_place-is, w.b_place-is) (taken_a xs ys a b l.a_place l.b_place l.taken.items _ t are is_a is_b side next (l.invariant.in_order xs ys are is_a is_b));
          }
    ]

at_end : (c : goal.After-after-1) (xs ys : List StampedRow) → AreLists (xs ∷ ys ∷ []) → c.args.a.now ≡ places_of xs → c.args.b.now ≡ places_of ys
    → AllZip (StandsTaken xs ys) c.loop-count.taken.items (take c.args.n (rows_left c.args.self xs ys)) × (union (drop c.loop-count.a_place xs) (drop c.loop-count.b_place ys) ≡ drop c.args.n (rows_left c.args.self xs ys))
at_end c xs ys are is_a is_b =
    let l = c.loop-count in
    let so_far = l.invariant.in_order xs ys are is_a is_b in
    elim c.loop-count-test.branch [
      | else-loop-count-test w ↦ taken_so_many xs ys l.taken.items _ _ c.args.n so_far (omega arith)
      | then-loop-count-test+in_default w ↦ taken_all xs ys c.args.a.now c.args.b.now l.a_place l.b_place c.args.n l.taken.items _ so_far is_a is_b (next_from l.a_place l.b_place c.args.a.now c.args.b.now None (sym w.in_default.is ∙ w.next_place.ensures)) (omega arith)
    ]

pub returns-clause-in_order : goal.returns-clause-in_order
returns-clause-in_order c xs ys are is_a is_b = (at_end c xs ys are is_a is_b).0

pub returns-clause-others : goal.returns-clause-others
returns-clause-others c xs ys are is_a is_b = (at_end c xs ys are is_a is_b).1
