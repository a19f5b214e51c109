use Rattle.std.proofs.Common.{◌≡◌, ◌+◌, ℕ, List, [], length, sym, ap, subst, ◌∙◌, take, take_all}
use Rattle.std.proofs.lemmas.List.{length-replicate}
use Rattle.term_words.specs.Private.{all_in, AreMarked}
use Rattle.term_words.proofs.Marks.{ones, marked_first, marked_next}
use Rattle.term_words.proofs.marking.marked.Goals as goal

pub loop-number-init : goal.loop-number-init
loop-number-init c =
    let split = c.args.split.now in
    let count = length split.sizes.rows.now in
    let all : c.in_ok-marks.marks.items ≡ ones count = c.in_ok-marks.ensures.items_if_clones_equal (λ y h. h) in
    let others : c.in_ok-next.next.items ≡ ones count = c.in_ok-next.ensures.items_if_clones_equal (λ y h. h) in
    (subst (λ ms. AreMarked (all_in split.words) [] count ms) (sym all) (marked_first (all_in split.words) count), ap (λ (xs : List ℕ). length xs) others ∙ length-replicate {A = ℕ} count 1)

pub narrow-requires-clause-many : goal.narrow-requires-clause-many
narrow-requires-clause-many c = rw c.as_slice.ensures.value (c.loop-number.invariant.1 ∙ sym c.loop-number.invariant.0.many)

pub loop-number-preserved : goal.loop-number-preserved
loop-number-preserved c =
    let split = c.args.split.now in
    let count = length split.sizes.rows.now in
    let next = marked_next (all_in split.words) c.args.wanted.now _ c.loop-number.number count c.loop-number.marks.items c.narrow.new.marks.items c.at.ensures c.loop-number.invariant.0 (rw c.as_slice.ensures.value at c.narrow.ensures) in (
      subst (λ (v : List ℕ). AreMarked (all_in split.words) (take (c.loop-number.number + 1) c.args.wanted.now) count v) (sym (ap (λ v. v.items) c.swap.ensures.x_after)) next,
      ap (λ v. length v.items) c.swap.ensures.y_after ∙ c.loop-number.invariant.0.many,
    )

pub returns : goal.returns
returns c =
    let split = c.args.split.now in
    subst (λ ps. AreMarked (all_in split.words) ps (length split.sizes.rows.now) c.loop-number.marks.items) (take_all c.loop-number.number c.args.wanted.now (rw c.len-number-end.ensures at c.loop-number-test.false)) c.loop-number.invariant.0
