use Rattle.std.proofs.Common.{◌≡◌, ◌+◌, ◌-◌, [], ◌∷◌, List, ℕ, length, take, drop, eqb, sym, ap, ◌∙◌, arith}
use Rattle.std.specs.Borrow.{Bor}
use Rattle.std.specs.List.{slice_split}
use Rattle.std.proofs.lemmas.List.{append-nil, length-drop, take_all}
use Rattle.rf2_rows.specs.Line.{columns_of}
use Rattle.rf2_rows.proofs.Moves.{taken_more}
use Rattle.rf2_rows.proofs.Splits.{Nowhere, Nowhere-more, part_ends, part_last}
use Rattle.rf2_rows.proofs.columns.put_columns.Goals as goal
use Rattle.rf2_rows.proofs.columns.put_columns.Goals.{then-byte-eq9+in_ok-push, else-byte-eq9}

pub loop-at-preserved : goal.loop-at-preserved
loop-at-preserved c =
    let text = c.args.text.now in
    let begin = c.loop-at.begin in
    let at = c.loop-at.at in
    let inv = c.loop-at.invariant in
    elim c.if-byte-eq9.branch [
      | then-byte-eq9+in_ok-push w ↦ rw (w.begin-is, ap (λ v. v.items) w.columns-is ∙ w.in_ok-push.ensures.items) (record {
        within = omega arith;
        none = λ k from to inside. absurd (omega (arith, from, to));
        parts = taken_more (λ (x : Bor (List ℕ)). x.now) c.loop-at.columns.items _ (slice_split (λ b. eqb b 9) (drop begin text)) (slice_split (λ b. eqb b 9) (drop (at + 1) text)) (columns_of text)
            (part_ends 9 text begin at inv.within c.loop-at-test.true inv.none w.if-byte-eq9.true) inv.parts;
      })
      | else-byte-eq9 w ↦ rw (w.begin-is, ap (λ v. v.items) w.columns-is) (record {
        within = omega (arith, inv.within);
        none = Nowhere-more 9 text begin at inv.none (λ _. w.if-byte-eq9.false);
        parts = inv.parts;
      })
    ]

pub returns : goal.returns
returns c =
    let text = c.args.text.now in
    let begin = c.loop-at.begin in
    let inv = c.loop-at.invariant in
    let ended = c.loop-at-test.false in
    let whole : take (length text - begin) (drop begin text) ≡ drop begin text = take_all (length text - begin) (drop begin text) (omega (arith, length-drop begin text)) in
    let none : Nowhere 9 text begin (length text) = λ k from to inside. inv.none k from (omega (arith, to, ended)) inside in
    rw c.in_ok-push-2.ensures.items
    (sym (append-nil _) ∙ taken_more (λ (x : Bor (List ℕ)). x.now) c.loop-at.columns.items _ (slice_split (λ b. eqb b 9) (drop begin text)) [] (columns_of text) (part_last 9 text begin none ∙ ap (λ t. t ∷ []) (sym whole)) inv.parts)
