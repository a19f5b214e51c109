use Rattle.std.proofs.Common.{◌≡◌, get_or, true, false, Bool, refl, sym, ap, ◌∙◌}
use Rattle.std.specs.Prelude.{nat_eq, not}
use Rattle.std.specs.HashSet.{contains}
use Rattle.std.proofs.lemmas.List.{take_more}
use Rattle.history_model.specs.InOrder.{Has}
use Rattle.history_model.proofs.Searched.{adds_nothing, adds_one, adds_known}
use Rattle.links.proofs.Seen.{seen_more, seen_same}
use Rattle.links.proofs.reaching.add_new.Goals as goal
use Rattle.links.proofs.reaching.add_new.Goals.{then-branch+in_ok-push, else-branch}

pub loop-id-init : goal.loop-id-init
loop-id-init c = record { adds = adds_nothing c.args.found.now.items; seen = c.requires }

not_true : (b : Bool) → not b ≡ false → b ≡ true
not_true true e = refl
not_true false e = absurd (cc)

not_false : (b : Bool) → not b ≡ true → b ≡ false
not_false true e = absurd (cc)
not_false false e = refl

pub loop-id-preserved : goal.loop-id-preserved
loop-id-preserved c =
    let a = c.args in
    let before = c.loop-id.found.items in
    let id = get_or a.ids.now c.loop-id.id-index 0 in
    let old = c.loop-id.seen in
    let new = c.insert.new.self in
    let s = c.loop-id.invariant in
    let put = c.in_ok-insert.ensures.updates in
    rw (take_more a.ids.now c.loop-id.id-index 0 c.loop-id-test.true) (elim c.if-branch.branch [
      | then-branch+in_ok-push w ↦
          let unknown : contains nat_eq old id ≡ false = not_false (contains nat_eq old id) (sym c.in_ok-insert.ensures.added ∙ w.if-branch.true) in
          rw (ap (λ v. v.items) w.found-is ∙ w.in_ok-push.ensures.items) (record {
            adds = adds_one _ _ before id s.adds;
            seen = seen_more old new before id s.seen unknown put.1 put.2;
          })
      | else-branch w ↦
          let known : contains nat_eq old id ≡ true = not_true (contains nat_eq old id) (sym c.in_ok-insert.ensures.added ∙ w.if-branch.false) in
          let there : Has before id = s.seen.listed id known in
          rw (ap (λ v. v.items) w.found-is) (record {
            adds = adds_known _ _ before id s.adds there;
            seen = seen_same old new before id s.seen there put.1 put.2;
          })
    ])
