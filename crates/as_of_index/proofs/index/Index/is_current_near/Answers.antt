use Rattle.std.proofs.Common.{Some, None, sym, ap, subst, ◌∙◌}
use Rattle.list_lemmas.proofs.Tests.{one_value}
use Rattle.rf2_values.specs.Key.{key_of}
use Rattle.segment.specs.Standing.{StandsAt}
use Rattle.as_of_index.proofs.OnePlace.{place_from_test, test_from_place, same_standing, no_answer}
use Rattle.as_of_index.proofs.Early.{current_is_early}
use Rattle.as_of_index.proofs.Standing.{are_lists, get_from_pick}
use Rattle.as_of_index.proofs.index.Index.is_current_near.Goals as goal

pub returns-in-Some : goal.returns-in-Some
returns-in-Some c = λ lists listed_so.
    let a = c.args in
    let are = rw listed_so at c.lists-listed.ensures.places in
    let w = get_from_pick a.at.now.key.kind a.at.now.key.id a.as_of.now lists (are_lists lists are) (Some (c.in-Some.n, c.in-Some.p)) (rw (c.as_slice.ensures.value, c.self.view_is, listed_so) at c.in-Some.ensures) in (
      λ h.
          let e = place_from_test c.in-Some.n c.in-Some.p a.segment a.at.now (sym c.is_same_place.ensures ∙ h) in
          (w.0, subst (λ n. StandsAt lists n a.at.now w.0) e.0 (subst (λ p. StandsAt lists c.in-Some.n p w.0) e.1 w.1), w.2),
      λ k.
          let e = same_standing lists are c.in-Some.n a.segment c.in-Some.p a.at.now w.0 k.0 w.1 k.1 (ap key_of (one_value _ w.0.row k.0.row w.2 k.2)) in
          c.is_same_place.ensures ∙ test_from_place c.in-Some.n c.in-Some.p a.segment a.at.now e.0 e.1,
    )

pub returns-in-None : goal.returns-in-None
returns-in-None c = λ lists listed_so.
    let are = rw listed_so at c.lists-listed.ensures.places in
    let w = get_from_pick c.args.at.now.key.kind c.args.at.now.key.id c.args.as_of.now lists (are_lists lists are) None (rw (c.as_slice.ensures.value, c.self.view_is, listed_so) at c.in-None.ensures) in
    (λ h. absurd (cc), λ k. absurd (no_answer _ k.0.row w k.2))

pub returns-then-not-is_early : goal.returns-then-not-is_early
returns-then-not-is_early c = λ lists listed_so.
    let a = c.args in
    let are = rw listed_so at c.lists-listed.ensures.places in (
      λ h. absurd (cc),
      λ k. absurd (
          let e = current_is_early lists are a.as_of.now a.segment a.at.now k in
          let t = c.is_early.ensures.1 e in
          let u = c.if-not-is_early.true in
          cc),
    )
