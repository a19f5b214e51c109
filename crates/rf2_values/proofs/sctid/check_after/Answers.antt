use Rattle.std.proofs.Common.{sym, ap, ◌∙◌, arith, ◌≡◌, ℕ, ◌%◌, ◌*◌}
use Rattle.rf2_values.specs.Sctid.{check_from, entry}
use Rattle.rf2_values.proofs.Digits.{from_right, product_below}
use Rattle.rf2_values.proofs.Pairs.{pairs, pair_step, pair_below, last_step}
use Rattle.rf2_values.proofs.sctid.check_after.Goals as goal

pub loop-rest-preserved : goal.loop-rest-preserved
loop-rest-preserved c = record {
  checked = sym (pair_step c.loop-rest.pair c.loop-rest.check c.loop-rest.rest c.loop-rest.invariant.small (omega arith)) ∙ c.loop-rest.invariant.checked;
  small = product_below c.loop-rest.check (entry pairs (c.loop-rest.pair % 4) (c.loop-rest.rest % 100));
  pairs = omega arith;
}

pub bounds-turned : goal.bounds-turned
bounds-turned c = pair_below (c.loop-rest.pair % 4) (c.loop-rest.rest % 100) (omega arith) (omega arith)

pub returns-then-rest-eq0 : goal.returns-then-rest-eq0
unfolding check_from
returns-then-rest-eq0 c =
    let over : c.loop-rest.rest ≡ 0 = omega arith in
    ap (λ (n : ℕ). check_from (2 * c.loop-rest.pair) c.loop-rest.check (from_right n)) (sym over) ∙ c.loop-rest.invariant.checked

pub returns : goal.returns
returns c = sym (last_step c.loop-rest.pair c.loop-rest.check c.loop-rest.rest (omega arith) (omega arith)) ∙ c.loop-rest.invariant.checked
