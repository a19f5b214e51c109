use Rattle.std.proofs.Common.{◌≡◌, ℕ, ◌+◌, ◌<◌, ◌≤◌, ◌^◌, Some, None, refl, sym, ap, subst, ◌∙◌}
use Rattle.directory.specs.Places.{taken}
use Rattle.directory.specs.Fit.{fit}
use Rattle.directory.proofs.Fitting.{fit_is_least, no_fit_is_full}
use Rattle.directory.proofs.Jumps.{IsTried, ahead, ahead_falls, jumped, fit_found, fit_missing}
use Rattle.directory.proofs.fit.first_fit.Goals as goal

pub jumps-smaller : goal.jumps-smaller
jumps-smaller c =
    let P : ℕ → Type 0 = λ place. ahead place (taken c.args.live.now c.args.reserved) < ahead c.jumps.first (taken c.args.live.now c.args.reserved) in
    subst P (sym c.end-first.ensures.end) (ahead_falls c.jumps.first c.from-count.result (taken c.args.live.now c.args.reserved) c.in-Some.extent (sym c.extent_met.ensures ∙ c.in-Some.is))

pub jumps-preserved : goal.jumps-preserved
jumps-preserved c =
    let end_is = c.end-first.ensures.end in
    subst (IsTried c.from-count.result (taken c.args.live.now c.args.reserved)) (sym end_is)
    (jumped c.from-count.result (taken c.args.live.now c.args.reserved) c.jumps.first c.in-Some.extent c.jumps.invariant (sym c.extent_met.ensures ∙ c.in-Some.is)
    (let P : ℕ → Type 0 = λ place. place < 2 ^ 33 in subst P end_is c.end-first.ensures.fits))

found : (c : goal.Then-first-count) → fit c.args.blocks c.args.live.now c.args.reserved ≡ Some c.jumps.first
found c =
    ap (λ count. fit count c.args.live.now c.args.reserved) (sym c.from-count.ensures)
    ∙ fit_found c.from-count.result c.args.live.now c.args.reserved c.jumps.first c.jumps.invariant (sym c.extent_met.ensures ∙ c.in_default.is)
    (let P : ℕ → Type 0 = λ limit. c.jumps.first + c.from-count.result ≤ limit in subst P c.from.ensures c.if-first-count.true)

missing : (c : goal.Else-first-count) → fit c.args.blocks c.args.live.now c.args.reserved ≡ None
missing c =
    ap (λ count. fit count c.args.live.now c.args.reserved) (sym c.from-count.ensures)
    ∙ fit_missing c.from-count.result c.args.live.now c.args.reserved c.jumps.first c.jumps.invariant
    (let P : ℕ → Type 0 = λ limit. limit < c.jumps.first + c.from-count.result in subst P c.from.ensures c.if-first-count.false)

pub returns-then-first-count-clause-fit : goal.returns-then-first-count-clause-fit
returns-then-first-count-clause-fit c = found c

pub returns-then-first-count-clause-least : goal.returns-then-first-count-clause-least
returns-then-first-count-clause-least c = (fit_is_least c.args.blocks c.args.live.now c.args.reserved c.jumps.first).0 (found c)

pub returns-then-first-count-clause-full : goal.returns-then-first-count-clause-full
returns-then-first-count-clause-full c =
    ((λ wrong. absurd (cc)), (λ full. absurd (full c.jumps.first ((fit_is_least c.args.blocks c.args.live.now c.args.reserved c.jumps.first).0 (found c)).free)))

pub returns-else-first-count-clause-fit : goal.returns-else-first-count-clause-fit
returns-else-first-count-clause-fit c = missing c

pub returns-else-first-count-clause-full : goal.returns-else-first-count-clause-full
returns-else-first-count-clause-full c = ((λ _. (no_fit_is_full c.args.blocks c.args.live.now c.args.reserved).0 (missing c)), (λ _. refl))
