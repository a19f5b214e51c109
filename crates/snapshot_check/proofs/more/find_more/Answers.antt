use Rattle.std.proofs.lemmas.Result.{err_from_is_err_and}
use Rattle.rf2_values.specs.declared.row.Kind.TheVariants as kinds
use Rattle.snapshot_check.proofs.Taking.{adds_at, all_kinds, failed_after}
use Rattle.snapshot_check.proofs.more.find_more.Goals as goal

pub returns-clause-more : goal.returns-clause-more
returns-clause-more g c = λ rows sorted.
    let first = c.args.shown.now in
    let reads = g.S.Shown.reads first in
    let at = g.S.Shown.at_date first in
    let s0 = g.met.S.Shown.stays_still first in
    let a1 = adds_at (g.S.Shown.reads first) reads (λ read wanted may. g.met.S.Shown.steady first first s0 read wanted may) rows kinds.Concept (g.S.Shown.at_date first) at c.args.limit c.new-more.result c.add_kind.new.more (g.met.S.Shown.same first first s0) (c.in_ok-add_kind.ensures.adds rows sorted) in
    let s1 = g.met.S.Shown.stays_on first first c.add_kind.new.shown s0 c.in_ok-add_kind.ensures.stays in
    let a2 = adds_at (g.S.Shown.reads c.add_kind.new.shown) reads (λ read wanted may. g.met.S.Shown.steady first c.add_kind.new.shown s1 read wanted may) rows kinds.Description (g.S.Shown.at_date c.add_kind.new.shown) at c.args.limit c.add_kind.new.more c.add_kind-2.new.more (g.met.S.Shown.same first c.add_kind.new.shown s1) (c.in_ok-add_kind-2.ensures.adds rows sorted) in
    let s2 = g.met.S.Shown.stays_on first c.add_kind.new.shown c.add_kind-2.new.shown s1 c.in_ok-add_kind-2.ensures.stays in
    let a3 = adds_at (g.S.Shown.reads c.add_kind-2.new.shown) reads (λ read wanted may. g.met.S.Shown.steady first c.add_kind-2.new.shown s2 read wanted may) rows kinds.Relationship (g.S.Shown.at_date c.add_kind-2.new.shown) at c.args.limit c.add_kind-2.new.more c.add_kind-3.new.more (g.met.S.Shown.same first c.add_kind-2.new.shown s2) (c.in_ok-add_kind-3.ensures.adds rows sorted) in
    let s3 = g.met.S.Shown.stays_on first c.add_kind-2.new.shown c.add_kind-3.new.shown s2 c.in_ok-add_kind-3.ensures.stays in
    let a4 = adds_at (g.S.Shown.reads c.add_kind-3.new.shown) reads (λ read wanted may. g.met.S.Shown.steady first c.add_kind-3.new.shown s3 read wanted may) rows kinds.Association (g.S.Shown.at_date c.add_kind-3.new.shown) at c.args.limit c.add_kind-3.new.more c.add_kind-4.new.more (g.met.S.Shown.same first c.add_kind-3.new.shown s3) (c.in_ok-add_kind-4.ensures.adds rows sorted) in
    let s4 = g.met.S.Shown.stays_on first c.add_kind-3.new.shown c.add_kind-4.new.shown s3 c.in_ok-add_kind-4.ensures.stays in
    let a5 = adds_at (g.S.Shown.reads c.add_kind-4.new.shown) reads (λ read wanted may. g.met.S.Shown.steady first c.add_kind-4.new.shown s4 read wanted may) rows kinds.Concrete (g.S.Shown.at_date c.add_kind-4.new.shown) at c.args.limit c.add_kind-4.new.more c.add_kind-5.new.more (g.met.S.Shown.same first c.add_kind-4.new.shown s4) (c.in_ok-add_kind-5.ensures.adds rows sorted) in
    let s5 = g.met.S.Shown.stays_on first c.add_kind-4.new.shown c.add_kind-5.new.shown s4 c.in_ok-add_kind-5.ensures.stays in
    let a6 = adds_at (g.S.Shown.reads c.add_kind-5.new.shown) reads (λ read wanted may. g.met.S.Shown.steady first c.add_kind-5.new.shown s5 read wanted may) rows kinds.Member (g.S.Shown.at_date c.add_kind-5.new.shown) at c.args.limit c.add_kind-5.new.more c.add_kind-6.new.more (g.met.S.Shown.same first c.add_kind-5.new.shown s5) (c.in_ok-add_kind-6.ensures.adds rows sorted) in
    let s6 = g.met.S.Shown.stays_on first c.add_kind-5.new.shown c.add_kind-6.new.shown s5 c.in_ok-add_kind-6.ensures.stays in
    all_kinds reads rows at c.args.limit c.new-more.result c.add_kind.new.more c.add_kind-2.new.more c.add_kind-3.new.more c.add_kind-4.new.more c.add_kind-5.new.more c.add_kind-6.new.more c.new-more.ensures a1 a2 a3 a4 a5 a6

pub returns-clause-stays : goal.returns-clause-stays
returns-clause-stays g c =
    let first = c.args.shown.now in
    let s0 = g.met.S.Shown.stays_still first in
    let s1 = g.met.S.Shown.stays_on first first c.add_kind.new.shown s0 c.in_ok-add_kind.ensures.stays in
    let s2 = g.met.S.Shown.stays_on first c.add_kind.new.shown c.add_kind-2.new.shown s1 c.in_ok-add_kind-2.ensures.stays in
    let s3 = g.met.S.Shown.stays_on first c.add_kind-2.new.shown c.add_kind-3.new.shown s2 c.in_ok-add_kind-3.ensures.stays in
    let s4 = g.met.S.Shown.stays_on first c.add_kind-3.new.shown c.add_kind-4.new.shown s3 c.in_ok-add_kind-4.ensures.stays in
    let s5 = g.met.S.Shown.stays_on first c.add_kind-4.new.shown c.add_kind-5.new.shown s4 c.in_ok-add_kind-5.ensures.stays in
    let s6 = g.met.S.Shown.stays_on first c.add_kind-5.new.shown c.add_kind-6.new.shown s5 c.in_ok-add_kind-6.ensures.stays in
    s6

pub returns-in_err-add_kind-clause-fails : goal.returns-in_err-add_kind-clause-fails
returns-in_err-add_kind-clause-fails g c =
    let first = c.args.shown.now in
    let s0 = g.met.S.Shown.stays_still first in
    let p = err_from_is_err_and c.from_residual.result c.from_residual.ensures.1 in
    rw (p.1, p.2) (failed_after _ _ _ _ _ _
    (λ s. g.met.S.Shown.stays_on first first c.add_kind.new.shown s0 s)
    (λ e f. g.met.S.Shown.fails_on e first first c.add_kind.new.shown s0 f)
    c.in_err-add_kind.ensures.fails)

pub returns-in_err-add_kind-2-clause-fails : goal.returns-in_err-add_kind-2-clause-fails
returns-in_err-add_kind-2-clause-fails g c =
    let first = c.args.shown.now in
    let s0 = g.met.S.Shown.stays_still first in
    let s1 = g.met.S.Shown.stays_on first first c.add_kind.new.shown s0 c.in_ok-add_kind.ensures.stays in
    let p = err_from_is_err_and c.from_residual-in_err-add_kind-2.result c.from_residual-in_err-add_kind-2.ensures.1 in
    rw (p.1, p.2) (failed_after _ _ _ _ _ _
    (λ s. g.met.S.Shown.stays_on first c.add_kind.new.shown c.add_kind-2.new.shown s1 s)
    (λ e f. g.met.S.Shown.fails_on e first c.add_kind.new.shown c.add_kind-2.new.shown s1 f)
    c.in_err-add_kind-2.ensures.fails)

pub returns-in_err-add_kind-3-clause-fails : goal.returns-in_err-add_kind-3-clause-fails
returns-in_err-add_kind-3-clause-fails g c =
    let first = c.args.shown.now in
    let s0 = g.met.S.Shown.stays_still first in
    let s1 = g.met.S.Shown.stays_on first first c.add_kind.new.shown s0 c.in_ok-add_kind.ensures.stays in
    let s2 = g.met.S.Shown.stays_on first c.add_kind.new.shown c.add_kind-2.new.shown s1 c.in_ok-add_kind-2.ensures.stays in
    let p = err_from_is_err_and c.from_residual-in_err-add_kind-3.result c.from_residual-in_err-add_kind-3.ensures.1 in
    rw (p.1, p.2) (failed_after _ _ _ _ _ _
    (λ s. g.met.S.Shown.stays_on first c.add_kind-2.new.shown c.add_kind-3.new.shown s2 s)
    (λ e f. g.met.S.Shown.fails_on e first c.add_kind-2.new.shown c.add_kind-3.new.shown s2 f)
    c.in_err-add_kind-3.ensures.fails)

pub returns-in_err-add_kind-4-clause-fails : goal.returns-in_err-add_kind-4-clause-fails
returns-in_err-add_kind-4-clause-fails g c =
    let first = c.args.shown.now in
    let s0 = g.met.S.Shown.stays_still first in
    let s1 = g.met.S.Shown.stays_on first first c.add_kind.new.shown s0 c.in_ok-add_kind.ensures.stays in
    let s2 = g.met.S.Shown.stays_on first c.add_kind.new.shown c.add_kind-2.new.shown s1 c.in_ok-add_kind-2.ensures.stays in
    let s3 = g.met.S.Shown.stays_on first c.add_kind-2.new.shown c.add_kind-3.new.shown s2 c.in_ok-add_kind-3.ensures.stays in
    let p = err_from_is_err_and c.from_residual-in_err-add_kind-4.result c.from_residual-in_err-add_kind-4.ensures.1 in
    rw (p.1, p.2) (failed_after _ _ _ _ _ _
    (λ s. g.met.S.Shown.stays_on first c.add_kind-3.new.shown c.add_kind-4.new.shown s3 s)
    (λ e f. g.met.S.Shown.fails_on e first c.add_kind-3.new.shown c.add_kind-4.new.shown s3 f)
    c.in_err-add_kind-4.ensures.fails)

pub returns-in_err-add_kind-5-clause-fails : goal.returns-in_err-add_kind-5-clause-fails
returns-in_err-add_kind-5-clause-fails g c =
    let first = c.args.shown.now in
    let s0 = g.met.S.Shown.stays_still first in
    let s1 = g.met.S.Shown.stays_on first first c.add_kind.new.shown s0 c.in_ok-add_kind.ensures.stays in
    let s2 = g.met.S.Shown.stays_on first c.add_kind.new.shown c.add_kind-2.new.shown s1 c.in_ok-add_kind-2.ensures.stays in
    let s3 = g.met.S.Shown.stays_on first c.add_kind-2.new.shown c.add_kind-3.new.shown s2 c.in_ok-add_kind-3.ensures.stays in
    let s4 = g.met.S.Shown.stays_on first c.add_kind-3.new.shown c.add_kind-4.new.shown s3 c.in_ok-add_kind-4.ensures.stays in
    let p = err_from_is_err_and c.from_residual-in_err-add_kind-5.result c.from_residual-in_err-add_kind-5.ensures.1 in
    rw (p.1, p.2) (failed_after _ _ _ _ _ _
    (λ s. g.met.S.Shown.stays_on first c.add_kind-4.new.shown c.add_kind-5.new.shown s4 s)
    (λ e f. g.met.S.Shown.fails_on e first c.add_kind-4.new.shown c.add_kind-5.new.shown s4 f)
    c.in_err-add_kind-5.ensures.fails)

pub returns-in_err-add_kind-6-clause-fails : goal.returns-in_err-add_kind-6-clause-fails
returns-in_err-add_kind-6-clause-fails g c =
    let first = c.args.shown.now in
    let s0 = g.met.S.Shown.stays_still first in
    let s1 = g.met.S.Shown.stays_on first first c.add_kind.new.shown s0 c.in_ok-add_kind.ensures.stays in
    let s2 = g.met.S.Shown.stays_on first c.add_kind.new.shown c.add_kind-2.new.shown s1 c.in_ok-add_kind-2.ensures.stays in
    let s3 = g.met.S.Shown.stays_on first c.add_kind-2.new.shown c.add_kind-3.new.shown s2 c.in_ok-add_kind-3.ensures.stays in
    let s4 = g.met.S.Shown.stays_on first c.add_kind-3.new.shown c.add_kind-4.new.shown s3 c.in_ok-add_kind-4.ensures.stays in
    let s5 = g.met.S.Shown.stays_on first c.add_kind-4.new.shown c.add_kind-5.new.shown s4 c.in_ok-add_kind-5.ensures.stays in
    let p = err_from_is_err_and c.from_residual-in_err-add_kind-6.result c.from_residual-in_err-add_kind-6.ensures.1 in
    rw (p.1, p.2) (failed_after _ _ _ _ _ _
    (λ s. g.met.S.Shown.stays_on first c.add_kind-5.new.shown c.add_kind-6.new.shown s5 s)
    (λ e f. g.met.S.Shown.fails_on e first c.add_kind-5.new.shown c.add_kind-6.new.shown s5 f)
    c.in_err-add_kind-6.ensures.fails)
