use Rattle.std.proofs.Common.{◌%◌, ◌/◌, arith}
use Rattle.rf2_values.specs.Sctid.{entry, products}
use Rattle.rf2_values.proofs.Digits.{product_below}
use Rattle.rf2_values.proofs.Pairs.{pairs, pair_below, four_steps}
use Rattle.rf2_values.proofs.sctid.check_last_eight.Goals as goal

pub bounds-first : goal.bounds-first
bounds-first c = pair_below 0 (c.args.number % 10000 % 100) (omega arith) (omega arith)

pub bounds-second : goal.bounds-second
bounds-second c = pair_below 1 (c.args.number % 10000 / 100) (omega arith) (omega arith)

pub bounds-third : goal.bounds-third
bounds-third c = pair_below 2 (c.args.number / 10000 % 10000 % 100) (omega arith) (omega arith)

pub bounds-fourth : goal.bounds-fourth
bounds-fourth c = pair_below 3 (c.args.number / 10000 % 10000 / 100) (omega arith) (omega arith)

pub returns-clause-small : goal.returns-clause-small
returns-clause-small c =
    let n = c.args.number in
    product_below
    (entry products (entry pairs 0 (n % 10000 % 100)) (entry pairs 1 (n % 10000 / 100)))
    (entry products (entry pairs 2 (n / 10000 % 10000 % 100)) (entry pairs 3 (n / 10000 % 10000 / 100)))

pub returns-clause-rest : goal.returns-clause-rest
returns-clause-rest c = λ more. four_steps c.args.number more
