use Rattle.std.proofs.Common.{◌≡◌, ◌<◌, ◌↔◌, length, vec_len, subst, rules}
use Rattle.std.specs.Option.{IsSome}
use Rattle.history_model.specs.Queries.{get}
use Rattle.history_model.specs.History.{rows_at}
use Rattle.command_line.specs.Verifying.{MayBeReadFor}
use Rattle.command_line.proofs.Comparing.{popped}
use Rattle.command_line.proofs.store_at.StoreAtShown.row.Goals as goal

pub returns-clause-found : goal.returns-clause-found
returns-clause-found g c =
    let store = c.args.self.now.store.now in
    let len : vec_len c.in_ok-rows.rows ≡ length c.in_ok-rows.rows.items = search (rules) in
    popped (MayBeReadFor g.D.Disk.view store) c.in_ok-rows.rows.items c.pop.new.self.items c.pop.result
    (get c.args.kind c.args.id c.args.self.now.date (rows_at store.history.imports store.history.rows))
    c.pop.ensures.items (subst (λ n. IsSome c.pop.result ↔ (0 < n)) len c.pop.ensures.variant)
    c.in_ok-rows.ensures.asked.found
