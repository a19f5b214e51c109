use Rattle.std.proofs.lemmas.Result.{err_from_is_err_and}
use Rattle.store_digest.proofs.Digested.{begun, gone_on, fewer, ended, stopped}
use Rattle.store_digest.proofs.digesting.digest.Goals as goal

pub rows-init : goal.rows-init
rows-init g c =
    let d = g.D.Disk in
    begun d.view c.args.pin c.args.store.now c.new-hasher.result c.new-hasher.ensures

pub returns-in_err-key : goal.returns-in_err-key
returns-in_err-key g c =
    let d = g.D.Disk in
    let p = err_from_is_err_and c.from_residual.result c.from_residual.ensures.1 in
    record {
      answer = rw (p.1, p.2) (stopped d.view c.args.pin c.args.store.now c.rows.store c.add_next.new.store c.rows.hasher c.add_next.new.hasher c.rows.last c.rows.invariant _ c.in_err-key.ensures.added);
    }

pub rows-smaller : goal.rows-smaller
rows-smaller g c =
    let d = g.D.Disk in
    fewer d.view c.args.pin c.args.store.now c.rows.store c.add_next.new.store c.rows.hasher c.add_next.new.hasher c.rows.last c.rows.invariant c.in-Some.key (rw c.in-Some.is at c.in_ok-key.ensures.added)

pub rows-preserved : goal.rows-preserved
rows-preserved g c =
    let d = g.D.Disk in
    gone_on d.view c.args.pin c.args.store.now c.rows.store c.add_next.new.store c.rows.hasher c.add_next.new.hasher c.rows.last c.rows.invariant c.in-Some.key (rw c.in-Some.is at c.in_ok-key.ensures.added)

pub returns : goal.returns
returns g c = record {
  answer =
      let d = g.D.Disk in
      ended d.view c.args.pin c.args.store.now c.rows.store c.add_next.new.store c.rows.hasher c.add_next.new.hasher c.rows.last c.rows.invariant (rw c.in_default.is at c.in_ok-key.ensures.added) c.in_ok-key.ensures.history c.finalize.result c.finalize.ensures;
}
