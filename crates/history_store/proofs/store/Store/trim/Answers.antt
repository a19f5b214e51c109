use Rattle.std.specs.Prelude.{nat_le}
use Rattle.std.proofs.Common.{arith, refl, subst, sym, ◌∙◌}
use Rattle.std.proofs.lemmas.Bool.{false≢true}
use Rattle.blocks.specs.Cache.{Forgets}
use Rattle.directory.specs.Places.{taken}
use Rattle.history_store.proofs.Held.{held_stands}
use Rattle.history_store.proofs.EndOf.{at_least_four}
use Rattle.history_store.proofs.TrimmedStore.{end_is, kept_below, end_limit, trimmed_held, trimmed_merge}
use Rattle.history_store.proofs.store.Store.trim.Goals as goal

pub trim-requires : goal.trim-requires
trim-requires g c = omega (arith, at_least_four (taken c.entries.result.now c.reserved.result), c.end_of-end.ensures.end)

pub overflow_cast-end : goal.overflow_cast-end
overflow_cast-end g c =
    let end = end_is c.self.inside.directory c.self.inside.merge c.entries.result.now c.reserved.result c.end_of-end.result c.entries.ensures.entries c.reserved.ensures c.end_of-end.ensures.end in
    let limit = end_limit c.self.inside.directory c.self.inside.index.lists c.self.inside.merge c.self.invariant.0.kept.listing c.self.invariant.1.merging in
    omega (arith, end, limit)

pub invariant_of-self : goal.invariant_of-self
invariant_of-self g c =
    let end = end_is c.self.inside.directory c.self.inside.merge c.entries.result.now c.reserved.result c.end_of-end.result c.entries.ensures.entries c.reserved.ensures c.end_of-end.ensures.end in
    let below = kept_below c.self.inside.directory c.self.inside.merge c.end_of-end.result end in (
      trimmed_held _ (g.D.Disk.view c.trim.new.disk).is_honest _ (g.D.Disk.view c.trim.new.disk).moments.state c.self.inside.cache c.forget_from.new.self c.self.inside.slot c.self.inside.directory c.self.inside.index.lists c.self.inside.needs_reopen c.end_of-end.result c.self.invariant.0 c.trim.ensures.meters.honesty.1
          (λ honest on. c.trim.ensures.on_disk honest c.self.inside.slot c.self.inside.directory c.self.inside.index.lists on below) c.in-Ok.ensures.now c.forget_from.ensures,
      trimmed_merge _ (g.D.Disk.view c.trim.new.disk).is_honest _ (g.D.Disk.view c.trim.new.disk).moments.state.now c.self.inside.directory c.self.inside.index.lists c.self.inside.merge c.self.inside.needs_reopen c.end_of-end.result c.self.invariant.1 c.trim.ensures.meters.honesty.1 end c.in-Ok.ensures.now,
      c.self.invariant.2,
    )

pub returns-then-self-clause-crash : goal.returns-then-self-clause-crash
returns-then-self-clause-crash g c =
    rw (← c.self.view_is) (record {
      closed = λ needs. refl;
      any_moment = λ honest still. absurd (false≢true (sym still ∙ c.if-self.true));
      acknowledged = λ honest still. absurd (false≢true (sym still ∙ c.if-self.true));
    })

pub returns-in-Ok-clause-crash : goal.returns-in-Ok-clause-crash
returns-in-Ok-clause-crash g c =
    let end = end_is c.self.inside.directory c.self.inside.merge c.entries.result.now c.reserved.result c.end_of-end.result c.entries.ensures.entries c.reserved.ensures c.end_of-end.ensures.end in
    let below = kept_below c.self.inside.directory c.self.inside.merge c.end_of-end.result end in
    let held = trimmed_held _ (g.D.Disk.view c.trim.new.disk).is_honest _ (g.D.Disk.view c.trim.new.disk).moments.state c.self.inside.cache c.forget_from.new.self c.self.inside.slot c.self.inside.directory c.self.inside.index.lists c.self.inside.needs_reopen c.end_of-end.result c.self.invariant.0 c.trim.ensures.meters.honesty.1
    (λ honest on. c.trim.ensures.on_disk honest c.self.inside.slot c.self.inside.directory c.self.inside.index.lists on below) c.in-Ok.ensures.now c.forget_from.ensures in
    rw (← c.self.view_is) (record {
      closed = λ needs. absurd (false≢true (sym c.if-self.false ∙ needs));
      any_moment = λ honest still. c.trim.ensures.any_moment honest c.self.inside.slot c.self.inside.directory c.self.inside.index.lists (c.self.invariant.0.on_disk honest still) below;
      acknowledged = λ honest still. record { open_still = still; each = held_stands _ _ _ _ _ _ _ held (c.trim.ensures.meters.honesty.0 honest) still };
    })

pub returns-in-Err-clause-crash : goal.returns-in-Err-clause-crash
returns-in-Err-clause-crash g c =
    let end = end_is c.self.inside.directory c.self.inside.merge c.entries.result.now c.reserved.result c.end_of-end.result c.entries.ensures.entries c.reserved.ensures c.end_of-end.ensures.end in
    let below = kept_below c.self.inside.directory c.self.inside.merge c.end_of-end.result end in
    rw (← c.self.view_is) (record {
      closed = λ needs. absurd (false≢true (sym c.if-self.false ∙ needs));
      any_moment = λ honest still. c.trim.ensures.any_moment honest c.self.inside.slot c.self.inside.directory c.self.inside.index.lists (c.self.invariant.0.on_disk honest still) below;
      acknowledged = λ honest still. absurd (false≢true (sym still));
    })

pub returns-then-self-clause-meters : goal.returns-then-self-clause-meters
returns-then-self-clause-meters g c =
    rw (← c.self.view_is) (record {
      counts = record { honesty = (λ up. up, λ up. up); failures = refl; bytes_read = refl; other_calls = omega arith };
      uncut = tt;
      drops = tt;
      keeps = refl;
    })

pub returns-in-Ok-clause-meters : goal.returns-in-Ok-clause-meters
returns-in-Ok-clause-meters g c =
    let end = end_is c.self.inside.directory c.self.inside.merge c.entries.result.now c.reserved.result c.end_of-end.result c.entries.ensures.entries c.reserved.ensures c.end_of-end.ensures.end in
    let m = c.in-Ok.ensures.meters in
    rw (← c.self.view_is) (record {
      counts = record { honesty = m.honesty; failures = m.failures; bytes_read = m.bytes_read; other_calls = m.other_calls };
      uncut = c.in-Ok.ensures.uncut;
      drops = subst (λ n. Forgets (nat_le n) c.self.inside.cache c.forget_from.new.self) end c.forget_from.ensures;
      keeps = tt;
    })

pub returns-in-Err-clause-meters : goal.returns-in-Err-clause-meters
returns-in-Err-clause-meters g c =
    let m = c.in-Err.ensures.meters in
    rw (← c.self.view_is, c.from.ensures) (record {
      counts = record { honesty = m.honesty; failures = m.failures; bytes_read = m.bytes_read; other_calls = m.other_calls };
      uncut = tt;
      drops = tt;
      keeps = refl;
    })
