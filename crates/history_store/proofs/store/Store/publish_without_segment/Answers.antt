use Rattle.std.proofs.Common.{◌≡◌, false, refl, subst, sym, ◌∙◌}
use Rattle.std.proofs.lemmas.Bool.{false≢true}
use Rattle.blocks.specs.Cache.{is_in, Forgets}
use Rattle.blocks.specs.Slots.{other}
use Rattle.directory.specs.Listings.{IsListing}
use Rattle.history_store.specs.StoreValue.{StoreValue}
use Rattle.history_store.specs.Private.StoreValue.{directory_of}
use Rattle.store_image.specs.Next.{IsRepeated}
use Rattle.history_store.proofs.GoingOn.{merge_repeated}
use Rattle.history_store.proofs.WrittenWhere.{none_added, leaves_but_slots}
use Rattle.history_store.proofs.Forgotten.{slot_forgotten}
use Rattle.history_store.proofs.Held.{held_repeated, held_stands, leaves_repeated}
use Rattle.history_store.proofs.store.Store.publish_without_segment.Goals as goal

pub invariant_of-self : goal.invariant_of-self
invariant_of-self g c =
    let same = subst (λ (s : StoreValue g.row.D.Denot). IsRepeated (directory_of s) c.args.next) (sym c.self.view_is) c.requires.next in (
      held_repeated _ (g.D.Disk.view c.publish_directory.new.disk).is_honest _ (g.D.Disk.view c.publish_directory.new.disk).moments.state c.self.inside.cache c.forget.new.self _ c.in-Ok.slot c.self.inside.directory c.args.next _ _ c.self.invariant.0 c.publish_directory.ensures.meters.honesty.1 (subst IsListing c.next.view_is c.next.invariant.is) same c.in-Ok.ensures.next c.in-Ok.ensures.on_disk c.in-Ok.ensures.elsewhere (subst (λ x. Forgets (is_in x) c.self.inside.cache c.forget.new.self) c.extent.ensures c.forget.ensures),
      merge_repeated _ (g.D.Disk.view c.publish_directory.new.disk).is_honest _ (g.D.Disk.view c.publish_directory.new.disk).moments.state.now (other c.self.inside.slot) c.self.inside.directory c.args.next c.self.inside.index.lists c.self.inside.merge c.self.inside.needs_reopen c.self.invariant.1 c.publish_directory.ensures.meters.honesty.1 same.entries same.comes.layout c.in-Ok.ensures.elsewhere,
      c.self.invariant.2,
    )

pub returns-in-Ok-clause-elsewhere : goal.returns-in-Ok-clause-elsewhere
returns-in-Ok-clause-elsewhere g c =
    let same = subst (λ (s : StoreValue g.row.D.Denot). IsRepeated (directory_of s) c.args.next) (sym c.self.view_is) c.requires.next in
    rw (← c.self.view_is) (λ honest. none_added (other c.self.inside.slot) c.self.inside.directory.entries c.args.next.entries _ _ same.entries (c.in-Ok.ensures.elsewhere honest))

pub returns-in-Ok-clause-inside : goal.returns-in-Ok-clause-inside
returns-in-Ok-clause-inside g c = rw (← c.self.view_is) (λ honest. leaves_but_slots (other c.self.inside.slot) _ _ (c.in-Ok.ensures.inside honest))

pub returns-in-Err-clause-inside : goal.returns-in-Err-clause-inside
returns-in-Err-clause-inside g c = rw (← c.self.view_is) (λ honest. leaves_but_slots (other c.self.inside.slot) _ _ (c.in-Err.ensures.inside honest))

pub returns-in-Ok-clause-crash : goal.returns-in-Ok-clause-crash
returns-in-Ok-clause-crash g c =
    let same = subst (λ (s : StoreValue g.row.D.Denot). IsRepeated (directory_of s) c.args.next) (sym c.self.view_is) c.requires.next in
    let was_open = subst (λ (s : StoreValue g.row.D.Denot). s.needs_reopen ≡ false) (sym c.self.view_is) c.requires.still in
    let held = held_repeated _ (g.D.Disk.view c.publish_directory.new.disk).is_honest _ (g.D.Disk.view c.publish_directory.new.disk).moments.state c.self.inside.cache c.forget.new.self _ c.in-Ok.slot c.self.inside.directory c.args.next _ _ c.self.invariant.0 c.publish_directory.ensures.meters.honesty.1 (subst IsListing c.next.view_is c.next.invariant.is) same c.in-Ok.ensures.next c.in-Ok.ensures.on_disk c.in-Ok.ensures.elsewhere (subst (λ x. Forgets (is_in x) c.self.inside.cache c.forget.new.self) c.extent.ensures c.forget.ensures) in
    rw (← c.self.view_is) (record {
      closed = λ needs. absurd (false≢true (sym was_open ∙ needs));
      any_moment = λ honest still. leaves_repeated _ _ _ c.self.inside.cache _ c.self.inside.directory c.args.next _ _ c.self.invariant.0 honest still (subst IsListing c.next.view_is c.next.invariant.is) same c.in-Ok.ensures.any_moment;
      acknowledged = λ honest still. record { open_still = still; each = held_stands _ _ _ _ _ _ _ held (c.publish_directory.ensures.meters.honesty.0 honest) still };
    })

pub returns-in-Err-clause-crash : goal.returns-in-Err-clause-crash
returns-in-Err-clause-crash g c =
    let same = subst (λ (s : StoreValue g.row.D.Denot). IsRepeated (directory_of s) c.args.next) (sym c.self.view_is) c.requires.next in
    let was_open = subst (λ (s : StoreValue g.row.D.Denot). s.needs_reopen ≡ false) (sym c.self.view_is) c.requires.still in
    rw (← c.self.view_is) (record {
      closed = λ needs. absurd (false≢true (sym was_open ∙ needs));
      any_moment = λ honest still. leaves_repeated _ _ _ c.self.inside.cache _ c.self.inside.directory c.args.next _ _ c.self.invariant.0 honest still (subst IsListing c.next.view_is c.next.invariant.is) same c.in-Err.ensures.any_moment;
      acknowledged = λ honest still. absurd (false≢true (sym still));
    })

pub returns-in-Ok-clause-meters : goal.returns-in-Ok-clause-meters
returns-in-Ok-clause-meters g c =
    let same = subst (λ (s : StoreValue g.row.D.Denot). IsRepeated (directory_of s) c.args.next) (sym c.self.view_is) c.requires.next in
    let m = c.in-Ok.ensures.meters in
    rw (← c.self.view_is) (record {
      counts = record { honesty = m.honesty; failures = m.failures; bytes_read = m.bytes_read; other_calls = m.other_calls };
      uncalled = tt;
      calls = c.in-Ok.ensures.calls;
      drops = slot_forgotten c.self.inside.directory.entries c.args.next.entries c.in-Ok.slot _ _ same.entries (subst (λ x. Forgets (is_in x) c.self.inside.cache c.forget.new.self) c.extent.ensures c.forget.ensures);
      keeps = tt;
    })

pub returns-in-Err-clause-meters : goal.returns-in-Err-clause-meters
returns-in-Err-clause-meters g c =
    let m = c.in-Err.ensures.meters in
    rw (← c.self.view_is, c.from.ensures) (record {
      counts = record { honesty = m.honesty; failures = m.failures; bytes_read = m.bytes_read; other_calls = m.other_calls };
      uncalled = λ other. absurd (other refl);
      calls = c.in-Err.ensures.calls;
      drops = tt;
      keeps = refl;
    })
