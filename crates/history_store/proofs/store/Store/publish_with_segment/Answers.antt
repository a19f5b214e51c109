use Rattle.std.proofs.Common.{◌≡◌, false, subst, sym, ap, ◌∙◌, refl, arith, length}
use Rattle.std.proofs.lemmas.Bool.{false≢true}
use Rattle.blocks.specs.Slots.{other}
use Rattle.blocks.specs.Cache.{is_in, Forgets}
use Rattle.directory.specs.Listings.{DirectoryValue, form_in}
use Rattle.segment.specs.Records.{segment_in}
use Rattle.segment.proofs.SegmentLaws.{length-segment_in}
use Rattle.segment_index.specs.Indexed.{StoreRows}
use Rattle.history_store.specs.MergeInProgress.{HasSameWords}
use Rattle.history_store.specs.StoreValue.{StoreValue}
use Rattle.history_store.specs.Private.Prepared.{IsPreparedFor}
use Rattle.history_store.proofs.GoingOn.{merge_added}
use Rattle.history_store.proofs.WrittenWhere.{one_added, leaves_but_segment}
use Rattle.history_store.proofs.Forgotten.{segment_forgotten}
use Rattle.store_image.proofs.Damaged.{segments_count}
use Rattle.history_store.proofs.Held.{held_added, held_stands, leaves_added, is_added, with_more}
use Rattle.history_store.proofs.NewSegment.{below_places}
use Rattle.history_store.proofs.store.Store.publish_with_segment.Goals as goal

pub add-requires-clause-room : goal.add-requires-clause-room
add-requires-clause-room g c =
    let for = subst (λ (s : StoreValue g.row.D.Denot). IsPreparedFor s c.args.prepared) (sym c.self.view_is) c.requires.prepared in
    let few = below_places c.self.inside.directory.layout (length c.self.inside.directory.entries) for.prepared.placed.few in
    let count = segments_count c.self.inside.directory.entries c.self.inside.index.lists c.self.invariant.0.kept.segments in
    omega (arith, few, count)

pub add-requires-clause-lists : goal.add-requires-clause-lists
add-requires-clause-lists g c =
    let for = subst (λ (s : StoreValue g.row.D.Denot). IsPreparedFor s c.args.prepared) (sym c.self.view_is) c.requires.prepared in
    (is_added _ c.self.inside.directory c.self.inside.index.lists c.args.prepared c.self.invariant.0.kept refl refl refl refl refl for).apart

pub add_segment-requires-clause-bytes : goal.add_segment-requires-clause-bytes
add_segment-requires-clause-bytes g c =
    let for = subst (λ (s : StoreValue g.row.D.Denot). IsPreparedFor s c.args.prepared) (sym c.self.view_is) c.requires.prepared in
    ap length (c.deref.ensures.value ∙ for.prepared.bytes_are) ∙ length-segment_in (form_in c.args.prepared.entry.sums) c.args.prepared.index.rows ∙ for.prepared.segment.bytes

pub invariant_of-self : goal.invariant_of-self
invariant_of-self g c =
    let for = subst (λ (s : StoreValue g.row.D.Denot). IsPreparedFor s c.args.prepared) (sym c.self.view_is) c.requires.prepared in
    let added = is_added _ c.self.inside.directory c.self.inside.index.lists c.args.prepared c.self.invariant.0.kept refl refl refl refl refl for in (
      held_added _ (g.D.Disk.view c.add_segment.new.disk).is_honest _ (g.D.Disk.view c.add_segment.new.disk).moments.state c.self.inside.cache c.forget.new.self c.forget-in-Ok.new.self _ c.in-Ok.slot c.self.inside.directory c.args.prepared.directory c.args.prepared.entry c.self.inside.index.lists c.add.new.self.lists c.args.prepared.index.rows c.self.inside.needs_reopen c.self.invariant.0 c.add_segment.ensures.meters.honesty.1 added c.in-Ok.ensures.next
          (λ honest given lists segment on is same. c.in-Ok.ensures.on_disk honest given lists segment on is (c.deref.ensures.value ∙ for.prepared.bytes_are ∙ ap (segment_in (form_in c.args.prepared.entry.sums)) (sym same)))
          c.in-Ok.ensures.elsewhere (subst (λ x. Forgets (is_in x) c.self.inside.cache c.forget.new.self) c.extent.ensures c.forget.ensures) (subst (λ x. Forgets (is_in x) c.forget.new.self c.forget-in-Ok.new.self) c.extent-in-Ok.ensures c.forget-in-Ok.ensures)
          (ap (λ (x : StoreRows). x.lists) c.add.ensures),
      merge_added _ (g.D.Disk.view c.add_segment.new.disk).is_honest _ (g.D.Disk.view c.add_segment.new.disk).moments.state.now (other c.self.inside.slot) c.self.inside.directory c.args.prepared.directory c.args.prepared.entry c.self.inside.index.lists c.add.new.self.lists c.args.prepared.index.rows c.self.inside.merge c.self.inside.needs_reopen c.self.invariant.1 c.add_segment.ensures.meters.honesty.1
          (ap (λ (l : DirectoryValue). l.entries) for.prepared.directory_is) (ap (λ (l : DirectoryValue). l.layout) for.prepared.directory_is) for.prepared.entry_is for.prepared.at_fit c.in-Ok.ensures.elsewhere
          (ap (λ (x : StoreRows). x.lists) c.add.ensures),
      subst (λ w. HasSameWords w c.self.inside.merge) (sym (ap (λ (x : StoreRows). x.words) c.add.ensures)) c.self.invariant.2,
    )

pub returns-in-Ok-clause-step : goal.returns-in-Ok-clause-step
returns-in-Ok-clause-step g c =
    let for = subst (λ (s : StoreValue g.row.D.Denot). IsPreparedFor s c.args.prepared) (sym c.self.view_is) c.requires.prepared in
    let still = subst (λ (s : StoreValue g.row.D.Denot). s.needs_reopen ≡ false) (sym c.self.view_is) c.requires.still in
    rw (← c.self.view_is) (with_more c.self.inside.directory c.args.prepared.directory c.self.inside.index.lists c.add.new.self.lists c.args.prepared.index.rows c.self.invariant.0.kept (ap (λ (x : StoreRows). x.lists) c.add.ensures) for.apart (ap (λ (l : DirectoryValue). l.imports) for.prepared.directory_is), refl, still)

pub returns-in-Ok-clause-elsewhere : goal.returns-in-Ok-clause-elsewhere
returns-in-Ok-clause-elsewhere g c =
    let for = subst (λ (s : StoreValue g.row.D.Denot). IsPreparedFor s c.args.prepared) (sym c.self.view_is) c.requires.prepared in
    rw (← c.self.view_is) (λ honest. one_added (other c.self.inside.slot) c.args.prepared.entry c.self.inside.directory.entries c.args.prepared.directory.entries _ _ (ap (λ (l : DirectoryValue). l.entries) for.prepared.directory_is) (c.in-Ok.ensures.elsewhere honest))

pub returns-in-Ok-clause-inside : goal.returns-in-Ok-clause-inside
returns-in-Ok-clause-inside g c = rw (← c.self.view_is) (λ honest. leaves_but_segment (other c.self.inside.slot) _ _ _ (c.in-Ok.ensures.inside honest))

pub returns-in-Err-clause-inside : goal.returns-in-Err-clause-inside
returns-in-Err-clause-inside g c = rw (← c.self.view_is) (λ honest. leaves_but_segment (other c.self.inside.slot) _ _ _ (c.in-Err.ensures.inside honest))

pub returns-in-Ok-clause-crash : goal.returns-in-Ok-clause-crash
returns-in-Ok-clause-crash g c =
    let was_open = subst (λ (s : StoreValue g.row.D.Denot). s.needs_reopen ≡ false) (sym c.self.view_is) c.requires.still in
    let for = subst (λ (s : StoreValue g.row.D.Denot). IsPreparedFor s c.args.prepared) (sym c.self.view_is) c.requires.prepared in
    let added = is_added _ c.self.inside.directory c.self.inside.index.lists c.args.prepared c.self.invariant.0.kept refl refl refl refl refl for in
    let held = held_added _ (g.D.Disk.view c.add_segment.new.disk).is_honest _ (g.D.Disk.view c.add_segment.new.disk).moments.state c.self.inside.cache c.forget.new.self c.forget-in-Ok.new.self _ c.in-Ok.slot c.self.inside.directory c.args.prepared.directory c.args.prepared.entry c.self.inside.index.lists c.add.new.self.lists c.args.prepared.index.rows c.self.inside.needs_reopen c.self.invariant.0 c.add_segment.ensures.meters.honesty.1 added c.in-Ok.ensures.next
    (λ honest given lists segment on is same. c.in-Ok.ensures.on_disk honest given lists segment on is (c.deref.ensures.value ∙ for.prepared.bytes_are ∙ ap (segment_in (form_in c.args.prepared.entry.sums)) (sym same)))
    c.in-Ok.ensures.elsewhere (subst (λ x. Forgets (is_in x) c.self.inside.cache c.forget.new.self) c.extent.ensures c.forget.ensures) (subst (λ x. Forgets (is_in x) c.forget.new.self c.forget-in-Ok.new.self) c.extent-in-Ok.ensures c.forget-in-Ok.ensures)
    (ap (λ (x : StoreRows). x.lists) c.add.ensures) in
    rw (← c.self.view_is) (record {
      closed = λ needs. absurd (false≢true (sym was_open ∙ needs));
      any_moment = λ honest still. leaves_added _ _ _ c.self.inside.cache _ c.self.inside.directory c.args.prepared.directory c.args.prepared.entry _ c.args.prepared.index.rows _ c.self.invariant.0 honest still added for.apart (ap (λ (l : DirectoryValue). l.imports) for.prepared.directory_is) (ap (λ (l : DirectoryValue). l.layout) for.prepared.directory_is)
          (λ honest given lists segment on is same. c.in-Ok.ensures.any_moment honest given lists segment on is (c.deref.ensures.value ∙ for.prepared.bytes_are ∙ ap (segment_in (form_in c.args.prepared.entry.sums)) (sym same)));
      acknowledged = λ honest still. record { open_still = still; each = held_stands _ _ _ _ _ _ _ held (c.add_segment.ensures.meters.honesty.0 honest) still };
    })

pub returns-in-Err-clause-crash : goal.returns-in-Err-clause-crash
returns-in-Err-clause-crash g c =
    let was_open = subst (λ (s : StoreValue g.row.D.Denot). s.needs_reopen ≡ false) (sym c.self.view_is) c.requires.still in
    let for = subst (λ (s : StoreValue g.row.D.Denot). IsPreparedFor s c.args.prepared) (sym c.self.view_is) c.requires.prepared in
    let added = is_added _ c.self.inside.directory c.self.inside.index.lists c.args.prepared c.self.invariant.0.kept refl refl refl refl refl for in
    rw (← c.self.view_is) (record {
      closed = λ needs. absurd (false≢true (sym was_open ∙ needs));
      any_moment = λ honest still. leaves_added _ _ _ c.self.inside.cache _ c.self.inside.directory c.args.prepared.directory c.args.prepared.entry _ c.args.prepared.index.rows _ c.self.invariant.0 honest still added for.apart (ap (λ (l : DirectoryValue). l.imports) for.prepared.directory_is) (ap (λ (l : DirectoryValue). l.layout) for.prepared.directory_is)
          (λ honest given lists segment on is same. c.in-Err.ensures.any_moment honest given lists segment on is (c.deref.ensures.value ∙ for.prepared.bytes_are ∙ ap (segment_in (form_in c.args.prepared.entry.sums)) (sym same)));
      acknowledged = λ honest still. absurd (false≢true (sym still));
    })

pub returns-in-Ok-clause-meters : goal.returns-in-Ok-clause-meters
returns-in-Ok-clause-meters g c =
    let for = subst (λ (s : StoreValue g.row.D.Denot). IsPreparedFor s c.args.prepared) (sym c.self.view_is) c.requires.prepared in
    let m = c.in-Ok.ensures.meters in
    rw (← c.self.view_is) (record {
      counts = record { honesty = m.honesty; failures = m.failures; bytes_read = m.bytes_read; other_calls = m.other_calls };
      uncalled = tt;
      calls = c.in-Ok.ensures.calls;
      drops = segment_forgotten c.args.prepared.entry c.self.inside.directory.entries c.args.prepared.directory.entries c.in-Ok.slot _ c.forget.new.self _ (ap (λ (l : DirectoryValue). l.entries) for.prepared.directory_is)
          (subst (λ x. Forgets (is_in x) c.self.inside.cache c.forget.new.self) c.extent.ensures c.forget.ensures) (subst (λ x. Forgets (is_in x) c.forget.new.self c.forget-in-Ok.new.self) c.extent-in-Ok.ensures c.forget-in-Ok.ensures);
      keeps = tt;
    })

pub returns-in-Err-clause-meters : goal.returns-in-Err-clause-meters
returns-in-Err-clause-meters g c =
    let m = c.in-Err.ensures.meters in
    rw (← c.self.view_is, c.from.ensures) (record {
      counts = record { honesty = m.honesty; failures = m.failures; bytes_read = m.bytes_read; other_calls = m.other_calls };
      uncalled = λ other. absurd (other refl);
      calls = c.in-Err.ensures.calls;
      drops = tt;
      keeps = refl;
    })

pub add-requires-clause-words : goal.add-requires-clause-words
add-requires-clause-words g c =
    let for = subst (λ (s : StoreValue g.row.D.Denot). IsPreparedFor s c.args.prepared) (sym c.self.view_is) c.requires.prepared in
    for.words
