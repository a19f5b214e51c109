-- An import that publishes what was made ready.
use Rattle.std.proofs.Common.{◌≡◌, ◌⊎◌, ◌+◌, false, List, [], ◌∷◌, length, Ok, refl, sym, ap, subst, ◌∙◌}
use Rattle.disk_model.specs.Disk.{Moments, IsImage, LeavesOnly}
use Rattle.blocks.specs.Extents.{byte_range}
use Rattle.blocks.specs.Outside.{StemsWithin}
use Rattle.blocks.specs.Slots.{slots_range}
use Rattle.rf2_values.specs.Row.{RowValue}
use Rattle.history_model.specs.declared.receipt.Receipt.{Receipt}
use Rattle.history_model.specs.History.{stamped, after_release}
use Rattle.directory.specs.Listings.{DirectoryValue, next_layout}
use Rattle.directory.specs.Places.{extent_of}
use Rattle.store_image.specs.Images.{RepresentsAs}
use Rattle.import_check.specs.declared.release.Release.{Release}
use Rattle.history_store.specs.declared.preparing.Prepared.{Prepared}
use Rattle.history_store.specs.declared.checking.Ready.{Ready}
use Rattle.history_store.specs.declared.checking.Next.TheVariants as nexts
use Rattle.history_store.specs.Catalog.{IsCatalogAfter, catalog_of}
use Rattle.history_store.specs.StoreValue.{StoreValue}
use Rattle.history_store.specs.Private.StoreValue.{with_imports, with_rows}
use Rattle.history_store.specs.Private.Prepared.{IsPreparedFor}
use Rattle.history_store.specs.Private.Ready.{IsMadeReady, IsNextFor}
use Rattle.history_store.specs.Written.{StemsWithinAll}
use Rattle.history_store.specs.Meters.{calls_for}
use Rattle.history_store.specs.Answers.{IsStill, IsImportOf, IsImportOnAnyDisk, IsBeforeOrAfter, StemsWithinNew}
use Rattle.history_store.proofs.Apart.{prepared_for}
use Rattle.history_store.proofs.Imported.{from_mid, leaves_taken, leaves_extended, relisted_leaves, without_new, none_after, extended_catalog, taken, extended}
use Rattle.history_store.proofs.TakenByKey.{taken_by_key, extended_by_key}
use Rattle.history_store.proofs.ImportWrites.{after_reading, slots_written, segment_written}
use Rattle.history_store.proofs.Checked.{at_ready, room_ready, brings_ready}
use Rattle.history_store.proofs.MeteredImports.{calls_for_rows}

module _ {D : Type 0} {may_be : RowValue → Type 0} (honest : Type 0) (old mid : StoreValue D) (release : Release) (ready : Ready) (is : IsMadeReady honest may_be mid release ready) (still : IsStill old mid) where
  -- no row is new
  module _ (d : DirectoryValue) (e : ready.next ≡ nexts.WithoutSegment d) where
    none_ready : IsNextFor mid is.fresh (nexts.WithoutSegment d)
    none_ready = subst (λ next. IsNextFor mid is.fresh next) e is.next_is

    catalog_without : (new : StoreValue D) → new.catalog ≡ catalog_of d mid.catalog.merge → IsCatalogAfter (stamped (mid.history.imports + 1) is.fresh.rows.items) mid.catalog new.catalog
    catalog_without new same = none_after is.fresh.rows.items (mid.history.imports + 1) mid.catalog new.catalog none_ready.0 (same ∙ ap (λ l. catalog_of l mid.catalog.merge) none_ready.1)

    history_without : (new : StoreValue D) → new.history ≡ with_imports mid.history d.imports → new.history ≡ after_release mid.history is.fresh.rows.items
    history_without new same = same ∙ ap (λ (l : DirectoryValue). with_imports mid.history l.imports) none_ready.1 ∙ without_new mid is.fresh.rows.items none_ready.0

    pub imported_without : (new : StoreValue D) → (new.history ≡ with_imports mid.history d.imports) × (new.catalog ≡ catalog_of d mid.catalog.merge) × (new.needs_reopen ≡ false) → honest → IsImportOf (Ok ready.receipt) old new release
    imported_without new step up =
        subst (λ receipt. IsImportOf (Ok receipt) old new release) (sym is.receipt_is)
        (taken old mid release is.fresh new.history new.catalog (mid.history.imports + 1) (length is.fresh.rows.items) still (at_ready honest mid release ready is still.open_still up) (history_without new step.0) (catalog_without new step.1) refl refl, still.open_before, step.2)

    pub kept_without : (new : StoreValue D) → (new.history ≡ with_imports mid.history d.imports) × (new.catalog ≡ catalog_of d mid.catalog.merge) × (new.needs_reopen ≡ false) → IsImportOnAnyDisk may_be (Ok ready.receipt) old new release
    kept_without new step =
        subst (λ receipt. IsImportOnAnyDisk may_be (Ok receipt) old new release) (sym is.receipt_is)
        (taken_by_key old old mid release is.fresh new.history new.catalog (mid.history.imports + 1) (length is.fresh.rows.items) refl (room_ready honest mid release ready is old still) still (brings_ready honest mid release ready is old still) (history_without new step.0) (catalog_without new step.1) refl refl, still.open_before, step.2)

    -- the calls of a publication
    pub calls_without : calls_for ready.receipt.new ≡ 6
    calls_without = ap (λ (r : Receipt). calls_for r.new) is.receipt_is ∙ ap (λ (rows : List RowValue). calls_for (length rows)) none_ready.0

    -- what a crash leaves
    pub moments_without : (before between after : Moments) → between ≡ before → honest → LeavesOnly between after (λ c. RepresentsAs mid.catalog.layout mid.history c ⊎ RepresentsAs d.layout (with_imports mid.history d.imports) c) → LeavesOnly before after (IsBeforeOrAfter old.catalog.layout old.history release)
    moments_without before between after same up leaves =
        from_mid before between after old.history mid.history old.catalog mid.catalog release same still.history still.catalog
        (leaves_taken mid release is.fresh (with_imports mid.history (mid.history.imports + 1)) between after (at_ready honest mid release ready is still.open_still up) (without_new mid is.fresh.rows.items none_ready.0)
        (relisted_leaves mid d between after none_ready.1 leaves))

    pub inside_without : (before between after : Moments) → between ≡ before → honest → LeavesOnly between after (StemsWithin between.state slots_range) → LeavesOnly before after (λ c. IsImage before.state c ⊎ StemsWithinNew old.history old.catalog release before.state c)
    inside_without before between after same up leaves =
        after_reading before between after old.history mid.history old.catalog mid.catalog release same still.history still.catalog
        (slots_written mid release is.fresh between after (at_ready honest mid release ready is still.open_still up) none_ready.0 leaves)

  -- a segment of the new rows
  module _ (p : Prepared) (e : ready.next ≡ nexts.WithSegment p) where
    segment_ready : IsNextFor mid is.fresh (nexts.WithSegment p)
    segment_ready = subst (λ next. IsNextFor mid is.fresh next) e is.next_is

    pub for_ready : IsPreparedFor mid p
    for_ready = prepared_for mid mid mid.history release is.fresh p refl is.history refl is.room.not_later is.brings segment_ready.1 segment_ready.2

    pub imported_with : (new : StoreValue D) → (new.history ≡ with_rows mid.history p.index.rows) × (new.catalog ≡ catalog_of p.directory mid.catalog.merge) × (new.needs_reopen ≡ false) → honest → IsImportOf (Ok ready.receipt) old new release
    imported_with new step up =
        subst (λ receipt. IsImportOf (Ok receipt) old new release) (sym is.receipt_is)
        (extended old mid mid release is.fresh p new.history new.catalog (mid.history.imports + 1) (length is.fresh.rows.items) refl still (at_ready honest mid release ready is still.open_still up) segment_ready.1.index_is segment_ready.1.placed segment_ready.0 step.0 step.1 refl refl, still.open_before, step.2)

    pub kept_with : (new : StoreValue D) → (new.history ≡ with_rows mid.history p.index.rows) × (new.catalog ≡ catalog_of p.directory mid.catalog.merge) × (new.needs_reopen ≡ false) → IsImportOnAnyDisk may_be (Ok ready.receipt) old new release
    kept_with new step =
        subst (λ receipt. IsImportOnAnyDisk may_be (Ok receipt) old new release) (sym is.receipt_is)
        (extended_by_key old old mid mid release is.fresh p new.history new.catalog (mid.history.imports + 1) (length is.fresh.rows.items) refl (room_ready honest mid release ready is old still) refl is.history still (brings_ready honest mid release ready is old still) segment_ready.1.index_is segment_ready.1.placed segment_ready.0 step.0 step.1 refl refl, still.open_before, step.2)

    -- the calls that write a segment, and those of a publication
    pub calls_with : calls_for ready.receipt.new ≡ 8
    calls_with = ap (λ (r : Receipt). calls_for r.new) is.receipt_is ∙ calls_for_rows (length is.fresh.rows.items) segment_ready.0

    pub moments_with : (before between after : Moments) → between ≡ before → honest → LeavesOnly between after (λ c. RepresentsAs mid.catalog.layout mid.history c ⊎ RepresentsAs (next_layout mid.catalog.layout) (with_rows mid.history p.index.rows) c) → LeavesOnly before after (IsBeforeOrAfter old.catalog.layout old.history release)
    moments_with before between after same up leaves =
        from_mid before between after old.history mid.history old.catalog mid.catalog release same still.history still.catalog
        (leaves_extended mid mid release is.fresh p between after refl (at_ready honest mid release ready is still.open_still up) segment_ready.1.index_is leaves)

    pub inside_with : (before between after : Moments) → between ≡ before → honest → LeavesOnly between after (StemsWithinAll between.state (slots_range ∷ byte_range (extent_of p.entry) ∷ [])) → LeavesOnly before after (λ c. IsImage before.state c ⊎ StemsWithinNew old.history old.catalog release before.state c)
    inside_with before between after same up leaves =
        after_reading before between after old.history mid.history old.catalog mid.catalog release same still.history still.catalog
        (segment_written mid release is.fresh p between after (at_ready honest mid release ready is still.open_still up) (extended_catalog mid mid is.fresh p refl segment_ready.1.placed segment_ready.0) (ap (λ (l : DirectoryValue). l.entries) segment_ready.1.directory_is) leaves)
