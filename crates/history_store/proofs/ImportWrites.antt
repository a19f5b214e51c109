-- Which bytes an import writes.
use Rattle.std.proofs.Common.{◌≡◌, ◌⊎◌, inr, ◌+◌, List, [], ◌∷◌, ◌++◌, map, refl, sym, subst}
use Rattle.disk_model.specs.Disk.{Moments, IsImage, LeavesOnly}
use Rattle.disk_model.proofs.MomentSteps.{weaker}
use Rattle.blocks.specs.Extents.{byte_range}
use Rattle.blocks.specs.Outside.{StemsWithin}
use Rattle.blocks.specs.Slots.{slots_range}
use Rattle.history_model.specs.History.{History, stamped}
use Rattle.directory.specs.declared.entry.Entry.{Entry}
use Rattle.directory.specs.Places.{extent_of, extents_of}
use Rattle.import_check.specs.declared.release.Release.{Release}
use Rattle.import_check.specs.declared.found.NewRows.{NewRows}
use Rattle.history_store.specs.declared.preparing.Prepared.{Prepared}
use Rattle.history_store.specs.Catalog.{Catalog, IsCatalogAfter, catalog_of, next_catalog}
use Rattle.history_store.specs.StoreValue.{StoreValue}
use Rattle.history_store.specs.Written.{StemsWithinAll}
use Rattle.history_store.specs.Answers.{StemsWithinNew}
use Rattle.history_store.proofs.Imported.{IsAt, welcome, none_after}
use Rattle.history_store.proofs.WrittenWhere.{none_behind, one_behind}

-- what a crash leaves that comes after the known rows were read, which changes nothing
pub after_reading : (old mid new : Moments) (h k : History) (s t : Catalog) (release : Release) → mid ≡ old → k ≡ h → t ≡ s → LeavesOnly mid new (λ c. IsImage mid.state c ⊎ StemsWithinNew k t release mid.state c)
    → LeavesOnly old new (λ c. IsImage old.state c ⊎ StemsWithinNew h s release old.state c)
after_reading old mid new h k s t release first second third leaves =
    let P : Moments → History → Catalog → Type 0 = λ m l x. LeavesOnly m new (λ c. IsImage m.state c ⊎ StemsWithinNew l x release m.state c) in
    subst (λ (m : Moments). P m h s) first (subst (λ (l : History). P mid l s) second (subst (λ (x : Catalog). P mid k x) third leaves))

-- no row is new, and the slots alone are written
pub slots_written : {D : Type 0} (s : StoreValue D) (release : Release) (fresh : NewRows) (old new : Moments) → IsAt s release fresh → fresh.rows.items ≡ [] → LeavesOnly old new (StemsWithin old.state slots_range)
    → LeavesOnly old new (λ c. IsImage old.state c ⊎ StemsWithinNew s.history s.catalog release old.state c)
unfolding welcome
slots_written s release fresh old new at none leaves =
    let taken = welcome s release fresh (next_catalog s.catalog) at (none_after fresh.rows.items (s.history.imports + 1) s.catalog (next_catalog s.catalog) none refl) in
    weaker old new (StemsWithin old.state slots_range) (λ c. IsImage old.state c ⊎ StemsWithinNew s.history s.catalog release old.state c)
    (λ c stems. inr (taken, subst (λ (l : List Entry). StemsWithinAll old.state (slots_range ∷ map byte_range (extents_of l)) c) (sym (none_behind s.catalog.entries s.catalog.entries refl)) stems)) leaves

-- the segment of the new rows and the slots are written
pub segment_written : {D : Type 0} (s : StoreValue D) (release : Release) (fresh : NewRows) (p : Prepared) (old new : Moments) → IsAt s release fresh → IsCatalogAfter (stamped (s.history.imports + 1) fresh.rows.items) s.catalog (catalog_of p.directory s.catalog.merge)
    → p.directory.entries ≡ s.catalog.entries ++ p.entry ∷ [] → LeavesOnly old new (StemsWithinAll old.state (slots_range ∷ byte_range (extent_of p.entry) ∷ []))
    → LeavesOnly old new (λ c. IsImage old.state c ⊎ StemsWithinNew s.history s.catalog release old.state c)
unfolding welcome
segment_written s release fresh p old new at catalog entries leaves =
    let taken = welcome s release fresh (catalog_of p.directory s.catalog.merge) at catalog in
    weaker old new (StemsWithinAll old.state (slots_range ∷ byte_range (extent_of p.entry) ∷ [])) (λ c. IsImage old.state c ⊎ StemsWithinNew s.history s.catalog release old.state c)
    (λ c stems. inr (taken, subst (λ (l : List Entry). StemsWithinAll old.state (slots_range ∷ map byte_range (extents_of l)) c) (sym (one_behind p.entry s.catalog.entries p.directory.entries entries)) stems)) leaves
