-- Rows on a disk, and what reading them leaves unchanged.
use Rattle.std.specs.Prelude.{◌≡◌, ◌↔◌, ℕ, ◌≤◌, List, map}
use Rattle.std.specs.List.{AllByRecursion}
use Rattle.std.proofs.Common.{refl, subst, ◌∙◌}
use Rattle.rf2_values.specs.Row.{RowValue}
use Rattle.history_model.specs.declared.stamped.StampedRow.{StampedRow}
use Rattle.history_model.specs.Lists.{listed}
use Rattle.disk_model.specs.Disk.{Moments}
use Rattle.lru.specs.LruCache.{LruCache}
use Rattle.blocks.specs.Cache.{LooksUpSome}
use Rattle.blocks.proofs.Looked.{some_more}
use Rattle.directory.specs.declared.entry.Entry.{Entry}
use Rattle.directory.specs.Listings.{IsEntry}
use Rattle.store_image.specs.Pieces.{HoldsAll}
use Rattle.store_image.specs.Kept.{AreSegments, pieces_of}
use Rattle.segment.specs.declared.place.RowPlace.{RowPlace}
use Rattle.history_store.specs.Queries.{is_listed}

-- an honest disk stays honest, and its moments are unchanged
abbrev pub MomentsStay : Type 0 → Type 0 → Moments → Moments → Type 0
MomentsStay was is old new = (was ↔ is) × (was → new ≡ old)

pub stay_still : (was : Type 0) (old : Moments) → MomentsStay was was old old
stay_still was old = ((λ up. up, λ up. up), λ up. refl)

pub stay_on : (first second third : Type 0) (a b c : Moments)
    → MomentsStay first second a b → MomentsStay second third b c → MomentsStay first third a c
stay_on first second third a b c ab bc =
    ((λ up. bc.0.0 (ab.0.0 up), λ down. ab.0.1 (bc.0.1 down)), λ up. bc.1 (ab.0.0 up) ∙ ab.1 up)

-- looking up blocks of the listed segments, and then others of them, is one such lookup
pub listed_on : (entries same : List Entry) (a b c : LruCache ℕ (List ℕ)) (first second third : ℕ)
    → same ≡ entries → LooksUpSome (is_listed entries) a b first second
    → LooksUpSome (is_listed same) b c second third
    → LooksUpSome (is_listed entries) a c first third
listed_on entries same a b c first second third is ab bc =
    some_more (is_listed entries) a b c first second third ab
    (subst (λ (e : List Entry). LooksUpSome (is_listed e) b c second third) is bc)

-- the segments of the listed entries consist of these rows, and the file has their bytes
pub record AreThere (entries : List Entry) (lists : List (List StampedRow))
    (file : List ℕ) : Type 0 where
  pub entries_are : AllByRecursion IsEntry entries
  pub segments : AreSegments entries lists
  pub pieces : HoldsAll (pieces_of entries lists) file

-- the rows of the lists
abbrev pub rows_of : List (List StampedRow) → List RowValue
rows_of lists = map (λ (s : StampedRow). s.row) (listed lists)

-- the row may be at some place of some list, if `may_be` says which rows may be at which places
abbrev pub MayBeRead : (may_be : ℕ → RowPlace → StampedRow → Type 0) → RowValue → Type 0
MayBeRead may_be row = (s : StampedRow) × (row ≡ s.row) × (segment : ℕ) × (at : RowPlace)
    × may_be segment at s

-- no row has an import number greater than `pin`
abbrev pub Early : ℕ → List (List StampedRow) → Type 0
Early pin lists = AllByRecursion (λ (s : StampedRow). s.import ≤ pin) (listed lists)
