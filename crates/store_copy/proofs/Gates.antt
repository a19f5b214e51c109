-- Slots that are closed, and the first one when it is opened: as stores.
use Rattle.std.proofs.Common.{◌⊎◌, inl, inr, ℕ, List, subst}
use Rattle.disk_model.specs.Disk.{DiskState, EachImage, Moments, LeavesOnly}
use Rattle.disk_model.proofs.MomentSteps.{weaker}
use Rattle.blocks.specs.declared.slots.Slot.TheVariants.{A}
use Rattle.blocks.specs.Slots.{HasNoCurrent, IsCurrentWith, IsShut}
use Rattle.blocks.specs.Publication.{HasFirst}
use Rattle.blocks.proofs.Shut.{FirstOrNone, shut_has_none}
use Rattle.history_model.specs.declared.stamped.StampedRow.{StampedRow}
use Rattle.directory.specs.Listings.{DirectoryValue}
use Rattle.store_image.specs.Images.{IsStore}
use Rattle.store_image.specs.Pieces.{HoldsAll}
use Rattle.store_image.specs.Kept.{IsContentOf, pieces_of}
use Rattle.store_image.specs.OnDisk.{HasStore, IsOnDisk, Shows}
use Rattle.store_image.proofs.Frames.{pieces_beside}
use Rattle.store_image.proofs.Listed.{listed_epoch}

abbrev pub NoStore : List ℕ → Type 0
NoStore c = IsStore c → ⊥

-- ---- no store

pub none_current_is_none : (c : List ℕ) → HasNoCurrent c → NoStore c
none_current_is_none c none store = let represents = store.1.1.2 in none (record { slot = represents.slot; epoch = store.1.1.0 }) represents.stands.slot.0

pub shut_is_none : (c : List ℕ) → IsShut c → NoStore c
shut_is_none c shut = none_current_is_none c (shut_has_none c shut)

-- ---- the first slot is opened

abbrev pub Whole : DirectoryValue → List (List StampedRow) → List ℕ → Type 0
Whole d lists c = NoStore c ⊎ HasStore A d lists c

module _ (d : DirectoryValue) (lists : List (List StampedRow)) (content : List ℕ) (says : IsContentOf content d lists) (file : List ℕ) (held : HoldsAll (pieces_of d.entries lists) file) where
  shown : (c : List ℕ) → HasFirst content file c → Shows A d lists content c
  shown c first = record {
    has_pieces = record {
      slot = subst (λ n. IsCurrentWith (record { slot = A; epoch = n }) content c) (listed_epoch content d says.lists_it) first.slot;
      pieces_are = pieces_beside A (pieces_of d.entries lists) file c first.same held;
    };
    other_is_whole = λ o. absurd (first.second o);
  }

  whole : (c : List ℕ) → FirstOrNone content file c → Whole d lists c
  whole c (inl none) = inl (none_current_is_none c none)
  whole c (inr first) = inr (content, says, shown c first)

  pub opening_leaves : (old new : Moments) → LeavesOnly old new (FirstOrNone content file) → LeavesOnly old new (Whole d lists)
  opening_leaves old new run = weaker old new (FirstOrNone content file) (Whole d lists) whole run

  pub opened : (s : DiskState) → EachImage s (HasFirst content file) → IsOnDisk s A d lists
  opened s each = (content, says, λ c image. shown c (each c image))
