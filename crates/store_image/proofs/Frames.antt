-- What a write leaves of the slots and of the pieces of data.
use Rattle.std.specs.Prelude.{All}
use Rattle.std.proofs.Common.{◌≡◌, ◌⊎◌, inl, inr, ⊎_elim, ℕ, ◌+◌, ◌<◌, ◌≤◌, List, length, get_or, take, drop, refl, sym, ◌∙◌, ap, subst, arith}
use Rattle.disk_model.specs.Disk.{DiskState, IsImage, EachImage, SameBut, after_write, settled}
use Rattle.disk_model.specs.Private.Put.{length-put}
use Rattle.disk_model.proofs.Images.{write_frame, settled_only}
use Rattle.blocks.specs.declared.slots.Slot.{Slot}
use Rattle.blocks.specs.declared.slots.Current.{Current}
use Rattle.blocks.specs.Slots.{other, gate_at, content_at, content_of}
use Rattle.blocks.specs.Publication.{IsClosedOrBefore, IsOldOrNext}
use Rattle.blocks.proofs.SlotFrames.{gate_within, greatest_beyond, content_beyond, content_beside, same_place, content_within}
use Rattle.blocks.proofs.SlotImages.{Either, now-after_write}
use Rattle.blocks.proofs.Windows.{window_same, window_put}
use Rattle.directory.specs.declared.layout.Layout.{Layout}
use Rattle.directory.specs.Listings.{DirectoryValue}
use Rattle.directory.specs.Content.{MayPrecede}
use Rattle.history_model.specs.declared.stamped.StampedRow.{StampedRow}
use Rattle.store_image.specs.Pieces.{Holds, HoldsAll, HasPieces}
use Rattle.store_image.specs.Kept.{pieces_of}
use Rattle.store_image.specs.Images.{OtherIsWhole}
use Rattle.store_image.specs.OnDisk.{Shows, current_of}

-- no byte of the piece is in the range
abbrev pub IsFree : ℕ → ℕ → ℕ × List ℕ → Type 0
IsFree from end piece = (end ≤ piece.0) ⊎ (piece.0 + length piece.1 ≤ from)

piece_kept : (from end : ℕ) (d c : List ℕ) → SameBut from end d c → (piece : ℕ × List ℕ) → IsFree from end piece → Holds piece d → Holds piece c
piece_kept from end d c same piece free holds = record {
  behind = holds.behind;
  within = omega (arith, holds.within, same.no_shorter);
  bytes = window_same piece.0 (length piece.1) c d (omega (arith, holds.within, same.no_shorter)) holds.within (λ i ge lt.
      ⊎_elim
      (λ (above : end ≤ piece.0). same.above i (omega (arith, holds.within)) (omega arith))
      (λ (below : piece.0 + length piece.1 ≤ from). same.below i (omega (arith, holds.within)) (omega arith))
      free)
      ∙ holds.bytes;
}

-- a change behind the slots, where no piece is
stands_beyond : (from end : ℕ) (current : Current) (content : List ℕ) (pieces : List (ℕ × List ℕ)) (d c : List ℕ) → SameBut from end d c → 16384 ≤ from → All (IsFree from end) pieces → HasPieces current content pieces d → HasPieces current content pieces c
stands_beyond from end current content pieces d c same beyond free is = record {
  slot = (
    greatest_beyond from end current.slot current.epoch d c same beyond is.slot.0,
    content_beyond from end current.slot d c same beyond is.slot.0.whole ∙ is.slot.1,
  );
  pieces_are = λ k e lt. piece_kept from end d c same (get_or pieces k e) (free k e lt) (is.pieces_are k e lt);
}

-- what was written is there once it is on the disk
pub written_piece : (s new : DiskState) (at : ℕ) (bytes : List ℕ) → 16384 ≤ at → 0 < length bytes → new ≡ settled (after_write s at bytes).now → (c : List ℕ) → IsImage new c → Holds (at, bytes) c
written_piece s new at bytes beyond some on_disk c image =
    let is = settled_only (after_write s at bytes).now c (subst (λ (t : DiskState). IsImage t c) on_disk image) ∙ now-after_write s at bytes some in record {
      behind = beyond;
      within = omega (arith, ap length is, length-put s.now at bytes);
      bytes = ap (λ (l : List ℕ). take (length bytes) (drop at l)) is ∙ window_put s.now at (length bytes) bytes refl;
    }

-- a change within a slot leaves the pieces
pub pieces_beside : (slot : Slot) (pieces : List (ℕ × List ℕ)) (d c : List ℕ) → SameBut (gate_at slot) (content_at slot + 4096) d c → HoldsAll pieces d → HoldsAll pieces c
pieces_beside slot pieces d c same are k e lt =
    let holds = are k e lt in piece_kept (gate_at slot) (content_at slot + 4096) d c same (get_or pieces k e) (inl (omega (arith, content_within slot, holds.behind))) holds

-- ---- the other slot

-- a change behind the slots leaves it
pub other_beyond : (from end : ℕ) (layout : Layout) (epoch : ℕ) (slot : Slot) (d c : List ℕ) → SameBut from end d c → 16384 ≤ from → 16384 ≤ length d → OtherIsWhole layout epoch slot d → OtherIsWhole layout epoch slot c
other_beyond from end layout epoch slot d c same beyond whole is opened =
    let gate = gate_within (other slot) in
    let was = same_place from end d c same (gate_at (other slot)) (omega (arith, gate, whole)) (inr (omega (arith, gate, beyond))) in
    subst (MayPrecede layout epoch) (sym (content_beyond from end (other slot) d c same beyond whole)) (is (sym was ∙ opened))

-- what is shown still is, after a write behind the slots where no piece is
pub write_shows : (s : DiskState) (slot : Slot) (d : DirectoryValue) (lists : List (List StampedRow)) (content : List ℕ) (at : ℕ) (bytes : List ℕ) → IsImage s s.now → EachImage s (Shows slot d lists content) → 16384 ≤ at → All (IsFree at (at + length bytes)) (pieces_of d.entries lists)
    → (c : List ℕ) → Either at bytes s c → Shows slot d lists content c
write_shows s slot d lists content at bytes now every beyond free c (inl image) = every c image
write_shows s slot d lists content at bytes now every beyond free c (inr image) =
    let frame = write_frame s at bytes c now image in
    let was = every frame.0 frame.1 in
    let end = at + length bytes in record {
      has_pieces = stands_beyond at end (current_of slot d) content (pieces_of d.entries lists) frame.0 c frame.2 beyond free was.has_pieces;
      other_is_whole = other_beyond at end d.layout d.epoch slot frame.0 c frame.2 beyond was.has_pieces.slot.0.whole was.other_is_whole;
    }

-- the old state or the new one, at each moment of a publication
pub publish_step : (t : DiskState) (current next : Current) (was content : List ℕ) (pieces others : List (ℕ × List ℕ)) → EachImage t (HasPieces current was pieces) → EachImage t (HoldsAll others) → (c : List ℕ)
    → IsOldOrNext t current next content c → (HasPieces current was pieces c × IsClosedOrBefore t current.slot c) ⊎ (HasPieces next content others c × (content_of current.slot c ≡ was))
publish_step t current next was content pieces others every new c (inl (is, shut), (d, image, same)) =
    let before = every d image in
    inl (
      record {
        slot = (is, content_beside current.slot d c same before.slot.0.whole ∙ before.slot.1);
        pieces_are = pieces_beside (other current.slot) pieces d c same before.pieces_are;
      },
      shut,
    )
publish_step t current next was content pieces others every new c (inr is, (d, image, same)) =
    let before = every d image in
    inr (
      record { slot = is; pieces_are = pieces_beside (other current.slot) others d c same (new d image) },
      content_beside current.slot d c same before.slot.0.whole ∙ before.slot.1,
    )
