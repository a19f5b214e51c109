-- A proof that a law of the disk in memory cites: what a read returns is an image, after each call.
use Rattle.std.proofs.lemmas.Bool.Decides.{nat_tests}
use Rattle.std.proofs.Common.{◌≡◌, inl, inr, Bool, ℕ, ◌+◌, ◌≤◌, min, List, [], ◌∷◌, length, take}
use Rattle.std.proofs.Common.{if◌then◌else◌, ltb}
use Rattle.std.proofs.Common.{true, false, refl, sym, ◌∙◌, subst, arith, length-take}
use Rattle.std.proofs.lemmas.List.{get_or-take, take_all}
use Rattle.std.proofs.lemmas.List.Elements.{All-head, All-tail}
use Rattle.disk_model.specs.Disk.{DiskState, IsImage, IsOutside, Moments, followed_by, settled}
use Rattle.disk_model.specs.Disk.{after_write, after_cut, reading}
use Rattle.disk_model.specs.Private.Put.{length-put, get_or-put_below, get_or-put_above}
use Rattle.disk_model.specs.Change.{Change, Write, Cut, Sync, FailedWrite, FailedCut, after_change}
use Rattle.disk_model.specs.Change.{replayed, made, written}

settled_image : (bytes : List ℕ) → IsImage (settled bytes) (settled bytes).now
unfolding settled
settled_image bytes =
    record { no_shorter = omega arith; no_longer = omega arith; fixed = λ i lt out. refl }

write_image : (s : DiskState) (at : ℕ) (bytes : List ℕ) → IsImage s s.now
    → IsImage (after_write s at bytes) (after_write s at bytes).now
unfolding after_write
write_image s at [] now = now
write_image s at (byte ∷ bytes) now = record {
  no_shorter = omega (arith, length-put s.now at (byte ∷ bytes), now.no_shorter);
  no_longer = omega (arith, length-put s.now at (byte ∷ bytes), now.no_longer);
  fixed = λ i lt out.
      elim (All-head (IsOutside i) (at, at + length (byte ∷ bytes)) s.unsynced out) [
        | inl below ↦ get_or-put_below s.now at (byte ∷ bytes) i below
            ∙ now.fixed i lt
            (All-tail (IsOutside i) (at, at + length (byte ∷ bytes)) s.unsynced out)
        | inr above ↦ get_or-put_above s.now at (byte ∷ bytes) i above
            ∙ now.fixed i lt
            (All-tail (IsOutside i) (at, at + length (byte ∷ bytes)) s.unsynced out)
      ];
}

by_test : (b : Bool) (s t : DiskState) → IsImage s s.now → IsImage t t.now
    → IsImage (if b then s else t) (if b then s else t).now
by_test true s t first second = first
by_test false s t first second = second

cut_image : (s : DiskState) (n : ℕ) → IsImage s s.now → IsImage (after_cut s n) (after_cut s n).now
unfolding after_cut
cut_image s n now =
    by_test (ltb n (length s.now))
    (record {
      now = take n s.now;
      durable = s.durable;
      least = min s.least n;
      greatest = s.greatest;
      unsynced = s.unsynced;
    }) s
    (record {
      no_shorter = omega (arith, length-take n s.now, now.no_shorter);
      no_longer = omega (arith, length-take n s.now, now.no_longer);
      fixed = λ i lt out. get_or-take n s.now i 0 (omega arith) ∙ now.fixed i (omega arith) out;
    })
    now

cut_now : (b : Bool) (n : ℕ) (s : DiskState) (t : DiskState) → t.now ≡ take n s.now
    → (b ≡ false → take n s.now ≡ s.now) → (if b then t else s).now ≡ take n s.now
cut_now true n s t is all = is
cut_now false n s t is all = sym (all refl)

pub now-after_cut : (s : DiskState) (n : ℕ) → (after_cut s n).now ≡ take n s.now
unfolding after_cut
now-after_cut s n =
    cut_now (ltb n (length s.now)) n s
    (record {
      now = take n s.now;
      durable = s.durable;
      least = min s.least n;
      greatest = s.greatest;
      unsynced = s.unsynced;
    }) refl
    (λ wrong. take_all n s.now (grind (arith, nat_tests)))

-- after a write of which a part is written, what a read returns is an image
part_image : (s : DiskState) (at : ℕ) (bytes part : List ℕ) → IsImage s s.now
    → length part ≤ length bytes
    → IsImage (after_write s at bytes) (written s.now at part)
unfolding after_write
part_image s at [] [] now le = now
part_image s at [] (byte ∷ part) now le = absurd (omega arith)
part_image s at (byte ∷ bytes) [] now le = record {
  no_shorter = now.no_shorter;
  no_longer = omega (arith, now.no_longer);
  fixed = λ i lt out. now.fixed i lt
      (All-tail (IsOutside i) (at, at + length (byte ∷ bytes)) s.unsynced out);
}
part_image s at (byte ∷ bytes) (first ∷ part) now le = record {
  no_shorter = omega (arith, length-put s.now at (first ∷ part), now.no_shorter);
  no_longer = omega (arith, length-put s.now at (first ∷ part), now.no_longer);
  fixed = λ i lt out.
      elim (All-head (IsOutside i) (at, at + length (byte ∷ bytes)) s.unsynced out) [
        | inl below ↦ get_or-put_below s.now at (first ∷ part) i below
            ∙ now.fixed i lt
            (All-tail (IsOutside i) (at, at + length (byte ∷ bytes)) s.unsynced out)
        | inr above ↦ get_or-put_above s.now at (first ∷ part) i (omega arith)
            ∙ now.fixed i lt
            (All-tail (IsOutside i) (at, at + length (byte ∷ bytes)) s.unsynced out)
      ];
}

failed_write_image : (s : DiskState) (at : ℕ) (bytes : List ℕ) (part : ℕ) → IsImage s s.now
    → IsImage (after_write s at bytes) (written s.now at (take part bytes))
failed_write_image s at bytes part now =
    part_image s at bytes (take part bytes) now (omega (arith, length-take part bytes))

either_image : (b : Bool) (s t : DiskState) (c : List ℕ) → IsImage s c → IsImage t c
    → IsImage (if b then s else t) c
either_image true s t c first second = first
either_image false s t c first second = second

failed_cut_image : (s : DiskState) (len : ℕ) (whole : Bool) → IsImage s s.now
    → IsImage (after_cut s len) (if whole then take len s.now else s.now)
unfolding after_cut
failed_cut_image s len true now = let is = now-after_cut s len in subst
    (λ (c : List ℕ). IsImage (after_cut s len) c) is (cut_image s len now)
failed_cut_image s len false now =
    either_image (ltb len (length s.now))
    (record {
      now = take len s.now;
      durable = s.durable;
      least = min s.least len;
      greatest = s.greatest;
      unsynced = s.unsynced;
    }) s s.now
    (record {
      no_shorter = omega (arith, now.no_shorter);
      no_longer = now.no_longer;
      fixed = λ i lt out. now.fixed i (omega arith) out;
    })
    now

as_read : (s : DiskState) (bytes : List ℕ) → IsImage s bytes → IsImage (reading s bytes) bytes
as_read s bytes image =
    record { no_shorter = image.no_shorter; no_longer = image.no_longer; fixed = image.fixed }

pub change_image : (s : DiskState) (change : Change) → IsImage s s.now
    → IsImage (after_change s change) (after_change s change).now
change_image s (Write at bytes) now = write_image s at bytes now
change_image s (Cut n) now = cut_image s n now
change_image s Sync now = settled_image s.now
change_image s (FailedWrite at bytes part) now =
    as_read _ _ (failed_write_image s at bytes part now)
change_image s (FailedCut len whole) now = as_read _ _ (failed_cut_image s len whole now)

replayed_image : (m : Moments) (changes : List Change) → IsImage m.state m.state.now
    → IsImage (replayed m changes).state (replayed m changes).state.now
replayed_image m [] now = now
replayed_image m (change ∷ changes) now =
    replayed_image (followed_by m (after_change m.state change)) changes
    (change_image m.state change now)

pub memory_image : (bytes : List ℕ) (changes : List Change)
    → IsImage (replayed (made bytes) changes).state (replayed (made bytes) changes).state.now
memory_image bytes changes = replayed_image (made bytes) changes (settled_image bytes)
