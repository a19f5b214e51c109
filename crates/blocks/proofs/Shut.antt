-- Both gates are closed on an empty disk, and the first one is opened over its content.
use Rattle.std.specs.Prelude.{Result, Ok, Err, OnOk, OnErr}
use Rattle.std.proofs.Common.{◌≡◌, ◌⊎◌, inl, inr, ℕ, ◌+◌, ◌-◌, ◌<◌, ◌≤◌, List, [], ◌∷◌, length, get_or, sym, ◌∙◌, ap, subst, arith}
use Rattle.std.proofs.lemmas.Bool.{cases_eq}
use Rattle.disk_model.specs.Disk.{DiskState, IsImage, EachImage, Moments, LeavesOnly, SameBut, Fails, followed_by, settled, after_write, put}
use Rattle.disk_model.specs.Private.Put.{length-put, get_or-put_below, get_or-put_inside, get_or-put_above}
use Rattle.disk_model.proofs.Images.{write_frame, settled_is, settled_only, stems_on, widen}
use Rattle.disk_model.proofs.MomentSteps.{started, changed, joined, weaker, each_settled, synced}
use Rattle.blocks.specs.declared.slots.Slot.{Slot}
use Rattle.blocks.specs.declared.slots.Slot.TheVariants.{A, B}
use Rattle.blocks.specs.Slots.{IsOpen, IsShut, HasNoCurrent, content_of, epoch_of}
use Rattle.blocks.specs.Publication.{HasFirst}
use Rattle.blocks.proofs.SlotFrames.{same_place, same_content}
use Rattle.blocks.proofs.SlotImages.{Either, now-after_write, opened_there}
use Rattle.blocks.proofs.Windows.{window_put}

-- ---- no slot is current

short_has_none : (c : List ℕ) → length c < 16384 → HasNoCurrent c
short_has_none c short current is = let whole = is.whole in absurd (omega (arith, whole, short))

none_open : (slot : Slot) (c : List ℕ) → IsShut c → IsOpen slot c → ⊥
none_open A c shut opened = shut.first opened
none_open B c shut opened = shut.second opened

pub shut_has_none : (c : List ℕ) → IsShut c → HasNoCurrent c
shut_has_none c shut current is = none_open current.slot c shut is.open_gate

-- ---- what a write leaves of the gates

shut_but : (from end : ℕ) (d c : List ℕ) → SameBut from end d c → IsShut d → 1 ≤ from → (end ≤ 8192) ⊎ (8193 ≤ from) → IsShut c
shut_but from end d c same shut low apart = record {
  long = omega (arith, same.no_shorter, shut.long);
  first = λ opened. shut.first (sym (same_place from end d c same 0 (omega (arith, shut.long)) (inr (omega (arith, low)))) ∙ opened);
  second = λ opened. shut.second (sym (same_place from end d c same 8192 (omega (arith, shut.long)) (elim apart [ inl e ↦ inl e | inr f ↦ inr (omega (arith, f)) ])) ∙ opened);
}

-- a change behind the slots
pub shut_beyond : (from end : ℕ) (d c : List ℕ) → SameBut from end d c → IsShut d → 16384 ≤ from → IsShut c
shut_beyond from end d c same shut beyond = shut_but from end d c same shut (omega (arith, beyond)) (inr (omega (arith, beyond)))

each_shut_written : (s : DiskState) (at : ℕ) (bytes : List ℕ) → IsImage s s.now → EachImage s IsShut → 1 ≤ at → (at + length bytes ≤ 8192) ⊎ (8193 ≤ at) → EachImage (after_write s at bytes) IsShut
each_shut_written s at bytes now each low apart c image =
    let f = write_frame s at bytes c now image in
    shut_but at (at + length bytes) f.0 c f.2 (each f.0 f.1) low apart

either_shut : (s : DiskState) (at : ℕ) (bytes : List ℕ) → IsImage s s.now → EachImage s IsShut → 1 ≤ at → (at + length bytes ≤ 8192) ⊎ (8193 ≤ at) → (c : List ℕ) → Either at bytes s c → IsShut c
either_shut s at bytes now each low apart c (inl image) = each c image
either_shut s at bytes now each low apart c (inr image) = each_shut_written s at bytes now each low apart c image

but_put : (file : List ℕ) (at : ℕ) (bytes : List ℕ) → SameBut at (at + length bytes) file (put file at bytes)
but_put file at bytes = record {
  no_shorter = omega (arith, length-put file at bytes);
  no_longer = omega (arith, length-put file at bytes);
  below = λ i in_d lt. get_or-put_below file at bytes i lt;
  above = λ i in_d ge. get_or-put_above file at bytes i ge;
}

-- ---- both gates are closed

-- a disk that is empty once it is synced
module _ (old mid : Moments) (none : length old.state.now ≡ 0) (made : mid ≡ followed_by old (settled old.state.now)) where
  empty_image : (c : List ℕ) → IsImage mid.state c → length c ≡ 0
  empty_image c image =
      let is = settled_only old.state.now c (subst (λ (m : Moments). IsImage m.state c) made image) in ap length is ∙ none

  module _ (new : Moments) (bytes : List ℕ) (long : length bytes ≡ 8193) (zeros : (i : ℕ) → i < 8193 → get_or bytes i 0 ≡ 0) where
    short : IsImage mid.state mid.state.now → (c : List ℕ) → Either 0 bytes mid.state c → length c < 16384
    short now c (inl image) = let l = empty_image c image in omega (arith, l)
    short now c (inr image) =
        let f = write_frame mid.state 0 bytes c now image in
        let l = empty_image f.0 f.1 in
        omega (arith, f.2.no_longer, l, long)

    pub first_zeros : (P : List ℕ → Type 0) → IsImage mid.state mid.state.now → LeavesOnly old mid (λ c. P c ⊎ HasNoCurrent c) → LeavesOnly mid new (Either 0 bytes mid.state) → LeavesOnly old new (λ c. P c ⊎ HasNoCurrent c)
    first_zeros P now so_far run =
        joined old mid new (λ c. P c ⊎ HasNoCurrent c) so_far (weaker mid new (Either 0 bytes mid.state) (λ c. P c ⊎ HasNoCurrent c) (λ c either. inr (short_has_none c (short now c either))) run)

    closed_at : (i : ℕ) → i < 8193 → get_or (put mid.state.now 0 bytes) i 0 ≡ 165 → ⊥
    closed_at i lt opened =
        let inside = get_or-put_inside mid.state.now 0 bytes i (omega arith) (omega (arith, lt, long)) in
        let same : get_or bytes (i - 0) 0 ≡ 0 = zeros (i - 0) (omega (arith, lt)) in
        let clash : 165 ≡ 0 = sym opened ∙ inside ∙ same in
        omega (arith, clash)

    put_shut : IsShut (put mid.state.now 0 bytes)
    put_shut = record {
      long = omega (arith, length-put mid.state.now 0 bytes, long);
      first = closed_at 0 (omega arith);
      second = closed_at 8192 (omega arith);
    }

    pub zeros_shut : new.state ≡ settled (after_write mid.state 0 bytes).now → EachImage new.state IsShut
    zeros_shut on_disk c image =
        let same = settled_only (after_write mid.state 0 bytes).now c (subst (λ (t : DiskState). IsImage t c) on_disk image) ∙ now-after_write mid.state 0 bytes (omega (arith, long)) in
        subst IsShut (sym same) put_shut

-- zeros behind the gates
pub last_zeros : {T E : Type 0} (result : Result T E) (P : List ℕ → Type 0) (old mid new : Moments) (bytes : List ℕ) → LeavesOnly old mid (λ c. P c ⊎ HasNoCurrent c) → IsImage mid.state mid.state.now → EachImage mid.state IsShut
    → OnOk result (new ≡ followed_by mid (after_write mid.state 8193 bytes)) → OnErr result (Fails mid (after_write mid.state 8193 bytes) new) → LeavesOnly old new (λ c. P c ⊎ HasNoCurrent c)
last_zeros result P old mid new bytes so_far now each made failed =
    changed old mid new (λ c. P c ⊎ HasNoCurrent c) (after_write mid.state 8193 bytes) result so_far made failed (λ c image. inr (shut_has_none c (each_shut_written mid.state 8193 bytes now each (omega arith) (inr (omega arith)) c image)))

pub last_shut : {T E : Type 0} (result : Result T E) (mid new : Moments) (bytes : List ℕ) → IsImage mid.state mid.state.now → EachImage mid.state IsShut → OnOk result (new ≡ followed_by mid (after_write mid.state 8193 bytes)) → OnOk result (EachImage new.state IsShut)
last_shut (Err e) mid new bytes now each made = tt
last_shut (Ok x) mid new bytes now each made =
    subst (λ (m : Moments). EachImage m.state IsShut) (sym made) (each_shut_written mid.state 8193 bytes now each (omega arith) (inr (omega arith)))

pub last_long : {T E : Type 0} (result : Result T E) (mid new : Moments) (bytes : List ℕ) → length bytes ≡ 8191 → OnOk result (new ≡ followed_by mid (after_write mid.state 8193 bytes)) → OnOk result (16384 ≤ length new.state.now)
last_long (Err e) mid new bytes long made = tt
last_long (Ok x) mid new bytes long made =
    let same = ap (λ (m : Moments). length m.state.now) made ∙ ap length (now-after_write mid.state 8193 bytes (omega (arith, long))) in
    omega (arith, same, length-put mid.state.now 8193 bytes, long)

-- ---- the first slot is opened

-- the content is there behind its closed gate, and all outside the slot is as in the file
record IsReadyToOpen (content file c : List ℕ) : Type 0 where
  shut : IsShut c
  long : 16384 ≤ length c
  content_is : content_of A c ≡ content
  same : SameBut 0 8192 file c

abbrev pub FirstOrNone : List ℕ → List ℕ → List ℕ → Type 0
FirstOrNone content file c = HasNoCurrent c ⊎ HasFirst content file c

pub sync_run : {T E : Type 0} (result : Result T E) (content : List ℕ) (old m1 : Moments) → EachImage old.state IsShut → IsImage old.state old.state.now → OnOk result (m1 ≡ followed_by old (settled old.state.now)) → OnErr result (m1 ≡ old)
    → LeavesOnly old m1 (FirstOrNone content old.state.now)
sync_run result content old m1 each now made failed =
    let P = FirstOrNone content old.state.now in synced old old m1 P result (started old P (λ c image. inl (shut_has_none c (each c image)))) now made failed

module _ (content file : List ℕ) (size : length content ≡ 4096) where
  filled : IsShut file → 16384 ≤ length file → IsReadyToOpen content file (put file 4096 content)
  unfolding content_of
  filled shut long =
      let same = subst (λ n. SameBut 4096 (4096 + n) file (put file 4096 content)) size (but_put file 4096 content) in record {
        shut = shut_but 4096 8192 file (put file 4096 content) same shut (omega arith) (inl (omega arith));
        long = omega (arith, length-put file 4096 content, long);
        content_is = window_put file 4096 4096 content size;
        same = widen 4096 8192 0 8192 file (put file 4096 content) (omega arith) (omega arith) same;
      }

  module _ (f c : List ℕ) (ready : IsReadyToOpen content file f) (same : SameBut 0 1 f c) where
    other_is_shut : IsOpen B c → ⊥
    other_is_shut o = ready.shut.second (sym (same_place 0 1 f c same 8192 (omega (arith, ready.long)) (inl (omega arith))) ∙ o)

    same_outside : SameBut 0 8192 file c
    same_outside =
        let stems = stems_on (settled file) (settled f) 0 8192 (λ d image. (file, settled_is file, subst (SameBut 0 8192 file) (sym (settled_only f d image)) ready.same)) c (f, settled_is f, widen 0 1 0 8192 f c (omega arith) (omega arith) same) in
        subst (λ (l : List ℕ). SameBut 0 8192 l c) (settled_only file stems.0 stems.1) stems.2

    is_first : get_or c 0 0 ≡ 165 → HasFirst content file c
    is_first opened =
        let content_is = same_content 0 1 f c same A (omega (arith, ready.long)) (inl (omega arith)) ∙ ready.content_is in record {
          slot = (
            record {
              whole = omega (arith, same.no_shorter, ready.long);
              open_gate = opened;
              epoch_is = ap epoch_of content_is;
              above = λ o. absurd (other_is_shut o);
            },
            content_is,
          );
          second = other_is_shut;
          same = same_outside;
        }

    still_shut : (get_or c 0 0 ≡ 165 → ⊥) → IsShut c
    still_shut shut = record { long = omega (arith, same.no_shorter, ready.long); first = shut; second = other_is_shut }

  opening : (f : List ℕ) (s : DiskState) → s ≡ settled f → IsImage s s.now → IsReadyToOpen content file f → (c : List ℕ) → Either 0 (165 ∷ []) s c → FirstOrNone content file c
  opening f s on_disk now ready c (inl image) =
      let same = settled_only f c (subst (λ (t : DiskState). IsImage t c) on_disk image) in
      inl (shut_has_none c (subst IsShut (sym same) ready.shut))
  opening f s on_disk now ready c (inr image) =
      let frame = write_frame s 0 (165 ∷ []) c now image in
      let same = settled_only f frame.0 (subst (λ (t : DiskState). IsImage t frame.0) on_disk frame.1) in
      let but : SameBut 0 1 f c = subst (λ (l : List ℕ). SameBut 0 1 l c) same frame.2 in
      elim (cases_eq (get_or c 0 0) 165) [
        | inl opened ↦ inr (is_first f c ready but opened)
        | inr shut ↦ inl (shut_has_none c (still_shut f c ready but shut))
      ]

-- the calls of an opening, one after the other
module _ (content : List ℕ) (size : length content ≡ 4096) (old m1 : Moments) (each : EachImage old.state IsShut) (long : 16384 ≤ length old.state.now) (now : IsImage old.state old.state.now) (made : m1 ≡ followed_by old (settled old.state.now)) (still : IsImage m1.state m1.state.now) (m2 : Moments) (at : ℕ) (is : at ≡ 4096) where
  settled_shut : EachImage m1.state IsShut
  settled_shut = subst (λ (m : Moments). EachImage m.state IsShut) (sym made) (each_settled old.state IsShut now each)

  m1_now : m1.state.now ≡ old.state.now
  unfolding settled
  m1_now = ap (λ (m : Moments). m.state.now) made

  pub content_run : LeavesOnly m1 m2 (Either at content m1.state) → LeavesOnly m1 m2 (FirstOrNone content old.state.now)
  content_run run = weaker m1 m2 (Either at content m1.state) (FirstOrNone content old.state.now) (λ c either. inl (shut_has_none c (either_shut m1.state at content still settled_shut (omega (arith, is)) (inl (omega (arith, is, size))) c either))) run

  written : (after_write m1.state at content).now ≡ put old.state.now 4096 content
  written = now-after_write m1.state at content (omega (arith, size)) ∙ ap (λ n. put m1.state.now n content) is ∙ ap (λ (l : List ℕ). put l 4096 content) m1_now

  ready : IsReadyToOpen content old.state.now (put old.state.now 4096 content)
  ready = filled content old.state.now size (each old.state.now now) long

  module _ (wrote : m2.state ≡ settled (after_write m1.state at content).now) (m3 : Moments) (gate : ℕ) (zero_is : gate ≡ 0) (there : IsImage m2.state m2.state.now) where
    m2_is : m2.state ≡ settled (put old.state.now 4096 content)
    m2_is = wrote ∙ ap settled written

    pub gate_run : LeavesOnly m2 m3 (Either gate (165 ∷ []) m2.state) → LeavesOnly m2 m3 (FirstOrNone content old.state.now)
    gate_run run =
        weaker m2 m3 (Either gate (165 ∷ []) m2.state) (FirstOrNone content old.state.now) (λ c either. opening content old.state.now size (put old.state.now 4096 content) m2.state m2_is there ready c (subst (λ n. Either n (165 ∷ []) m2.state c) zero_is either)) run

    m2_now : m2.state.now ≡ put old.state.now 4096 content
    unfolding settled
    m2_now = ap (λ (s : DiskState). s.now) m2_is

    pub first_opened : m3.state ≡ settled (after_write m2.state gate (165 ∷ [])).now → EachImage m3.state (HasFirst content old.state.now)
    first_opened on_disk c image =
        let f = put old.state.now 4096 content in
        let same : c ≡ put f 0 (165 ∷ []) = settled_only (after_write m2.state gate (165 ∷ [])).now c (subst (λ (t : DiskState). IsImage t c) on_disk image) ∙ now-after_write m2.state gate (165 ∷ []) (omega arith) ∙ ap (λ n. put m2.state.now n (165 ∷ [])) zero_is ∙ ap (λ (l : List ℕ). put l 0 (165 ∷ [])) m2_now in
        subst (HasFirst content old.state.now) (sym same) (is_first content old.state.now size f (put f 0 (165 ∷ [])) ready (but_put f 0 (165 ∷ [])) (opened_there f 0))
