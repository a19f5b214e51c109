-- Which bytes the calls of a store write.
use Rattle.std.proofs.Common.{◌≡◌, ◌⊎◌, inl, inr, ℕ, ◌≤◌, List, [], ◌∷◌, ◌++◌, length, drop, map, refl, sym, ap, subst, ◌∙◌, arith}
use Rattle.std.proofs.lemmas.List.Elements.{All-nil, All-cons, All-head, All-tail}
use Rattle.list_lemmas.proofs.Parts.{drop_whole}
use Rattle.disk_model.specs.Disk.{DiskState, Moments, IsImage, IsOutside, LeavesOnly, SameBut, settled}
use Rattle.disk_model.proofs.MomentSteps.{weaker}
use Rattle.blocks.specs.declared.slots.Slot.{Slot}
use Rattle.blocks.specs.declared.slots.Slot.TheVariants.{A, B}
use Rattle.blocks.specs.Extents.{byte_range}
use Rattle.blocks.specs.Outside.{SameOutside, StemsWithin, StemsWithinBoth}
use Rattle.blocks.specs.Slots.{slot_range, slots_range}
use Rattle.directory.specs.declared.entry.Entry.{Entry}
use Rattle.directory.specs.Places.{extent_of, extents_of}
use Rattle.history_store.specs.Written.{StemsWithinAll}

slot_outside : (slot : Slot) (i : ℕ) → IsOutside i slots_range → IsOutside i (slot_range slot)
slot_outside A i (inl below) = absurd (omega (arith, below))
slot_outside A i (inr above) = inr (omega (arith, above))
slot_outside B i (inl below) = absurd (omega (arith, below))
slot_outside B i (inr above) = inr (omega (arith, above))

slot_ends : (slot : Slot) (n : ℕ) → 16384 ≤ n → (slot_range slot).1 ≤ n
slot_ends A n long = omega (arith, long)
slot_ends B n long = omega (arith, long)

-- one of the slots is written: the slots are
pub in_slots : (slot : Slot) (old new : List ℕ) → SameOutside (slot_range slot ∷ []) old new → SameOutside (slots_range ∷ []) old new
in_slots slot old new same =
    let P : ℕ → ℕ × ℕ → Type 0 = λ n range. range.1 ≤ n in record {
      no_shorter = same.no_shorter;
      no_longer = λ n long ends. same.no_longer n long (All-cons (P n) (slot_range slot) [] (slot_ends slot n (All-head (P n) slots_range [] ends)) (All-nil (P n)));
      same = λ i outside. same.same i (All-cons (IsOutside i) (slot_range slot) [] (slot_outside slot i (All-head (IsOutside i) slots_range [] outside)) (All-nil (IsOutside i)));
    }

-- and what a crash leaves
but_slots : (slot : Slot) (d c : List ℕ) → SameBut (slot_range slot).0 (slot_range slot).1 d c → SameBut slots_range.0 slots_range.1 d c
but_slots A d c same = record { no_shorter = same.no_shorter; no_longer = omega (arith, same.no_longer); below = λ i within less. absurd (omega (arith, less)); above = λ i within behind. same.above i within (omega (arith, behind)) }
but_slots B d c same = record { no_shorter = same.no_shorter; no_longer = omega (arith, same.no_longer); below = λ i within less. absurd (omega (arith, less)); above = λ i within behind. same.above i within (omega (arith, behind)) }

stems_in_slots : (slot : Slot) (s : DiskState) (c : List ℕ) → StemsWithin s (slot_range slot) c → StemsWithin s slots_range c
stems_in_slots slot s c (d, image, same) = (d, image, but_slots slot d c same)

pub leaves_but_slots : (slot : Slot) (old new : Moments) → LeavesOnly old new (StemsWithin old.state (slot_range slot)) → LeavesOnly old new (StemsWithin old.state slots_range)
leaves_but_slots slot old new run = weaker old new (StemsWithin old.state (slot_range slot)) (StemsWithin old.state slots_range) (λ c stems. stems_in_slots slot old.state c stems) run

pub leaves_but_segment : (slot : Slot) (segment : ℕ × ℕ) (old new : Moments) → LeavesOnly old new (StemsWithinBoth old.state segment (slot_range slot)) → LeavesOnly old new (StemsWithinAll old.state (slots_range ∷ segment ∷ []))
leaves_but_segment slot segment old new run =
    weaker old new (StemsWithinBoth old.state segment (slot_range slot)) (StemsWithinAll old.state (slots_range ∷ segment ∷ []))
    (λ c both. (both.0, both.1, but_slots slot both.0 c both.2)) run

pub leaves_in_slots : (slot : Slot) (old new : Moments) → LeavesOnly old new (λ c. IsImage old.state c ⊎ StemsWithin (settled old.state.now) (slot_range slot) c) → LeavesOnly old new (λ c. IsImage old.state c ⊎ StemsWithin (settled old.state.now) slots_range c)
leaves_in_slots slot old new run =
    weaker old new (λ c. IsImage old.state c ⊎ StemsWithin (settled old.state.now) (slot_range slot) c) (λ c. IsImage old.state c ⊎ StemsWithin (settled old.state.now) slots_range c)
    (λ c was. elim was [ inl same ↦ inl same | inr stems ↦ inr (stems_in_slots slot (settled old.state.now) c stems) ])
    run

-- and with a segment
pub in_slots_and : (slot : Slot) (segment : ℕ × ℕ) (old new : List ℕ) → SameOutside (segment ∷ slot_range slot ∷ []) old new → SameOutside (slots_range ∷ segment ∷ []) old new
in_slots_and slot segment old new same =
    let P : ℕ → ℕ × ℕ → Type 0 = λ n range. range.1 ≤ n in record {
      no_shorter = same.no_shorter;
      no_longer = λ n long ends.
          same.no_longer n long (All-cons (P n) segment (slot_range slot ∷ []) (All-head (P n) segment [] (All-tail (P n) slots_range (segment ∷ []) ends)) (All-cons (P n) (slot_range slot) [] (slot_ends slot n (All-head (P n) slots_range (segment ∷ []) ends)) (All-nil (P n))));
      same = λ i outside.
          same.same i (All-cons (IsOutside i) segment (slot_range slot ∷ []) (All-head (IsOutside i) segment [] (All-tail (IsOutside i) slots_range (segment ∷ []) outside)) (All-cons (IsOutside i) (slot_range slot) [] (slot_outside slot i (All-head (IsOutside i) slots_range (segment ∷ []) outside)) (All-nil (IsOutside i))));
    }

drop_all : (xs ys : List Entry) → drop (length xs) (xs ++ ys) ≡ ys
drop_all [] ys = refl
drop_all (x ∷ xs) ys = drop_all xs ys

pub none_behind : (es fs : List Entry) → fs ≡ es → drop (length es) fs ≡ []
none_behind es fs entries = ap (λ (xs : List Entry). drop (length es) xs) entries ∙ drop_whole es

pub one_behind : (entry : Entry) (es fs : List Entry) → fs ≡ es ++ entry ∷ [] → drop (length es) fs ≡ entry ∷ []
one_behind entry es fs entries = ap (λ (xs : List Entry). drop (length es) xs) entries ∙ drop_all es (entry ∷ [])

-- no segment is added
pub none_added : (slot : Slot) (es fs : List Entry) (old new : List ℕ) → fs ≡ es → SameOutside (slot_range slot ∷ []) old new → SameOutside (slots_range ∷ map byte_range (extents_of (drop (length es) fs))) old new
none_added slot es fs old new entries same =
    let none = none_behind es fs entries in
    subst (λ (xs : List Entry). SameOutside (slots_range ∷ map byte_range (extents_of xs)) old new) (sym none) (in_slots slot old new same)

-- one is added
pub one_added : (slot : Slot) (entry : Entry) (es fs : List Entry) (old new : List ℕ) → fs ≡ es ++ entry ∷ [] → SameOutside (byte_range (extent_of entry) ∷ slot_range slot ∷ []) old new → SameOutside (slots_range ∷ map byte_range (extents_of (drop (length es) fs))) old new
one_added slot entry es fs old new entries same =
    let one = one_behind entry es fs entries in
    subst (λ (xs : List Entry). SameOutside (slots_range ∷ map byte_range (extents_of xs)) old new) (sym one) (in_slots_and slot (byte_range (extent_of entry)) old new same)
