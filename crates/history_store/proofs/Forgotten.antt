-- Which blocks an import forgets.
use Rattle.std.proofs.Common.{◌≡◌, ℕ, ◌||◌, Bool, true, false, List, [], ◌∷◌, ◌++◌, length, drop, refl, sym, ap, subst}
use Rattle.std.specs.Prelude.{not}
use Rattle.std.specs.List.{filter}
use Rattle.lru.specs.LruCache.{LruCache}
use Rattle.blocks.specs.declared.slots.Slot.{Slot}
use Rattle.blocks.specs.Slots.{slot_extent}
use Rattle.blocks.specs.Cache.{Forgets, is_in}
use Rattle.directory.specs.declared.entry.Entry.{Entry}
use Rattle.directory.specs.Places.{extent_of}
use Rattle.history_store.specs.Queries.{is_listed, ForgetsWritten}
use Rattle.history_store.proofs.WrittenWhere.{none_behind, one_behind}

all_kept : (entries : List (ℕ × List ℕ)) → entries ≡ filter (λ e. not (is_listed [] e.0)) entries
all_kept [] = refl
all_kept (e ∷ entries) = ap (λ (l : List (ℕ × List ℕ)). e ∷ l) (all_kept entries)

none_forgotten : (cache : LruCache ℕ (List ℕ)) → Forgets (is_listed []) cache cache
none_forgotten cache = record { each = λ block. refl; capacity = refl; order = all_kept cache.entries }

or_none : (b : Bool) → b ≡ (b || false)
or_none true = refl
or_none false = refl

one_forgotten : (entry : Entry) (old new : LruCache ℕ (List ℕ)) → Forgets (is_in (extent_of entry)) old new → Forgets (is_listed (entry ∷ [])) old new
one_forgotten entry old new is = subst (λ (test : ℕ → Bool). Forgets test old new) (λ i block. or_none (is_in (extent_of entry) block) i) is

-- no segment was added, and a slot was written
pub slot_forgotten : (es fs : List Entry) (slot : Slot) (old new : LruCache ℕ (List ℕ)) → fs ≡ es → Forgets (is_in (slot_extent slot)) old new → ForgetsWritten (drop (length es) fs) old new
slot_forgotten es fs slot old new entries is = subst (λ (l : List Entry). ForgetsWritten l old new) (sym (none_behind es fs entries)) (slot, old, none_forgotten old, is)

-- a segment was added, and a slot was written
pub segment_forgotten : (entry : Entry) (es fs : List Entry) (slot : Slot) (old mid new : LruCache ℕ (List ℕ)) → fs ≡ es ++ entry ∷ [] → Forgets (is_in (extent_of entry)) old mid → Forgets (is_in (slot_extent slot)) mid new → ForgetsWritten (drop (length es) fs) old new
segment_forgotten entry es fs slot old mid new entries first is = subst (λ (l : List Entry). ForgetsWritten l old new) (sym (one_behind entry es fs entries)) (slot, mid, one_forgotten entry old mid first, is)
