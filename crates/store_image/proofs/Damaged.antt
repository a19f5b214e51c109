-- Which part of a store is damaged, and why nothing is opened.
use Rattle.std.proofs.Common.{◌≡◌, ◌⊎◌, inl, inr, ℕ, zero, suc, ◌+◌, ◌<◌, ◌++◌, List, [], ◌∷◌, length, get_or, take, drop, refl, sym, ◌∙◌, ap, subst, arith, length-take, length-append}
use Rattle.std.specs.Prelude.{Result, Err, All}
use Rattle.fault_counts.specs.Counting.{HasRisen}
use Rattle.blocks.specs.declared.slots.Slot.{Slot}
use Rattle.blocks.specs.declared.slots.Current.{Current}
use Rattle.blocks.specs.declared.slots.SlotFault.{SlotFault}
use Rattle.blocks.specs.declared.slots.SlotFault.TheVariants as slots
use Rattle.blocks.specs.Slots.{IsCurrentWith, content_of, ReadsCurrent, CountsSlotFault}
use Rattle.blocks.proofs.Greatest.{one_slot, some_gate, not_two_equal}
use Rattle.directory.specs.declared.entry.Entry.{Entry}
use Rattle.directory.specs.declared.listing.DirectoryFault.{DirectoryFault}
use Rattle.directory.specs.declared.listing.DirectoryFault.TheVariants as directories
use Rattle.directory.specs.Listings.{DirectoryValue}
use Rattle.directory.specs.Content.{Lists}
use Rattle.directory.proofs.Spelled.{one_listing}
use Rattle.history_model.specs.declared.stamped.StampedRow.{StampedRow}
use Rattle.history_model.specs.Lists.{AreLists}
use Rattle.segment.proofs.SegmentLaws.{one_segment}
use Rattle.directory.specs.declared.sums.Sums.TheVariants as sums
use Rattle.store_image.specs.declared.fault.Damage.TheVariants as damages
use Rattle.store_image.specs.declared.fault.LoadFault.{LoadFault}
use Rattle.store_image.specs.declared.fault.LoadFault.TheVariants as loading
use Rattle.store_image.specs.declared.fault.RowsFault.{RowsFault}
use Rattle.store_image.specs.declared.fault.RowsFault.TheVariants as faults
use Rattle.store_image.specs.Pieces.{HoldsAll}
use Rattle.store_image.specs.Kept.{AreOfLayout, AreSegments, pieces_of}
use Rattle.store_image.specs.Images.{IsStore, OtherIsWhole}
use Rattle.store_image.specs.Reading.{IsAt}
use Rattle.store_image.specs.Private.Reading.{AreRead, IsNotReadAt}
use Rattle.store_image.specs.Damage.{HasDirectory, AreThere, IsFirstBroken, ShareKey, HasStrangeKind, IsDamaged, RepresentedIsUndamaged, OneDamage}
use Rattle.store_image.specs.Private.Damage.{in_segment, AreNotRead}
use Rattle.store_image.specs.Answers.{IsNotOpened, CountsLoading, of_slot, of_directory}
use Rattle.store_image.proofs.Segments.{entry_there}
use Rattle.store_image.proofs.Standing.{same_segments}
use Rattle.store_image.proofs.Opened.{kept_is_read}

-- ---- the segment that isn't read

split_entries : (entries : List Entry) (i : ℕ) (d : Entry) → i < length entries → entries ≡ take i entries ++ get_or entries i d ∷ drop (suc i) entries
split_entries [] i d lt = absurd (omega (arith, lt))
split_entries (e ∷ entries) zero d lt = refl
split_entries (e ∷ entries) (suc i) d lt = ap (λ (l : List Entry). e ∷ l) (split_entries entries i d (omega (arith, lt)))

pub not_read_at : (e : RowsFault) (number imports : ℕ) (file : List ℕ) (entries : List Entry) (lists : List (List StampedRow)) (i : ℕ) (d : Entry) → i < length entries → number ≡ i + 1 → AreThere imports (take i entries) lists file → IsNotReadAt e imports (get_or entries i d) file
    → AreNotRead (in_segment number e) imports entries file
not_read_at faults.OutOfMemory number imports file entries lists i d lt is there why = tt
not_read_at faults.DiskFault number imports file entries lists i d lt is there why = tt
not_read_at faults.Damaged number imports file entries lists i d lt is there why = record {
  before = take i entries;
  entry = get_or entries i d;
  behind = drop (suc i) entries;
  entries_are = split_entries entries i d lt;
  number_is = omega (arith, is, lt, length-take i entries);
  lists = lists;
  there = there;
  broken = why;
}

-- as many lists as entries were gone over
pub segments_count : (entries : List Entry) (lists : List (List StampedRow)) → AreSegments entries lists → length lists ≡ length entries
segments_count [] [] are = refl
segments_count [] (rows ∷ lists) are = absurd are
segments_count (entry ∷ entries) [] are = absurd are
segments_count (entry ∷ entries) (rows ∷ lists) are = ap suc (segments_count entries lists are.1)

-- ---- the first segment that is broken

none : Entry
none = record { first = 0; bytes = 0; rows = 0; sums = sums.Nowhere }

at_middle : (before behind : List Entry) (entry d : Entry) → get_or (before ++ entry ∷ behind) (length before) d ≡ entry
at_middle [] behind entry d = refl
at_middle (e ∷ before) behind entry d = at_middle before behind entry d

in_front : (before behind : List Entry) (i : ℕ) (d : Entry) → i < length before → get_or (before ++ behind) i d ≡ get_or before i d
in_front [] behind i d lt = absurd (omega (arith, lt))
in_front (e ∷ before) behind zero d lt = refl
in_front (e ∷ before) behind (suc i) d lt = in_front before behind i d (omega (arith, lt))

-- where all entries are there, none is broken
none_broken : (number imports : ℕ) (file : List ℕ) (entries : List Entry) (lists : List (List StampedRow)) → AreThere imports entries lists file → IsFirstBroken number imports entries file → ⊥
none_broken number imports file entries lists there b =
    let i = length b.before in
    let long : length entries ≡ length (b.before ++ b.entry ∷ b.behind) = ap length b.entries_are in
    let lt : i < length entries = omega (arith, long, length-append b.before (b.entry ∷ b.behind)) in
    let is = entry_there imports file entries lists i none lt there.segments there.numbered there.held there.sums in
    let same : get_or entries i none ≡ b.entry = ap (λ (l : List Entry). get_or l i none) b.entries_are ∙ at_middle b.before b.behind b.entry none in
    b.broken is.rows (subst (λ (e : Entry). IsAt file e is.rows) same is.at) is.numbered

-- none is broken before the first one
not_before : (number other imports : ℕ) (file : List ℕ) (entries : List Entry) (a : IsFirstBroken number imports entries file) (b : IsFirstBroken other imports entries file) → length a.before < length b.before → ⊥
not_before number other imports file entries a b lt =
    let i = length a.before in
    let is = entry_there imports file b.before b.lists i none lt b.there.segments b.there.numbered b.there.held b.there.sums in
    let same : get_or b.before i none ≡ a.entry =
    sym (in_front b.before (b.entry ∷ b.behind) i none lt) ∙ ap (λ (l : List Entry). get_or l i none) (sym b.entries_are ∙ a.entries_are) ∙ at_middle a.before a.behind a.entry none in
    a.broken is.rows (subst (λ (e : Entry). IsAt file e is.rows) same is.at) is.numbered

one_number : (number other imports : ℕ) (file : List ℕ) (entries : List Entry) → IsFirstBroken number imports entries file → IsFirstBroken other imports entries file → number ≡ other
one_number number other imports file entries a b =
    omega (arith, a.number_is, b.number_is, not_before number other imports file entries a b, not_before other number imports file entries b a)

-- ---- one directory

one_content : (file : List ℕ) (current other : Current) (content bytes : List ℕ) → IsCurrentWith current content file → IsCurrentWith other bytes file → content ≡ bytes
one_content file current other content bytes is are =
    sym is.1 ∙ ap (λ (s : Slot). content_of s file) (one_slot file current.slot other.slot current.epoch other.epoch is.0 are.0).0 ∙ are.1

pub one_directory : (file : List ℕ) (d e : DirectoryValue) → HasDirectory d file → HasDirectory e file → d ≡ e
one_directory file d e x y =
    one_listing y.content d e (subst (λ (b : List ℕ). Lists b d) (one_content file x.current y.current x.content y.content x.slot y.slot) x.lists_it) y.lists_it

no_directory : (file : List ℕ) (d : DirectoryValue) → HasDirectory d file → IsDamaged damages.Directory file → ⊥
no_directory file d has is =
    let slots = (one_slot file has.current.slot is.0.slot has.current.epoch is.0.epoch has.slot.0 is.2.0).0 in
    is.3 d (subst (λ (b : List ℕ). Lists b d) (one_content file has.current is.0 has.content is.1 has.slot is.2) has.lists_it) (subst (λ (s : Slot). OtherIsWhole d.layout d.epoch s file) slots has.other_is_whole)

-- ---- what bytes have that stand for something

record IsSound (d : DirectoryValue) (file : List ℕ) : Type 0 where
  has : HasDirectory d file
  lists : List (List StampedRow)
  there : AreThere d.imports d.entries lists file
  apart : AreLists lists
  kinds : All (AreOfLayout d.layout) lists

sound : (file : List ℕ) → IsStore file → (d : DirectoryValue) × IsSound d file
sound file store =
    let s = store.1.1.2 in
    let d : DirectoryValue = record { layout = store.1.0; epoch = store.1.1.0; imports = store.0.imports; entries = store.1.1.1 } in
    let read = kept_is_read d s.lists s.says.kept s.says.sums in (
      d,
      record {
        has = record { current = record { slot = s.slot; epoch = store.1.1.0 }; content = s.content; slot = s.stands.slot; lists_it = s.says.lists_it; other_is_whole = s.other_is_whole };
        lists = s.lists;
        there = record { segments = read.segments; numbered = read.numbered; held = s.stands.pieces_are; sums = read.sums };
        apart = read.apart;
        kinds = s.says.kept.kinds;
      },
    )

same_lists : (imports : ℕ) (file : List ℕ) (entries : List Entry) (xs ys : List (List StampedRow)) → AreThere imports entries xs file → AreThere imports entries ys file → xs ≡ ys
same_lists imports file entries xs ys x y = same_segments one_segment file entries xs ys x.segments y.segments x.held y.held

shares_none : (imports : ℕ) (file : List ℕ) (entries : List Entry) (lists : List (List StampedRow)) → AreThere imports entries lists file → AreLists lists → ShareKey imports entries file → ⊥
shares_none imports file entries lists there apart share =
    share.shared (subst (λ (l : List (List StampedRow)). AreLists l) (same_lists imports file entries lists share.lists there share.there) apart)

no_strange_kind : (d : DirectoryValue) (file : List ℕ) → IsSound d file → HasStrangeKind d file → ⊥
no_strange_kind d file s strange =
    strange.strange (subst (λ (l : List (List StampedRow)). All (AreOfLayout d.layout) l) (same_lists d.imports file d.entries s.lists strange.lists s.there strange.there) s.kinds)

pub represented_is_undamaged : RepresentedIsUndamaged
represented_is_undamaged file damages.Slots store is =
    let s = (sound file store).1 in is s.has.current s.has.content s.has.slot
represented_is_undamaged file damages.Directory store is =
    let s = sound file store in no_directory file s.0 s.1.has is
represented_is_undamaged file (damages.Segment number) store is =
    let s = sound file store in
    let broken = subst (λ (d : DirectoryValue). IsFirstBroken number d.imports d.entries file) (one_directory file is.0 s.0 is.1 s.1.has) is.2 in
    none_broken number s.0.imports file s.0.entries s.1.lists s.1.there broken
represented_is_undamaged file damages.SharedKey store is =
    let s = sound file store in
    let share = subst (λ (d : DirectoryValue). ShareKey d.imports d.entries file) (one_directory file is.0 s.0 is.1 s.1.has) is.2 in
    shares_none s.0.imports file s.0.entries s.1.lists s.1.there s.1.apart share
represented_is_undamaged file damages.Kind store is =
    let s = sound file store in
    no_strange_kind s.0 file s.1 (subst (λ (d : DirectoryValue). HasStrangeKind d file) (one_directory file is.0 s.0 is.1 s.1.has) is.2)

-- ---- one damaged part

no_slots : (d : DirectoryValue) (file : List ℕ) → HasDirectory d file → IsDamaged damages.Slots file → ⊥
no_slots d file has is = is has.current has.content has.slot

module _ (file : List ℕ) where
  not_shared : (number : ℕ) → IsDamaged (damages.Segment number) file → IsDamaged damages.SharedKey file → ⊥
  not_shared number a b =
      let share = subst (λ (d : DirectoryValue). ShareKey d.imports d.entries file) (one_directory file b.0 a.0 b.1 a.1) b.2 in
      none_broken number a.0.imports file a.0.entries share.lists share.there a.2

  not_strange : (number : ℕ) → IsDamaged (damages.Segment number) file → IsDamaged damages.Kind file → ⊥
  not_strange number a b =
      let strange = subst (λ (d : DirectoryValue). HasStrangeKind d file) (one_directory file b.0 a.0 b.1 a.1) b.2 in
      none_broken number a.0.imports file a.0.entries strange.lists strange.there a.2

  not_both : IsDamaged damages.SharedKey file → IsDamaged damages.Kind file → ⊥
  not_both a b =
      let strange = subst (λ (d : DirectoryValue). HasStrangeKind d file) (one_directory file b.0 a.0 b.1 a.1) b.2 in
      shares_none a.0.imports file a.0.entries strange.lists strange.there strange.apart a.2

  same_number : (number other : ℕ) → IsDamaged (damages.Segment number) file → IsDamaged (damages.Segment other) file → number ≡ other
  same_number number other a b =
      one_number number other a.0.imports file a.0.entries a.2 (subst (λ (d : DirectoryValue). IsFirstBroken other d.imports d.entries file) (one_directory file b.0 a.0 b.1 a.1) b.2)

pub one_damage : OneDamage
one_damage file damages.Slots damages.Slots a b = refl
one_damage file damages.Slots damages.Directory a b = absurd (a b.0 b.1 b.2)
one_damage file damages.Slots (damages.Segment number) a b = absurd (no_slots b.0 file b.1 a)
one_damage file damages.Slots damages.SharedKey a b = absurd (no_slots b.0 file b.1 a)
one_damage file damages.Slots damages.Kind a b = absurd (no_slots b.0 file b.1 a)
one_damage file damages.Directory damages.Slots a b = absurd (b a.0 a.1 a.2)
one_damage file damages.Directory damages.Directory a b = refl
one_damage file damages.Directory (damages.Segment number) a b = absurd (no_directory file b.0 b.1 a)
one_damage file damages.Directory damages.SharedKey a b = absurd (no_directory file b.0 b.1 a)
one_damage file damages.Directory damages.Kind a b = absurd (no_directory file b.0 b.1 a)
one_damage file (damages.Segment number) damages.Slots a b = absurd (no_slots a.0 file a.1 b)
one_damage file (damages.Segment number) damages.Directory a b = absurd (no_directory file a.0 a.1 b)
one_damage file (damages.Segment number) (damages.Segment other) a b = ap damages.Segment (same_number file number other a b)
one_damage file (damages.Segment number) damages.SharedKey a b = absurd (not_shared file number a b)
one_damage file (damages.Segment number) damages.Kind a b = absurd (not_strange file number a b)
one_damage file damages.SharedKey damages.Slots a b = absurd (no_slots a.0 file a.1 b)
one_damage file damages.SharedKey damages.Directory a b = absurd (no_directory file a.0 a.1 b)
one_damage file damages.SharedKey (damages.Segment number) a b = absurd (not_shared file number b a)
one_damage file damages.SharedKey damages.SharedKey a b = refl
one_damage file damages.SharedKey damages.Kind a b = absurd (not_both file a b)
one_damage file damages.Kind damages.Slots a b = absurd (no_slots a.0 file a.1 b)
one_damage file damages.Kind damages.Directory a b = absurd (no_directory file a.0 a.1 b)
one_damage file damages.Kind (damages.Segment number) a b = absurd (not_strange file number b a)
one_damage file damages.Kind damages.SharedKey a b = absurd (not_both file b a)
one_damage file damages.Kind damages.Kind a b = refl

-- ---- why nothing is opened

not_slots : (file : List ℕ) → IsDamaged damages.Slots file → IsStore file → ⊥
not_slots file is store = represented_is_undamaged file damages.Slots store is

too_short : (file : List ℕ) → length file < 16384 → IsDamaged damages.Slots file
too_short file short current content is =
    let whole = is.0.whole in omega (arith, whole, short)

pub no_slot : (e : SlotFault) (file into : List ℕ) → ReadsCurrent (Err e) file into → IsNotOpened (of_slot e) file
no_slot slots.DiskFault file into is = tt
no_slot slots.NoSlot file into is = is
no_slot slots.ShortSlot file into is = (is.0, too_short file is.1, not_slots file (too_short file is.1))
no_slot slots.EqualEpochs file into is =
    let none : IsDamaged damages.Slots file = λ current content has. not_two_equal file current.slot current.epoch has.0 is.1 is.2 is.3 in
    (inl is.1, none, not_slots file none)

abbrev pub failed_load : LoadFault → Result Current LoadFault
failed_load e = Err e

pub slot_counts : (e : SlotFault) (a b c : ℕ) → b ≡ a → CountsSlotFault e b c → CountsLoading (failed_load (of_slot e)) a c
slot_counts slots.DiskFault a b c same counts = subst (λ (n : ℕ). HasRisen n c) same counts
slot_counts slots.NoSlot a b c same counts = counts ∙ same
slot_counts slots.ShortSlot a b c same counts = counts ∙ same
slot_counts slots.EqualEpochs a b c same counts = counts ∙ same

IsBad : DirectoryFault → Type 0
IsBad directories.BadDirectory = ⊥ → ⊥
IsBad directories.OutOfMemory = ⊥

pub bad_directory : (e : DirectoryFault) (file into : List ℕ) (current : Current) → IsCurrentWith current into file → ((d : DirectoryValue) → Lists into d → e ≡ directories.OutOfMemory) → IsNotOpened (of_directory e) file
unfolding IsBad
bad_directory directories.OutOfMemory file into current is only = some_gate file current.slot current.epoch is.0
bad_directory directories.BadDirectory file into current is only =
    let damaged : IsDamaged damages.Directory file = (current, into, is, λ d lists whole. subst IsBad (only d lists) (λ x. x)) in
    (some_gate file current.slot current.epoch is.0, damaged, λ store. represented_is_undamaged file damages.Directory store damaged)

-- the other slot isn't whole
pub bad_other : (e : LoadFault) (file into : List ℕ) (current : Current) (d : DirectoryValue) → IsCurrentWith current into file → Lists into d → (e ≡ loading.DiskFault) ⊎ (e ≡ loading.Damaged damages.Directory) → (e ≡ loading.Damaged damages.Directory → OtherIsWhole d.layout d.epoch current.slot file → ⊥) → IsNotOpened e file
bad_other e file into current d is lists (inl failed) why = subst (λ (f : LoadFault). IsNotOpened f file) (sym failed) tt
bad_other e file into current d is lists (inr bad) why =
    let one : (other : DirectoryValue) → Lists into other → OtherIsWhole other.layout other.epoch current.slot file → ⊥ =
    λ other also whole. why bad (subst (λ (l : DirectoryValue). OtherIsWhole l.layout l.epoch current.slot file) (one_listing into other d also lists) whole) in
    let damaged : IsDamaged damages.Directory file = (current, into, is, one) in
    subst (λ (f : LoadFault). IsNotOpened f file) (sym bad) (some_gate file current.slot current.epoch is.0, damaged, λ store. represented_is_undamaged file damages.Directory store damaged)

pub not_read : (e : LoadFault) (file into : List ℕ) (current : Current) (d : DirectoryValue) → IsCurrentWith current into file → Lists into d → OtherIsWhole d.layout d.epoch current.slot file → AreNotRead e d.imports d.entries file → IsNotOpened e file
not_read loading.OutOfMemory file into current d is lists whole why = some_gate file current.slot current.epoch is.0
not_read loading.DiskFault file into current d is lists whole why = tt
not_read loading.NotAStore file into current d is lists whole why = absurd why
not_read (loading.Damaged damages.Slots) file into current d is lists whole why = absurd why
not_read (loading.Damaged damages.Directory) file into current d is lists whole why = absurd why
not_read (loading.Damaged (damages.Segment number)) file into current d is lists whole why =
    let has : HasDirectory d file = record { current = current; content = into; slot = is; lists_it = lists; other_is_whole = whole } in
    let damaged : IsDamaged (damages.Segment number) file = (d, has, why) in
    (some_gate file current.slot current.epoch is.0, damaged, λ store. represented_is_undamaged file (damages.Segment number) store damaged)
not_read (loading.Damaged damages.SharedKey) file into current d is lists whole why =
    let has : HasDirectory d file = record { current = current; content = into; slot = is; lists_it = lists; other_is_whole = whole } in
    let damaged : IsDamaged damages.SharedKey file = (d, has, why) in
    (some_gate file current.slot current.epoch is.0, damaged, λ store. represented_is_undamaged file damages.SharedKey store damaged)
not_read (loading.Damaged damages.Kind) file into current d is lists whole why = absurd why

-- rows of a kind that the layout doesn't have
pub not_of_layout : (file into : List ℕ) (current : Current) (d : DirectoryValue) (lists : List (List StampedRow)) → IsCurrentWith current into file → Lists into d → OtherIsWhole d.layout d.epoch current.slot file → AreRead d.imports d.entries lists → HoldsAll (pieces_of d.entries lists) file
    → (All (AreOfLayout d.layout) lists → ⊥) → IsNotOpened (loading.Damaged damages.Kind) file
not_of_layout file into current d lists is listed whole read hold strange =
    let has : HasDirectory d file = record { current = current; content = into; slot = is; lists_it = listed; other_is_whole = whole } in
    let there : AreThere d.imports d.entries lists file = record { segments = read.segments; numbered = read.numbered; held = hold; sums = read.sums } in
    let kind : HasStrangeKind d file = record { lists = lists; there = there; apart = read.apart; strange = strange } in
    let damaged : IsDamaged damages.Kind file = (d, has, kind) in
    (some_gate file current.slot current.epoch is.0, damaged, λ store. represented_is_undamaged file damages.Kind store damaged)
