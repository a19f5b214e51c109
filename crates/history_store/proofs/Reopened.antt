-- What a store is opened as that was left at any moment.
use Rattle.std.proofs.Common.{◌⊎◌, inl, inr, ℕ, List, Ok, Err}
use Rattle.history_model.specs.History.{History}
use Rattle.directory.specs.declared.entry.Entry.{Entry}
use Rattle.directory.specs.declared.layout.Layout.{Layout}
use Rattle.directory.specs.declared.layout.Layout.TheVariants as layouts
use Rattle.segment.proofs.SegmentLaws.{one_segment}
use Rattle.store_image.specs.Images.{Represents}
use Rattle.store_image.proofs.First.{first_still_represents}
use Rattle.store_image.proofs.Standing.{represents_one}
use Rattle.blocks.proofs.Greatest.{some_gate}
use Rattle.blocks.specs.Slots.{IsOpen, IsClosed}
use Rattle.blocks.specs.declared.slots.Slot.TheVariants.{A, B}
use Rattle.store_image.specs.declared.fault.LoadFault.TheVariants as loading
use Rattle.history_store.specs.Laws.{FirstIsOpened, OpenedIsWhatIsRepresented, RepresentedIsOpened}

pub opened_is_what_is_represented : {D : Type 0} → OpenedIsWhatIsRepresented D
opened_is_what_is_represented s bytes h layout epoch entries stands is =
    let one = represents_one one_segment bytes s.history h s.catalog.layout layout s.catalog.epoch epoch s.catalog.entries entries is.stands stands in
    (one.0, λ i. record { layout = one.1 i; epoch = one.2 i; entries = one.3 i; merge = is.no_merge i })

gate_open : (bytes : List ℕ) (h : History) (layout : Layout) (epoch : ℕ) (entries : List Entry) → Represents bytes h layout epoch entries → IsOpen A bytes ⊎ IsOpen B bytes
gate_open bytes h layout epoch entries stands = some_gate bytes stands.slot epoch stands.stands.slot.0

no_gate : (bytes : List ℕ) → IsOpen A bytes ⊎ IsOpen B bytes → IsClosed A bytes × IsClosed B bytes → ⊥
no_gate bytes (inl a) closed = closed.0 a
no_gate bytes (inr b) closed = closed.1 b

pub represented_is_opened : RepresentedIsOpened
represented_is_opened bytes h layout epoch entries stands refusal (loading.OutOfMemory, is, why) = inl is
represented_is_opened bytes h layout epoch entries stands refusal (loading.DiskFault, is, why) = inr is
represented_is_opened bytes h layout epoch entries stands refusal (loading.NotAStore, is, why) = absurd (no_gate bytes (gate_open bytes h layout epoch entries stands) why)
represented_is_opened bytes h layout epoch entries stands refusal (loading.Damaged damage, is, why) = absurd (why.2 (h, (layout, (epoch, entries, stands))))

pub first_is_opened : {D : Type 0} → FirstIsOpened D
first_is_opened bytes h epoch entries stood (Ok s) is = opened_is_what_is_represented s bytes h layouts.One epoch entries ((first_still_represents bytes h epoch entries).0 stood) is
first_is_opened bytes h epoch entries stood (Err e) is = represented_is_opened bytes h layouts.One epoch entries ((first_still_represents bytes h epoch entries).0 stood) e.0 is
