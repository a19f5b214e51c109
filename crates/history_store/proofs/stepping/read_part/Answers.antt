use Rattle.std.specs.List.{AllByRecursion}
use Rattle.std.proofs.Common.{◌≤◌, ◌∙◌, List, length, ap, sym, subst}
use Rattle.history_model.specs.declared.stamped.StampedRow.{StampedRow}
use Rattle.history_model.specs.InOrder.{IsAscending}
use Rattle.history_model.specs.History.{stamped_cmp}
use Rattle.segment.specs.Records.{segment_in}
use Rattle.segment.proofs.SegmentLaws.{length-segment_in}
use Rattle.history_store.proofs.ReadRows.{from_one, read_are_stamped, read_ascend, read_bytes}
use Rattle.history_store.proofs.stepping.read_part.Goals as goal

pub encode-requires-clause-ascending : goal.encode-requires-clause-ascending
encode-requires-clause-ascending g c =
    subst (λ (l : List StampedRow). IsAscending stamped_cmp l) (sym c.deref.ensures.value) (read_ascend c.args.taken.now c.in-Ok.rows.items c.in-Ok.ensures.read c.requires)

pub encode-requires-clause-from_one : goal.encode-requires-clause-from_one
encode-requires-clause-from_one g c =
    subst (λ (l : List StampedRow). AllByRecursion (λ s. 1 ≤ s.import) l) (sym c.deref.ensures.value) (from_one c.in-Ok.rows.items (read_are_stamped c.args.taken.now c.in-Ok.rows.items c.in-Ok.ensures.read))

pub returns-clause-length : goal.returns-clause-length
returns-clause-length g c = ap length (c.in_ok-encode.ensures.bytes_are ∙ ap (segment_in c.args.form) c.deref.ensures.value) ∙ length-segment_in c.args.form c.in-Ok.rows.items ∙ read_bytes c.args.taken.now c.in-Ok.rows.items c.in-Ok.ensures.read
