use Rattle.std.proofs.Common.{◌+◌, List, length, ap, ◌∙◌, arith}
use Rattle.std.proofs.lemmas.List.{take_all}
use Rattle.history_model.specs.declared.stamped.StampedRow.{StampedRow}
use Rattle.segment.specs.Records.{segment_of}
use Rattle.segment.proofs.Posting.{as_many_places as places_long}
use Rattle.store_copy.specs.declared.planning.Size.{Size}
use Rattle.store_copy.specs.Copying.{up_to}
use Rattle.store_copy.proofs.Listing.{fewer}
use Rattle.store_copy.proofs.Steps.{step_at, kept_bytes, kept_rows, left_out, taken_fewer, none_bytes, none_rows}
use Rattle.store_copy.proofs.planning.size_up_to.Goals as goal
use Rattle.store_copy.proofs.planning.size_up_to.Goals.{then-place-imports, else-place-imports}

pub loop-place-init : goal.loop-place-init
loop-place-init c = record { bytes = none_bytes c.args.imports; rows = none_rows c.args.imports }

pub overflow_add-size : goal.overflow_add-size
overflow_add-size c =
    let n = c.args.imports in
    let rows = c.args.segment.now in
    let i = c.loop-place.place-index in
    let step = step_at rows c.places-place-items.result.now i c.place-item.result c.places-place-items.ensures c.loop-place-test.true c.place-item.is in
    let more = kept_bytes n rows i c.place-item.result step c.if-place-imports.true in
    omega (arith, more, c.loop-place.invariant.bytes, (taken_fewer n rows (i + 1)).0, (fewer n rows).0, c.requires.0)

pub overflow_add-size-then-place-imports : goal.overflow_add-size-then-place-imports
overflow_add-size-then-place-imports c =
    let n = c.args.imports in
    let rows = c.args.segment.now in
    let i = c.loop-place.place-index in
    let step = step_at rows c.places-place-items.result.now i c.place-item.result c.places-place-items.ensures c.loop-place-test.true c.place-item.is in
    let more = kept_rows n rows i c.place-item.result step c.if-place-imports.true in
    omega (arith, more, c.loop-place.invariant.rows, (taken_fewer n rows (i + 1)).1, (fewer n rows).1, c.requires.1)

pub loop-place-preserved : goal.loop-place-preserved
loop-place-preserved c =
    let n = c.args.imports in
    let rows = c.args.segment.now in
    let i = c.loop-place.place-index in
    let step = step_at rows c.places-place-items.result.now i c.place-item.result c.places-place-items.ensures c.loop-place-test.true c.place-item.is in
    let inv = c.loop-place.invariant in
    elim c.if-place-imports.branch [
      | then-place-imports w ↦ record {
        bytes = let more = kept_bytes n rows i c.place-item.result step w.if-place-imports.true in let is = ap (λ (s : Size). s.bytes) w.size-is in omega (arith, more, inv.bytes, is);
        rows = let more = kept_rows n rows i c.place-item.result step w.if-place-imports.true in let is = ap (λ (s : Size). s.rows) w.size-is in omega (arith, more, inv.rows, is);
      }
      | else-place-imports w ↦ record {
        bytes = let same = ap (λ (l : List StampedRow). length (segment_of l)) (left_out n rows i c.place-item.result step (omega (arith, w.if-place-imports.false))) in let is = ap (λ (s : Size). s.bytes) w.size-is in omega (arith, same, inv.bytes, is);
        rows = let same = ap length (left_out n rows i c.place-item.result step (omega (arith, w.if-place-imports.false))) in let is = ap (λ (s : Size). s.rows) w.size-is in omega (arith, same, inv.rows, is);
      }
    ]

pub returns-clause-bytes : goal.returns-clause-bytes
returns-clause-bytes c =
    let rows = c.args.segment.now in
    let long = ap length c.places-place-items.ensures ∙ places_long 0 rows in
    c.loop-place.invariant.bytes ∙ ap (λ (l : List StampedRow). length (segment_of (up_to c.args.imports l))) (take_all c.loop-place.place-index rows (omega (arith, c.loop-place-test.false, long)))

pub returns-clause-rows : goal.returns-clause-rows
returns-clause-rows c =
    let rows = c.args.segment.now in
    let long = ap length c.places-place-items.ensures ∙ places_long 0 rows in
    c.loop-place.invariant.rows ∙ ap (λ (l : List StampedRow). length (up_to c.args.imports l)) (take_all c.loop-place.place-index rows (omega (arith, c.loop-place-test.false, long)))
