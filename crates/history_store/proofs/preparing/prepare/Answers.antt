use Rattle.std.proofs.Common.{vec_len, ◌≡◌, rules, arith, ◌+◌, ◌≤◌, ◌<◌, ◌^◌, List, length, sym, ap, subst, ◌∙◌}
use Rattle.history_model.specs.declared.stamped.StampedRow.{StampedRow}
use Rattle.history_model.specs.History.{stamped}
use Rattle.history_model.proofs.Receipts.{length-stamped}
use Rattle.segment.specs.Records.{IsSegmentIn, segment_of}
use Rattle.segment_index.specs.Indexed.{SegmentRows}
use Rattle.history_store.specs.MergeInProgress.{merge_of}
use Rattle.history_store.specs.Private.Prepared.{IsPlacedAt}
use Rattle.checksum.specs.Crc32c.{crc32c}
use Rattle.checksum.specs.declared.form.Form.{Form}
use Rattle.directory.specs.declared.layout.Layout.{Layout}
use Rattle.directory.specs.declared.entry.Entry.{Entry}
use Rattle.directory.specs.Listings.{form_of, sums_of}
use Rattle.segment.proofs.Posting.{rows_at_most_bytes}
use Rattle.history_store.proofs.NewSegment.{added_listing, prepared_is}
use Rattle.history_store.proofs.preparing.prepare.Goals as goal

pub place_all-requires-clause-short : goal.place_all-requires-clause-short
place_all-requires-clause-short c =
    let same = ap (stamped (c.args.directory.now.imports + 1)) c.deref.ensures.value ∙ ap (λ n. stamped (n + 1) c.args.fresh.items) (sym c.imports.ensures) in
    subst (λ (l : List StampedRow). length (segment_of l) < 2 ^ 32) same c.in_ok-extent.ensures.placed.short

pub overflow_cast-rows : goal.overflow_cast-rows
overflow_cast-rows c =
    let rows = stamped (c.args.directory.now.imports + 1) c.deref.result.now in
    let below = rows_at_most_bytes rows in
    let short = c.in_ok-extent.ensures.placed.short in
    let long = length-stamped (c.args.directory.now.imports + 1) c.deref.result.now in
    let same = ap length c.deref.ensures.value in
    omega arith

pub add-requires : goal.add-requires
add-requires c =
    let rows = stamped (c.args.directory.now.imports + 1) c.deref.result.now in
    let long = length-stamped (c.args.directory.now.imports + 1) c.deref.result.now ∙ ap length c.deref.ensures.value in
    let some = subst (λ n. 1 ≤ n) (sym long) c.requires.some in
    let entry : Entry = record { first = c.in_ok-extent.extent.first; bytes = c.in_ok-extent.extent.bytes; rows = c.len-rows.result; sums = c.sums.result } in
    let len : vec_len c.args.fresh ≡ length c.args.fresh.items = search (rules) in
    let count : entry.rows ≡ length rows = c.len-rows.ensures ∙ len ∙ sym long in
    added_listing c.args.directory.now c.in_ok-next.next (merge_of c.args.merge.now) rows entry c.crc32c.result c.find_room.ensures.listing c.requires.not_spent some c.in_ok-extent.ensures.placed count
    (c.sums.ensures ∙ ap (λ (l : Layout). sums_of l c.crc32c.result) c.layout-layout.ensures) (search rules) c.in_ok-next.ensures

pub returns-clause-prepared : goal.returns-clause-prepared
returns-clause-prepared c =
    let d = c.args.directory.now in
    let rows = stamped (d.imports + 1) c.deref.result.now in
    let list = ap (stamped (d.imports + 1)) c.deref.ensures.value in
    let own = ap (λ n. stamped (n + 1) c.args.fresh.items) c.imports.ensures in
    let long = length-stamped (d.imports + 1) c.deref.result.now ∙ ap length c.deref.ensures.value in
    let some = subst (λ n. 1 ≤ n) (sym long) c.requires.some in
    let sums = c.sums.ensures ∙ ap (λ (l : Layout). sums_of l c.crc32c.result) c.layout-layout.ensures in
    let entry : Entry = record { first = c.in_ok-extent.extent.first; bytes = c.in_ok-extent.extent.bytes; rows = c.len-rows.result; sums = c.sums.result } in
    let len : vec_len c.args.fresh ≡ length c.args.fresh.items = search (rules) in
    let count : entry.rows ≡ length rows = c.len-rows.ensures ∙ len ∙ sym long in
    let listing = added_listing d c.in_ok-next.next (merge_of c.args.merge.now) rows entry c.crc32c.result c.find_room.ensures.listing c.requires.not_spent some c.in_ok-extent.ensures.placed count sums (search rules) c.in_ok-next.ensures in
    let placed = subst (λ (l : List StampedRow). IsPlacedAt d (merge_of c.args.merge.now) l c.in_ok-extent.extent) list c.in_ok-extent.ensures.placed in
    let segment = subst (λ (f : Form). IsSegmentIn f (stamped (d.imports + 1) c.args.fresh.items) c.in_ok-bytes.field-0.bytes.items) (c.form.ensures ∙ ap form_of c.layout-layout.ensures) (subst (λ (l : List StampedRow). IsSegmentIn c.form.result l c.in_ok-bytes.field-0.bytes.items) own c.in_ok-bytes.ensures.segment) in
    let index = ap (λ (s : SegmentRows). s.rows) c.in_ok-bytes.ensures.index ∙ own in
    prepared_is d (merge_of c.args.merge.now) _ _ c.in_ok-next.next listing placed (count ∙ ap length list) (sums ∙ ap (sums_of d.layout) (c.crc32c.ensures ∙ ap crc32c c.deref-2.ensures.value)) c.in_ok-next.ensures c.add.ensures index segment

pub returns-clause-words : goal.returns-clause-words
returns-clause-words c = ap (λ (s : SegmentRows). s.words) c.in_ok-bytes.ensures.index
