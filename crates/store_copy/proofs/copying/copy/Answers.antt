use Rattle.std.proofs.Common.{inl, List, length, sym, ap, subst, ◌∙◌, arith, rules}
use Rattle.std.proofs.lemmas.Result.{err_from_is_err_and}
use Rattle.disk_model.specs.Disk.{Moments}
use Rattle.disk_model.proofs.MomentSteps.{stayed}
use Rattle.directory.specs.declared.entry.Entry.{Entry}
use Rattle.directory.specs.Listings.{IsListing}
use Rattle.history_model.specs.declared.stamped.StampedRow.{StampedRow}
use Rattle.store_image.specs.Kept.{IsKept, bytes_listed}
use Rattle.store_copy.specs.Copying.{copied_listing, lists_up_to}
use Rattle.store_copy.specs.Private.Writing.{MayBeListed}
use Rattle.store_copy.proofs.Copied.{copy_kept, copy_run, has_copied, held_still, is_blank, is_listed, within_own}
use Rattle.store_copy.proofs.copying.copy.Goals as goal

pub returns-in_err-of-clause-any_moment : goal.returns-in_err-of-clause-any_moment
returns-in_err-of-clause-any_moment g c = λ s t. stayed _ _ _ (c.check_empty.ensures.moments t) (λ f image. inl image)

pub write_copy-requires-clause-blank : goal.write_copy-requires-clause-blank
write_copy-requires-clause-blank g c =
    let l = c.in_ok-of.field-0 in
    is_blank c.args.imports c.args.layout l.of l.segments.items l.copy c.in_ok-of.ensures.planned

pub write_copy-requires-clause-listed : goal.write_copy-requires-clause-listed
write_copy-requires-clause-listed g c =
    let l = c.in_ok-of.field-0 in
    subst (MayBeListed l.copy.layout l.copy.imports) (sym c.as_slice.ensures.value) (is_listed c.args.imports c.args.layout l.of l.segments.items l.copy c.in_ok-of.ensures.planned)

pub write_copy-requires-clause-kept : goal.write_copy-requires-clause-kept
write_copy-requires-clause-kept g c =
    let l = c.in_ok-of.field-0 in
    subst (λ (lists : List (List StampedRow)). IsListing (copied_listing l.copy.layout l.copy.imports lists) → IsKept (copied_listing l.copy.layout l.copy.imports lists) (lists_up_to l.copy.imports lists)) (sym c.as_slice.ensures.value) (copy_kept c.args.imports c.args.layout l.of l.segments.items l.copy c.in_ok-of.ensures.planned)

pub returns-in_err-write_copy-clause-any_moment : goal.returns-in_err-write_copy-clause-any_moment
returns-in_err-write_copy-clause-any_moment g c = λ s t.
    let l = c.in_ok-of.field-0 in
    let file = (g.S.Disk.view c.args.source.now).moments.state.now in
    let m0 = (g.T.Disk.view c.args.target.now).moments in
    let m1 = (g.T.Disk.view c.check_empty.new.disk).moments in
    let m2 = (g.T.Disk.view c.write_copy.new.target).moments in
    let same = c.check_empty.ensures.moments t in
    let none = ap (λ (m : Moments). length m.state.now) same ∙ c.in_ok-check_empty.ensures.exact t in
    let has = c.in_ok-of.ensures.read s in
    let planned = c.in_ok-of.ensures.planned in
    let held = held_still c.args.imports c.args.layout l.of l.segments.items l.copy planned l.slot file has c.entries-from.result.now c.as_slice.result.now (g.S.Disk.view c.read_and_plan.new.source).moments.state.now c.entries-from.ensures.entries c.as_slice.ensures.value (c.read_and_plan.ensures.now s) in
    copy_run c.args.imports c.args.layout l.of l.segments.items l.copy planned l.slot file has m0 m1 m2 c.as_slice.result.now same c.as_slice.ensures.value
    (c.write_copy.ensures.any_moment (c.read_and_plan.ensures.meters.honesty.0 s) (c.check_empty.ensures.meters.honesty.0 t) held none)

pub returns-clause-any_moment : goal.returns-clause-any_moment
returns-clause-any_moment g c = λ s t.
    let l = c.in_ok-of.field-0 in
    let file = (g.S.Disk.view c.args.source.now).moments.state.now in
    let m0 = (g.T.Disk.view c.args.target.now).moments in
    let m1 = (g.T.Disk.view c.check_empty.new.disk).moments in
    let m2 = (g.T.Disk.view c.write_copy.new.target).moments in
    let same = c.check_empty.ensures.moments t in
    let none = ap (λ (m : Moments). length m.state.now) same ∙ c.in_ok-check_empty.ensures.exact t in
    let has = c.in_ok-of.ensures.read s in
    let planned = c.in_ok-of.ensures.planned in
    let held = held_still c.args.imports c.args.layout l.of l.segments.items l.copy planned l.slot file has c.entries-from.result.now c.as_slice.result.now (g.S.Disk.view c.read_and_plan.new.source).moments.state.now c.entries-from.ensures.entries c.as_slice.ensures.value (c.read_and_plan.ensures.now s) in
    copy_run c.args.imports c.args.layout l.of l.segments.items l.copy planned l.slot file has m0 m1 m2 c.as_slice.result.now same c.as_slice.ensures.value
    (c.write_copy.ensures.any_moment (c.read_and_plan.ensures.meters.honesty.0 s) (c.check_empty.ensures.meters.honesty.0 t) held none)

pub returns-clause-copied : goal.returns-clause-copied
returns-clause-copied g c = λ s t.
    let l = c.in_ok-of.field-0 in
    let file = (g.S.Disk.view c.args.source.now).moments.state.now in
    let same = c.check_empty.ensures.moments t in
    let none = ap (λ (m : Moments). length m.state.now) same ∙ c.in_ok-check_empty.ensures.exact t in
    let has = c.in_ok-of.ensures.read s in
    let planned = c.in_ok-of.ensures.planned in
    let on = c.read_and_plan.ensures.meters.honesty.0 s in
    let onto = c.check_empty.ensures.meters.honesty.0 t in
    let held = held_still c.args.imports c.args.layout l.of l.segments.items l.copy planned l.slot file has c.entries-from.result.now c.as_slice.result.now (g.S.Disk.view c.read_and_plan.new.source).moments.state.now c.entries-from.ensures.entries c.as_slice.ensures.value (c.read_and_plan.ensures.now s) in
    has_copied c.args.imports c.args.layout l.of l.segments.items l.copy planned l.slot file has (g.T.Disk.view c.write_copy.new.target).moments.state c.write_copy.new.copy c.as_slice.result.now c.as_slice.ensures.value
    (c.in_ok-write_copy.ensures.copied on onto held) (c.in_ok-write_copy.ensures.on_disk on onto held none)

pub returns-in_err-of-clause-refused : goal.returns-in_err-of-clause-refused
returns-in_err-of-clause-refused g c = λ s t.
    let none = c.in_ok-check_empty.ensures.exact t in
    let p = err_from_is_err_and c.from_residual-in_err-of.result c.from_residual-in_err-of.ensures.1 in
    rw (p.1, p.2) (c.in_err-of.ensures.refused s (g.T.Disk.view c.args.target.now).moments.state.now none)

pub returns-clause-source_meters : goal.returns-clause-source_meters
returns-clause-source_meters g c = record {
  honesty = search rules;
  failures = search rules;
  bytes_read =
      let l = c.in_ok-of.field-0 in
      let planned = c.in_ok-of.ensures.planned in
      let own = within_own c.args.imports c.args.layout l.of l.segments.items l.copy planned in
      let same = c.in_ok-write_copy.ensures.imports in
      let listed = ap (λ (es : List Entry). bytes_listed es) c.entries-from.ensures.entries in
      record {
        directory = l.of;
        lists = l.segments.items;
        kept = planned.kept;
        within = omega (arith, own, same);
        is = λ s. (l.slot, c.in_ok-of.ensures.read s);
        reads = omega (arith, c.in_ok-of.ensures.meters.bytes_read, c.write_copy.ensures.source_meters.bytes_read, listed);
      };
  other_calls = search rules;
}
