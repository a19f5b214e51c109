use Rattle.std.proofs.Common.{◌≤◌, List, length, sym, ap, subst, ◌∙◌, arith}
use Rattle.std.specs.List.{AllByRecursion}
use Rattle.std.proofs.lemmas.List.{map-id}
use Rattle.std.proofs.lemmas.Result.{err_from_is_err_and}
use Rattle.directory.specs.Listings.{most_entries}
use Rattle.history_model.specs.declared.stamped.StampedRow.{StampedRow}
use Rattle.store_image.specs.Kept.{IsKept}
use Rattle.store_image.proofs.Damaged.{segments_count}
use Rattle.store_image.specs.OnDisk.{HasStore}
use Rattle.store_copy.specs.Answers.{Shown}
use Rattle.blocks.specs.Extents.{block_limit}
use Rattle.store_copy.specs.Copying.{chosen, end_from, lists_up_to}
use Rattle.store_copy.specs.Private.Writing.{MayBeSegment}
use Rattle.store_copy.proofs.Copied.{blank_is, chosen_not_lower, chosen_within, no_room, not_chosen, not_lowered}
use Rattle.store_copy.proofs.Listing.{entries_rise, segments_small}
use Rattle.store_copy.proofs.copying.read_and_plan.Goals as goal

pub returns-in_err-imports-clause-refused : goal.returns-in_err-imports-clause-refused
returns-in_err-imports-clause-refused g c = λ honest.
    let file = (g.S.Disk.view c.args.source.now).moments.state.now in
    let l = c.in_ok-slot.field-0 in
    let of : Shown file = record { slot = l.slot; directory = l.directory; lists = l.segments.items; is = subst (λ (r : List (List StampedRow)). HasStore l.slot l.directory r file) (map-id l.segments.items) (c.in_ok-slot.ensures.exact honest) } in
    let p = err_from_is_err_and c.from_residual-in_err-imports.result c.from_residual-in_err-imports.ensures.1 in
    rw (p.1, p.2) (λ target none. not_chosen c.args.imports c.args.layout file target none of c.in_err-imports.field-0.0 c.imports.result c.imports.ensures c.in_err-imports.ensures)

pub check_room-requires : goal.check_room-requires
check_room-requires g c =
    let l = c.in_ok-slot.field-0 in
    let kept = subst (λ (r : List (List StampedRow)). IsKept l.directory r) (map-id l.segments.items) c.in_ok-slot.ensures.kept in
    subst (AllByRecursion MayBeSegment) (sym c.as_slice.ensures.value) (segments_small l.directory.entries l.segments.items kept.listing.entries kept.segments)

pub returns-in_err-layout-clause-refused : goal.returns-in_err-layout-clause-refused
returns-in_err-layout-clause-refused g c = λ honest.
    let file = (g.S.Disk.view c.args.source.now).moments.state.now in
    let l = c.in_ok-slot.field-0 in
    let of : Shown file = record { slot = l.slot; directory = l.directory; lists = l.segments.items; is = subst (λ (r : List (List StampedRow)). HasStore l.slot l.directory r file) (map-id l.segments.items) (c.in_ok-slot.ensures.exact honest) } in
    let p = err_from_is_err_and c.from_residual-in_err-layout.result c.from_residual-in_err-layout.ensures.1 in
    let within = chosen_within c.args.imports c.imports.result l.directory.imports c.in_ok-imports.imports c.imports.ensures c.in_ok-imports.ensures in
    rw (p.1, p.2) (λ target none. not_lowered c.args.imports c.args.layout file target none of c.in_err-layout.field-0.0 within c.layout.result c.layout.ensures c.in_err-layout.ensures)

pub returns-in_err-check_room-clause-refused : goal.returns-in_err-check_room-clause-refused
returns-in_err-check_room-clause-refused g c = λ honest.
    let file = (g.S.Disk.view c.args.source.now).moments.state.now in
    let l = c.in_ok-slot.field-0 in
    let of : Shown file = record { slot = l.slot; directory = l.directory; lists = l.segments.items; is = subst (λ (r : List (List StampedRow)). HasStore l.slot l.directory r file) (map-id l.segments.items) (c.in_ok-slot.ensures.exact honest) } in
    let p = err_from_is_err_and c.from_residual-in_err-check_room.result c.from_residual-in_err-check_room.ensures.1 in
    let same = c.in_ok-imports.ensures.0 ∙ ap (chosen c.args.imports) c.imports.ensures in
    let within = chosen_within c.args.imports c.imports.result l.directory.imports c.in_ok-imports.imports c.imports.ensures c.in_ok-imports.ensures in
    let not_lower = chosen_not_lower c.args.layout c.layout.result l.directory.layout c.in_ok-layout.layout c.layout.ensures c.in_ok-layout.ensures in
    rw (p.1, p.2) (λ target none. no_room c.args.imports c.args.layout file target none of c.in_err-check_room.field-0.0 within not_lower c.in_ok-imports.imports c.as_slice.result.now same c.as_slice.ensures.value c.in_err-check_room.ensures.refused)

pub returns-clause-planned : goal.returns-clause-planned
returns-clause-planned g c =
    let l = c.in_ok-slot.field-0 in
    let kept = subst (λ (r : List (List StampedRow)). IsKept l.directory r) (map-id l.segments.items) c.in_ok-slot.ensures.kept in
    let imports_are = c.in_ok-imports.ensures.0 ∙ ap (chosen c.args.imports) c.imports.ensures in
    let layout_is = c.in_ok-layout.ensures.0 ∙ ap (chosen c.args.layout) c.layout.ensures in
    let not_lower = chosen_not_lower c.args.layout c.layout.result l.directory.layout c.in_ok-layout.layout c.layout.ensures c.in_ok-layout.ensures in
    let within = chosen_within c.args.imports c.imports.result l.directory.imports c.in_ok-imports.imports c.imports.ensures c.in_ok-imports.ensures in
    let all = kept.listing.imports in
    let count = kept.listing.count in
    let few : length l.segments.items ≤ most_entries l.directory.layout = omega (arith, segments_count l.directory.entries l.segments.items kept.segments, count) in
    let rises = entries_rise l.directory.layout (chosen c.args.layout l.directory.layout) not_lower in
    let fits = subst (λ (lists : List (List StampedRow)). end_from 4 (lists_up_to c.in_ok-imports.imports lists) ≤ block_limit) c.as_slice.ensures.value c.in_ok-check_room.ensures.fits in
    record {
      kept = kept;
      within = within;
      not_lower = not_lower;
      blank = blank_is c.in_ok-layout.layout (chosen c.args.layout l.directory.layout) c.in_ok-imports.imports (chosen c.args.imports l.directory.imports) c.in_ok-copy.copy c.advance.new.self layout_is imports_are c.in_ok-copy.ensures c.advance.ensures;
      listed = record {
        imports = omega (arith, within, all);
        few = omega (arith, few, rises);
        small = segments_small l.directory.entries l.segments.items kept.listing.entries kept.segments;
        fits = subst (λ n. end_from 4 (lists_up_to n l.segments.items) ≤ block_limit) imports_are fits;
      };
    }
