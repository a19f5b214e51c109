use Rattle.std.proofs.Common.{sym, subst, arith}
use Rattle.blocks.specs.Slots.{IsShut}
use Rattle.directory.specs.Listings.{DirectoryValue, IsListing}
use Rattle.disk_model.specs.Disk.{LeavesOnly}
use Rattle.disk_model.proofs.MomentSteps.{at_end}
use Rattle.store_image.specs.Kept.{AreSummed, IsKept}
use Rattle.store_image.proofs.Damaged.{segments_count}
use Rattle.store_copy.specs.Copying.{copied_listing, lists_up_to}
use Rattle.store_copy.proofs.Copied.{closing_run, writing_run, opening_run}
use Rattle.store_copy.proofs.Gates.{Whole}
use Rattle.store_copy.proofs.Listing.{entries_summed}
use Rattle.store_copy.proofs.writing.write_copy.Goals as goal

pub copy_segments-requires-clause-from : goal.copy_segments-requires-clause-from
copy_segments-requires-clause-from g c = sym (segments_count c.args.from.now c.args.segments.now c.requires.from)

pub returns-in_err-close_both-clause-any_moment : goal.returns-in_err-close_both-clause-any_moment
returns-in_err-close_both-clause-any_moment g c = λ s t held none.
    let blank = c.args.copy.now in
    let copy = copied_listing blank.layout blank.imports c.args.segments.now in
    let lists = lists_up_to blank.imports c.args.segments.now in
    closing_run copy lists (g.T.Disk.view c.args.target.now).moments (g.T.Disk.view c.close_both.new.disk).moments (c.close_both.ensures.any_moment t none)

pub returns-in_err-copy_segments-clause-any_moment : goal.returns-in_err-copy_segments-clause-any_moment
returns-in_err-copy_segments-clause-any_moment g c = λ s t held none.
    let blank = c.args.copy.now in
    let copy = copied_listing blank.layout blank.imports c.args.segments.now in
    let lists = lists_up_to blank.imports c.args.segments.now in
    let m0 = (g.T.Disk.view c.args.target.now).moments in
    let m1 = (g.T.Disk.view c.close_both.new.disk).moments in
    let m2 = (g.T.Disk.view c.copy_segments.new.target).moments in
    let run = c.copy_segments.ensures.any_moment (c.close_both.ensures.meters.honesty.0 t) (c.in_ok-close_both.ensures.shut t none) in
    writing_run copy lists m0 m1 m2 (closing_run copy lists m0 m1 (c.close_both.ensures.any_moment t none)) run

pub returns-in_err-open_copy-clause-any_moment : goal.returns-in_err-open_copy-clause-any_moment
returns-in_err-open_copy-clause-any_moment g c = λ s t held none.
    let blank = c.args.copy.now in
    let copy = copied_listing blank.layout blank.imports c.args.segments.now in
    let lists = lists_up_to blank.imports c.args.segments.now in
    let listed = c.copy_segments.new.copy in
    let m0 = (g.T.Disk.view c.args.target.now).moments in
    let m1 = (g.T.Disk.view c.close_both.new.disk).moments in
    let m2 = (g.T.Disk.view c.copy_segments.new.target).moments in
    let m3 = (g.T.Disk.view c.open_copy.new.target).moments in
    let on = c.close_both.ensures.meters.honesty.0 t in
    let run = c.copy_segments.ensures.any_moment on (c.in_ok-close_both.ensures.shut t none) in
    let first = c.in_ok-close_both.ensures.long t none in
    let more = c.in_ok-copy_segments.ensures.long on in
    let is = c.in_ok-copy_segments.ensures.copied s on c.requires.from held in
    let kept = c.requires.kept (subst IsListing is c.in_ok-copy_segments.ensures.listing) in
    let opened = c.open_copy.ensures.any_moment (c.copy_segments.ensures.target_meters.honesty.0 on) lists (subst (λ (d : DirectoryValue). IsKept d lists) (sym is) kept) (subst (λ (d : DirectoryValue). AreSummed d.entries lists) (sym is) (entries_summed blank.layout 4 lists)) (at_end m1 m2 IsShut run) (omega (arith, first, more)) (c.in_ok-copy_segments.ensures.held s on c.requires.from held) in
    opening_run copy lists m0 m2 m3 (writing_run copy lists m0 m1 m2 (closing_run copy lists m0 m1 (c.close_both.ensures.any_moment t none)) run)
    (subst (λ (d : DirectoryValue). LeavesOnly m2 m3 (Whole d lists)) is opened)

pub returns-clause-any_moment : goal.returns-clause-any_moment
returns-clause-any_moment g c = λ s t held none.
    let blank = c.args.copy.now in
    let copy = copied_listing blank.layout blank.imports c.args.segments.now in
    let lists = lists_up_to blank.imports c.args.segments.now in
    let m0 = (g.T.Disk.view c.args.target.now).moments in
    let m1 = (g.T.Disk.view c.close_both.new.disk).moments in
    let m2 = (g.T.Disk.view c.copy_segments.new.target).moments in
    let m3 = (g.T.Disk.view c.open_copy.new.target).moments in
    let on = c.close_both.ensures.meters.honesty.0 t in
    let run = c.copy_segments.ensures.any_moment on (c.in_ok-close_both.ensures.shut t none) in
    let first = c.in_ok-close_both.ensures.long t none in
    let more = c.in_ok-copy_segments.ensures.long on in
    let is = c.in_ok-copy_segments.ensures.copied s on c.requires.from held in
    let kept = c.requires.kept (subst IsListing is c.in_ok-copy_segments.ensures.listing) in
    let opened = c.open_copy.ensures.any_moment (c.copy_segments.ensures.target_meters.honesty.0 on) lists (subst (λ (d : DirectoryValue). IsKept d lists) (sym is) kept) (subst (λ (d : DirectoryValue). AreSummed d.entries lists) (sym is) (entries_summed blank.layout 4 lists)) (at_end m1 m2 IsShut run) (omega (arith, first, more)) (c.in_ok-copy_segments.ensures.held s on c.requires.from held) in
    opening_run copy lists m0 m2 m3 (writing_run copy lists m0 m1 m2 (closing_run copy lists m0 m1 (c.close_both.ensures.any_moment t none)) run)
    (subst (λ (d : DirectoryValue). LeavesOnly m2 m3 (Whole d lists)) is opened)

pub returns-clause-on_disk : goal.returns-clause-on_disk
returns-clause-on_disk g c = λ s t held none.
    let blank = c.args.copy.now in
    let lists = lists_up_to blank.imports c.args.segments.now in
    let m1 = (g.T.Disk.view c.close_both.new.disk).moments in
    let m2 = (g.T.Disk.view c.copy_segments.new.target).moments in
    let on = c.close_both.ensures.meters.honesty.0 t in
    let run = c.copy_segments.ensures.any_moment on (c.in_ok-close_both.ensures.shut t none) in
    let first = c.in_ok-close_both.ensures.long t none in
    let more = c.in_ok-copy_segments.ensures.long on in
    let is = c.in_ok-copy_segments.ensures.copied s on c.requires.from held in
    let kept = c.requires.kept (subst IsListing is c.in_ok-copy_segments.ensures.listing) in
    c.in_ok-open_copy.ensures.on_disk (c.copy_segments.ensures.target_meters.honesty.0 on) lists (subst (λ (d : DirectoryValue). IsKept d lists) (sym is) kept) (subst (λ (d : DirectoryValue). AreSummed d.entries lists) (sym is) (entries_summed blank.layout 4 lists)) (at_end m1 m2 IsShut run) (omega (arith, first, more)) (c.in_ok-copy_segments.ensures.held s on c.requires.from held)
