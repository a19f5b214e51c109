use Rattle.std.proofs.Common.{ℕ, List, length, ap, ◌∙◌}
use Rattle.disk_model.specs.Disk.{DiskState, Moments}
use Rattle.disk_model.proofs.Images.{same_but_all}
use Rattle.disk_model.proofs.MomentSteps.{stayed, from_same}
use Rattle.blocks.specs.Outside.{StemsWithin}
use Rattle.blocks.specs.Slots.{slots_range}
use Rattle.store_image.proofs.Empty.{first_epoch, empty_on_disk, empty_stands, new_bytes}
use Rattle.store_image.proofs.making.make.Goals as goal

pub format_slots-requires : goal.format_slots-requires
format_slots-requires g c = first_epoch c.content_of-content.result c.args.layout c.in_ok-directory.directory c.in_ok-directory.ensures c.content_of-content.ensures

pub returns-clause-on_disk : goal.returns-clause-on_disk
returns-clause-on_disk g c honest =
    empty_on_disk _ c.content_of-content.result c.args.layout c.in_ok-directory.directory c.in_ok-current.current c.in_ok-directory.ensures c.content_of-content.ensures c.in_ok-current.ensures.next (c.in_ok-current.ensures.fresh (c.in_ok-check_empty.ensures.meters.honesty.0 honest))

pub returns-clause-stands : goal.returns-clause-stands
returns-clause-stands g c honest =
    empty_stands _ c.content_of-content.result c.args.layout c.in_ok-directory.directory c.in_ok-current.current c.in_ok-directory.ensures c.content_of-content.ensures c.in_ok-current.ensures.next (c.in_ok-current.ensures.fresh (c.in_ok-check_empty.ensures.meters.honesty.0 honest))

pub returns-clause-bytes : goal.returns-clause-bytes
returns-clause-bytes g c honest =
    let first = c.in_ok-check_empty.ensures.meters.honesty.0 honest in
    let new = c.in_ok-current.ensures.meters.honesty.0 first in
    let none = c.in_ok-check_empty.ensures.exact honest in
    let same = ap (λ (m : Moments). length m.state.now) (c.in_ok-check_empty.ensures.moments honest) in
    new_bytes _ _ c.content_of-content.result c.args.layout c.in_ok-directory.directory (same ∙ none) c.in_ok-directory.ensures c.content_of-content.ensures (g.met.D.Disk.now_is_image c.format_slots.new.disk new) (c.in_ok-current.ensures.fresh first) (c.in_ok-current.ensures.elsewhere first)

pub returns-in_err-check_empty-clause-inside : goal.returns-in_err-check_empty-clause-inside
returns-in_err-check_empty-clause-inside g c honest = stayed _ _ _ (c.check_empty.ensures.moments honest) (λ f image. (f, image, same_but_all 0 16384 f))

pub returns-in_err-directory-clause-inside : goal.returns-in_err-directory-clause-inside
returns-in_err-directory-clause-inside g c honest = stayed _ _ _ (c.check_empty.ensures.moments honest) (λ f image. (f, image, same_but_all 0 16384 f))

pub returns-in_err-current-clause-inside : goal.returns-in_err-current-clause-inside
returns-in_err-current-clause-inside g c honest =
    let old = (g.D.Disk.view c.args.disk.now).moments in
    from_same old _ _ (λ (s : DiskState) (f : List ℕ). StemsWithin s slots_range f) (StemsWithin old.state slots_range) (c.check_empty.ensures.moments honest) (c.format_slots.ensures.any_moment (c.check_empty.ensures.meters.honesty.0 honest)) (λ f stems. stems)

pub returns-clause-inside : goal.returns-clause-inside
returns-clause-inside g c honest =
    let old = (g.D.Disk.view c.args.disk.now).moments in
    from_same old _ _ (λ (s : DiskState) (f : List ℕ). StemsWithin s slots_range f) (StemsWithin old.state slots_range) (c.check_empty.ensures.moments honest) (c.format_slots.ensures.any_moment (c.check_empty.ensures.meters.honesty.0 honest)) (λ f stems. stems)
