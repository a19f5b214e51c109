-- What making, opening and closing a store are in its life.
use Rattle.std.proofs.Common.{◌⊎◌, inl, inr, Ok, Err, [], refl}
use Rattle.std.specs.Prelude.{IfOk}
use Rattle.disk_model.specs.Disk.{IsImage}
use Rattle.history_store.specs.StoreValue.{IsAcknowledged}
use Rattle.history_store.specs.Answers.{StoreOr}
use Rattle.directory.specs.declared.layout.Layout.{Layout}
use Rattle.history_store.specs.Openings.{IsMaking, IsOpening}
use Rattle.history_store.proofs.Reopened.{opened_is_what_is_represented}
use Rattle.disk_model.specs.View.{DiskView}
use Rattle.store_life.specs.Life.{IsOpenedFrom}
use Rattle.store_life.specs.Laws.{EachLifeBegins, EachOpeningIsOfALife, ClosedStoreIsOpened}

module _ {D : Type 0} (view : D → DiskView) (disk : D) (up : (view disk).is_honest) where
  begins : (layout : Layout) (result : StoreOr D) → (IsMaking layout result view disk ⊎ IsOpening result view disk)
      → IfOk result (λ s. (view s.disk).is_honest × IsAcknowledged view s)
  begins layout (Ok s) (inl made) = (made.honesty.0 up, made.acknowledged up)
  begins layout (Ok s) (inr opened) = (opened.honesty.0 up, opened.acknowledged up)
  begins layout (Err e) had = tt

  opened_from : (result : StoreOr D) → IsOpening result view disk
      → IfOk result (IsOpenedFrom view (view disk).moments.state.now disk)
  opened_from (Ok s) opening = record { is_honest = up; read = refl; exact = opening.exact up; acknowledged = opening.acknowledged up; honesty = opening.honesty.0 up }
  opened_from (Err e) opening = tt

pub each_life_begins : (D : Type 0) (view : D → DiskView) → EachLifeBegins D view
each_life_begins D view disk layout result up had = begins view disk up layout result had

pub each_opening_is_of_a_life : (D : Type 0) (view : D → DiskView) → EachOpeningIsOfALife D view
each_opening_is_of_a_life D view disk result up opening = (opened_from view disk up result opening, λ moment left crash is_left. record { is_honest = up; read = refl; crash = crash; any_moment = opening.any_moment up; moment = moment; is_left = is_left })

pub closed_store_is_opened : (D : Type 0) (view : D → DiskView) → ((disk : D) → (view disk).is_honest → IsImage (view disk).moments.state (view disk).moments.state.now) → ClosedStoreIsOpened D view
closed_store_is_opened D view now_is_image old new up opening =
    let bytes = (view old.disk).moments.state.now in
    let image = now_is_image old.disk up in (
      ((view old.disk).moments, bytes, [], record { before = []; behind = []; since = refl; grows = refl; image = image }, (old.disk, opened_from view old.disk up (Ok new) opening)),
      λ ack. opened_is_what_is_represented new bytes old.history old.catalog.layout old.catalog.epoch old.catalog.entries (ack.each bytes image) (opening.exact up),
    )
