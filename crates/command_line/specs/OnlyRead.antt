-- Disks that are only read.
use Rattle.std.specs.Prelude.{◌≡◌, ◌↔◌, ◌≤◌}
use Rattle.disk_model.specs.View.{DiskView}

-- Only reads were made on the disk: what crashes may leave of an honest one is unchanged, so is
-- whether it is honest, and the count of failures isn't less.
pub record IsOnlyRead {D : Type 0} (view : D → DiskView) (old new : D) : Type 0 where
  pub moments : (view old).is_honest → (view new).moments ≡ (view old).moments
  pub honesty : (view old).is_honest ↔ (view new).is_honest
  pub failures : (view old).failures ≤ (view new).failures
