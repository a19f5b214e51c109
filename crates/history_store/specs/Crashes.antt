-- What a crash leaves of a store, during a call that may write and after it.
use Rattle.std.specs.Prelude.{◌≡◌, ℕ, List, true, false}
use Rattle.disk_model.specs.View.{DiskView}
use Rattle.disk_model.specs.Disk.{LeavesOnly}
use Rattle.history_store.specs.StoreValue.{StoreValue, IsAcknowledged}

-- A store that has to be opened again is left unchanged. On an honest disk a crash at any moment of
-- the call leaves bytes of which `Left` holds; and as long as no call has failed, a crash after it
-- leaves what the store holds.
pub record IsCrashSafe {D : Type 0} (view : D → DiskView) (Left : List ℕ → Type 0)
    (old new : StoreValue D) : Type 0 where
  pub closed : old.needs_reopen ≡ true → new ≡ old
  pub any_moment : (view old.disk).is_honest → old.needs_reopen ≡ false
      → LeavesOnly (view old.disk).moments (view new.disk).moments Left
  pub acknowledged : (view old.disk).is_honest → new.needs_reopen ≡ false → IsAcknowledged view new
