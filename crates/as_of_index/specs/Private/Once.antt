-- Lists without duplicates, where items that compare as equal count as one.
use Rattle.std.specs.Prelude.{◌≡◌, List}
use Rattle.std.specs.declared.cmp.Ordering.{Ordering}
use Rattle.std.specs.declared.cmp.Ordering.TheVariants.{Equal}
use Rattle.history_model.specs.InOrder.{Has, IsAscending}

-- the list has an item that compares as equal to this one
abbrev pub IsThere : {Y : Type 0} → (Y → Y → Ordering) → List Y → Y → Type 0
IsThere cmp ys y = (z : _) × Has ys z × (cmp y z ≡ Equal)

-- the list is in ascending order, and has exactly one of the items that compare as equal
pub record AreOnce {Y : Type 0} (cmp : Y → Y → Ordering) (all once : List Y) : Type 0 where
  pub ascending : IsAscending cmp once
  pub there : (y : Y) → Has all y → IsThere cmp once y
  pub only : (y : Y) → Has once y → Has all y
