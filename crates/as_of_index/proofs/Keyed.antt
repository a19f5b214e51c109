-- Lists in the order of their keys, and what is at a place of a list.
use Rattle.std.proofs.Common.{◌≡◌, ℕ, true, List, [], ◌∷◌, sym, ap}
use Rattle.std.specs.Prelude.{Some, slice_get}
use Rattle.std.specs.List.{AllByRecursion}
use Rattle.std.specs.List.Sorted.{IsPartitionedBy}
use Rattle.std.specs.Ordering.{is_lt}
use Rattle.std.specs.declared.cmp.Ordering.{Ordering}
use Rattle.std.specs.declared.cmp.Ordering.TheVariants.{Less}
use Rattle.list_lemmas.proofs.Tests.{less_from_test}
use Rattle.rf2_values.specs.declared.key.Key.{Key}
use Rattle.rf2_values.specs.Key.{key_cmp}
use Rattle.rf2_values.specs.Private.{keys_total}
use Rattle.history_model.specs.InOrder.{Has, IsAscending}
use Rattle.history_model.proofs.Items.{Has-slice_get}
use Rattle.as_of_index.specs.Private.Search.{is_under}
use Rattle.as_of_index.proofs.First.{Falls, parted}

module _ {X : Type 0} (key : X → Key) where
  abbrev pub keyed_cmp : X → X → Ordering
  keyed_cmp a b = key_cmp (key a) (key b)

  under_each : (k : Key) (x : X) (xs : List X) → AllByRecursion (λ y. keyed_cmp x y ≡ Less) xs → AllByRecursion (λ y. is_under key k y ≡ true → is_under key k x ≡ true) xs
  under_each k x [] up = tt
  under_each k x (y ∷ ys) up = (λ e. ap is_lt (keys_total.trans (key x) (key y) k up.0 (less_from_test (key_cmp (key y) k) e)), under_each k x ys up.1)

  under-falls : (k : Key) (xs : List X) → IsAscending keyed_cmp xs → Falls (is_under key k) xs
  under-falls k [] up = tt
  under-falls k (x ∷ xs) up = (under_each k x xs up.0, under-falls k xs up.1)

  pub under_parted : (k : Key) (xs : List X) → IsAscending keyed_cmp xs → IsPartitionedBy (is_under key k) xs
  under_parted k xs up = parted (is_under key k) xs (under-falls k xs up)

-- a list has what is found at a number
pub has_got : {X : Type 0} (xs : List X) (i : ℕ) (x : X) → Some x ≡ slice_get xs i → Has xs x
has_got xs i x e = Has-slice_get xs i x (sym e)
