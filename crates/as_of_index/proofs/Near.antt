-- A place that is passed over, from which a search goes on.
use Rattle.std.proofs.Common.{◌≡◌, ℕ, zero, suc, true, [], ◌∷◌, List, take}
use Rattle.std.specs.Prelude.{Some, slice_get}
use Rattle.std.specs.List.{AllByRecursion}
use Rattle.std.specs.declared.cmp.Ordering.TheVariants.{Less}
use Rattle.history_model.specs.InOrder.{IsAscending}
use Rattle.history_model.proofs.InOrder.{Has-all}
use Rattle.segment.specs.declared.place.RowPlace.{RowPlace}
use Rattle.as_of_index.specs.declared.search.Start.{Start}
use Rattle.as_of_index.specs.Places.{place_cmp}
use Rattle.as_of_index.specs.Private.Search.{is_before}
use Rattle.as_of_index.proofs.Ordered.{before-falls}
use Rattle.as_of_index.proofs.Keyed.{has_got}

pub all_before : (start : Start) (list : List RowPlace) (i : ℕ) (p : RowPlace) → IsAscending place_cmp list → Some p ≡ slice_get list i → is_before start p ≡ true → AllByRecursion (λ q. is_before start q ≡ true) (take i list)
all_before start [] zero p up e now = tt
all_before start [] (suc i) p up e now = tt
all_before start (x ∷ xs) zero p up e now = tt
all_before start (x ∷ xs) (suc i) p up e now = (
  before-falls start x p (Has-all (λ q. place_cmp x q ≡ Less) xs p up.0 (has_got xs i p e)) now,
  all_before start xs i p up.1 e now,
)
