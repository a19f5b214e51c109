-- Places in the order of their keys, and where a search splits them.
use Rattle.std.proofs.Common.{◌≡◌, ◌⊎◌, ℕ, zero, suc, ◌<◌, ◌≤◌, Bool, true, false, List, [], ◌∷◌, length, get_or, sym, inl, inr, arith}
use Rattle.std.specs.Prelude.{◌&&◌, ◌||◌, ◌==◌, not, nat_le, nat_lt, Some, None}
use Rattle.std.specs.List.{AllByRecursion, AllWithin}
use Rattle.std.specs.List.Sorted.{IsPartitionedBy, IsPartitionPoint}
use Rattle.std.specs.Ordering.{nat_cmp, ordering_then}
use Rattle.std.specs.Cmp.{IsTotalOrder, ranked, on_total}
use Rattle.std.specs.declared.cmp.Ordering.TheVariants.{Less, Equal}
use Rattle.std.proofs.lemmas.Bool.Decides.{nat_tests}
use Rattle.rf2_values.specs.Key.{kind_place}
use Rattle.history_model.specs.InOrder.{Has, IsAscending}
use Rattle.history_model.proofs.InOrder.{Has-all}
use Rattle.history_model.proofs.Filtered.{Has-map}
use Rattle.rf2_values.specs.Private.{keys_total}
use Rattle.history_model.proofs.Snapshots.{first_half}
use Rattle.history_model.proofs.Items.{Has-get_or}
use Rattle.segment.specs.declared.place.RowPlace.{RowPlace}
use Rattle.as_of_index.specs.declared.search.Start.{Start}
use Rattle.as_of_index.specs.declared.search.Start.TheVariants.{AfterVersion, Later, Components}
use Rattle.as_of_index.specs.Places.{place_cmp}
use Rattle.as_of_index.specs.Private.Search.{in_segment, is_before, SplitsAt}

pub places_total : IsTotalOrder place_cmp
places_total = on_total (λ p. p.key) keys_total

-- a place with its segment's number, where it is one of the segment's places
pub of_one_segment : (n : ℕ) (ps : List RowPlace) (x : ℕ × RowPlace) → Has (in_segment n ps) x → (p : RowPlace) × Has ps p × (x ≡ (n, p))
of_one_segment n ps x h = let m = Has-map (λ (p : RowPlace). (n, p)) ps x h in (m.0, m.1, sym m.2)

-- the kind, the id or the time by which one is below another
abbrev pub IsBelow : ℕ → ℕ → ℕ → ℕ → ℕ → ℕ → Type 0
IsBelow k i t l j u = (k < l) ⊎ ((k ≡ l) × ((i < j) ⊎ ((i ≡ j) × (t < u))))

pub below : (a b : RowPlace) → place_cmp a b ≡ Less → IsBelow (kind_place a.key.kind) a.key.id a.key.time (kind_place b.key.kind) b.key.id b.key.time
below a b less =
    elim (first_half (nat_cmp (kind_place a.key.kind) (kind_place b.key.kind)) (ordering_then (nat_cmp a.key.id b.key.id) (nat_cmp a.key.time b.key.time)) less) [
      | inl l ↦ inl (ranked (kind_place a.key.kind) (kind_place b.key.kind) Less (sym l))
      | inr r ↦ inr (
        ranked (kind_place a.key.kind) (kind_place b.key.kind) Equal (sym r.0),
        elim (first_half (nat_cmp a.key.id b.key.id) (nat_cmp a.key.time b.key.time) r.1) [
          | inl l ↦ inl (ranked a.key.id b.key.id Less (sym l))
          | inr s ↦ inr (ranked a.key.id b.key.id Equal (sym s.0), ranked a.key.time b.key.time Less (sym s.1))
        ],
      )
    ]

-- ---- what a search passes over is passed over below it

after_version-falls : (kind id time k i t l j u : ℕ) → IsBelow k i t l j u
    → (nat_lt l kind || (l == kind && (nat_lt j id || (j == id && nat_le u time)))) ≡ true
    → (nat_lt k kind || (k == kind && (nat_lt i id || (i == id && nat_le t time)))) ≡ true
after_version-falls kind id time k i t l j u h e = grind (arith, nat_tests, h, e)

all-falls : (kind id k i t l j u : ℕ) → IsBelow k i t l j u
    → (nat_lt l kind || (l == kind && (nat_lt j id || (j == id && false)))) ≡ true
    → (nat_lt k kind || (k == kind && (nat_lt i id || (i == id && false)))) ≡ true
all-falls kind id k i t l j u h e = grind (arith, nat_tests, h, e)

later-falls : (kind id after k i t l j u : ℕ) → IsBelow k i t l j u
    → (nat_lt l kind || (l == kind && (nat_lt j id || (j == id && not (nat_lt after u))))) ≡ true
    → (nat_lt k kind || (k == kind && (nat_lt i id || (i == id && not (nat_lt after t))))) ≡ true
later-falls kind id after k i t l j u h e = grind (arith, nat_tests, h, e)

first-falls : (kind k i t l j u : ℕ) → IsBelow k i t l j u
    → (nat_lt l kind || (l == kind && false)) ≡ true
    → (nat_lt k kind || (k == kind && false)) ≡ true
first-falls kind k i t l j u h e = grind (arith, nat_tests, h, e)

components-falls : (kind after k i t l j u : ℕ) → IsBelow k i t l j u
    → (nat_lt l kind || (l == kind && not (nat_lt after j))) ≡ true
    → (nat_lt k kind || (k == kind && not (nat_lt after i))) ≡ true
components-falls kind after k i t l j u h e = grind (arith, nat_tests, h, e)

pub before-falls : (start : Start) (p q : RowPlace) → place_cmp p q ≡ Less → is_before start q ≡ true → is_before start p ≡ true
before-falls (AfterVersion kind id time) p q less e = after_version-falls (kind_place kind) id time _ _ p.key.time _ _ q.key.time (below p q less) e
before-falls (Later kind id None) p q less e = all-falls (kind_place kind) id _ _ p.key.time _ _ q.key.time (below p q less) e
before-falls (Later kind id (Some after)) p q less e = later-falls (kind_place kind) id after _ _ p.key.time _ _ q.key.time (below p q less) e
before-falls (Components kind None) p q less e = first-falls (kind_place kind) _ p.key.id p.key.time _ q.key.id q.key.time (below p q less) e
before-falls (Components kind (Some after)) p q less e = components-falls (kind_place kind) after _ _ p.key.time _ _ q.key.time (below p q less) e

pub partitioned : (start : Start) (places : List RowPlace) → IsAscending place_cmp places → IsPartitionedBy (is_before start) places
partitioned start [] up i j d le lt e = absurd (omega arith)
partitioned start (p ∷ ps) up zero zero d le lt e = e
partitioned start (p ∷ ps) up zero (suc j) d le lt e = before-falls start p (get_or ps j d) (Has-all (λ q. place_cmp p q ≡ Less) ps (get_or ps j d) up.0 (Has-get_or ps j d (omega arith))) e
partitioned start (p ∷ ps) up (suc i) zero d le lt e = absurd (omega arith)
partitioned start (p ∷ ps) up (suc i) (suc j) d le lt e = partitioned start ps up.1 i j d (omega arith) (omega arith) e

all_within : {X : Type 0} (P : X → Type 0) (xs : List X) → AllWithin P xs 0 (length xs) → AllByRecursion P xs
all_within P [] h = tt
all_within P (x ∷ xs) h = (h 0 x (omega arith) (omega arith), all_within P xs (λ k d low high. h (suc k) d (omega arith) (omega arith)))

pub splits : {X : Type 0} (p : X → Bool) (places : List X) (i : ℕ) → i ≤ length places → IsPartitionPoint (λ x. p x ≡ true) (λ x. p x ≡ false) places i → SplitsAt p places i
splits p places zero le h = record { before = tt; rest = all_within (λ x. p x ≡ false) places h.1 }
splits p [] (suc i) le h = absurd (omega arith)
splits p (x ∷ xs) (suc i) le h =
    let r = splits p xs i (omega arith) (λ k d low high. h.0 (suc k) d (omega arith) (omega arith), λ k d low high. h.1 (suc k) d (omega arith) (omega arith)) in
    record { before = (h.0 0 x (omega arith) (omega arith), r.before); rest = r.rest }
