-- Cursors that go on through their lists.
use Rattle.std.proofs.Common.{◌≡◌, ℕ, zero, suc, ◌+◌, ◌<◌, ◌≤◌, true, false, List, [], ◌∷◌, ◌++◌, length, get_or, take, refl, sym, ap, subst, ◌∙◌, arith}
use Rattle.std.specs.Prelude.{◌&&◌, ◌||◌, ◌==◌, not, nat_le, nat_lt, Option, Some, None, slice_get, slice_set}
use Rattle.std.specs.List.{AllByRecursion}
use Rattle.std.specs.declared.cmp.Ordering.TheVariants.{Less}
use Rattle.std.proofs.lemmas.Bool.Decides.{nat_tests}
use Rattle.rf2_values.specs.declared.row.Kind.{Kind}
use Rattle.rf2_values.specs.Key.{kind_place}
use Rattle.history_model.specs.InOrder.{IsAscending}
use Rattle.history_model.specs.Queries.{is_above}
use Rattle.segment.specs.declared.place.RowPlace.{RowPlace}
use Rattle.as_of_index.specs.declared.as_of.AsOf.{AsOf}
use Rattle.as_of_index.specs.declared.search.Start.{Start}
use Rattle.as_of_index.specs.declared.search.Start.TheVariants.{AfterVersion, Later, Components}
use Rattle.as_of_index.specs.Places.{place_cmp}
use Rattle.as_of_index.specs.Private.Search.{is_before, SplitsAt, IsPassed, ArePassed, IsNextChanged}
use Rattle.as_of_index.proofs.Ordered.{before-falls}

-- ---- where a cursor stops

-- there is no place, or one that isn't passed over
abbrev pub Stops : Start → Option RowPlace → Type 0
Stops start None = Unit {0}
Stops start (Some p) = is_before start p ≡ false

none_before : (start : Start) (x : RowPlace) (xs : List RowPlace) → AllByRecursion (λ y. place_cmp x y ≡ Less) xs → is_before start x ≡ false → AllByRecursion (λ y. is_before start y ≡ false) xs
none_before start x [] up e = tt
none_before start x (y ∷ ys) up e = (
  elim (is_before start y) as (λ b. is_before start y ≡ b → b ≡ false) [
    | true ↦ λ f. (let g = sym (before-falls start x y up.0 f) ∙ e in absurd (cc))
    | false ↦ λ f. refl
  ] refl,
  none_before start x ys up.1 e,
)

pub stopped : (start : Start) (list : List RowPlace) (i : ℕ) (found : Option RowPlace) → IsAscending place_cmp list → AllByRecursion (λ p. is_before start p ≡ true) (take i list) → found ≡ slice_get list i → Stops start found → SplitsAt (is_before start) list i
stopped start [] zero found up before e stop = record { before = tt; rest = tt }
stopped start [] (suc i) found up before e stop = record { before = tt; rest = tt }
stopped start (x ∷ xs) zero found up before e stop =
    let here : is_before start x ≡ false = subst (λ f. Stops start f) e stop in
    record { before = tt; rest = (here, none_before start x xs up.0 here) }
stopped start (x ∷ xs) (suc i) found up before e stop =
    let r = stopped start xs i found up.1 before.1 e stop in
    record { before = (before.0, r.before); rest = r.rest }

pub passed_one : (start : Start) (list : List RowPlace) (i : ℕ) (p : RowPlace) → AllByRecursion (λ q. is_before start q ≡ true) (take i list) → Some p ≡ slice_get list i → is_before start p ≡ true → AllByRecursion (λ q. is_before start q ≡ true) (take (i + 1) list)
passed_one start [] i p before e now = absurd (cc)
passed_one start (x ∷ xs) zero p before e now = let same : p ≡ x = cc in (subst (λ q. is_before start q ≡ true) same now, tt)
passed_one start (x ∷ xs) (suc i) p before e now =
    let plus : suc (i + 1) ≡ suc i + 1 = omega arith in
    subst (λ n. AllByRecursion (λ q. is_before start q ≡ true) (take n (x ∷ xs))) plus (before.0, passed_one start xs i p before.1 e now)

pub there_at : (list : List RowPlace) (i : ℕ) (p : RowPlace) → Some p ≡ slice_get list i → i < length list
there_at [] i p e = absurd (cc)
there_at (x ∷ xs) zero p e = omega arith
there_at (x ∷ xs) (suc i) p e = let lt = there_at xs i p e in omega arith

-- ---- one cursor a list

module _ (start : Start) where
  pub passed_push : (lists : List (List RowPlace)) (cursors : List ℕ) (places : List RowPlace) (cursor : ℕ) → ArePassed start lists cursors → cursor ≤ length places → SplitsAt (is_before start) places cursor → ArePassed start (lists ++ places ∷ []) (cursors ++ cursor ∷ [])
  passed_push [] [] places cursor a le split = (record { within = le; before = split.before }, tt)
  passed_push [] (c ∷ cursors) places cursor a le split = absurd a
  passed_push (ps ∷ lists) [] places cursor a le split = absurd a
  passed_push (ps ∷ lists) (c ∷ cursors) places cursor a le split = (a.0, passed_push lists cursors places cursor a.1 le split)

  pub passed_len : (lists : List (List RowPlace)) (cursors : List ℕ) → ArePassed start lists cursors → length cursors ≡ length lists
  passed_len [] [] a = refl
  passed_len [] (c ∷ cursors) a = absurd a
  passed_len (ps ∷ lists) [] a = absurd a
  passed_len (ps ∷ lists) (c ∷ cursors) a = ap suc (passed_len lists cursors a.1)

  pub passed_at : (lists : List (List RowPlace)) (cursors : List ℕ) (i : ℕ) (ps : List RowPlace) (c : ℕ) → ArePassed start lists cursors → i < length lists → IsPassed start (get_or lists i ps) (get_or cursors i c)
  passed_at [] cursors i ps c a lt = absurd (omega arith)
  passed_at (qs ∷ lists) [] i ps c a lt = absurd a
  passed_at (qs ∷ lists) (d ∷ cursors) zero ps c a lt = a.0
  passed_at (qs ∷ lists) (d ∷ cursors) (suc i) ps c a lt = passed_at lists cursors i ps c a.1 (omega arith)

  pub passed_set : (lists : List (List RowPlace)) (cursors : List ℕ) (i : ℕ) (ps : List RowPlace) (c : ℕ) → ArePassed start lists cursors → c ≤ length (get_or lists i ps) → SplitsAt (is_before start) (get_or lists i ps) c → ArePassed start lists (slice_set cursors i c)
  passed_set [] [] i ps c a le split = tt
  passed_set [] (d ∷ cursors) i ps c a le split = absurd a
  passed_set (qs ∷ lists) [] i ps c a le split = absurd a
  passed_set (qs ∷ lists) (d ∷ cursors) zero ps c a le split = (record { within = le; before = split.before }, a.1)
  passed_set (qs ∷ lists) (d ∷ cursors) (suc i) ps c a le split = (a.0, passed_set lists cursors i ps c a.1 le split)

-- ---- what passes over more

further_all : (start other : Start) → ((p : RowPlace) → is_before start p ≡ true → is_before other p ≡ true) → (xs : List RowPlace) → AllByRecursion (λ p. is_before start p ≡ true) xs → AllByRecursion (λ p. is_before other p ≡ true) xs
further_all start other more [] a = tt
further_all start other more (x ∷ xs) a = (more x a.0, further_all start other more xs a.1)

passed_further : (start other : Start) → ((p : RowPlace) → is_before start p ≡ true → is_before other p ≡ true) → (lists : List (List RowPlace)) (cursors : List ℕ) → ArePassed start lists cursors → ArePassed other lists cursors
passed_further start other more [] [] a = tt
passed_further start other more [] (c ∷ cursors) a = absurd a
passed_further start other more (ps ∷ lists) [] a = absurd a
passed_further start other more (ps ∷ lists) (c ∷ cursors) a = (record { within = a.0.within; before = further_all start other more (take c ps) a.0.before }, passed_further start other more lists cursors a.1)

below-some : (k kind i id last : ℕ) → nat_lt last id ≡ true → (nat_lt k kind || (k == kind && not (nat_lt last i))) ≡ true
    → (nat_lt k kind || (k == kind && (nat_lt i id || (i == id && false)))) ≡ true
below-some k kind i id last above e = grind (arith, nat_tests, above, e)

below-none : (k kind i id : ℕ) → (nat_lt k kind || (k == kind && false)) ≡ true
    → (nat_lt k kind || (k == kind && (nat_lt i id || (i == id && false)))) ≡ true
below-none k kind i id e = grind (arith, nat_tests, e)

below-version : (k kind i id t date : ℕ) → (nat_lt k kind || (k == kind && (nat_lt i id || (i == id && false)))) ≡ true
    → (nat_lt k kind || (k == kind && (nat_lt i id || (i == id && nat_le t date)))) ≡ true
below-version k kind i id t date e = grind (arith, nat_tests, e)

-- what is below a component is below its versions
pub below_versions : (kind : Kind) (id date : ℕ) (xs : List RowPlace) → AllByRecursion (λ p. is_before (Later kind id None) p ≡ true) xs → AllByRecursion (λ p. is_before (AfterVersion kind id date) p ≡ true) xs
below_versions kind id date xs a = further_all (Later kind id None) (AfterVersion kind id date) (λ p e. below-version (kind_place p.key.kind) (kind_place kind) p.key.id id p.key.time date e) xs a

component-some : (k kind i id last : ℕ) → nat_lt last id ≡ true → (nat_lt k kind || (k == kind && not (nat_lt last i))) ≡ true
    → (nat_lt k kind || (k == kind && not (nat_lt id i))) ≡ true
component-some k kind i id last above e = grind (arith, nat_tests, above, e)

component-none : (k kind i id : ℕ) → (nat_lt k kind || (k == kind && false)) ≡ true → (nat_lt k kind || (k == kind && not (nat_lt id i))) ≡ true
component-none k kind i id e = grind (arith, nat_tests, e)

module _ (kind : Kind) (id : ℕ) (lists : List (List RowPlace)) (cursors : List ℕ) where
  -- the versions of a component with a higher id lie ahead
  pub versions_ahead : (last : Option ℕ) → is_above last id ≡ true → ArePassed (Components kind last) lists cursors → ArePassed (Later kind id None) lists cursors
  versions_ahead None above a = passed_further (Components kind None) (Later kind id None) (λ p e. below-none (kind_place p.key.kind) (kind_place kind) p.key.id id e) lists cursors a
  versions_ahead (Some last) above a = passed_further (Components kind (Some last)) (Later kind id None) (λ p e. below-some (kind_place p.key.kind) (kind_place kind) p.key.id id last above e) lists cursors a

  -- and so do the components after it
  pub others_ahead : (last : Option ℕ) → is_above last id ≡ true → ArePassed (Components kind last) lists cursors → ArePassed (Components kind (Some id)) lists cursors
  others_ahead None above a = passed_further (Components kind None) (Components kind (Some id)) (λ p e. component-none (kind_place p.key.kind) (kind_place kind) p.key.id id e) lists cursors a
  others_ahead (Some last) above a = passed_further (Components kind (Some last)) (Components kind (Some id)) (λ p e. component-some (kind_place p.key.kind) (kind_place kind) p.key.id id last above e) lists cursors a

pub id_above : (kind : Kind) (last from : Option ℕ) (as_of : AsOf) (xs : List (ℕ × RowPlace)) (id : ℕ) → IsNextChanged kind last from as_of xs (Some id) → is_above last id ≡ true
unfolding IsNextChanged
id_above kind last from as_of xs id n = n.above
