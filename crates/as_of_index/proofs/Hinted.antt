-- A search in a list that begins near a place, and one that ends at a version of the date itself.
use Rattle.std.proofs.Common.{◌≡◌, ℕ, zero, suc, ◌+◌, ◌-◌, ◌<◌, ◌≤◌, Bool, true, false, List, [], ◌∷◌, length, get_or, take, drop, sym, ap, subst, ◌∙◌, arith}
use Rattle.std.specs.Prelude.{Option, Some, slice_get}
use Rattle.std.specs.List.{AllByRecursion}
use Rattle.std.proofs.lemmas.List.{drop-drop}
use Rattle.rf2_values.specs.declared.row.Kind.{Kind}
use Rattle.history_model.specs.InOrder.{Has, IsAscending}
use Rattle.history_model.proofs.InOrder.{Has-append_left, Has-append_right}
use Rattle.history_model.proofs.Filtered.{Has-map_from}
use Rattle.segment.specs.declared.place.RowPlace.{RowPlace}
use Rattle.as_of_index.specs.declared.as_of.AsOf.{AsOf}
use Rattle.as_of_index.specs.declared.search.Start.{Start}
use Rattle.as_of_index.specs.Places.{place_cmp}
use Rattle.as_of_index.specs.Private.Search.{in_segment, all_places, is_of, is_before, SplitsAt, IsPick}
use Rattle.as_of_index.proofs.Found.{Picks, candidate, candidate_test}
use Rattle.as_of_index.proofs.Near.{all_before}
use Rattle.as_of_index.proofs.Walking.{Stops, stopped, passed_one}

-- ---- what one place says of those on one side of it

-- all up to a place that is passed over is passed over
pub all_behind : (start : Start) (list : List RowPlace) (place : ℕ) (p : RowPlace) → IsAscending place_cmp list → 0 < place → Some p ≡ slice_get list (place - 1) → is_before start p ≡ true → AllByRecursion (λ q. is_before start q ≡ true) (take place list)
all_behind start list place p up some e now =
    let one : place - 1 + 1 ≡ place = omega (arith, some) in
    subst (λ n. AllByRecursion (λ q. is_before start q ≡ true) (take n list)) one (passed_one start list (place - 1) p (all_before start list (place - 1) p up e now) e now)

-- nothing from a place on is passed over, where the place itself isn't
pub all_ahead : (start : Start) (list : List RowPlace) (place : ℕ) (found : Option RowPlace) → IsAscending place_cmp list → found ≡ slice_get list place → Stops start found → AllByRecursion (λ p. is_before start p ≡ false) (drop place list)
all_ahead start [] zero found up e stop = tt
all_ahead start [] (suc i) found up e stop = tt
all_ahead start (x ∷ xs) zero found up e stop = (stopped start (x ∷ xs) zero found up tt e stop).rest
all_ahead start (x ∷ xs) (suc i) found up e stop = all_ahead start xs i found up.1 e stop

-- ---- a part of a list that is split

module _ {X : Type 0} (f : X → Bool) where
  split_more : (n : ℕ) (xs : List X) (k : ℕ) → k ≤ length (take n xs) → SplitsAt f (take n xs) k → AllByRecursion (λ x. f x ≡ false) (drop n xs) → SplitsAt f xs k
  split_more zero xs zero le s behind = record { before = tt; rest = behind }
  split_more zero xs (suc k) le s behind = absurd (omega arith)
  split_more (suc n) [] zero le s behind = record { before = tt; rest = tt }
  split_more (suc n) [] (suc k) le s behind = absurd (omega arith)
  split_more (suc n) (x ∷ xs) zero le s behind =
      let r = split_more n xs zero (omega arith) (record { before = tt; rest = s.rest.1 }) behind in
      record { before = tt; rest = (s.rest.0, r.rest) }
  split_more (suc n) (x ∷ xs) (suc k) le s behind =
      let r = split_more n xs k (omega arith) (record { before = s.before.1; rest = s.rest }) behind in
      record { before = (s.before.0, r.before); rest = r.rest }

  split_behind : (b : ℕ) (xs : List X) (k : ℕ) → b ≤ length xs → AllByRecursion (λ x. f x ≡ true) (take b xs) → SplitsAt f (drop b xs) k → SplitsAt f xs (b + k)
  split_behind zero xs k le before s = subst (λ n. SplitsAt f xs n) (omega arith) s
  split_behind (suc b) [] k le before s = absurd (omega arith)
  split_behind (suc b) (x ∷ xs) k le before s =
      let r = split_behind b xs k (omega arith) before.1 s in
      let more : suc (b + k) ≡ suc b + k = omega arith in
      subst (λ n. SplitsAt f (x ∷ xs) n) more (record { before = (before.0, r.before); rest = r.rest })

  -- where a part of the list is split, all before it pass and none behind it does, the list is split
  pub split_within : (begin end k : ℕ) (xs : List X) → begin ≤ end → end ≤ length xs → AllByRecursion (λ x. f x ≡ true) (take begin xs) → AllByRecursion (λ x. f x ≡ false) (drop end xs) → k ≤ length (take (end - begin) (drop begin xs)) → SplitsAt f (take (end - begin) (drop begin xs)) k → SplitsAt f xs (begin + k)
  split_within begin end k xs le within before behind short s =
      split_behind begin xs k (omega arith) before (split_more (end - begin) (drop begin xs) k short s
      (subst (λ ys. AllByRecursion (λ x. f x ≡ false) ys) (sym (drop-drop (end - begin) begin xs ∙ ap (λ n. drop n xs) (omega arith))) behind))

-- ---- a version of the date itself

has_numbered : (k : ℕ) (lists : List (List RowPlace)) (i : ℕ) (ps : List RowPlace) (p : RowPlace) → i < length lists → ps ≡ get_or lists i ps → Has ps p → Has (all_places k lists) (k + i, p)
has_numbered k [] i ps p lt is h = absurd (omega arith)
has_numbered k (qs ∷ lists) zero ps p lt is h =
    let number : k ≡ k + 0 = omega arith in
    Has-append_left (in_segment k qs) (all_places (k + 1) lists) (k + 0, p)
    (subst (λ n. Has (in_segment k qs) (n, p)) number (Has-map_from (λ (q : RowPlace). (k, q)) qs p (subst (λ (xs : List RowPlace). Has xs p) is h)))
has_numbered k (qs ∷ lists) (suc i) ps p lt is h =
    let number : k + 1 + i ≡ k + suc i = omega arith in
    Has-append_right (in_segment k qs) (all_places (k + 1) lists) (k + suc i, p)
    (subst (λ n. Has (all_places (k + 1) lists) (n, p)) number (has_numbered (k + 1) lists i ps p (omega arith) is h))

-- what is found in one list is the answer of all, if it is of the date itself
pub picks_sure : (kind : Kind) (id : ℕ) (as_of : AsOf) (lists : List (List RowPlace)) (i : ℕ) (ps : List RowPlace) (p : RowPlace) → i < length lists → ps ≡ get_or lists i ps → IsPick kind id as_of (λ q. q) ps (Some p) → p.key.time ≡ as_of.date → Picks kind id as_of (all_places 0 lists) (Some (i, p))
unfolding IsPick
picks_sure kind id as_of lists i ps p lt is pick at =
    let number : 0 + i ≡ i = omega arith in
    record {
      there = subst (λ n. Has (all_places 0 lists) (n, p)) number (has_numbered 0 lists i ps p lt is pick.there);
      passes = pick.passes;
      latest = λ x h c. (let early = (candidate kind id as_of x.1 c).early in omega (arith, at));
    }

-- a version of the date itself that the pin shows is the answer of all lists
pub picks_exact : (kind : Kind) (id : ℕ) (as_of : AsOf) (lists : List (List RowPlace)) (i : ℕ) (ps : List RowPlace) (p : RowPlace) → i < length lists → ps ≡ get_or lists i ps → Has ps p → is_of kind id p ≡ true → p.key.time ≡ as_of.date → p.import ≤ as_of.pin → Picks kind id as_of (all_places 0 lists) (Some (i, p))
unfolding IsPick
picks_exact kind id as_of lists i ps p lt is h of at shown =
    let number : 0 + i ≡ i = omega arith in
    record {
      there = subst (λ n. Has (all_places 0 lists) (n, p)) number (has_numbered 0 lists i ps p lt is h);
      passes = candidate_test kind id as_of p of (omega (arith, at)) shown;
      latest = λ x h c. (let early = (candidate kind id as_of x.1 c).early in omega (arith, at));
    }
