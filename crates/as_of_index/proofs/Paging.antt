-- The next id of a kind, and what a page takes in turn.
use Rattle.std.proofs.Common.{◌≡◌, ℕ, suc, ◌+◌, ◌-◌, ◌<◌, ◌≤◌, Bool, true, false, cond, List, [], ◌∷◌, ◌++◌, length, take, map, refl, sym, ap, subst, inl, inr, ◌∙◌, arith, append-nil, append_assoc}
use Rattle.std.specs.Prelude.{◌&&◌, ◌||◌, ◌==◌, not, nat_le, nat_lt, Option, Some, None}
use Rattle.std.specs.List.{filter, sum_by}
use Rattle.std.proofs.lemmas.List.Elements.{filter_agree}
use Rattle.std.specs.Ordering.{nat_cmp}
use Rattle.std.specs.Cmp.{ranked, tied_itself, nat_cmp_total}
use Rattle.std.specs.declared.cmp.Ordering.{Ordering}
use Rattle.std.specs.declared.cmp.Ordering.TheVariants.{Less, Equal, Greater}
use Rattle.std.proofs.lemmas.Bool.Decides.{nat_tests}
use Rattle.std.proofs.lemmas.List.{length_push}
use Rattle.std.proofs.lemmas.List.Sums.{sum_by-cons}
use Rattle.std.proofs.lemmas.Bool.{and_parts, and_from}
use Rattle.list_lemmas.proofs.Tests.{both_numbers, less_from_below}
use Rattle.rf2_values.specs.declared.row.Kind.{Kind}
use Rattle.rf2_values.specs.declared.key.Key.{Key}
use Rattle.rf2_values.specs.Row.{RowValue, kind_of}
use Rattle.rf2_values.specs.Key.{kind_place, key_of}
use Rattle.history_model.specs.declared.stamped.StampedRow.{StampedRow}
use Rattle.history_model.specs.InOrder.{Has, IsAscending}
use Rattle.history_model.specs.History.{row_cmp}
use Rattle.history_model.specs.Lists.{listed}
use Rattle.history_model.specs.Queries.{is_kind, is_above, snapshot, get, all_above, page, changed_above, delta}
use Rattle.history_model.specs.Queries.{is_kind_above as is_row_above}
use Rattle.history_model.proofs.Filtered.{filter_first, filter_none, Rises, filter_same}
use Rattle.history_model.proofs.Snapshots.{Rises-current, IsAscending-snapshot, take-nil, and-true, current_from_snapshot, IsAscending-rows_at, IsAscending-listed, Has-listed_cases, Has-rows_at_cases, above_again, kind_from_test}
use Rattle.history_model.proofs.Audits.{row_at, at_row}
use Rattle.segment.specs.declared.place.RowPlace.{RowPlace}
use Rattle.as_of_index.specs.declared.as_of.AsOf.{AsOf}
use Rattle.as_of_index.specs.declared.search.Start.TheVariants.{Components}
use Rattle.segment.specs.Standing.{places_of}
use Rattle.as_of_index.specs.Places.{place_cmp}
use Rattle.as_of_index.specs.Private.Search.{all_places, is_of, is_shown, is_changed, IsFirstFrom, IsNextId, IsNextChanged, is_kind_above}
use Rattle.as_of_index.specs.Private.Walk.{is_walked, walked}
use Rattle.as_of_index.proofs.Standing.{place_of_row}
use Rattle.as_of_index.specs.Current.{rows_seen}

pub less_by_id : (a b : RowPlace) → kind_place a.key.kind ≡ kind_place b.key.kind → nat_cmp a.key.id b.key.id ≡ Less → place_cmp a b ≡ Less
less_by_id a b k e =
    let tie : nat_cmp (kind_place a.key.kind) (kind_place b.key.kind) ≡ Equal = subst (λ n. nat_cmp (kind_place a.key.kind) n ≡ Equal) k (tied_itself nat_cmp_total (kind_place a.key.kind)) in
    rw (tie, e) refl

pub less_by_kind : (a b : RowPlace) → nat_cmp (kind_place a.key.kind) (kind_place b.key.kind) ≡ Less → place_cmp a b ≡ Less
less_by_kind a b e = rw e refl

pub not_above : (m n : ℕ) → (nat_cmp m n ≡ Less → ⊥) → n ≤ m
not_above m n apart = by (nat_cmp m n) refl where
  by : (r : Ordering) → nat_cmp m n ≡ r → n ≤ m
  by Less e = absurd (apart e)
  by Equal e = let f : m ≡ n = ranked m n Equal (sym e) in omega arith
  by Greater e = let f : n < m = ranked m n Greater (sym e) in omega arith

passes_above : (k kind : ℕ) (a : Bool) → (nat_lt k kind || (k == kind && not a)) ≡ false → k ≡ kind → a ≡ true
passes_above k kind true e f = refl
passes_above k kind false e f = absurd (grind (arith, nat_tests, e, f))

kind_not_passed : (k kind : ℕ) (a : Bool) → (k == kind && a) ≡ true → (nat_lt k kind || (k == kind && not a)) ≡ false
kind_not_passed k kind true e = grind (arith, nat_tests, e)
kind_not_passed k kind false e = absurd (grind (arith, nat_tests, e))

kind_beyond : (k kind : ℕ) (a : Bool) → (nat_lt k kind || (k == kind && not a)) ≡ false → (k == kind) ≡ false → kind < k
kind_beyond k kind a e f = grind (arith, nat_tests, e, f)

kind_is : (k kind : ℕ) (a : Bool) → (k == kind && a) ≡ true → k ≡ kind
kind_is k kind a e = grind (arith, nat_tests, e)

of_itself : (k kind i : ℕ) → (k == kind && i == i) ≡ false → (k == kind) ≡ false
of_itself k kind i e = grind (arith, nat_tests, e)

module _ (kind : Kind) (after : Option ℕ) (xs : List (ℕ × RowPlace)) where
  pub next_id_is : (x : ℕ × RowPlace) → IsFirstFrom (Components kind after) (λ (y : ℕ × RowPlace). y.1) xs (Some x) → is_of kind x.1.key.id x.1 ≡ true → IsNextId kind after xs (Some x.1.key.id)
  unfolding IsFirstFrom IsNextId
  next_id_is x n o =
      let k : kind_place x.1.key.kind ≡ kind_place kind = kind_is _ _ _ o in
      record {
        above = passes_above (kind_place x.1.key.kind) (kind_place kind) (is_above after x.1.key.id) n.passes k;
        there = (x, n.there, o);
        least = λ y h e.
            let l : kind_place y.1.key.kind ≡ kind_place kind = kind_is _ _ _ e in
            let outside = kind_not_passed (kind_place y.1.key.kind) (kind_place kind) (is_above after y.1.key.id) e in
            not_above y.1.key.id x.1.key.id (λ less. n.least y h outside (less_by_id y.1 x.1 (l ∙ sym k) less));
      }

  pub next_id_other : (x : ℕ × RowPlace) → IsFirstFrom (Components kind after) (λ (y : ℕ × RowPlace). y.1) xs (Some x) → is_of kind x.1.key.id x.1 ≡ false → IsNextId kind after xs None
  unfolding IsFirstFrom IsNextId
  next_id_other x n o = λ y h e.
      let l : kind_place y.1.key.kind ≡ kind_place kind = kind_is _ _ _ e in
      let outside = kind_not_passed (kind_place y.1.key.kind) (kind_place kind) (is_above after y.1.key.id) e in
      let beyond = kind_beyond (kind_place x.1.key.kind) (kind_place kind) (is_above after x.1.key.id) n.passes (of_itself _ _ _ o) in
      n.least y h outside (less_by_kind y.1 x.1 (less_from_below (kind_place y.1.key.kind) (kind_place x.1.key.kind) (omega arith)))

  pub next_id_none : IsFirstFrom (Components kind after) (λ (y : ℕ × RowPlace). y.1) xs None → IsNextId kind after xs None
  unfolding IsFirstFrom IsNextId
  next_id_none n = λ y h e.
      let outside = kind_not_passed (kind_place y.1.key.kind) (kind_place kind) (is_above after y.1.key.id) e in
      let inside = n y h in absurd (cc)

pub same_test : (k a b : Bool) → ((k && a) ≡ true → b ≡ true) → (b ≡ true → a ≡ true) → (k && a) ≡ (k && b)
same_test false a b f g = refl
same_test true true b f g = sym (f refl)
same_test true false true f g = g refl
same_test true false false f g = refl

three_tests : (k a b f : Bool) → (((k && a) && f) ≡ true → b ≡ true) → (b ≡ true → a ≡ true) → ((k && a) && f) ≡ ((k && b) && f)
three_tests false a b f there back = refl
three_tests true true true true there back = refl
three_tests true true false true there back = sym (there refl)
three_tests true false true true there back = back refl
three_tests true false false true there back = refl
three_tests true true true false there back = refl
three_tests true true false false there back = refl
three_tests true false true false there back = refl
three_tests true false false false there back = refl

-- a test that passes wherever another one does
four_tests : (k a f b : Bool) → (b ≡ true → a ≡ true) → (((k && a) && f) && b) ≡ ((k && b) && f)
four_tests false a f b back = refl
four_tests true true true b back = and-true b
four_tests true true false true back = refl
four_tests true true false false back = refl
four_tests true false f true back = absurd (let no = back refl in cc)
four_tests true false f false back = refl

pub above_test : (id m : ℕ) → id ≤ m → (m ≡ id → ⊥) → nat_lt id m ≡ true
above_test id m le apart = elim (nat_lt id m) as (λ t. nat_lt id m ≡ t → t ≡ true) [
  | true ↦ λ e. refl
  | false ↦ λ e. absurd (apart (grind (arith, nat_tests, e, le)))
] refl

kind_places : (k l : Kind) → k ≡ l → (kind_place k == kind_place l) ≡ true
kind_places k l e = let f = ap kind_place e in grind (arith, nat_tests, f)

id_at : (after : Option ℕ) (k kind : ℕ) (a : Bool) → k ≡ kind → a ≡ true → (k == kind && a) ≡ true
id_at after k kind a e f = rw f (grind (arith, nat_tests, e))

shown_test : (t i : ℕ) (as_of : AsOf) → t ≤ as_of.date → i ≤ as_of.pin → (nat_le t as_of.date && nat_le i as_of.pin) ≡ true
shown_test t i as_of e f = grind (arith, nat_tests, e, f)

-- ---- what is found at a date: a page, or a Delta

module _ (kind : Kind) (from : Option ℕ) (date : ℕ) (rows : List RowValue) (up : IsAscending row_cmp rows) where
  -- what the tests say
  record IsWalked (after : Option ℕ) (row : RowValue) : Type 0 where
    kind_is : kind_of row ≡ kind
    above : is_above after row.id ≡ true
    later : is_above from row.time ≡ true

  walked_row : (after : Option ℕ) (row : RowValue) → is_walked kind from after row ≡ true → IsWalked after row
  walked_row after row e =
      let p = and_parts (is_kind kind row && is_above after row.id) (is_above from row.time) e in
      let q = and_parts (is_kind kind row) (is_above after row.id) p.0 in
      record { kind_is = kind_from_test kind row q.0; above = q.1; later = p.1 }

  walked_first : (after : Option ℕ) (limit : ℕ) (b : RowValue) → Has (snapshot rows date) b → IsWalked after b → ((c : RowValue) → Has (snapshot rows date) c → IsWalked after c → b.id ≤ c.id) → walked kind from date after (suc limit) rows ≡ b ∷ walked kind from date (Some b.id) limit rows
  unfolding walked
  walked_first after limit b h want first =
      let rises : Rises (is_walked kind from after) (λ row. row.id) (snapshot rows date) = Rises-current (is_walked kind from after) kind rows date (λ x e. (walked_row after x e).kind_is) (snapshot rows date) (IsAscending-snapshot rows date up) (λ x there. current_from_snapshot rows date x there) in
      let kind_test : is_kind kind b ≡ true = kind_places (kind_of b) kind want.kind_is in
      let split = filter_first (is_walked kind from after) (λ row. row.id) (snapshot rows date) b rises h
      (let above = want.above in let later = want.later in rw (kind_test, above, later) refl)
      (λ x there e. first x there (walked_row after x e)) in
      ap (take (suc limit)) split
      ∙ ap (λ xs. b ∷ take limit xs) (filter_agree _ _ (λ x. four_tests (is_kind kind x) (is_above after x.id) (is_above from x.time) (nat_lt b.id x.id) (λ lt. above_again after b.id x.id want.above lt)) (snapshot rows date))

  walked_none : (after : Option ℕ) (limit : ℕ) → ((c : RowValue) → Has (snapshot rows date) c → IsWalked after c → ⊥) → walked kind from date after limit rows ≡ []
  unfolding walked
  walked_none after limit none = ap (take limit) (filter_none (is_walked kind from after) (snapshot rows date) (λ x there.
      elim (is_walked kind from after x) as (λ t. is_walked kind from after x ≡ t → t ≡ false) [
        | true ↦ λ e. absurd (none x there (walked_row after x e))
        | false ↦ λ e. refl
      ] refl)) ∙ take-nil limit

pub walked_page : (kind : Kind) (date : ℕ) (after : Option ℕ) (limit : ℕ) (rows : List RowValue) → walked kind None date after limit rows ≡ page kind date after limit rows
unfolding walked page all_above
walked_page kind date after limit rows = ap (take limit) (filter_same (is_walked kind None after) (is_row_above kind after) (snapshot rows date) (λ x h. sym (and-true (is_row_above kind after x))))

pub walked_delta : (kind : Kind) (from date : ℕ) (after : Option ℕ) (limit : ℕ) (rows : List RowValue) → walked kind (Some from) date after limit rows ≡ delta kind from date after limit rows
unfolding walked delta changed_above
walked_delta kind from date after limit rows = refl

module _ (kind : Kind) (from : Option ℕ) (as_of : AsOf) (lists : List (List StampedRow)) where
  abbrev shown : List RowValue
  shown = rows_seen as_of lists

  abbrev places : List (ℕ × RowPlace)
  places = all_places 0 (map places_of lists)

  -- a row that comes is changed where it stands
  changed_there : (c : RowValue) (p : RowPlace) (s : StampedRow) → p.key ≡ key_of c → p.import ≡ s.import → c.time ≤ as_of.date → s.import ≤ as_of.pin → is_above from c.time ≡ true → is_changed from as_of p ≡ true
  changed_there c p s key_is import_is early le later =
      let times : p.key.time ≡ c.time = ap (λ (z : Key). z.time) key_is in
      and_from (is_shown as_of p) (is_above from p.key.time) (shown_test p.key.time p.import as_of (omega arith) (omega arith)) (ap (is_above from) times ∙ later)

  -- the next id is not above that of a row that comes
  not_passed : (last : Option ℕ) (id : ℕ) → IsNextChanged kind last from as_of places (Some id) → (c : RowValue) → Has (snapshot shown as_of.date) c → kind_of c ≡ kind → is_above last c.id ≡ true → is_above from c.time ≡ true → id ≤ c.id
  unfolding IsNextChanged
  not_passed last id n c h k a later =
      let current = current_from_snapshot shown as_of.date c h in
      let w = Has-rows_at_cases as_of.pin (listed lists) c current.known in
      let q = place_of_row 0 lists w.stamped_row (Has-listed_cases lists w.stamped_row w.known) in
      let key_is : q.0.1.key ≡ key_of c = q.2.key_is ∙ ap key_of w.same in
      let kinds : kind_place q.0.1.key.kind ≡ kind_place kind = ap (λ (z : Key). kind_place z.kind) key_is ∙ ap kind_place k in
      let ids : q.0.1.key.id ≡ c.id = ap (λ (z : Key). z.id) key_is in
      let le = n.first q.0 q.1 (id_at last _ _ _ kinds (ap (is_above last) ids ∙ a)) (changed_there c q.0.1 w.stamped_row key_is q.2.import_is current.early w.early later) in
      omega arith

  nothing_passed : (last : Option ℕ) → IsNextChanged kind last from as_of places None → (c : RowValue) → Has (snapshot shown as_of.date) c → kind_of c ≡ kind → is_above last c.id ≡ true → is_above from c.time ≡ true → ⊥
  unfolding IsNextChanged
  nothing_passed last n c h k a later =
      let current = current_from_snapshot shown as_of.date c h in
      let w = Has-rows_at_cases as_of.pin (listed lists) c current.known in
      let q = place_of_row 0 lists w.stamped_row (Has-listed_cases lists w.stamped_row w.known) in
      let key_is : q.0.1.key ≡ key_of c = q.2.key_is ∙ ap key_of w.same in
      let kinds : kind_place q.0.1.key.kind ≡ kind_place kind = ap (λ (z : Key). kind_place z.kind) key_is ∙ ap kind_place k in
      let ids : q.0.1.key.id ≡ c.id = ap (λ (z : Key). z.id) key_is in
      n q.0 q.1 (id_at last _ _ _ kinds (ap (is_above last) ids ∙ a)) (changed_there c q.0.1 w.stamped_row key_is q.2.import_is current.early w.early later)

  next_above : (last : Option ℕ) (id : ℕ) → IsNextChanged kind last from as_of places (Some id) → is_above last id ≡ true
  unfolding IsNextChanged
  next_above last id n = n.above

  ascends : IsAscending row_cmp shown
  ascends = IsAscending-rows_at as_of.pin (listed lists) (IsAscending-listed lists)

  -- the component has no row that comes
  abbrev pub NoneComes : ℕ → Type 0
  NoneComes id = (row : RowValue) → get kind id as_of.date shown ≡ Some row → is_above from row.time ≡ true → ⊥

  pub walk_nobody : (last : Option ℕ) (id n : ℕ) → IsNextChanged kind last from as_of places (Some id) → NoneComes id → walked kind from as_of.date last n shown ≡ walked kind from as_of.date (Some id) n shown
  unfolding walked
  walk_nobody last id n next none = ap (take n) (filter_same (is_walked kind from last) (is_walked kind from (Some id)) (snapshot shown as_of.date) (λ x h.
      three_tests (is_kind kind x) (is_above last x.id) (nat_lt id x.id) (is_above from x.time)
      (λ e.
      let w = walked_row kind from as_of.date shown ascends last x e in
      let le = not_passed last id next x h w.kind_is w.above w.later in
      above_test id x.id le (λ same. none x (at_row kind id as_of.date shown x ascends (record { current = h; version = record { kind_is = w.kind_is; id_is = same } })) w.later))
      (λ e. above_again last id x.id (next_above last id next) e)))

  pub walk_nomore : (last : Option ℕ) (n : ℕ) → IsNextChanged kind last from as_of places None → walked kind from as_of.date last n shown ≡ []
  walk_nomore last n next = walked_none kind from as_of.date shown ascends last n (λ c h w. nothing_passed last next c h w.kind_is w.above w.later)

  pub walk_somebody : (last : Option ℕ) (id n : ℕ) (b : RowValue) → IsNextChanged kind last from as_of places (Some id) → get kind id as_of.date shown ≡ Some b → is_above from b.time ≡ true → walked kind from as_of.date last (suc n) shown ≡ b ∷ walked kind from as_of.date (Some id) n shown
  walk_somebody last id n b next found later =
      let r = row_at kind id as_of.date shown b found in
      let own = r.version.id_is in
      walked_first kind from as_of.date shown ascends last n b r.current
      (record { kind_is = r.version.kind_is; above = subst (λ m. is_above last m ≡ true) (sym own) (next_above last id next); later = later })
      (λ c h w. let le = not_passed last id next c h w.kind_is w.above w.later in omega arith)
      ∙ ap (λ m. b ∷ walked kind from as_of.date (Some m) n shown) own

  -- ---- the steps of the loop

  pub walk_more : (last : Option ℕ) (id limit : ℕ) (rows target : List RowValue) (b : RowValue) → length rows < limit → IsNextChanged kind last from as_of places (Some id) → get kind id as_of.date shown ≡ Some b → is_above from b.time ≡ true → rows ++ walked kind from as_of.date last (limit - length rows) shown ≡ target → (rows ++ b ∷ []) ++ walked kind from as_of.date (Some id) (limit - length (rows ++ b ∷ [])) shown ≡ target
  walk_more last id limit rows target b lt next found later so_far =
      let longer = length_push rows b in
      let left : limit - length (rows ++ b ∷ []) ≡ limit - (length rows + 1) = ap (λ n. limit - n) longer in
      let one_less : limit - length rows ≡ suc (limit - (length rows + 1)) = omega arith in
      ap (λ n. (rows ++ b ∷ []) ++ walked kind from as_of.date (Some id) n shown) left
      ∙ append_assoc rows (b ∷ []) (walked kind from as_of.date (Some id) (limit - (length rows + 1)) shown)
      ∙ ap (λ ys. rows ++ ys) (sym (walk_somebody last id (limit - (length rows + 1)) b next found later))
      ∙ ap (λ n. rows ++ walked kind from as_of.date last n shown) (sym one_less) ∙ so_far

  -- what a page takes, of which the next row is the first
  pub walk_cost : (f : RowValue → ℕ) (last : Option ℕ) (id limit : ℕ) (rows : List RowValue) (b c : RowValue) → length rows < limit → IsNextChanged kind last from as_of places (Some id) → get kind id as_of.date shown ≡ Some b → is_above from b.time ≡ true → sum_by f (walked kind from as_of.date last (limit - length rows) shown) ≡ f b + sum_by f (walked kind from as_of.date (Some id) (limit - length (rows ++ c ∷ [])) shown)
  walk_cost f last id limit rows b c lt next found later =
      let longer = length_push rows c in
      let left : limit - (length rows + 1) ≡ limit - length (rows ++ c ∷ []) = ap (λ n. limit - n) (sym longer) in
      let one_less : limit - length rows ≡ suc (limit - (length rows + 1)) = omega arith in
      ap (λ n. sum_by f (walked kind from as_of.date last n shown)) one_less
      ∙ ap (sum_by f) (walk_somebody last id (limit - (length rows + 1)) b next found later)
      ∙ sum_by-cons f b (walked kind from as_of.date (Some id) (limit - (length rows + 1)) shown)
      ∙ ap (λ n. f b + sum_by f (walked kind from as_of.date (Some id) n shown)) left

  pub walk_same : (last : Option ℕ) (id n : ℕ) (rows target : List RowValue) → IsNextChanged kind last from as_of places (Some id) → NoneComes id → rows ++ walked kind from as_of.date last n shown ≡ target → rows ++ walked kind from as_of.date (Some id) n shown ≡ target
  walk_same last id n rows target next none so_far = ap (λ ys. rows ++ ys) (sym (walk_nobody last id n next none)) ∙ so_far

  pub walk_done : (last : Option ℕ) (n : ℕ) (rows target : List RowValue) → IsNextChanged kind last from as_of places None → rows ++ walked kind from as_of.date last n shown ≡ target → rows ≡ target
  walk_done last n rows target next so_far = sym (append-nil rows) ∙ ap (λ ys. rows ++ ys) (sym (walk_nomore last n next)) ∙ so_far

  pub walk_full : (last : Option ℕ) (limit : ℕ) (rows target : List RowValue) → limit ≤ length rows → rows ++ walked kind from as_of.date last (limit - length rows) shown ≡ target → rows ≡ target
  unfolding walked
  walk_full last limit rows target le so_far =
      let nothing : limit - length rows ≡ 0 = omega arith in
      sym (append-nil rows) ∙ ap (λ n. rows ++ walked kind from as_of.date last n shown) (sym nothing) ∙ so_far

-- ---- fewer are left

no_more : {X : Type 0} (p q : X → Bool) (xs : List X) → ((x : X) → q x ≡ true → p x ≡ true) → length (filter q xs) ≤ length (filter p xs)
no_more p q [] each = omega arith
no_more p q (x ∷ xs) each =
    let rest = no_more p q xs each in
    elim (q x) as (λ t. (t ≡ true → p x ≡ true) → length (cond t (x ∷ filter q xs) (filter q xs)) ≤ length (cond (p x) (x ∷ filter p xs) (filter p xs))) [
      | true ↦ λ f. rw (f refl) (omega arith)
      | false ↦ λ f. elim (p x) as (λ t. length (filter q xs) ≤ length (cond t (x ∷ filter p xs) (filter p xs))) [ true ↦ omega arith | false ↦ rest ]
    ] (each x)

pub fewer : {X : Type 0} (p q : X → Bool) (xs : List X) (b : X) → ((x : X) → q x ≡ true → p x ≡ true) → Has xs b → p b ≡ true → q b ≡ false → length (filter q xs) < length (filter p xs)
fewer p q [] b each h e f = absurd h
fewer p q (x ∷ xs) b each h e f = elim h [
  | inl s ↦ (
      let e' : p x ≡ true = subst (λ z. p z ≡ true) (sym s) e in
      let f' : q x ≡ false = subst (λ z. q z ≡ false) (sym s) f in
      let rest = no_more p q xs each in
      rw (e', f') (omega arith))
  | inr t ↦ (
      let rest = fewer p q xs b each t e f in
      elim (q x) as (λ t. (t ≡ true → p x ≡ true) → length (cond t (x ∷ filter q xs) (filter q xs)) < length (cond (p x) (x ∷ filter p xs) (filter p xs))) [
        | true ↦ λ g. rw (g refl) (omega arith)
        | false ↦ λ g. elim (p x) as (λ t. length (filter q xs) < length (cond t (x ∷ filter p xs) (filter p xs))) [ true ↦ omega arith | false ↦ rest ]
      ] (each x))
]

of_kind_above : (k kind i id : ℕ) (a : Bool) → (k == kind && i == id) ≡ true → a ≡ true → (k == kind && a) ≡ true
of_kind_above k kind i id a e f = rw f (grind (arith, nat_tests, e))

own_not_above : (k kind i id : ℕ) → (k == kind && i == id) ≡ true → (k == kind && nat_lt id i) ≡ false
own_not_above k kind i id e = grind (arith, nat_tests, e)

pub weaker : (k a b : Bool) → (b ≡ true → a ≡ true) → (k && b) ≡ true → (k && a) ≡ true
weaker true a b f e = f e
weaker false a b f e = e

pub fewer_left : (kind : Kind) (last from : Option ℕ) (as_of : AsOf) (id : ℕ) (xs : List (ℕ × RowPlace)) → IsNextChanged kind last from as_of xs (Some id) → length (filter (λ x. is_kind_above kind (Some id) x.1) xs) < length (filter (λ x. is_kind_above kind last x.1) xs)
unfolding IsNextChanged
fewer_left kind last from as_of id xs n =
    let b = n.there.0 in
    let own = n.there.2 in
    let at_own : is_above last b.1.key.id ≡ true = ap (is_above last) ((both_numbers _ _ b.1.key.id id own).1) ∙ n.above in
    fewer (λ (x : ℕ × RowPlace). is_kind_above kind last x.1) (λ (x : ℕ × RowPlace). is_kind_above kind (Some id) x.1) xs b
    (λ x e. weaker (kind_place x.1.key.kind == kind_place kind) (is_above last x.1.key.id) (nat_lt id x.1.key.id) (λ f. above_again last id x.1.key.id n.above f) e)
    n.there.1
    (of_kind_above _ _ b.1.key.id id (is_above last b.1.key.id) own at_own)
    (own_not_above _ _ b.1.key.id id own)
