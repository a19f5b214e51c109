-- A row is found by the key of its place.
use Rattle.std.proofs.Common.{◌≡◌, ℕ, zero, suc, ◌<◌, true, false, List, [], ◌∷◌, length, get_or, take, drop, map, refl, sym, ap, subst, ◌∙◌, arith, Vec, Global}
use Rattle.std.specs.Prelude.{Option, Some, None, IfSome, slice_get, vec_items}
use Rattle.std.specs.List.{AllByRecursion, find}
use Rattle.std.specs.Ordering.{is_lt}
use Rattle.std.specs.Cmp.{tied_itself}
use Rattle.std.specs.declared.cmp.Ordering.TheVariants.{Equal}
use Rattle.list_lemmas.proofs.Kept.{found_passes}
use Rattle.rf2_values.specs.declared.key.Key.{Key}
use Rattle.rf2_values.specs.Key.{key_of, key_cmp}
use Rattle.rf2_values.specs.Private.{keys_total}
use Rattle.history_model.specs.History.{stamped_cmp}
use Rattle.history_model.proofs.InOrder.{Has-all}
use Rattle.as_of_index.specs.Private.Search.{is_under}
use Rattle.as_of_index.proofs.Keyed.{has_got}
use Rattle.history_model.specs.declared.stamped.StampedRow.{StampedRow}
use Rattle.history_model.specs.InOrder.{IsAscending}
use Rattle.history_model.specs.Lists.{AreLists}
use Rattle.history_model.proofs.Filtered.{find_only}
use Rattle.history_model.proofs.Snapshots.{listed_once}
use Rattle.history_model.proofs.Items.{Has-joined_at}
use Rattle.segment.specs.declared.place.RowPlace.{RowPlace}
use Rattle.segment.specs.Standing.{StandsAt}
use Rattle.index_support.specs.Private.{is_row_at}
use Rattle.segment.proofs.Posting.{says, row_there}
use Rattle.as_of_index.proofs.Among.{key_from_test, key_test}

abbrev pub kept : List (Vec StampedRow Global) → List (List StampedRow)
kept lists = map (vec_items {X = StampedRow} {Z = Global}) lists

kept_at : (lists : List (Vec StampedRow Global)) (i : ℕ) (v : Vec StampedRow Global) (rows : List StampedRow) → slice_get (kept lists) i ≡ Some rows → rows ≡ (get_or lists i v).items
kept_at [] i v rows e = absurd (cc)
kept_at (x ∷ xs) zero v rows e = let same : x.items ≡ rows = cc in sym same
kept_at (x ∷ xs) (suc i) v rows e = kept_at xs i v rows e

pub kept_within : (lists : List (Vec StampedRow Global)) (i : ℕ) (rows : List StampedRow) → slice_get (kept lists) i ≡ Some rows → i < length lists
kept_within [] i rows e = absurd (cc)
kept_within (x ∷ xs) zero rows e = omega arith
kept_within (x ∷ xs) (suc i) rows e = let lt = kept_within xs i rows e in omega arith

pub kept_up : (lists : List (Vec StampedRow Global)) (i : ℕ) (at : RowPlace) (s : StampedRow) (v : Vec StampedRow Global) → AreLists (kept lists) → StandsAt (kept lists) i at s → IsAscending stamped_cmp (get_or lists i v).items
kept_up lists i at s v are w =
    subst (λ (rows : List StampedRow). IsAscending stamped_cmp rows) (kept_at lists i v w.rows w.list_is)
    (Has-all (λ (rows : List StampedRow). IsAscending stamped_cmp rows) (kept lists) w.rows are.ascending (has_got (kept lists) i w.rows (sym w.list_is)))

-- ---- the rows below a key are passed over

not_there : (key : Key) (s : StampedRow) → is_under (λ (t : StampedRow). key_of t.row) key s ≡ true → is_row_at key s ≡ false
not_there key s under =
    elim (is_row_at key s) as (λ b. is_row_at key s ≡ b → b ≡ false) [
      | true ↦ λ e. absurd (
          let same = key_from_test (key_of s.row) key e in
          let tie : key_cmp (key_of s.row) key ≡ Equal = subst (λ (k : Key). key_cmp (key_of s.row) k ≡ Equal) same (tied_itself keys_total (key_of s.row)) in
          let both = sym under ∙ ap is_lt tie in
          cc)
      | false ↦ λ e. refl
    ] refl

pub find_drop : (key : Key) (rows : List StampedRow) (i : ℕ) → AllByRecursion (λ s. is_under (λ (t : StampedRow). key_of t.row) key s ≡ true) (take i rows) → find (is_row_at key) (drop i rows) ≡ find (is_row_at key) rows
find_drop key rows zero below = refl
find_drop key [] (suc i) below = refl
find_drop key (r ∷ rows) (suc i) below =
    let none = not_there key r below.0 in
    rw none (find_drop key rows i below.1)

pub kept_row : (lists : List (Vec StampedRow Global)) (i : ℕ) (at : RowPlace) (s : StampedRow) (v : Vec StampedRow Global) → AreLists (kept lists) → StandsAt (kept lists) i at s → find (is_row_at at.key) (get_or lists i v).items ≡ Some s
kept_row lists i at s v are w =
    let rows_are = kept_at lists i v w.rows w.list_is in
    let here = row_there 0 w.rows (s, at) w.there in
    let key_is = (says 0 w.rows (s, at) w.there).key_is in
    ap (find (is_row_at at.key)) (sym rows_are)
    ∙ find_only (is_row_at at.key) w.rows s here (subst (λ (k : Key). is_row_at k s ≡ true) (sym key_is) (key_test (key_of s.row)))
    (λ x h e. listed_once (kept lists) are x s (Has-joined_at (kept lists) i w.rows x w.list_is h) (Has-joined_at (kept lists) i w.rows s w.list_is here) (key_from_test (key_of x.row) at.key e ∙ key_is))

-- what is found by a key has it
pub found_key : (key : Key) (rows : List StampedRow) (found : Option StampedRow) → found ≡ find (is_row_at key) rows → IfSome found (λ s. key_of s.row ≡ key)
found_key key rows None e = tt
found_key key rows (Some s) e = key_from_test (key_of s.row) key (found_passes (is_row_at key) rows s (sym e))
