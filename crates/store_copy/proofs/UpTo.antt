-- The rows of the first imports, of one list and of several.
use Rattle.std.proofs.Common.{◌≡◌, ◌⊎◌, ℕ, ◌+◌, ◌≤◌, List, [], ◌∷◌, ◌++◌, length, refl, ap, inl, inr, ◌∙◌, arith}
use Rattle.std.specs.Prelude.{All, nat_le}
use Rattle.std.specs.List.{AllByRecursion}
use Rattle.std.proofs.lemmas.Bool.Decides.{nat_tests}
use Rattle.std.proofs.lemmas.List.Elements.{All-filter, filter-append, recursion_from_All, All-from_recursion}
use Rattle.rf2_values.specs.Row.{kind_of}
use Rattle.history_model.specs.declared.stamped.StampedRow.{StampedRow}
use Rattle.history_model.specs.InOrder.{Has, IsAscending, joined}
use Rattle.history_model.specs.History.{IsHistory, stamped_cmp}
use Rattle.history_model.specs.Lists.{listed, AreLists, EachApart}
use Rattle.history_model.specs.Private.{ShareNoKey}
use Rattle.history_model.proofs.InOrder.{Has-all, all_from_has, Has-append_left, Has-append_right, Has-append_cases, same_ascending}
use Rattle.history_model.proofs.Keys.{stamped_total}
use Rattle.history_model.proofs.Filtered.{Has-filter, Has-filter_from, All-filtered, IsAscending-filter}
use Rattle.history_model.proofs.Snapshots.{IsAscending-listed, Has-listed_cases, Has-listed_from}
use Rattle.directory.specs.declared.layout.Layout.{Layout}
use Rattle.store_image.specs.Kept.{HasKind, AreOfLayout}
use Rattle.store_copy.specs.Copying.{up_to, before, lists_up_to}

-- ---- one list

module _ (n : ℕ) where
  pub Has-up_to : (rows : List StampedRow) (s : StampedRow) → Has (up_to n rows) s → Has rows s × (s.import ≤ n)
  unfolding up_to
  Has-up_to rows s h =
      let f = Has-filter (λ (t : StampedRow). nat_le t.import n) rows s h in
      let small : s.import ≤ n = grind (arith, nat_tests, f.1) in
      (f.0, small)

  pub Has-up_to_from : (rows : List StampedRow) (s : StampedRow) → Has rows s → s.import ≤ n → Has (up_to n rows) s
  unfolding up_to
  Has-up_to_from rows s h small = Has-filter_from (λ (t : StampedRow). nat_le t.import n) rows s h (grind (arith, nat_tests, small))

  pub up_to_ascends : (rows : List StampedRow) → IsAscending stamped_cmp rows → IsAscending stamped_cmp (up_to n rows)
  unfolding up_to
  up_to_ascends rows up = IsAscending-filter (λ (t : StampedRow). nat_le t.import n) stamped_cmp rows up

  pub up_to_all : (P : StampedRow → Type 0) (rows : List StampedRow) → AllByRecursion P rows → AllByRecursion P (up_to n rows)
  unfolding up_to
  up_to_all P rows all = All-filtered (λ (t : StampedRow). nat_le t.import n) P rows all

  pub up_to-append : (rows more : List StampedRow) → up_to n (rows ++ more) ≡ up_to n rows ++ up_to n more
  unfolding up_to
  up_to-append rows more = filter-append (λ (t : StampedRow). nat_le t.import n) rows more

  pub up_to_none : up_to n [] ≡ []
  unfolding up_to
  up_to_none = refl

  up_to_share : (xs ys : List StampedRow) → ShareNoKey xs ys → ShareNoKey (up_to n xs) (up_to n ys)
  up_to_share xs ys apart s t h k same = apart s t (Has-up_to xs s h).0 (Has-up_to ys t k).0 same

-- ---- several lists

before_cases : (rows : List StampedRow) (lists : List (List StampedRow)) (s : StampedRow) → Has (joined (before rows lists)) s → Has rows s ⊎ Has (joined lists) s
before_cases [] lists s h = inr h
before_cases (r ∷ rows) lists s h = Has-append_cases (r ∷ rows) (joined lists) s h

before_from : (rows : List StampedRow) (lists : List (List StampedRow)) (s : StampedRow) → Has rows s ⊎ Has (joined lists) s → Has (joined (before rows lists)) s
before_from [] lists s (inl a) = absurd a
before_from [] lists s (inr b) = b
before_from (r ∷ rows) lists s (inl a) = Has-append_left (r ∷ rows) (joined lists) s a
before_from (r ∷ rows) lists s (inr b) = Has-append_right (r ∷ rows) (joined lists) s b

before_all : (P : List StampedRow → Type 0) (rows : List StampedRow) (lists : List (List StampedRow)) → P rows → AllByRecursion P lists → AllByRecursion P (before rows lists)
before_all P [] lists p all = all
before_all P (r ∷ rows) lists p all = (p, all)

pub before-append : (rows : List StampedRow) (lists more : List (List StampedRow)) → before rows (lists ++ more) ≡ before rows lists ++ more
before-append [] lists more = refl
before-append (r ∷ rows) lists more = refl

before_count : (rows : List StampedRow) (lists : List (List StampedRow)) → length (before rows lists) ≤ length lists + 1
before_count [] lists = omega arith
before_count (r ∷ rows) lists = omega arith

before_apart : (rows : List StampedRow) (lists : List (List StampedRow)) → AllByRecursion (λ others. ShareNoKey rows others) lists → EachApart lists → EachApart (before rows lists)
before_apart [] lists share apart = apart
before_apart (r ∷ rows) lists share apart = (share, apart)

module _ (n : ℕ) where
  pub up_to_cases : (lists : List (List StampedRow)) (s : StampedRow) → Has (joined (lists_up_to n lists)) s → Has (joined lists) s × (s.import ≤ n)
  up_to_cases [] s h = absurd h
  up_to_cases (rows ∷ lists) s h = elim (before_cases (up_to n rows) (lists_up_to n lists) s h) [
    | inl a ↦ let w = Has-up_to n rows s a in (Has-append_left rows (joined lists) s w.0, w.1)
    | inr b ↦ let w = up_to_cases lists s b in (Has-append_right rows (joined lists) s w.0, w.1)
  ]

  pub up_to_from : (lists : List (List StampedRow)) (s : StampedRow) → Has (joined lists) s → s.import ≤ n → Has (joined (lists_up_to n lists)) s
  up_to_from [] s h small = absurd h
  up_to_from (rows ∷ lists) s h small = before_from (up_to n rows) (lists_up_to n lists) s (elim (Has-append_cases rows (joined lists) s h) [
    | inl a ↦ inl (Has-up_to_from n rows s a small)
    | inr b ↦ inr (up_to_from lists s b small)
  ])

  pub lists_all : (P : List StampedRow → Type 0) (lists : List (List StampedRow)) → ((rows : List StampedRow) → P rows → P (up_to n rows)) → AllByRecursion P lists → AllByRecursion P (lists_up_to n lists)
  lists_all P [] keeps all = tt
  lists_all P (rows ∷ lists) keeps all = before_all P (up_to n rows) (lists_up_to n lists) (keeps rows all.0) (lists_all P lists keeps all.1)

  lists_share : (rows : List StampedRow) (lists : List (List StampedRow)) → AllByRecursion (λ others. ShareNoKey rows others) lists → AllByRecursion (λ others. ShareNoKey (up_to n rows) others) (lists_up_to n lists)
  lists_share rows [] all = tt
  lists_share rows (others ∷ lists) all =
      before_all (λ o. ShareNoKey (up_to n rows) o) (up_to n others) (lists_up_to n lists) (up_to_share n rows others all.0) (lists_share rows lists all.1)

  lists_apart : (lists : List (List StampedRow)) → EachApart lists → EachApart (lists_up_to n lists)
  lists_apart [] apart = tt
  lists_apart (rows ∷ lists) apart = before_apart (up_to n rows) (lists_up_to n lists) (lists_share rows lists apart.0) (lists_apart lists apart.1)

  pub lists_are : (lists : List (List StampedRow)) → AreLists lists → AreLists (lists_up_to n lists)
  lists_are lists are = record {
    ascending = lists_all (λ rows. IsAscending stamped_cmp rows) lists (up_to_ascends n) are.ascending;
    apart = lists_apart lists are.apart;
  }

  -- what they list are the rows of the first imports
  pub listed_up_to : (lists : List (List StampedRow)) → AreLists lists → listed (lists_up_to n lists) ≡ up_to n (listed lists)
  listed_up_to lists are =
      same_ascending stamped_total (listed (lists_up_to n lists)) (up_to n (listed lists)) (IsAscending-listed (lists_up_to n lists)) (up_to_ascends n (listed lists) (IsAscending-listed lists))
      (λ s h. let w = up_to_cases lists s (Has-listed_cases (lists_up_to n lists) s h) in Has-up_to_from n (listed lists) s (Has-listed_from lists s are w.0) w.1)
      (λ s h. let w = Has-up_to n (listed lists) s h in Has-listed_from (lists_up_to n lists) s (lists_are lists are) (up_to_from lists s (Has-listed_cases lists s w.0) w.1))

  pub up_to_is_history : (imports : ℕ) (rows : List StampedRow) → IsHistory (record { imports = imports; rows = rows }) → IsHistory (record { imports = n; rows = up_to n rows })
  up_to_is_history imports rows is = record {
    ascending = up_to_ascends n rows is.ascending;
    numbered = all_from_has (λ (s : StampedRow). (1 ≤ s.import) × (s.import ≤ n)) (up_to n rows) (λ s h.
        let w = Has-up_to n rows s h in
        ((Has-all (λ (t : StampedRow). (1 ≤ t.import) × (t.import ≤ imports)) rows s is.numbered w.0).0, w.1));
  }

  up_to_kinds : (layout : Layout) (rows : List StampedRow) → AreOfLayout layout rows → AreOfLayout layout (up_to n rows)
  unfolding up_to
  up_to_kinds layout rows all = All-filter (λ (t : StampedRow). nat_le t.import n) (λ (s : StampedRow). HasKind layout (kind_of s.row)) rows all

  pub lists_kinds : (layout : Layout) (lists : List (List StampedRow)) → All (AreOfLayout layout) lists → All (AreOfLayout layout) (lists_up_to n lists)
  lists_kinds layout lists all =
      All-from_recursion (AreOfLayout layout) (lists_up_to n lists) (lists_all (AreOfLayout layout) lists (up_to_kinds layout) (recursion_from_All (AreOfLayout layout) lists all))

  pub lists-append : (lists : List (List StampedRow)) (rows : List StampedRow) → lists_up_to n (lists ++ rows ∷ []) ≡ lists_up_to n lists ++ before (up_to n rows) []
  lists-append [] rows = refl
  lists-append (o ∷ lists) rows = ap (before (up_to n o)) (lists-append lists rows) ∙ before-append (up_to n o) (lists_up_to n lists) (before (up_to n rows) [])

  pub lists-join : (lists more : List (List StampedRow)) → lists_up_to n (lists ++ more) ≡ lists_up_to n lists ++ lists_up_to n more
  lists-join [] more = refl
  lists-join (o ∷ lists) more = ap (before (up_to n o)) (lists-join lists more) ∙ before-append (up_to n o) (lists_up_to n lists) (lists_up_to n more)

  pub lists_count : (lists : List (List StampedRow)) → length (lists_up_to n lists) ≤ length lists
  lists_count [] = omega arith
  lists_count (rows ∷ lists) = omega (arith, lists_count lists, before_count (up_to n rows) (lists_up_to n lists))
