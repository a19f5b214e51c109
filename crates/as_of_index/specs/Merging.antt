-- Merging postings of two lists of rows, each in order, in steps.
use Rattle.std.specs.Prelude.{ℕ, ◌+◌, ◌-◌, ◌≤◌, List, ◌++◌, length, map, take, drop}
use Rattle.std.specs.List.Sorted.{IsNonDecreasingBy, IsPermutation}
use Rattle.history_model.specs.InOrder.{Has}
use Rattle.as_of_index.specs.declared.merging.TakenCount.{TakenCount}
use Rattle.as_of_index.specs.Numbers.{TwoLists, number_in_both}

-- a kind of posting: its rank, by which it is sorted, its row's number, and the posting with
-- another number
pub record PostingKind (X : Type 0) : Type 0 where
  pub rank : X → ℕ
  pub number : X → ℕ
  pub renumbered : ℕ → X → X

-- a posting whose row's number is replaced by its number elsewhere
abbrev pub moved : {X : Type 0} → PostingKind X → (ℕ → ℕ) → X → X
moved kind elsewhere x = kind.renumbered (elsewhere (kind.number x)) x

-- the postings of the first list of rows, and of the second, with the numbers of their rows among
-- the rows of both lists
abbrev pub first_moved : {X : Type 0} → PostingKind X → TwoLists → List X → List X
first_moved kind lists xs = map (moved kind (number_in_both lists.first lists.second)) xs

abbrev pub second_moved : {X : Type 0} → PostingKind X → TwoLists → List X → List X
second_moved kind lists ys = map (moved kind (number_in_both lists.second lists.first)) ys

-- no merged posting has a greater rank than one that is left
abbrev pub NoneAbove : {X : Type 0} → PostingKind X → List X → List X → Type 0
NoneAbove kind out left = (x y : _) → Has out x → Has left y → kind.rank x ≤ kind.rank y

-- these are the merged postings, if this many of the first list and of the second were taken
pub record IsMerged {X : Type 0} (kind : PostingKind X) (lists : TwoLists) (first second : List X)
    (taken : TakenCount) (out : List X) : Type 0 where
  pub first_within : taken.first ≤ length first
  pub second_within : taken.second ≤ length second
  pub same : IsPermutation (first_moved kind lists (take taken.first first)
      ++ second_moved kind lists (take taken.second second)) out
  pub rising : IsNonDecreasingBy kind.rank out
  pub first_left : NoneAbove kind out (drop taken.first first)
  pub second_left : NoneAbove kind out (drop taken.second second)

-- how many postings of the two lists are left
abbrev pub count_left : {X : Type 0} → List X → List X → TakenCount → ℕ
count_left first second taken = (length first - taken.first) + (length second - taken.second)
