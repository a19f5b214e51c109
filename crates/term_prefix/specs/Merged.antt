-- Merging the terms of two lists of rows, in steps.
use Rattle.std.specs.Prelude.{◌≡◌, ◌≤◌, ℕ, ◌+◌, ◌-◌, false, List, [], ◌∷◌, ◌++◌, length}
use Rattle.std.specs.Prelude.{take, drop, map}
use Rattle.std.specs.List.Sorted.{IsPermutation}
use Rattle.std.specs.Ordering.{nat_cmp, is_lt}
use Rattle.std.specs.Cmp.Lexicographic.{slice_cmp}
use Rattle.history_model.specs.declared.stamped.StampedRow.{StampedRow}
use Rattle.history_model.specs.InOrder.{Has}
use Rattle.history_model.specs.Lists.{AreLists, union}
use Rattle.segment.specs.Standing.{places_of}
use Rattle.as_of_index.specs.declared.merging.TakenCount.{TakenCount}
use Rattle.as_of_index.specs.Numbers.{TwoLists, number_in_both}
use Rattle.term_prefix.specs.Terms.{TermAt, TextsRise}
use Rattle.term_prefix.specs.Pushed.{IsPosted}

-- a term whose row has another number
abbrev pub moved : (ℕ → ℕ) → TermAt → TermAt
moved number t = record { folded = t.folded; row = number t.row }

-- terms of two lists of rows, with the numbers of their rows among the rows of both
abbrev pub in_both : TwoLists → List TermAt → List TermAt → List TermAt
in_both lists xs ys =
    map (moved (number_in_both lists.first lists.second)) xs
    ++ map (moved (number_in_both lists.second lists.first)) ys

-- the terms merged so far, and how many were taken from each of two lists
pub record MergedTerms : Type 0 where
  pub terms : List TermAt
  pub taken : TakenCount

-- the beginning of a merge
abbrev pub no_terms_merged : MergedTerms
no_terms_merged = record { terms = []; taken = record { first = 0; second = 0 } }

-- no term of one list is greater than one of the other
abbrev pub NoneAbove : List TermAt → List TermAt → Type 0
NoneAbove ts us = (t u : TermAt) → Has ts t → Has us u
    → is_lt (slice_cmp nat_cmp u.folded t.folded) ≡ false

-- the first terms of two lists, this many of each, are merged, with the numbers of their rows among
-- the rows of both: they are in order, and none of them is greater than one that is left
pub record IsMergeOfTerms (lists : TwoLists) (a b : List TermAt) (m : MergedTerms) : Type 0 where
  pub first_within : m.taken.first ≤ length a
  pub second_within : m.taken.second ≤ length b
  pub same : IsPermutation (in_both lists (take m.taken.first a) (take m.taken.second b)) m.terms
  pub rising : TextsRise m.terms
  pub first_left : NoneAbove m.terms (drop m.taken.first a)
  pub second_left : NoneAbove m.terms (drop m.taken.second b)

-- how many terms of both lists are left
abbrev pub terms_left : List TermAt → List TermAt → MergedTerms → ℕ
terms_left a b m = (length a - m.taken.first) + (length b - m.taken.second)

-- if each list has the postings of its rows and none is left, the merged ones are the postings of
-- the rows of both lists in key order
abbrev pub MergedTermsArePosted : Type 0
MergedTermsArePosted = (a_rows b_rows : List StampedRow) (a b : List TermAt) (m : MergedTerms)
    → AreLists (a_rows ∷ b_rows ∷ []) → IsPosted a_rows a → IsPosted b_rows b
    → IsMergeOfTerms (record { first = places_of a_rows; second = places_of b_rows }) a b m
    → terms_left a b m ≡ 0
    → IsPosted (union a_rows b_rows) m.terms
