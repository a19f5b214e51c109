-- Definitions for private functions and proofs, of this crate or of one above it. No public clause
-- cites them.
use Rattle.std.specs.Prelude.{◌≡◌, ◌⊎◌, ◌≤◌, ◌<◌, ℕ, Bool, true, false, List, length, map, nat_eq}
use Rattle.std.specs.Prelude.{nat_le, ◌+◌, if◌then◌else◌}
use Rattle.std.specs.Prelude.{Option, Some, None, [], ◌∷◌, ◌++◌, take, drop, flat_map}
use Rattle.std.specs.List.{filter, starts_with}
use Rattle.std.specs.Option.{option_to_list}
use Rattle.std.specs.Ordering.{nat_cmp, is_lt}
use Rattle.std.specs.Cmp.Lexicographic.{slice_cmp}
use Rattle.rf2_values.specs.declared.row.Kind.TheVariants as kinds
use Rattle.history_model.specs.declared.stamped.StampedRow.{StampedRow}
use Rattle.history_model.specs.InOrder.{Has, IsAscending}
use Rattle.history_model.specs.Queries.{is_above}
use Rattle.segment.specs.declared.place.RowPlace.{RowPlace}
use Rattle.as_of_index.specs.declared.chosen.Chosen.{Chosen}
use Rattle.as_of_index.specs.Private.Chosen.{chosen, chosen_cmp}
use Rattle.segment.specs.Standing.{places_of}
use Rattle.as_of_index.specs.Places.{item_at}
use Rattle.as_of_index.specs.Current.{IsPlaceOfRow, IsCurrentAt}
use Rattle.as_of_index.specs.Numbers.{TwoLists, number_in_both}
use Rattle.term_prefix.specs.declared.search.Bounds.{Bounds}
use Rattle.term_prefix.specs.declared.search.Candidate.{Candidate}
use Rattle.term_prefix.specs.declared.search.Candidate.TheVariants as candidates
use Rattle.term_prefix.specs.declared.search.Search.{Search}
use Rattle.term_prefix.specs.declared.text.Term.{Term}
use Rattle.term_prefix.specs.declared.merging.Next.{Next}
use Rattle.term_prefix.specs.declared.merging.Next.TheVariants as next
use Rattle.term_prefix.specs.Terms.{TermAt}
use Rattle.term_prefix.specs.Merged.{MergedTerms, moved}
use Rattle.term_prefix.specs.Laid.{term_at, terms_at, AreLaid, head, HaveHeads}

-- the folding begins with this text
abbrev pub begins : List ℕ → TermAt → Bool
begins text t = starts_with nat_eq t.folded text

-- the place of row `i` of list `n`, if there is one
abbrev pub chosen_at : List (List StampedRow) → ℕ → ℕ → List Chosen
chosen_at lists n i = map (chosen n) (option_to_list (item_at (map places_of lists) n i))

-- the places of the terms whose folding begins with this text
abbrev pub begun : List (List StampedRow) → List ℕ → List (ℕ × TermAt) → List Chosen
begun lists text xs =
    flat_map (λ x. chosen_at lists x.0 x.1.row) (filter (λ x. begins text x.1) xs)

-- as many are kept as allowed, all with smaller ids
abbrev pub IsBeyond : ℕ → List Chosen → ℕ → Type 0
IsBeyond limit kept id = (limit ≤ length kept) × ((j : Chosen) → Has kept j → j.at.key.id < id)

-- the id is kept, or too great to be kept
abbrev pub IsKeptOrBeyond : ℕ → List Chosen → ℕ → Type 0
IsKeptOrBeyond limit kept id = ((j : Chosen) × Has kept j × (j.at.key.id ≡ id)) ⊎ IsBeyond limit kept id

-- as many are kept as allowed, none with a greater id
abbrev pub IsFull : ℕ → List Chosen → ℕ → Type 0
IsFull limit kept id = (limit ≤ length kept) × ((j : Chosen) → Has kept j → j.at.key.id ≤ id)

-- the result of a test of an id: true if as many are kept as allowed, none with a greater id; false
-- if fewer are kept, or one of them has a greater id
abbrev pub SaysFull : ℕ → List Chosen → ℕ → Bool → Type 0
SaysFull limit kept id true = IsFull limit kept id
SaysFull limit kept id false = limit ≤ length kept → (j : Chosen) × Has kept j × (id < j.at.key.id)

-- the id is greater than `after`, if that is given, and the place is current
pub record Counts (lists : List (List StampedRow)) (search : Search) (k : Chosen) : Type 0 where
  pub above : is_above search.after k.at.key.id ≡ true
  pub current : IsCurrentAt lists search.as_of k.segment k.at

-- the result for row `i` of list `n`: its place, if it counts and there is room for it; otherwise
-- why it isn't kept
abbrev pub SaysCandidate : List (List StampedRow) → Search → List Chosen → ℕ → ℕ → Candidate
    → Type 0
SaysCandidate lists search kept n i (candidates.Wanted at) = IsPlaceOfRow lists n i at
    × Counts lists search (chosen n at) × SaysFull search.limit kept at.key.id false
SaysCandidate lists search kept n i candidates.Low = (at : RowPlace) × IsPlaceOfRow lists n i at
    × (is_above search.after at.key.id ≡ false)
SaysCandidate lists search kept n i candidates.High = (at : RowPlace) × IsPlaceOfRow lists n i at
    × IsFull search.limit kept at.key.id
SaysCandidate lists search kept n i candidates.Old = (at : RowPlace) → IsPlaceOfRow lists n i at
    → Counts lists search (chosen n at) → ⊥

-- row `i` of list `n`, if there is one, is a description
abbrev pub IsOfDescription : List (List StampedRow) → ℕ → ℕ → Type 0
IsOfDescription lists n i = (at : RowPlace) → IsPlaceOfRow lists n i at
    → at.key.kind ≡ kinds.Description

abbrev pub AreOfDescriptions : List (List StampedRow) → ℕ → List Term → Type 0
AreOfDescriptions lists n ts = (t : Term) → Has ts t → IsOfDescription lists n t.row

-- the number is `end` or greater, if an end is known
abbrev pub is_past : Option ℕ → ℕ → Bool
is_past None i = false
is_past (Some end) i = nat_le end i

-- of the rows of descriptions in list `n`, those before `first` have no id greater than `after`;
-- and those from `end` on have no smaller id than the kept ones, which are as many as allowed
pub record AreBounds (lists : List (List StampedRow)) (after : Option ℕ) (limit : ℕ)
    (kept : List Chosen) (n : ℕ) (b : Bounds) : Type 0 where
  pub low : (i : ℕ) (at : RowPlace) → IsPlaceOfRow lists n i at → at.key.kind ≡ kinds.Description
      → i < b.first → is_above after at.key.id ≡ false
  pub high : (i : ℕ) (at : RowPlace) → IsPlaceOfRow lists n i at → at.key.kind ≡ kinds.Description
      → is_past b.end i ≡ true → IsFull limit kept at.key.id

-- of those that count, the first by id are kept, as many as allowed
pub record AreKept (lists : List (List StampedRow)) (search : Search) (seen kept : List Chosen)
    : Type 0 where
  pub ascending : IsAscending chosen_cmp kept
  pub few : length kept ≤ search.limit
  pub all : (k : Chosen) → Has seen k → Counts lists search k
      → IsKeptOrBeyond search.limit kept k.at.key.id
  pub only : (k : Chosen) → Has kept k → Has seen k × Counts lists search k

-- a term was added, with its folding at the end of the text
pub record AddsTerm (text : List ℕ) (ts : List Term) (folded : List ℕ) (row : ℕ)
    (text' : List ℕ) (ts' : List Term) : Type 0 where
  pub texts : text' ≡ text ++ folded
  pub terms : ts' ≡ ts ++ record {
    head = head 16 folded;
    start = length text;
    len = length folded;
    row = row;
  } ∷ []

-- the first `n` terms and their text are left
pub record IsCut (text : List ℕ) (ts : List Term) (n : ℕ) (text' : List ℕ) (ts' : List Term)
    : Type 0 where
  pub laid : AreLaid 0 ts' (length text')
  pub heads : HaveHeads text ts → HaveHeads text' ts'
  pub same : terms_at text' ts' ≡ take n (terms_at text ts)

-- what terms are compared by: the head, and then the folding
abbrev pub headed : List ℕ → Term → List ℕ
headed text t = t.head ∷ (term_at text t).folded

-- the list that has the smaller of two terms; the first if they are equal
abbrev pub lesser_of : TermAt → TermAt → Next
lesser_of t u = if is_lt (slice_cmp nat_cmp u.folded t.folded) then next.Second else next.First

-- the list that has the next term, if these are the next ones of both lists
abbrev pub next_of : Option TermAt → Option TermAt → Next
next_of None None = next.Neither
next_of None (Some u) = next.Second
next_of (Some t) None = next.First
next_of (Some t) (Some u) = lesser_of t u

-- a term of the first list is merged
abbrev pub first_taken : TwoLists → TermAt → MergedTerms → MergedTerms
first_taken lists t m = record {
  terms = m.terms ++ moved (number_in_both lists.first lists.second) t ∷ [];
  taken = record { first = m.taken.first + 1; second = m.taken.second };
}

-- a term of the second list is merged
abbrev pub second_taken : TwoLists → TermAt → MergedTerms → MergedTerms
second_taken lists t m = record {
  terms = m.terms ++ moved (number_in_both lists.second lists.first) t ∷ [];
  taken = record { first = m.taken.first; second = m.taken.second + 1 };
}

-- the term with the number of the 16 bytes behind its head in the head's place
abbrev pub looked_further : List ℕ → Term → Term
looked_further text t = record t { head = head 16 (drop 16 (term_at text t).folded) }

-- the term with another head
abbrev pub with_head : ℕ → Term → Term
with_head n t = record t { head = n }

-- all have the same head
abbrev pub HaveOneHead : List Term → Type 0
HaveOneHead ts = (t u : Term) → Has ts t → Has ts u → t.head ≡ u.head

-- each of the first terms has a smaller head than each of the others
abbrev pub HeadsAreBelow : List Term → List Term → Type 0
HeadsAreBelow ts us = (t u : Term) → Has ts t → Has us u → t.head < u.head

-- the term has the head of its folding
abbrev pub HasHead : List ℕ → Term → Type 0
HasHead text t = t.head ≡ head 16 (term_at text t).folded
