-- Definitions for private functions and proofs. No public clause cites them.
pub mod Chains
use Rattle.std.specs.Prelude.{◌≡◌, ◌≤◌, ◌<◌, ◌⊎◌, ◌↔◌, ℕ, ◌+◌, ◌-◌, ◌^◌, Bool, true, false, List}
use Rattle.std.specs.Prelude.{[], ◌∷◌}
use Rattle.std.specs.Prelude.{◌++◌, length, map, flat_map, take, drop, get_or, slice_get, nat_eq, nat_lt, not}
use Rattle.std.specs.Prelude.{Option, Some, None, Result, IfOk, OnOk, encode_utf8_all}
use Rattle.std.specs.List.{AllByRecursion, starts_with, filter}
use Rattle.std.specs.Option.{option_to_list}
use Rattle.std.specs.Ordering.{nat_cmp, is_lt}
use Rattle.std.specs.Cmp.Lexicographic.{slice_cmp}
use Rattle.rf2_values.specs.Row.{RowValue}
use Rattle.history_model.specs.declared.stamped.StampedRow.{StampedRow}
use Rattle.history_model.specs.InOrder.{Has, IsAscending}
use Rattle.word_model.specs.Words.{is_of_word, is_of_type, runs}
use Rattle.segment.specs.declared.place.RowPlace.{RowPlace}
use Rattle.as_of_index.specs.declared.as_of.AsOf.{AsOf}
use Rattle.as_of_index.specs.declared.chosen.Chosen.{Chosen}
use Rattle.as_of_index.specs.Chosen.{StandAtAll}
use Rattle.as_of_index.specs.Current.{IsPlaceOfRow, IsCurrentAt}
use Rattle.as_of_index.specs.Private.Chosen.{ranked_cmp}
use Rattle.as_of_index.specs.Private.Once.{IsThere, AreOnce}
use Rattle.term_prefix.specs.Terms.{TermAt, TextsRise}
use Rattle.term_words.specs.declared.keys.Key.{Key}
use Rattle.term_words.specs.declared.keys.KeyAt.{KeyAt}
use Rattle.term_words.specs.declared.keys.KeyAt.TheVariants as places
use Rattle.term_words.specs.declared.listing.Entry.{Entry}
use Rattle.term_words.specs.declared.listing.Posting.{Posting}
use Rattle.term_words.specs.declared.listing.Parts.{Parts}
use Rattle.term_words.specs.declared.ordered.Split.{Split}
use Rattle.term_words.specs.declared.ordered.Placed.{Placed}
use Rattle.term_words.specs.declared.postings.Pushed.{Pushed}
use Rattle.term_words.specs.declared.sealing.Numbered.{Numbered}
use Rattle.term_words.specs.declared.sealing.Ranked.{Ranked}
use Rattle.term_words.specs.declared.merging.Next.{Next}
use Rattle.term_words.specs.declared.merging.Next.TheVariants as next
use Rattle.term_words.specs.declared.grouping.Group.{Group}
use Rattle.term_words.specs.Posted.{keyed, measure_key, word_key}
use Rattle.term_words.specs.Laid.{key_in, keys_in, EndsWithin, EachEndsWithin}
use Rattle.term_words.specs.Private.Chains.{key_of, AreEntries}
use Rattle.term_words.specs.Laid.{all_pushed_in, ArePushed, rows_of, postings_in, seen_in, AreParted}
use Rattle.term_words.specs.Laid.{IsSizeKey, IsWordKey, row_of_rank}
use Rattle.memchr.specs.Find.{is_byte, places as places_that}

-- the bytes of a key's word were added to a text, where they are at this place
pub record IsLaid (text key text' : List ℕ) (at : KeyAt) : Type 0 where
  pub added : List ℕ
  pub text_is : text' ≡ text ++ added
  pub same : key_in text' at ≡ key
  pub within : EndsWithin (length text') at

abbrev pub AddsKey : {E : Type 0} → Result KeyAt E → List ℕ → List ℕ → List ℕ → Type 0
AddsKey result text key text' = IfOk result (λ at. IsLaid text key text' at)

-- the last entry has the key
pub record IsLast (text : List ℕ) (entries : List Entry) (key : List ℕ) : Type 0 where
  pub before : List Entry
  pub last : Entry
  pub entries_are : entries ≡ before ++ last ∷ []
  pub same : key_in text last.key ≡ key

-- an entry with one more row
abbrev pub grown : Entry → Entry
grown e = record { key = e.key; first = e.first; count = e.count + 1 }

-- the posting that was read is the one that there is
abbrev pub SaysPosting : Option TermAt → Option Posting → Type 0
SaysPosting there None = there ≡ None
SaysPosting there (Some p) = there ≡ Some (keyed p.row (key_of p.key))

abbrev pub SaysPlaced : Option TermAt → Option Placed → Type 0
SaysPlaced there None = there ≡ None
SaysPlaced there (Some p) = there ≡ Some (keyed p.row (key_of p.key))

-- ---- the words of a text

-- the word that begins at `start`, up to the end of the text, was added, if it has any character
pub record IsClosed (text : List ℕ) (keys : List KeyAt) (start : ℕ) (keys' : List KeyAt) (next : ℕ)
    : Type 0 where
  pub next_is : next ≡ length text
  pub some : start < length text
      → keys' ≡ keys ++ places.Word start (length text - start) ∷ []
  pub none : length text ≤ start → keys' ≡ keys

-- What is left to read, with the word that begins at `start` before it, gives the rest of the
-- `whole` list of keys.
pub record Leads (text : List ℕ) (keys : List KeyAt) (start : ℕ) (left : List ℕ)
    (whole : List (List ℕ)) : Type 0 where
  pub word : List ℕ
  pub word_is : drop start text ≡ encode_utf8_all word
  pub of_word : AllByRecursion (λ c. is_of_word c ≡ true) word
  pub within : start ≤ length text
  pub closed : EachEndsWithin start keys
  pub whole_is :
      keys_in text keys ++ map word_key (map encode_utf8_all (runs (word ++ left))) ≡ whole

-- after these characters were read the rest leads to the same whole as before
abbrev pub Follows : List ℕ → List KeyAt → ℕ → List ℕ → List ℕ → List KeyAt → ℕ → Type 0
Follows text keys start cs text' keys' start' = (left : List ℕ) (whole : List (List ℕ))
    → Leads text keys start (cs ++ left) whole → Leads text' keys' start' left whole

-- ---- different keys with numbers

-- the key has the number that was returned
abbrev pub IsNumbered : {E : Type 0} → Result ℕ E → List (List ℕ) → List ℕ → Type 0
IsNumbered result keys key = IfOk result (λ number. slice_get keys number ≡ Some key)

-- no key was changed, and some may have been added
abbrev pub KeepsKeys : List ℕ → List KeyAt → List ℕ → List KeyAt → Type 0
KeepsKeys text keys text' keys' = EachEndsWithin (length text) keys
    → EachEndsWithin (length text') keys'
    × ((more : List (List ℕ)) × (keys_in text' keys' ≡ keys_in text keys ++ more))

-- Postings were added; if the call failed, some of them, and before them the others are as they
-- were.
pub record IsPostedWith (text : List ℕ) (keys : List KeyAt) (pushed : List Pushed)
    (posted : List TermAt) (text' : List ℕ) (keys' : List KeyAt) (pushed' : List Pushed)
    : Type 0 where
  pub are : ArePushed text' keys' pushed'
  pub same : all_pushed_in (keys_in text' keys') pushed'
      ≡ all_pushed_in (keys_in text keys) pushed ++ posted

-- some postings were added
abbrev pub PostsSome : List ℕ → List KeyAt → List Pushed → List ℕ → List KeyAt → List Pushed
    → Type 0
PostsSome text keys pushed text' keys' pushed' =
    (some : List TermAt) × IsPostedWith text keys pushed some text' keys' pushed'

-- ---- postings that are put in order

-- no key is less than one before it
abbrev pub KeysRise : List (List ℕ) → Type 0
KeysRise keys = TextsRise (map (keyed 0) keys)

-- the keys with their numbers, counted from 0
pub record AreNumbered (keys : List KeyAt) (all : List Numbered) : Type 0 where
  pub same : map (λ n. n.key) all ≡ keys
  pub numbers : (i : ℕ) (n : Numbered) → slice_get all i ≡ Some n → n.number ≡ i

abbrev pub numbered_keys : List ℕ → List Numbered → List (List ℕ)
numbered_keys text all = map (λ n. key_in text n.key) all

-- for the number of each of these keys the number that it has among them
pub record AreRanks (sorted : List Numbered) (ranks : List ℕ) : Type 0 where
  pub many : length ranks ≡ length sorted
  pub found : (n : Numbered) → Has sorted n → (rank : ℕ) × (m : Numbered)
      × (slice_get ranks n.number ≡ Some rank) × (slice_get sorted rank ≡ Some m)
      × (m.number ≡ n.number)

-- the postings with other numbers of their keys
abbrev pub RanksAre : List ℕ → List Pushed → List Ranked → Type 0
RanksAre ranks pushed all =
    all ≡ map (λ p. record { rank = get_or ranks p.key 0; row = p.row }) pushed

abbrev pub ranked_in : List (List ℕ) → Ranked → TermAt
ranked_in keys p = keyed p.row (get_or keys p.rank [])

abbrev pub all_ranked_in : List (List ℕ) → List Ranked → List TermAt
all_ranked_in keys all = map (ranked_in keys) all

-- the number of the posting's key is among the first `end` ones
abbrev pub is_first : ℕ → Ranked → Bool
is_first end p = nat_lt p.rank end

abbrev pub is_other : ℕ → Ranked → Bool
is_other end p = not (is_first end p)

-- a posting that has the rank of its description, with the number of its row
abbrev pub with_row : List TermAt → Ranked → Ranked
with_row sizes p = record { rank = p.rank; row = row_of_rank sizes p.row }

abbrev pub all_with_rows : List TermAt → List Ranked → List Ranked
all_with_rows sizes ps = map (with_row sizes) ps

-- each has the rank of a description
abbrev pub AreRanksOf : List TermAt → List Ranked → Type 0
AreRanksOf sizes ps = AllByRecursion (λ (p : Ranked). p.row < length sizes) ps

-- what was found for the number of a row, if it is the number of one of these rows, is its own
pub record AreOwnRanks (rows ranks : List ℕ) : Type 0 where
  pub few : length rows < 2 ^ 32
  pub own : (row rank : ℕ) → slice_get ranks row ≡ Some rank → rank < length rows
      → slice_get rows rank ≡ Some row

-- those of the postings whose keys aren't among the first ones were added, with the ranks of their
-- descriptions in the places of the numbers of their rows
pub record AddsPlaced (sizes : List TermAt) (end : ℕ) (postings all all' : List Ranked)
    : Type 0 where
  pub same : all_with_rows sizes all' ≡ all_with_rows sizes all ++ filter (is_other end) postings
  pub within : AreRanksOf sizes all → AreRanksOf sizes all'

pub record ArePlaced (sizes : List TermAt) (end : ℕ) (postings all : List Ranked) : Type 0 where
  pub same : all_with_rows sizes all ≡ filter (is_other end) postings
  pub within : AreRanksOf sizes all

-- the key is by length and type, or else by a word
abbrev pub IsOfKind : Bool → List ℕ → Type 0
IsOfKind true key = IsSizeKey key
IsOfKind false key = IsWordKey key

abbrev pub AreOfKind : Bool → List TermAt → Type 0
AreOfKind are_sizes ts = AllByRecursion (λ (t : TermAt). IsOfKind are_sizes t.folded) ts

-- postings by words, each with the rank of a description
abbrev pub AreWordsOf : List TermAt → List TermAt → Type 0
AreWordsOf sizes words =
    AllByRecursion (λ (t : TermAt). IsWordKey t.folded × (t.row < length sizes)) words

-- ---- postings in order

abbrev pub entry_keys : List ℕ → List Entry → List (List ℕ)
entry_keys text entries = map (λ e. key_in text e.key) entries

-- what is stored of a part of the postings
abbrev pub all_in : Parts → List TermAt
all_in p = postings_in p.text.now p.entries.now p.rows.now

abbrev pub AreStored : Parts → Type 0
AreStored p = AreEntries p.text.now p.entries.now p.rows.now

abbrev pub PartsRise : Parts → Type 0
PartsRise p = KeysRise (entry_keys p.text.now p.entries.now)

-- the postings are stored in these two parts
pub record IsSplit (ts : List TermAt) (s : Split) : Type 0 where
  pub same : seen_in (all_in s.sizes) (all_in s.words) ≡ ts
  pub parted : AreParted (all_in s.sizes) (all_in s.words)
  pub sizes_are : AreStored s.sizes
  pub words_are : AreStored s.words

-- what a search needs to know of the parts of a list
abbrev pub IsUsable : Split → Type 0
IsUsable s = AreStored s.sizes × PartsRise s.words

-- for each list there are the parts in which its postings are stored
abbrev pub AreSplit : List (List TermAt) → List Split → Type 0
AreSplit [] [] = Unit {0}
AreSplit [] (s ∷ splits) = ⊥
AreSplit (ts ∷ lists) [] = ⊥
AreSplit (ts ∷ lists) (s ∷ splits) = (IsSplit ts s × PartsRise s.words) × AreSplit lists splits

-- ---- merging

-- Which list has the next posting, and the posting, if these are the next ones of both lists: that
-- of the first list unless the key of the other one is less. Or neither list has one.
abbrev pub IsNext : Option TermAt → Option TermAt → Next → Type 0
IsNext a b (next.First t) = (a ≡ Some (keyed t.row (key_of t.key)))
    × ((u : TermAt) → b ≡ Some u → is_lt (slice_cmp nat_cmp u.folded (key_of t.key)) ≡ false)
IsNext a b (next.Second u) = (b ≡ Some (keyed u.row (key_of u.key)))
    × ((t : TermAt) → a ≡ Some t → is_lt (slice_cmp nat_cmp (key_of u.key) t.folded) ≡ true)
IsNext a b next.Neither = (a ≡ None) × (b ≡ None)

-- ---- searching

-- row `i` has a key that begins with this one
abbrev pub IsBegun : List TermAt → List ℕ → ℕ → Type 0
IsBegun ts prefix i =
    (t : TermAt) × Has ts t × (t.row ≡ i) × (starts_with nat_eq t.folded prefix ≡ true)

abbrev pub IsMarked : List ℕ → ℕ → Type 0
IsMarked marks i = slice_get marks i ≡ Some 1

-- those of the descriptions that are marked among others were marked too
pub record AddsMarks (marks among ranks marks' : List ℕ) : Type 0 where
  pub many : length marks' ≡ length marks
  pub marked : length marks ≡ length among → (i : ℕ) → IsMarked marks' i
      ↔ (IsMarked marks i ⊎ (IsMarked among i × Has ranks i))

-- those are marked, among the marked ones, that have a key beginning with this one
pub record AreNarrowed (ts : List TermAt) (among prefix marks : List ℕ) : Type 0 where
  pub many : length marks ≡ length among
  pub marked : (i : ℕ) → IsMarked marks i ↔ (IsMarked among i × IsBegun ts prefix i)

-- of the first `count` those are marked that have for each wanted key one beginning with it
pub record AreMarked (ts : List TermAt) (wanted : List (List ℕ)) (count : ℕ) (marks : List ℕ)
    : Type 0 where
  pub many : length marks ≡ count
  pub marked : (i : ℕ) → IsMarked marks i
      ↔ ((i < count) × ((prefix : List ℕ) → Has wanted prefix → IsBegun ts prefix i))

-- each list's marks are those of its descriptions, by their ranks
abbrev pub EachMarked : List Split → List (List ℕ) → List (List ℕ) → Type 0
EachMarked splits wanted marks = (n : ℕ) (s : Split) → slice_get splits n ≡ Some s
    → (own : List ℕ) × (slice_get marks n ≡ Some own)
    × AreMarked (all_in s.words) wanted (length s.sizes.rows.now) own

-- the posting with this number says that row `i` has a term of this length, and of the wanted type
-- if one is wanted
abbrev pub IsSized : List TermAt → Option ℕ → ℕ → ℕ → ℕ → Type 0
IsSized ts wanted_type len rank i = (type_id : ℕ)
    × (slice_get ts rank ≡ Some (keyed i (measure_key len type_id)))
    × (is_of_type wanted_type type_id ≡ true)

abbrev pub IsSizedIn : List Split → Option ℕ → ℕ → ℕ → ℕ → ℕ → Type 0
IsSizedIn splits wanted_type n len rank i =
    (s : Split) × (slice_get splits n ≡ Some s) × IsSized (all_in s.sizes) wanted_type len rank i

-- the rows of the entry, which is by a length and the wanted type, are a group of list `n`
pub record IsGroupOf (rows : List ℕ) (n : ℕ) (wanted_type : Option ℕ) (e : Entry) (g : Group)
    : Type 0 where
  pub type_id : ℕ
  pub key_is : e.key ≡ places.Measure g.len type_id
  pub of_type : is_of_type wanted_type type_id ≡ true
  pub segment_is : g.segment ≡ n
  pub first_is : g.first ≡ e.first
  pub rows_are : g.rows.now ≡ rows_of rows e

-- the groups of these entries were added
pub record AddsGroupsOf (rows : List ℕ) (n : ℕ) (wanted_type : Option ℕ) (those : List Entry)
    (groups groups' : List Group) : Type 0 where
  pub more : List Group
  pub groups_are : groups' ≡ groups ++ more
  pub only : (g : Group) → Has more g
      → (e : Entry) × Has those e × IsGroupOf rows n wanted_type e g
  pub all : (e : Entry) (len type_id : ℕ) → Has those e → e.key ≡ places.Measure len type_id
      → is_of_type wanted_type type_id ≡ true
      → (g : Group) × Has more g × IsGroupOf rows n wanted_type e g

-- the row has this rank in the group
abbrev pub IsInGroup : Group → ℕ → ℕ → Type 0
IsInGroup g rank i = (j : ℕ) × (g.first + j ≡ rank) × (slice_get g.rows.now j ≡ Some i)

-- the rows of list `n` were added in groups
pub record AddsGroups (ts : List TermAt) (n : ℕ) (wanted_type : Option ℕ)
    (groups groups' : List Group) : Type 0 where
  pub more : List Group
  pub groups_are : groups' ≡ groups ++ more
  pub only : (g : Group) → Has more g → (g.segment ≡ n)
      × ((rank i : ℕ) → IsInGroup g rank i → IsSized ts wanted_type g.len rank i)
  pub all : (len rank i : ℕ) → IsSized ts wanted_type len rank i
      → (g : Group) × Has more g × (g.len ≡ len) × IsInGroup g rank i

-- the groups are those of all lists
pub record AreGroups (splits : List Split) (wanted_type : Option ℕ) (groups : List Group)
    : Type 0 where
  pub only : (g : Group) (rank i : ℕ) → Has groups g → IsInGroup g rank i
      → IsSizedIn splits wanted_type g.segment g.len rank i
  pub all : (n len rank i : ℕ) → IsSizedIn splits wanted_type n len rank i
      → (g : Group) × Has groups g × (g.segment ≡ n) × (g.len ≡ len) × IsInGroup g rank i

-- what is read of a row of list `n` at this place, if its term has this length
abbrev pub sized : ℕ → ℕ → RowPlace → Chosen
sized n len at = record { segment = n; at = at; first = len; second = 0 }

-- a row among these that is current
abbrev pub IsOfRows : List (List StampedRow) → AsOf → ℕ → ℕ → List ℕ → Chosen → Type 0
IsOfRows lists as_of n len rows k = (i : ℕ) × Has rows i
    × IsPlaceOfRow lists n i k.at × IsCurrentAt lists as_of n k.at × (k ≡ sized n len k.at)

-- the rows with these numbers in a list of them
abbrev pub picked : List ℕ → List ℕ → List ℕ
picked rows numbers = flat_map (λ j. option_to_list (slice_get rows j)) numbers

-- the rows of the group that are marked
abbrev pub hits : Group → List ℕ → List ℕ
hits g marks = picked g.rows.now
    (places_that (is_byte 1) (take (length g.rows.now) (drop g.first marks)))

abbrev pub IsOfGroup : List (List StampedRow) → AsOf → Group → List ℕ → Chosen → Type 0
IsOfGroup lists as_of g marks k = IsOfRows lists as_of g.segment g.len (hits g marks) k

-- those of the rows were added
pub record AddsRows (lists : List (List StampedRow)) (as_of : AsOf) (n len : ℕ) (rows : List ℕ)
    (kept kept' : List Chosen) : Type 0 where
  pub more : List Chosen
  pub kept_are : kept' ≡ kept ++ more
  pub only : (k : Chosen) → Has more k → IsOfRows lists as_of n len rows k
  pub all : (k : Chosen) → IsOfRows lists as_of n len rows k → Has more k

abbrev pub AddsRowsOf : List (List StampedRow) → AsOf → Group → List ℕ → List Chosen
    → List Chosen → Type 0
AddsRowsOf lists as_of g marks kept kept' =
    AddsRows lists as_of g.segment g.len (hits g marks) kept kept'

-- those of the group were added, if its list has marks
pub record AddsMarked (lists : List (List StampedRow)) (as_of : AsOf) (g : Group)
    (marks : List (List ℕ)) (kept kept' : List Chosen) : Type 0 where
  pub some : (own : List ℕ) → slice_get marks g.segment ≡ Some own
      → AddsRowsOf lists as_of g own kept kept'
  pub none : slice_get marks g.segment ≡ None → kept' ≡ kept

-- a marked row of some group that is current
abbrev pub IsOfSome : List (List StampedRow) → AsOf → List Group → List (List ℕ) → Chosen
    → Type 0
IsOfSome lists as_of groups marks k = (g : Group) × Has groups g × (own : List ℕ)
    × (slice_get marks g.segment ≡ Some own) × IsOfGroup lists as_of g own k

-- those rows are kept, each once
pub record AreKept (lists : List (List StampedRow)) (as_of : AsOf) (groups : List Group)
    (marks : List (List ℕ)) (kept : List Chosen) : Type 0 where
  pub only : (k : Chosen) → Has kept k → IsOfSome lists as_of groups marks k
  pub all : (k : Chosen) → IsOfSome lists as_of groups marks k → IsThere ranked_cmp kept k

-- in order, those rows are kept; or at least `count` of them, and all others have longer terms
pub record AreShortest (lists : List (List StampedRow)) (as_of : AsOf) (groups : List Group)
    (marks : List (List ℕ)) (count : ℕ) (kept : List Chosen) : Type 0 where
  pub ascending : IsAscending ranked_cmp kept
  pub only : (k : Chosen) → Has kept k → IsOfSome lists as_of groups marks k
  pub all : (k : Chosen) → IsOfSome lists as_of groups marks k → IsThere ranked_cmp kept k
      ⊎ ((count ≤ length kept) × ((j : Chosen) → Has kept j → j.first < k.first))

-- Whether enough rows are kept: if so they are in order, each once, at least `count`, and the next
-- ones have longer terms. Otherwise they are as before, or in order, each once.
abbrev pub SaysEnough : ℕ → ℕ → ℕ → List Chosen → List Chosen → Bool → Type 0
SaysEnough count last next kept kept' true =
    AreOnce ranked_cmp kept kept' × (count ≤ length kept') × (last < next)
SaysEnough count last next kept kept' false = (kept' ≡ kept) ⊎ AreOnce ranked_cmp kept kept'

-- the rows are those that stand at these places
abbrev pub StandFor : List (List StampedRow) → List Chosen → List RowValue → Type 0
StandFor lists ks wanted = (rows : List StampedRow) × StandAtAll lists ks rows
    × (map (λ s. s.row) rows ≡ wanted)
