-- How keys and postings are stored, for the types' invariants: the bytes of words in one text, and
-- each key once, with the numbers of the rows that have it behind one another.
use Rattle.std.specs.Prelude.{◌≡◌, ◌≤◌, ◌<◌, ℕ, ◌+◌, ◌^◌, ◌++◌, List, [], map, flat_map, take, drop, length}
use Rattle.std.specs.Prelude.{get_or}
use Rattle.std.specs.List.{AllByRecursion}
use Rattle.term_words.specs.declared.keys.KeyAt.{KeyAt}
use Rattle.term_words.specs.declared.keys.KeyAt.TheVariants as places
use Rattle.term_words.specs.declared.listing.Entry.{Entry}
use Rattle.term_words.specs.declared.postings.Pushed.{Pushed}
use Rattle.term_prefix.specs.Terms.{TermAt}
use Rattle.term_words.specs.Posted.{measure_key, word_key, keyed}

-- a key whose word's bytes are in a text
abbrev pub key_in : List ℕ → KeyAt → List ℕ
key_in text (places.Measure len type_id) = measure_key len type_id
key_in text (places.Word start len) = word_key (take len (drop start text))

abbrev pub keys_in : List ℕ → List KeyAt → List (List ℕ)
keys_in text keys = map (key_in text) keys

-- a word's bytes end within so many bytes
abbrev pub EndsWithin : ℕ → KeyAt → Type 0
EndsWithin end (places.Measure len type_id) = Unit {0}
EndsWithin end (places.Word start len) = start + len ≤ end

abbrev pub EachEndsWithin : ℕ → List KeyAt → Type 0
EachEndsWithin end keys = AllByRecursion (EndsWithin end) keys

-- ---- a list of postings

-- the numbers of the rows that have an entry's key
abbrev pub rows_of : List ℕ → Entry → List ℕ
rows_of rows e = take e.count (drop e.first rows)

-- the postings of an entry
abbrev pub entry_postings : List ℕ → List ℕ → Entry → List TermAt
entry_postings text rows e = map (λ row. keyed row (key_in text e.key)) (rows_of rows e)

abbrev pub postings_in : List ℕ → List Entry → List ℕ → List TermAt
postings_in text entries rows = flat_map (entry_postings text rows) entries

-- ---- postings in two parts

-- the text of a posting by length and type begins so, and that of one by a word
abbrev pub IsSizeKey : List ℕ → Type 0
IsSizeKey key = get_or key 0 2 ≡ 0

abbrev pub IsWordKey : List ℕ → Type 0
IsWordKey key = get_or key 0 2 ≡ 1

-- the number of the row whose posting by length and type has this number among these
abbrev pub row_of_rank : List TermAt → ℕ → ℕ
row_of_rank sizes rank = (get_or sizes rank (keyed 0 [])).row

-- a posting by a word is stored with the rank of its row
abbrev pub by_rank : List TermAt → TermAt → TermAt
by_rank sizes t = keyed (row_of_rank sizes t.row) t.folded

-- the postings that are stored in these two parts
abbrev pub seen_in : List TermAt → List TermAt → List TermAt
seen_in sizes words = sizes ++ map (by_rank sizes) words

-- the first part has postings by length and type, and the second one those by words with ranks
pub record AreParted (sizes words : List TermAt) : Type 0 where
  pub of_sizes : AllByRecursion (λ (t : TermAt). IsSizeKey t.folded) sizes
  pub of_words : AllByRecursion (λ (t : TermAt). IsWordKey t.folded × (t.row < length sizes)) words
  pub few : length sizes + length words < 2 ^ 32

-- ---- postings as they are pushed

-- a posting whose key has its number among these
abbrev pub pushed_in : List (List ℕ) → Pushed → TermAt
pushed_in keys p = keyed p.row (get_or keys p.key [])

abbrev pub all_pushed_in : List (List ℕ) → List Pushed → List TermAt
all_pushed_in keys pushed = map (pushed_in keys) pushed

-- the bytes of words are within the text, and each posting's key is there
pub record ArePushed (text : List ℕ) (keys : List KeyAt) (pushed : List Pushed) : Type 0 where
  pub within : EachEndsWithin (length text) keys
  pub numbered : AllByRecursion (λ p. p.key < length keys) pushed
