-- Search by words: what the words of a term are, and which descriptions have words that begin as
-- those of a text do. `rows` are the rows that a pin shows, in key order.
use Rattle.std.specs.Prelude.{ℕ, Bool, true, false, ◌&&◌, ◌||◌, ◌==◌, not, nat_eq, Option}
use Rattle.std.specs.Prelude.{Some, None, List, [], ◌∷◌, take, drop, map, flat_map, length, chars}
use Rattle.std.specs.Prelude.{encode_utf8_all}
use Rattle.std.specs.List.{filter, list_any, list_all, starts_with, slice_split}
use Rattle.std.specs.Ordering.{nat_cmp, ordering_then}
use Rattle.std.specs.declared.cmp.Ordering.{Ordering}
use Rattle.std.specs.Char.Unicode.Alphabetic.{is_alphabetic}
use Rattle.std.specs.Char.Unicode.Numeric.{is_numeric}
use Rattle.caseless.specs.Caseless.{default_case_fold}
use Rattle.unicode_normalization.specs.Decompose.{decompose_canonical}
use Rattle.unicode_normalization.specs.Lookups.{is_combining_mark}
use Rattle.rf2_values.specs.declared.row.Body.{Body}
use Rattle.rf2_values.specs.declared.row.Body.TheVariants as body
use Rattle.rf2_values.specs.Row.{RowValue}
use Rattle.history_model.specs.InOrder.{in_order}
use Rattle.history_model.specs.Queries.{snapshot}

-- ---- the words of a text

abbrev pub is_no_mark : ℕ → Bool
is_no_mark c = not (is_combining_mark c)

-- what is left of a character once its marks are taken away
abbrev pub unmarked : ℕ → List ℕ
unmarked c = filter is_no_mark (decompose_canonical c)

-- the characters of a text in the default case folding, without their marks
unfoldable pub plain : List ℕ → List ℕ
plain text = flat_map unmarked (default_case_fold (chars text))

-- a letter or a digit
abbrev pub is_of_word : ℕ → Bool
is_of_word c = is_alphabetic c || is_numeric c

abbrev pub is_between_words : ℕ → Bool
is_between_words c = not (is_of_word c)

abbrev pub has_some : List ℕ → Bool
has_some [] = false
has_some (c ∷ cs) = true

-- the longest runs of letters and digits
abbrev pub runs : List ℕ → List (List ℕ)
runs cs = filter has_some (slice_split is_between_words cs)

-- the words of a text, each in UTF-8
unfoldable pub words : List ℕ → List (List ℕ)
words text = map encode_utf8_all (runs (plain text))

-- ---- descriptions with words

-- one of these words begins with the wanted one
abbrev pub some_begins : List (List ℕ) → List ℕ → Bool
some_begins own wanted = list_any (λ word. starts_with nat_eq word wanted) own

-- for each of the wanted words one of these begins with it
abbrev pub begin_with_all : List (List ℕ) → List (List ℕ) → Bool
begin_with_all own wanted = list_all (some_begins own) wanted

-- the type is the wanted one, if one is wanted
abbrev pub is_of_type : Option ℕ → ℕ → Bool
is_of_type None type_id = true
is_of_type (Some wanted) type_id = type_id == wanted

-- a description of the wanted type, if one is wanted, whose words begin with the wanted ones
abbrev pub says_words : Option ℕ → List (List ℕ) → Body → Bool
says_words wanted_type wanted (body.Description d) =
    is_of_type wanted_type d.type_id && begin_with_all (words d.term) wanted
says_words wanted_type wanted _ = false

abbrev pub has_words : Option ℕ → List (List ℕ) → RowValue → Bool
has_words wanted_type wanted row = row.active && says_words wanted_type wanted row.body

-- how many characters a description's term has
abbrev pub term_length : Body → ℕ
term_length (body.Description d) = length (chars d.term)
term_length _ = 0

-- the order by the length of the term, then by id
abbrev pub shortest_cmp : RowValue → RowValue → Ordering
shortest_cmp a b =
    ordering_then (nat_cmp (term_length a.body) (term_length b.body)) (nat_cmp a.id b.id)

-- the active descriptions at the date, of the wanted type if one is wanted, for which each word of
-- the text begins a word of the term; the shortest terms come first
unfoldable pub words_found : ℕ → Option ℕ → List ℕ → List RowValue → List RowValue
words_found date wanted_type text rows =
    in_order shortest_cmp (filter (has_words wanted_type (words text)) (snapshot rows date))

-- the first `limit` of these, after `offset` of them
unfoldable pub some_words_found : ℕ → Option ℕ → List ℕ → ℕ → ℕ → List RowValue → List RowValue
some_words_found date wanted_type text offset limit rows =
    take limit (drop offset (words_found date wanted_type text rows))
