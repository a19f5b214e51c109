-- Keys as they are passed, and entries whose rows stand one after the other, for private functions
-- and proofs. No public clause cites them.
use Rattle.std.specs.Prelude.{◌≡◌, ◌<◌, ℕ, ◌+◌, List, [], ◌∷◌, map, length}
use Rattle.term_words.specs.declared.keys.Key.{Key}
use Rattle.term_words.specs.declared.keys.Key.TheVariants as keys
use Rattle.term_words.specs.declared.listing.Entry.{Entry}
use Rattle.term_words.specs.Posted.{measure_key, word_key}
use Rattle.term_words.specs.Laid.{EachEndsWithin}

abbrev pub key_of : Key → List ℕ
key_of (keys.Measure len type_id) = measure_key len type_id
key_of (keys.Word word) = word_key word.now

-- each entry has at least one row, and their rows stand one after the other, from number `from` to
-- number `end`
abbrev pub AreChained : ℕ → List Entry → ℕ → Type 0
AreChained from [] end = from ≡ end
AreChained from (e ∷ entries) end =
    (e.first ≡ from) × (0 < e.count) × AreChained (from + e.count) entries end

-- the entries have these rows, and the bytes of their words are within the text
pub record AreEntries (text : List ℕ) (entries : List Entry) (rows : List ℕ) : Type 0 where
  pub chained : AreChained 0 entries (length rows)
  pub within : EachEndsWithin (length text) (map (λ e. e.key) entries)
