-- Definitions for private functions and proofs.
use Rattle.std.specs.Prelude.{ℕ, ◌+◌, List, [], ◌∷◌}
use Rattle.segment.specs.declared.place.RowPlace.{RowPlace}
use Rattle.merge.specs.declared.Taken.{Taken}
use Rattle.rf2_values.specs.Row.{RowValue}
use Rattle.term_prefix.specs.Terms.{TermAt}
use Rattle.term_words.specs.Posted.{posted_words}
use Rattle.segment_index.specs.declared.words.Words.{Words}
use Rattle.segment_index.specs.declared.words.Words.TheVariants as words

-- the postings of row `i` by words, if words are kept
abbrev pub words_if : Words → RowValue → ℕ → List TermAt
words_if words.Kept row i = posted_words row i
words_if words.LeftOut row i = []

-- more steps of a merge than there may be postings
abbrev pub most_steps : ℕ
most_steps = 18446744073709551615

-- the places of rows whose records are written one after the other, each at the offset after the
-- one before it
abbrev pub moved_from : ℕ → List Taken → List RowPlace
moved_from at [] = []
moved_from at (t ∷ taken) =
    (record t.place { at = at }) ∷ moved_from (at + t.place.bytes) taken
