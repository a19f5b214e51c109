-- How the rows of an answer are those that a question asks for, whatever was read.
use Rattle.std.specs.Prelude.{◌≡◌, Bool, true, false, List}
use Rattle.std.specs.List.Sorted.{IsPermutation}
use Rattle.rf2_values.specs.declared.key.Key.{Key}
use Rattle.question_model.specs.Questions.{RowQuestion, Replaced, Replaces}

-- whether the rows of an answer are put in order once they are read, as associations are
abbrev pub is_put_in_order : RowQuestion → Bool
is_put_in_order (Replaced id date) = true
is_put_in_order (Replaces id date) = true
is_put_in_order question = false

-- the keys of rows are those of the rows that are asked for: the same in the same order; or in any
-- order if they are put in order once they are read
abbrev pub AreSameKeys : (put_in_order : Bool) → (given wanted : List Key) → Type 0
AreSameKeys false given wanted = given ≡ wanted
AreSameKeys true given wanted = IsPermutation wanted given

abbrev pub SameKeysFor : RowQuestion → List Key → List Key → Type 0
SameKeysFor question = AreSameKeys (is_put_in_order question)
