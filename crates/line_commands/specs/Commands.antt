-- Commands, and how they are spelled.
use Rattle.std.specs.Prelude.{◌≡◌, ℕ, ◌≤◌, ◌<◌, ◌^◌, List, [], ◌∷◌, codes, decimal, Option, Some}
use Rattle.std.specs.Prelude.{None}
use Rattle.line_commands.specs.Names.{IsName}
use Rattle.line_commands.specs.Spelling.{word_of_question, SpellsQuestion}
use Rattle.question_model.specs.Questions.{Question}

pub data Command : Type 0 where
  Ask : (question : Question) → Command
  -- the question, about the first `number` imports
  At : (number : ℕ) (question : Question) → Command
  Import : (name : List ℕ) → Command
  -- what an import of the release would reply
  Check : (name : List ℕ) → Command
  Pin : (number : Option ℕ) → Command
  Unpin : Command
  Merge : Command
  Step : (rows : ℕ) → Command
  Publish : Command
  Abandon : Command
  Trim : Command
  Status : Command

-- the word of a command
abbrev pub word_of : Command → List ℕ
word_of (Ask question) = word_of_question question
word_of (At number question) = codes "AT"
word_of (Import name) = codes "IMPORT"
word_of (Check name) = codes "CHECK"
word_of (Pin number) = codes "PIN"
word_of Unpin = codes "UNPIN"
word_of Merge = codes "MERGE"
word_of (Step rows) = codes "STEP"
word_of Publish = codes "PUBLISH"
word_of Abandon = codes "ABANDON"
word_of Trim = codes "TRIM"
word_of Status = codes "STATUS"

-- How the arguments of a command are spelled. A question after AT is spelled like one after a
-- session's number.
abbrev pub SpellsArguments : Command → List (List ℕ) → Type 0
SpellsArguments (Ask question) texts = SpellsQuestion question texts
SpellsArguments (At number question) texts =
    (arguments : List (List ℕ)) × SpellsQuestion question arguments × (number < 2 ^ 32)
    × (texts ≡ decimal number ∷ word_of_question question ∷ arguments)
SpellsArguments (Import name) texts = IsName name × (texts ≡ name ∷ [])
SpellsArguments (Check name) texts = IsName name × (texts ≡ name ∷ [])
SpellsArguments (Pin None) texts = texts ≡ []
SpellsArguments (Pin (Some number)) texts = (number < 2 ^ 32) × (texts ≡ decimal number ∷ [])
SpellsArguments (Step rows) texts = (1 ≤ rows) × (rows ≤ 100000) × (texts ≡ decimal rows ∷ [])
SpellsArguments command texts = texts ≡ []
