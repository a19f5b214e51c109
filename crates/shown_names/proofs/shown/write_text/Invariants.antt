use Rattle.std.proofs.Common.{◌≡◌, ℕ, List, ◌++◌, length, chars, IsUtf8}
use Rattle.std.specs.Fmt.{HasWritten, IsPlainFormatter}
use Rattle.std.specs.Str.Iter.{chars_rest}
use Rattle.shown_names.specs.Shown.{shown_character}
use Rattle.shown_names.proofs.Steps.{spelled}
use Rattle.shown_names.proofs.shown.write_text.Given as goal

abbrev pub invariant-characters : goal.invariant-characters
invariant-characters g l =
    IsUtf8 (chars_rest l.rest)
    × (IsPlainFormatter l.fn.f
    → (done : List ℕ) × HasWritten g.W.Write.write_str_gives l.fn.f done l.f
    × (done ++ spelled shown_character (chars (chars_rest l.rest)) ≡ spelled shown_character (chars l.fn.text)))

abbrev pub decreases-characters : goal.decreases-characters
decreases-characters g l = length (chars_rest l.rest)
