-- How a name is shown to people: on one line, and so that a terminal interprets nothing in it.
use Rattle.std.specs.Prelude.{ℕ, Bool, ◌||◌, ◌==◌, ◌≤◌, ◌≢◌, cond, List, [], ◌∷◌, flat_map, chars}
use Rattle.std.specs.Char.{is_control}
use Rattle.std.specs.Char.Escape.{backslash, escape_default, escape_ascii}
use Rattle.std.specs.Int.{is_in_range}
use Rattle.std.specs.Str.{is_utf8}

-- a character that is never shown: a control character, a line or paragraph separator, or a mark of
-- text direction
abbrev pub is_unseen : ℕ → Bool
is_unseen c = is_control c || is_in_range 0x2028 0x202E c || is_in_range 0x2066 0x2069 c

-- a character that is shown as an escape: these, and the backslash, with which escapes begin
abbrev pub is_escaped : ℕ → Bool
is_escaped c = is_unseen c || c == backslash

-- the characters that are shown for a character
abbrev pub shown_character : ℕ → List ℕ
shown_character c = cond (is_escaped c) (escape_default c) (c ∷ [])

-- the characters that are shown for a name, given by its bytes; if the name isn't UTF-8, each byte
-- that isn't printable ASCII is escaped
abbrev pub shown : List ℕ → List ℕ
shown name = cond (is_utf8 name)
    (flat_map shown_character (chars name))
    (flat_map escape_ascii name)

-- a byte that is not a control character
abbrev pub IsPrintable : ℕ → Type 0
IsPrintable byte = (32 ≤ byte) × (byte ≢ 127)
