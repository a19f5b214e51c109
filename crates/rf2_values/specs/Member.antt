-- How a text spells the id of a member of a reference set.
use Rattle.std.specs.Prelude.{◌≡◌, ◌⊎◌, ℕ, List, length, Some}
use Rattle.std.specs.List.{All}
use Rattle.std.specs.Char.{IsAsciiHexdigit}
use Rattle.std.specs.Int.{to_be_bytes, from_be_bytes, w128}
use Rattle.uuid.specs.Text.{parsed, hyphenated_text, lower}

-- a hexadecimal digit of either case, or a hyphen
abbrev pub IsMemberByte : ℕ → Type 0
IsMemberByte b = IsAsciiHexdigit b ⊎ (b ≡ 45)

-- 36 such bytes that are a UUID, whose 16 bytes, as a big-endian number, are `n`
pub record SpellsMember (n : ℕ) (text : List ℕ) : Type 0 where
  pub long : length text ≡ 36
  pub plain : All IsMemberByte text
  pub value : (bytes : List ℕ) × (parsed text ≡ Some bytes) × (n ≡ from_be_bytes w128 bytes)

-- the spelling that is written: lower case
abbrev pub member_text : ℕ → List ℕ
member_text n = hyphenated_text lower (to_be_bytes w128 n)
