-- Which part of the current line is kept.
use Rattle.std.specs.Prelude.{ℕ, ◌+◌, List, take}
use Rattle.line_commands.specs.Requests.{request_limit}

-- how many bytes of a line are kept: enough to distinguish the longest line, with a CR at its end,
-- from a longer one
unfoldable pub room : ℕ
room = request_limit + 2

-- the first bytes of a line, which distinguish it from every other line that isn't too long
abbrev pub kept : List ℕ → List ℕ
kept line = take room line
