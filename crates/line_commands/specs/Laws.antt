-- Laws of every line.
use Rattle.std.specs.Prelude.{◌≡◌, ℕ, List}
use Rattle.line_commands.specs.declared.unread.Unread.{Unread}
use Rattle.line_commands.specs.Commands.{Command}
use Rattle.line_commands.specs.Requests.{Asks, IsUnread}

-- a line spells at most one request
abbrev pub OneReading : Type 0
OneReading = (line : List ℕ) (session other : ℕ) (command also : Command)
    → Asks line session command → Asks line other also → (session ≡ other) × (command ≡ also)

-- a line that spells a request isn't refused
abbrev pub AskedIsRead : Type 0
AskedIsRead = (line : List ℕ) (session : ℕ) (command : Command) (reason : Unread)
    → Asks line session command → IsUnread line reason → ⊥

-- a line that spells no request has one first reason for that
abbrev pub OneRefusal : Type 0
OneRefusal = (line : List ℕ) (reason other : Unread) → IsUnread line reason → IsUnread line other
    → reason ≡ other
