-- What a read of a disk in memory returns, and its capacity for changes.
use Rattle.std.specs.Prelude.{ℕ, ◌≤◌, List, Vec, Option, Some, None, vec_capacity}
use Rattle.std.specs.declared.alloc.Global.{Global}
use Rattle.disk_model.specs.declared.memory.contents.Contents.{Contents}

-- the changed bytes if there are any, and otherwise the first ones
abbrev pub shown_of : List ℕ → Option (Vec ℕ Global) → List ℕ
shown_of first None = first
shown_of first (Some bytes) = bytes.items

abbrev pub shown : Contents → List ℕ
shown c = shown_of c.first.items c.changed

abbrev pub has_room : Option (Vec ℕ Global) → ℕ → Type 0
has_room None end = ⊥
has_room (Some bytes) end = end ≤ vec_capacity bytes

-- changes that end at or below this offset need no memory
abbrev pub HasRoom : Contents → ℕ → Type 0
HasRoom c end = has_room c.changed end
