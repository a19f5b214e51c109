-- Definitions that complete those of `Current`. No public clause cites them.
use Rattle.std.specs.Prelude.{ℕ, Bool, ◌&&◌, ◌==◌}
use Rattle.rf2_values.specs.Key.{kind_place}
use Rattle.segment.specs.declared.place.RowPlace.{RowPlace}

-- both are the same place, in the same list
abbrev pub is_same_place : ℕ → RowPlace → ℕ → RowPlace → Bool
is_same_place n p m q =
    n == m && kind_place p.key.kind == kind_place q.key.kind && p.key.id == q.key.id
    && p.key.time == q.key.time && p.import == q.import && p.at == q.at && p.bytes == q.bytes
