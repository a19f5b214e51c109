-- What identifies a row, and the order of keys.
use Rattle.std.specs.Prelude.{ℕ}
use Rattle.std.specs.Ordering.{nat_cmp, ordering_then}
use Rattle.std.specs.declared.cmp.Ordering.{Ordering}
use Rattle.rf2_values.specs.declared.row.Kind.{Kind}
use Rattle.rf2_values.specs.declared.row.Kind.TheVariants as kind
use Rattle.rf2_values.specs.declared.key.Key.{Key}
use Rattle.rf2_values.specs.Row.{RowValue, kind_of}

-- a row is identified by its kind, its id and its time
abbrev pub key_of : RowValue → Key
key_of v = record { id = v.id; time = v.time; kind = kind_of v }

-- the position of each kind in the order of keys
abbrev pub kind_place : Kind → ℕ
kind_place kind.Concept = 0
kind_place kind.Description = 1
kind_place kind.Relationship = 2
kind_place kind.Association = 3
kind_place kind.Concrete = 4
kind_place kind.Member = 5

-- the order by kind, then by id, then by time
abbrev pub key_cmp : Key → Key → Ordering
key_cmp a b =
    ordering_then (nat_cmp (kind_place a.kind) (kind_place b.kind))
    (ordering_then (nat_cmp a.id b.id) (nat_cmp a.time b.time))
