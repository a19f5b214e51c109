-- What a private function searches for. No clause of a public function cites this definition.
use Rattle.std.specs.Prelude.{Bool, ◌&&◌, ◌==◌}
use Rattle.rf2_values.specs.declared.key.Key.{Key}
use Rattle.rf2_values.specs.Row.{kind_of}
use Rattle.rf2_values.specs.Key.{kind_place}
use Rattle.history_model.specs.declared.stamped.StampedRow.{StampedRow}

-- the row has the key
abbrev pub is_row_at : Key → StampedRow → Bool
is_row_at key s = kind_place (kind_of s.row) == kind_place key.kind && s.row.id == key.id
    && s.row.time == key.time
