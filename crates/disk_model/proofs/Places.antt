-- The place of a call among those that answered Ok, step by step.
use Rattle.std.specs.Prelude.{map}
use Rattle.std.proofs.Common.{◌≡◌, ℕ, List, [], ◌∷◌, drop, refl}
use Rattle.disk_model.specs.Change.{Change, place_of}
use Rattle.disk_model.specs.Entry.{change_of}
use Rattle.disk_model.specs.declared.memory.record.Entry.{Entry}

-- the calls from a place on
abbrev pub rest_of : List ℕ → List Entry → ℕ → List Change
rest_of bytes entries at = map (change_of bytes) (drop at entries)

pub place_of-none : (changes : List Change) → place_of changes 0 ≡ 0
place_of-none [] = refl
place_of-none (change ∷ changes) = refl
