-- The folder of a release, by its path.
use Rattle.std.specs.Prelude.{◌≡◌, ◌≢◌, ◌⊎◌, ℕ, List, [], ◌∷◌, ◌++◌, replicate, codes, Option, Some}
use Rattle.std.specs.Prelude.{None}
use Rattle.std.specs.List.{All}

-- the separator between the names of a path
abbrev pub slash : ℕ
slash = 47

-- the path without the slashes at its end
pub record IsTrimmed (path trimmed : List ℕ) : Type 0 where
  pub slashes : ℕ
  pub path_is : path ≡ trimmed ++ replicate slashes slash
  pub ends : (front : List ℕ) → trimmed ≢ front ++ slash ∷ []

-- The path refers to what has this name in this folder: the current folder if the path is only a
-- name, the root, or the folder before the last slash.
pub record IsIn (path folder name : List ℕ) : Type 0 where
  pub last : All (λ byte. byte ≢ slash) name
  pub above : ((path ≡ name) × (folder ≡ codes "."))
      ⊎ ((path ≡ slash ∷ name) × (folder ≡ codes "/"))
      ⊎ ((path ≡ folder ++ slash ∷ name) × (folder ≢ []))

-- The release's name in its folder, without slashes at its end. If the folder isn't given, `word`
-- is a path, and the folder is the one before its last part.
abbrev pub IsNamed : Option (List ℕ) → List ℕ → List ℕ → List ℕ → Type 0
IsNamed (Some given) word folder name = (folder ≡ given) × IsTrimmed word name
IsNamed None word folder name = (path : List ℕ) × IsTrimmed word path × IsIn path folder name
