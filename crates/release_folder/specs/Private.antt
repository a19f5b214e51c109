-- Which files aren't read, and how the files of folders are put together. Only private functions
-- cite these definitions.
use Rattle.std.specs.Prelude.{◌≡◌, ◌≤◌, ◌-◌, ◌⊎◌, ◌++◌, ◌==◌, Bool, List, All, length, codes, ℕ}
use Rattle.std.specs.List.{count_by}
use Rattle.memchr.specs.Find.{OccursAt}
use Rattle.import_check.specs.declared.release.ReleaseFile.{ReleaseFile}
use Rattle.import_check.specs.declared.scope.Scope.{Scope}
use Rattle.import_check.specs.declared.scope.Scope.TheVariants as scopes
use Rattle.rf2_values.specs.declared.row.Kind.{Kind}
use Rattle.release_folder.specs.declared.part.Part.{Part}
use Rattle.release_folder.specs.Names.{IsTaken, IsTakenFile, AreSorted, AreOfFolders}

abbrev pub is_slash : ℕ → Bool
is_slash byte = byte == 47

-- the path of a folder directly below `Refset`, with a slash at its end
pub record IsInRefset (folder : List ℕ) : Type 0 where
  pub begins : OccursAt folder (codes "Refset/") 0
  pub ends : (length (codes "/") ≤ length folder)
      × OccursAt folder (codes "/") (length folder - length (codes "/"))
  pub slashes : count_by is_slash folder ≡ 2

-- the path of a folder below `Refset` whose files are read
abbrev pub IsReadRefset : Scope → List ℕ → Type 0
IsReadRefset scopes.Basic folder = folder ≡ codes "Refset/Content/"
IsReadRefset scopes.Whole folder = IsInRefset folder

-- the path of a folder of a release whose files are read
abbrev pub IsReadFolder : Scope → List ℕ → Type 0
IsReadFolder scope folder = (folder ≡ codes "Terminology/") ⊎ IsReadRefset scope folder

-- a file that isn't read, by its folder and its name: it is in another folder, or its name isn't
-- that of a release file
abbrev pub IsPassedOver : Scope → List ℕ → List ℕ → Type 0
IsPassedOver scope folder name =
    IsReadFolder scope folder → (kind : Kind) → IsTaken scope kind name → ⊥

-- each file of the folder is a release file
abbrev pub IsTakenPart : Scope → Part → Type 0
IsTakenPart scope part = All (IsTakenFile scope) part.files.items

-- the files were appended, in the order of their names
abbrev pub AddSorted : List ReleaseFile → List ReleaseFile → List ReleaseFile → Type 0
AddSorted later before files =
    (sorted : List ReleaseFile) × AreSorted later sorted × (files ≡ before ++ sorted)

-- the files of these folders were appended
abbrev pub AddFolders : List Part → List ReleaseFile → List ReleaseFile → Type 0
AddFolders folders before files =
    (rest : List ReleaseFile) × AreOfFolders folders rest × (files ≡ before ++ rest)
