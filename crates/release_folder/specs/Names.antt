-- Which files of a folder are release files, by their names.
use Rattle.std.specs.Prelude.{◌≡◌, ◌⊎◌, ◌≤◌, ◌-◌, ◌++◌, ℕ, Bool, List, All, Any, length, take, drop, codes, string_bytes}
use Rattle.std.specs.List.{AllZip}
use Rattle.std.specs.List.Sorted.{IsPermutation, IsSortedBy}
use Rattle.std.specs.Ordering.{is_lt}
use Rattle.std.specs.String.{string_cmp}
use Rattle.memchr.specs.Find.{OccursAt}
use Rattle.bstr.specs.Text.{Contains}
use Rattle.import_check.specs.InOrder.{joined}
use Rattle.import_check.specs.declared.release.ReleaseFile.{ReleaseFile}
use Rattle.import_check.specs.declared.scope.Scope.{Scope}
use Rattle.import_check.specs.declared.scope.Scope.TheVariants as scopes
use Rattle.rf2_values.specs.declared.row.Kind.{Kind}
use Rattle.rf2_values.specs.declared.row.Kind.TheVariants as kind
use Rattle.release_folder.specs.declared.part.Part.{Part}
use Rattle.release_folder.specs.declared.snapshot.SnapshotFile.{SnapshotFile}

-- a letter for a column of a reference set: `c` for a component, `i` for an integer, `s` for a
-- string
abbrev pub IsColumnLetter : ℕ → Type 0
IsColumnLetter byte = (byte ≡ 99) ⊎ (byte ≡ 105) ⊎ (byte ≡ 115)

-- any number of column letters, and then `Refset_`
pub record BeginsAsRefset (name : List ℕ) : Type 0 where
  pub columns : ℕ
  pub letters : All IsColumnLetter (take columns name)
  pub refset : OccursAt (drop columns name) (codes "Refset_") 0

-- the name is that of a file of a reference set, and not of associations
pub record IsMemberName (name : List ℕ) : Type 0 where
  pub begins : OccursAt name (codes "der2_") 0 ⊎ OccursAt name (codes "sct2_") 0
  pub refset : BeginsAsRefset (drop 5 name)
  pub other : OccursAt name (codes "der2_cRefset_Association") 0 → ⊥

-- the name begins like that of a file of this kind, and the scope includes the kind
abbrev pub Begins : Scope → Kind → List ℕ → Type 0
Begins scope kind.Concept name = OccursAt name (codes "sct2_Concept_") 0
Begins scope kind.Relationship name = OccursAt name (codes "sct2_Relationship_") 0
Begins scope kind.Association name = OccursAt name (codes "der2_cRefset_Association") 0
Begins scope kind.Concrete name = OccursAt name (codes "sct2_RelationshipConcreteValues_") 0
Begins scopes.Basic kind.Description name = OccursAt name (codes "sct2_Description_") 0
Begins scopes.Basic kind.Member name = ⊥
Begins scopes.Whole kind.Description name =
    OccursAt name (codes "sct2_Description_") 0 ⊎ OccursAt name (codes "sct2_TextDefinition_") 0
Begins scopes.Whole kind.Member name = IsMemberName name

-- the name of a text file with rows of this kind
pub record IsNamed (scope : Scope) (kind : Kind) (name : List ℕ) : Type 0 where
  pub begins : Begins scope kind name
  pub ends : (length (codes ".txt") ≤ length name)
      × OccursAt name (codes ".txt") (length name - length (codes ".txt"))

-- the name of a release file of this kind, which belongs to a Delta or a Full release
pub record IsTaken (scope : Scope) (kind : Kind) (name : List ℕ) : Type 0 where
  pub named : IsNamed scope kind name
  pub holds : Contains name (codes "Delta") ⊎ Contains name (codes "Full")

-- the name of a file of this kind that belongs to a Snapshot
pub record IsSnapshotFile (scope : Scope) (kind : Kind) (name : List ℕ) : Type 0 where
  pub named : IsNamed scope kind name
  pub holds : Contains name (codes "Snapshot")

-- a file of a Snapshot, judged by its name, of the kind that its name says
abbrev pub IsOfSnapshot : Scope → SnapshotFile → Type 0
IsOfSnapshot scope file = IsSnapshotFile scope file.kind (string_bytes file.name)

-- a file of concepts with this mark in its name, such as `Full`
pub record IsOfConcepts (mark : List ℕ) (file : ReleaseFile) : Type 0 where
  pub of_concepts : file.kind ≡ kind.Concept
  pub marked : Contains (string_bytes file.name) mark

-- the name of a file begins so
abbrev pub BeginsSo : List ℕ → ReleaseFile → Type 0
BeginsSo beginning file = OccursAt (string_bytes file.name) beginning 0

-- a release has a file of concepts with this mark, and no file whose name begins so
pub record Lacks (files : List ReleaseFile) (mark beginning : List ℕ) : Type 0 where
  pub concepts : Any (IsOfConcepts mark) files
  pub none : All (λ file. BeginsSo beginning file → ⊥) files

-- a release file, judged by its name, of the kind that its name says, and with a length of 32 bits
-- at most
pub record IsTakenFile (scope : Scope) (file : ReleaseFile) : Type 0 where
  pub named : IsTaken scope file.kind (string_bytes file.name)
  pub small : length file.bytes.items ≤ 4294967295

-- a name comes before another, byte by byte
abbrev pub has_lesser_name : ReleaseFile → ReleaseFile → Bool
has_lesser_name a b = is_lt (string_cmp a.name b.name)

-- a folder's name comes before another's, byte by byte
abbrev pub has_lesser_folder : Part → Part → Bool
has_lesser_folder a b = is_lt (string_cmp a.folder b.folder)

-- a possible number of folders below `Refset` that are read
abbrev pub AreFolders : Scope → ℕ → Type 0
AreFolders scopes.Basic n = n ≤ 1
AreFolders scopes.Whole n = Unit {0}

-- the files of one folder and then those of others, each in the order of names
pub record AreInOrder (scope : Scope) (files : List ReleaseFile) : Type 0 where
  pub first : List ReleaseFile
  pub others : List (List ReleaseFile)
  pub files_are : files ≡ first ++ joined others
  pub first_sorted : IsSortedBy has_lesser_name first
  pub others_sorted : All (IsSortedBy has_lesser_name) others
  pub few : AreFolders scope (length others)

-- the same files, in the order of names
pub record AreSorted (files sorted : List ReleaseFile) : Type 0 where
  pub permutation : IsPermutation files sorted
  pub in_order : IsSortedBy has_lesser_name sorted

-- the files of these folders, one folder after the other, each in the order of names
pub record AreOfFolders (folders : List Part) (files : List ReleaseFile) : Type 0 where
  pub lists : List (List ReleaseFile)
  pub each : AllZip (λ part list. AreSorted part.files.items list) folders lists
  pub files_are : files ≡ joined lists

-- The files of `Terminology`, and then those of the folders of `Refset` in the order of the
-- folders' names, each in the order of the files' names.
pub record AreOfParts (terminology : List ReleaseFile) (refset : List Part)
    (files : List ReleaseFile) : Type 0 where
  pub first : List ReleaseFile
  pub folders : List Part
  pub rest : List ReleaseFile
  pub files_are : files ≡ first ++ rest
  pub first_sorted : AreSorted terminology first
  pub same_folders : IsPermutation refset folders
  pub folders_sorted : IsSortedBy has_lesser_folder folders
  pub rest_sorted : AreOfFolders folders rest
