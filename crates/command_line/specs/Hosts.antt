-- What clauses see of the host, whose disks and folders the program names.
use Rattle.std.specs.Prelude.{◌≡◌, ⊤, ℕ, Bool, true, false, List, Option, Some, None}
use Rattle.line_server.specs.Sources.{Releases, SourceView, source_view}
use Rattle.command_line.specs.declared.host.Mode.{Mode}
use Rattle.command_line.specs.declared.host.Mode.TheVariants.{MakeNew}

-- What a host does when it is asked.
pub record HostView (D : Type 0) : Type 1 where
  -- the disk of a name that it returns in this mode, after it was asked for so many disks
  pub opens : ℕ → Mode → List ℕ → Option D → Type 0
  -- whether the name of a disk is sure to survive a crash
  pub settles : List ℕ → Bool → Type 0
  -- whether the file of a disk is removed
  pub removes : D → Bool → Type 0
  -- whether there is a folder of the name, in which releases can be looked for
  pub finds : List ℕ → Bool → Type 0
  -- the folders have the releases that `releases` names, and these don't change
  pub is_honest : Type 0
  -- the releases in the folders below a folder
  pub releases : List ℕ → Releases

-- a folder of releases, as a source
abbrev pub source_in : {D : Type 0} → HostView D → List ℕ → SourceView
source_in host folder = source_view host.is_honest (host.releases folder)

-- What a host returns for a new disk after it was asked for so many, it would have returned before
-- the last of them too: no name was taken in between, and none was freed.
abbrev pub MakesAsBefore : {D : Type 0} → HostView D → (before after : ℕ) → Type 0
MakesAsBefore {D} host before after =
    (name : List ℕ) (made : Option D) → host.opens after MakeNew name made
    → host.opens before MakeNew name made

-- the file of this disk was removed, and so the disk is gone; or that can't be done, and it is left
abbrev pub IsRemoved : {D : Type 0} → HostView D → D → Option D → Type 0
IsRemoved host made None = host.removes made true
IsRemoved host made (Some left) = host.removes made false × (left ≡ made)

-- of the real files and folders nothing is specified
abbrev pub unspecified : {D : Type 0} → HostView D
unspecified = record {
  opens = λ _ _ _ _. ⊤;
  settles = λ _ _. ⊤;
  removes = λ _ _. ⊤;
  finds = λ _ _. ⊤;
  is_honest = ⊥;
  releases = λ _ _ _. None;
}
