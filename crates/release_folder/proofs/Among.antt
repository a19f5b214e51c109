-- Whether a file is among others.
use Rattle.std.proofs.Common.{◌≡◌, ◌<◌, ◌≤◌, ◌+◌, ℕ, List, length, take, All, Any, slice_index_or, sym, subst}
use Rattle.std.proofs.lemmas.List.{take_all, get_or_default}
use Rattle.std.proofs.lemmas.List.Elements.{All-more}
use Rattle.import_check.specs.declared.release.ReleaseFile.{ReleaseFile}

module _ (P : ReleaseFile → Type 0) where
  pub found : (files : List ReleaseFile) (i : ℕ) (file : ReleaseFile) → i < length files → file ≡ slice_index_or files i file → P file → Any P files
  found files i file below is holds = (i, file, below, sym is, holds)

  pub none_more : (files : List ReleaseFile) (i : ℕ) (file : ReleaseFile) → i < length files → file ≡ slice_index_or files i file → (P file → ⊥)
      → All (λ f. P f → ⊥) (take i files) → All (λ f. P f → ⊥) (take (i + 1) files)
  none_more files i file below is fails none = All-more (λ f. P f → ⊥) files i file below none (subst (λ f. P f → ⊥) is fails)

  pub none_found : (files : List ReleaseFile) → All (λ f. P f → ⊥) files → Any P files → ⊥
  none_found files none some = none some.0 some.1 some.2 (subst P (sym some.3) some.4)

  pub none_of_all : (files : List ReleaseFile) (i : ℕ) → length files ≤ i → All (λ f. P f → ⊥) (take i files) → All (λ f. P f → ⊥) files
  none_of_all files i past none = subst (All (λ f. P f → ⊥)) (take_all i files past) none

  pub none_of_none : (files : List ReleaseFile) → (Any P files → ⊥) → All (λ f. P f → ⊥) files
  none_of_none files none k d below = λ holds. none (k, slice_index_or files k d, below, sym (get_or_default files k d (slice_index_or files k d) below), holds)
