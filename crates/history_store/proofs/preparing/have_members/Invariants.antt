use Rattle.std.proofs.Common.{◌≡◌, ℕ, ◌<◌, get_or}
use Rattle.rf2_values.specs.declared.row.Kind.TheVariants as kinds
use Rattle.import_check.specs.declared.release.ReleaseFile.{ReleaseFile}
use Rattle.history_store.proofs.preparing.have_members.Given as goal

abbrev pub invariant-loop-file : goal.invariant-loop-file
invariant-loop-file l = (k : ℕ) (d : ReleaseFile) → k < l.file-index → (get_or l.files k d).kind ≡ kinds.Member → ⊥
