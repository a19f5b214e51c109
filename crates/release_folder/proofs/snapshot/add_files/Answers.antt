use Rattle.std.proofs.Common.{ℕ, All, sym, subst, List, string_bytes}
use Rattle.std.proofs.lemmas.List.Elements.{All-push}
use Rattle.release_folder.specs.declared.snapshot.SnapshotFile.{SnapshotFile}
use Rattle.release_folder.specs.Names.{IsSnapshotFile, IsOfSnapshot}
use Rattle.release_folder.proofs.snapshot.add_files.Goals as goal

pub loop-name-preserved-in-Continue-branch-5 : goal.loop-name-preserved-in-Continue-branch-5
loop-name-preserved-in-Continue-branch-5 g c old =
    let scope = c.args.scope in
    let name = c.in-Some.name in
    let kind = c.in-Some-snapshot_kind.kind in
    let named : IsSnapshotFile scope kind (string_bytes name) = let P : List ℕ → Type 0 = λ bytes. IsSnapshotFile scope kind bytes in subst P c.as_bytes.ensures.value c.in-Some-snapshot_kind.ensures in
    let Q : List SnapshotFile → Type 0 = λ files. All (IsOfSnapshot scope) files in
    subst Q (sym c.in_ok-push.ensures.items)
    (All-push (IsOfSnapshot scope) c.loop-name.files.items (record { name = name; path = c.in_ok-path.path; kind = kind; bytes = c.in_ok-bytes.bytes }) (c.loop-name.invariant old) named)
