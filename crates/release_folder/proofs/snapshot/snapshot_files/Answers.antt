use Rattle.std.proofs.Common.{All, List, sym, subst}
use Rattle.std.proofs.lemmas.List.Elements.{All-nil}
use Rattle.release_folder.specs.declared.snapshot.SnapshotFile.{SnapshotFile}
use Rattle.release_folder.specs.Names.{IsOfSnapshot}
use Rattle.release_folder.proofs.snapshot.snapshot_files.Goals as goal

pub returns : goal.returns
returns g c =
    let Q : List SnapshotFile → Type 0 = λ files. All (IsOfSnapshot c.args.scope) files in
    c.in_ok-add_folders.ensures (c.in_ok-add_terminology.ensures (subst Q (sym c.new-files.ensures.items) (All-nil (IsOfSnapshot c.args.scope))))
