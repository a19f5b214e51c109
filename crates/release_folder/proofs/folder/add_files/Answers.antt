use Rattle.std.proofs.Common.{ℕ, All, sym, subst, List, string_bytes}
use Rattle.std.proofs.lemmas.List.Elements.{All-push}
use Rattle.import_check.specs.declared.release.ReleaseFile.{ReleaseFile}
use Rattle.release_folder.specs.Names.{IsTaken, IsTakenFile}
use Rattle.release_folder.proofs.folder.add_files.Goals as goal

pub loop-name-preserved-in-Some-kind_to_take : goal.loop-name-preserved-in-Some-kind_to_take
loop-name-preserved-in-Some-kind_to_take g c old =
    let scope = c.args.scope in
    let name = c.in-Some.name in
    let kind = c.in-Some-kind_to_take.kind in
    let named : IsTaken scope kind (string_bytes name) = let P : List ℕ → Type 0 = λ bytes. IsTaken scope kind bytes in subst P c.as_bytes.ensures.value c.in-Some-kind_to_take.ensures in
    let Q : List ReleaseFile → Type 0 = λ files. All (IsTakenFile scope) files in
    subst Q (sym c.in_ok-push.ensures.items)
    (All-push (IsTakenFile scope) c.loop-name.files.items (record { name = name; kind = kind; bytes = c.in_ok-bytes.bytes }) (c.loop-name.invariant old) (record { named = named; small = c.in_ok-bytes.ensures }))
