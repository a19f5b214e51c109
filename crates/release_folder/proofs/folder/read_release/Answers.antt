use Rattle.std.proofs.Common.{subst, sym}
use Rattle.release_folder.specs.Names.{AreFolders}
use Rattle.release_folder.proofs.Parts.{in_order, each_taken}
use Rattle.release_folder.proofs.folder.read_release.Goals as goal

pub returns-in-Ok-clause-taken : goal.returns-in-Ok-clause-taken
returns-in-Ok-clause-taken g c =
    each_taken c.args.scope c.in_ok-terminology.terminology.items c.in_ok-refset.refset.items
    c.in-Ok.release.files.items c.in-Ok.ensures.in_order c.in_ok-terminology.ensures c.in_ok-refset.ensures.taken

pub returns-in-Ok-clause-in_order : goal.returns-in-Ok-clause-in_order
returns-in-Ok-clause-in_order g c =
    in_order c.args.scope c.in_ok-terminology.terminology.items c.in_ok-refset.refset.items
    c.in-Ok.release.files.items (subst (AreFolders c.args.scope) (sym c.in_ok-refset.ensures.many) c.in_ok-folders.ensures) c.in-Ok.ensures.in_order
