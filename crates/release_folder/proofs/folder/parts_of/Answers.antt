use Rattle.std.proofs.Common.{List, All, ap, sym, subst, length, arith}
use Rattle.std.proofs.lemmas.List.{length_push}
use Rattle.std.proofs.lemmas.List.Elements.{All-push}
use Rattle.release_folder.specs.declared.part.Part.{Part}
use Rattle.release_folder.specs.Private.{IsTakenPart}
use Rattle.release_folder.proofs.folder.parts_of.Goals as goal

pub loop-folder-preserved : goal.loop-folder-preserved
loop-folder-preserved g c =
    let P : List Part → Type 0 = λ parts. All (IsTakenPart c.args.scope) parts in
    let part : Part = record { folder = c.in-Some.folder; files = c.in_ok-files.files } in
    record {
      can = tt;
      finite = tt;
      taken = subst P (sym c.in_ok-push.ensures.items) (All-push (IsTakenPart c.args.scope) c.loop-folder.parts.items part c.loop-folder.invariant.taken c.in_ok-files.ensures);
      count = omega (arith, ap length c.in_ok-push.ensures.items, length_push c.loop-folder.parts.items part, ap length c.in-Some.ensures.steps.0, c.loop-folder.invariant.count);
    }
