use Rattle.std.proofs.Common.{◌++◌, ◌∷◌, [], List, ap, sym, ◌∙◌, append_assoc}
use Rattle.std.specs.Vec.Iter.{into_iter_items}
use Rattle.release_folder.specs.declared.part.Part.{Part}
use Rattle.release_folder.proofs.Parts.{add_more}
use Rattle.release_folder.proofs.folder.add_folders.Goals as goal

pub loop-part-preserved : goal.loop-part-preserved
loop-part-preserved c =
    let rest = into_iter_items c.next.new.self in
    record {
      can = tt;
      finite = tt;
      added = add_more c.loop-part.yielded c.in-Some.part c.args.files.now.items c.loop-part.files.items c.add_sorted.new.files.items c.loop-part.invariant.added c.in_ok-add_sorted.ensures.ok;
      split = c.loop-part.invariant.split ∙ ap (λ (l : List Part). c.loop-part.yielded ++ l) c.in-Some.ensures.steps.0 ∙ sym (append_assoc c.loop-part.yielded (c.in-Some.part ∷ []) rest);
    }
