use Rattle.release_folder.proofs.snapshot.add_folders.Goals as goal

pub loop-folder-preserved : goal.loop-folder-preserved
loop-folder-preserved g c = record {
  can = tt;
  finite = tt;
  named = λ old. c.in_ok-add_files.ensures (c.loop-folder.invariant.named old);
}
