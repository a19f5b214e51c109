-- A disk that is truncated after the listed segments.
use Rattle.std.specs.Prelude.{◌≡◌, ◌⊎◌, ℕ, ◌*◌, ◌≤◌, List, Result, Ok, Err}
use Rattle.std.specs.List.{AllByRecursion}
use Rattle.disk_model.specs.Disk.{Moments, Fails, followed_by, after_cut}
use Rattle.directory.specs.declared.entry.Entry.{Entry}
use Rattle.directory.specs.Places.{end_block, extents_of}
use Rattle.store_image.specs.Answers.{synced}

-- each listed segment ends, with its whole last block, before this many bytes
abbrev pub EndBelow : ℕ → List Entry → Type 0
EndBelow len entries = AllByRecursion (λ extent. 4096 * end_block extent ≤ len) (extents_of entries)

-- the moments after a cut
abbrev pub cut_to : ℕ → Moments → Moments
cut_to len old = followed_by old (after_cut old.state len)

-- One cut and then one sync changed the disk; if it failed, at most the cut.
abbrev pub IsTrimmed : {T E : Type 0} → Result T E → ℕ → Moments → Moments → Type 0
IsTrimmed (Ok done) len old new = new ≡ synced (cut_to len old)
IsTrimmed (Err fault) len old new = Fails old (after_cut old.state len) new ⊎ (new ≡ cut_to len old)
