use Rattle.std.proofs.Common.{List, take}
use Rattle.history_model.specs.declared.stamped.StampedRow.{StampedRow}
use Rattle.as_of_index.specs.Places.{Lists}
use Rattle.as_of_index.specs.Private.Postings.{numbered}
use Rattle.links.specs.Private.{postings_in}
use Rattle.links.specs.Private.Memberships.{AreNamed}
use Rattle.links.proofs.languages.named.Given as goal

abbrev pub invariant-loop-k : goal.invariant-loop-k
invariant-loop-k l = (lists : List (List StampedRow)) → Lists l.index lists → AreNamed lists l.refset l.as_of (numbered 0 (postings_in l.links)) (take l.k-index l.descriptions) l.kept.items
