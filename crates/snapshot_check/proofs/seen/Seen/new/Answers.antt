use Rattle.snapshot_check.proofs.Searching.{none_seen}
use Rattle.snapshot_check.proofs.seen.Seen.new.Goals as goal

pub returns : goal.returns
returns c = none_seen _ c.new-concepts.ensures.items c.new-descriptions.ensures.items c.new-relationships.ensures.items c.new-associations.ensures.items c.new-concretes.ensures.items c.new-members.ensures.items c.new-modules.ensures.items
