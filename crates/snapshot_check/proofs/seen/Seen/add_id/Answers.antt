use Rattle.std.proofs.Common.{refl}
use Rattle.snapshot_check.proofs.Searching.{adds_concepts, adds_descriptions, adds_relationships, adds_associations, adds_concretes, adds_members}
use Rattle.snapshot_check.proofs.seen.Seen.add_id.Goals as goal

pub returns-in_ok-push-in-Concept : goal.returns-in_ok-push-in-Concept
returns-in_ok-push-in-Concept c = rw c.in-Concept.is (adds_concepts c.args.id c.args.self.now (record c.args.self.now { concepts = c.push.new.self }) refl c.in_ok-push-in-Concept.ensures.items)

pub returns-in_ok-push-in-Description : goal.returns-in_ok-push-in-Description
returns-in_ok-push-in-Description c = rw c.in-Description.is (adds_descriptions c.args.id c.args.self.now (record c.args.self.now { descriptions = c.push-in-Description.new.self }) refl c.in_ok-push-in-Description.ensures.items)

pub returns-in_ok-push-in-Relationship : goal.returns-in_ok-push-in-Relationship
returns-in_ok-push-in-Relationship c = rw c.in-Relationship.is (adds_relationships c.args.id c.args.self.now (record c.args.self.now { relationships = c.push-in-Relationship.new.self }) refl c.in_ok-push-in-Relationship.ensures.items)

pub returns-in_ok-push-in-Association : goal.returns-in_ok-push-in-Association
returns-in_ok-push-in-Association c = rw c.in-Association.is (adds_associations c.args.id c.args.self.now (record c.args.self.now { associations = c.push-in-Association.new.self }) refl c.in_ok-push-in-Association.ensures.items)

pub returns-in_ok-push-in-Concrete : goal.returns-in_ok-push-in-Concrete
returns-in_ok-push-in-Concrete c = rw c.in-Concrete.is (adds_concretes c.args.id c.args.self.now (record c.args.self.now { concretes = c.push-in-Concrete.new.self }) refl c.in_ok-push-in-Concrete.ensures.items)

pub returns-in_ok-push-in-Member : goal.returns-in_ok-push-in-Member
returns-in_ok-push-in-Member c = rw c.in-Member.is (adds_members c.args.id c.args.self.now (record c.args.self.now { members = c.push-in-Member.new.self }) refl c.in_ok-push-in-Member.ensures.items)
