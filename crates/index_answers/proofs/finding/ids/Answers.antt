use Rattle.index_answers.proofs.finding.ids.Goals as goal
use Rattle.std.proofs.lemmas.Result.{IfOk-weaker}

pub returns-in-Children : goal.returns-in-Children
returns-in-Children c = rw c.in-Children.is (IfOk-weaker c.children.result _ _ (λ found is. is c.args.index.now.lists c.places-places.ensures c.links-links.ensures) c.children.ensures.found)

pub returns-in-Ancestors : goal.returns-in-Ancestors
returns-in-Ancestors c = rw c.in-Ancestors.is (IfOk-weaker c.ancestors.result _ _ (λ found is. is c.args.index.now.lists c.places-places.ensures c.links-links.ensures) c.ancestors.ensures.found)

pub returns-in-Descendants : goal.returns-in-Descendants
returns-in-Descendants c = rw c.in-Descendants.is (IfOk-weaker c.descendants.result _ _ (λ found is. is c.args.index.now.lists c.places-places.ensures c.links-links.ensures) c.descendants.ensures.found)

pub returns-in-Sources : goal.returns-in-Sources
returns-in-Sources c = rw c.in-Sources.is (IfOk-weaker c.sources.result _ _ (λ found is. is c.args.index.now.lists c.places-places.ensures c.links-links.ensures) c.sources.ensures.found)
