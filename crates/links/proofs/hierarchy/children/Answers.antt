use Rattle.as_of_index.specs.Current.{rows_seen}
use Rattle.links.proofs.NextOnes.{children_once}
use Rattle.links.proofs.hierarchy.children.Goals as goal

pub returns : goal.returns
returns c =
    let a = c.args in
    record {
      found = λ lists listed_so posts.
          children_once a.concept a.as_of.date (rows_seen a.as_of lists) c.find_next.new.ids.items c.sort_once.new.ids.items
          (rw c.value.ensures.value at (c.in_ok-find_next.ensures.found lists listed_so posts)) c.sort_once.ensures;
    }
