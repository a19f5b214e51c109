use Rattle.std.proofs.lemmas.Result.{on_ok_weaker}
use Rattle.links.proofs.NextOnes.{ends_are_sources}
use Rattle.links.proofs.incoming.find_sources.Goals as goal

pub returns : goal.returns
returns c =
    let a = c.args in
    record {
      found = on_ok_weaker c.find_ends.result (λ found lists listed_so posts.
          ends_are_sources lists (rw listed_so at c.lists-listed.ensures.places) a.links.now posts a.as_of.now a.type_id a.destination c.find_ends.new.ids.items
          (rw (c.as_slice.ensures, c.asked_for-asked.ensures, c.sources_with.ensures) at (found lists listed_so))) c.find_ends.ensures;
    }
