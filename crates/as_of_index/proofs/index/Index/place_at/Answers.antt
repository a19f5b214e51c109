use Rattle.as_of_index.proofs.Standing.{are_lists, get_from_pick}
use Rattle.as_of_index.proofs.index.Index.place_at.Goals as goal

pub returns-clause-found : goal.returns-clause-found
returns-clause-found c = λ lists listed_so.
    let a = c.args in
    get_from_pick a.kind a.id a.as_of lists (are_lists lists (rw (c.self.view_is, listed_so) at c.self.invariant.places)) c.latest.result
    (rw (c.as_slice.ensures.value, c.self.view_is, listed_so) at c.latest.ensures)
