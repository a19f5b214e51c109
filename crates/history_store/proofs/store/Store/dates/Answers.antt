use Rattle.std.proofs.Common.{refl}
use Rattle.history_store.proofs.store.Store.dates.Goals as goal

pub returns : goal.returns
returns g c = record {
  answer = rw (← c.self.view_is) (record {
    found = (c.if-self.false, c.in_ok-found.ensures.found c.self.inside.index.lists c.places.ensures);
    refused = tt;
    unchanged = refl;
  });
}
