use Rattle.std.proofs.Common.{subst, ◌∙◌, take, take_all}
use Rattle.as_of_index.specs.Private.Search.{all_places}
use Rattle.as_of_index.proofs.Found.{places-more}
use Rattle.as_of_index.proofs.DatesOfAll.{AreTimes, times_more, dates_of_all}
use Rattle.as_of_index.proofs.index.Index.dates.Goals as goal

pub loop-list-preserved : goal.loop-list-preserved
loop-list-preserved c =
    let a = c.args in
    let i = c.loop-list.list-index in
    let places = c.list-item.result in
    let more = places-more a.self.now i places (rw (c.deref-list-items.ensures.value, c.self.view_is) at c.loop-list-test.true) (rw (c.deref-list-items.ensures.value, c.self.view_is) at c.list-item.is) in
    rw more (times_more a.pin i (all_places 0 (take i a.self.now)) places c.loop-list.times.items c.add_dates.new.times.items c.loop-list.invariant c.in_ok-add_dates.ensures)

pub returns : goal.returns
returns c =
    let a = c.args in
    let all = c.loop-list.times.items in
    let whole = take_all c.loop-list.list-index a.self.now (rw (c.deref-list-items.ensures.value, c.self.view_is) at c.loop-list-test.false) in
    record {
      found = λ lists listed_so.
          dates_of_all a.pin lists (rw listed_so at c.lists-listed.ensures.places) all c.sort_once.new.times.items
          (subst (λ xs. AreTimes a.pin (all_places 0 xs) all) (whole ∙ listed_so) c.loop-list.invariant) c.sort_once.ensures;
    }
