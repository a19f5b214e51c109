use Rattle.std.proofs.Common.{arith, ◌≡◌, ◌↔◌, ◌<◌, [], ℕ, List, length, subst, refl, ◌∙◌, take, take_all}
use Rattle.history_model.specs.declared.stamped.StampedRow.{StampedRow}
use Rattle.history_model.specs.InOrder.{Has}
use Rattle.history_model.specs.Private.{Adds}
use Rattle.history_model.proofs.Searched.{IsSearched, search_begins, search_goes_on, search_ends}
use Rattle.as_of_index.specs.Current.{rows_seen}
use Rattle.as_of_index.proofs.DatesOfAll.{number_there}
use Rattle.links.specs.Private.{next_ones}
use Rattle.links.proofs.reaching.reached.Goals as goal

-- what was added to nothing
added_first : (xs new : List ℕ) → Adds xs [] new → ((x : ℕ) → Has xs x → Has new x) × ((x : ℕ) → Has new x → Has xs x)
added_first xs new a = (a.each, λ x h. a.only x (subst (λ ys. Has ys x) (a.new_is ∙ refl) h))

-- lists with the same items add the same
added_same : (xs ys old new : List ℕ) → ((x : ℕ) → Has xs x ↔ Has ys x) → Adds xs old new → Adds ys old new
added_same xs ys old new same a = record {
  more = a.more;
  new_is = a.new_is;
  only = λ x h. (same x).0 (a.only x h);
  each = λ x h. a.each x ((same x).1 h);
}

pub loop-i-init : goal.loop-i-init
loop-i-init c = record {
  searched = λ lists listed_so posts.
      let next : ℕ → List ℕ = next_ones c.args.direction c.args.as_of.now.date (rows_seen c.args.as_of.now lists) in
      let adds = added_same c.find_next.new.ids.items (next c.args.from) [] c.add_new.new.found.items (c.in_ok-find_next.ensures.found lists listed_so posts) (rw (c.new-found.ensures.items, c.deref.ensures.value) at c.in_ok-add_new.ensures.added) in
      let both = added_first (next c.args.from) c.add_new.new.found.items adds in
      search_begins next c.args.from c.add_new.new.found.items both.0 both.1;
  seen = c.in_ok-add_new.ensures.seen;
}

pub loop-i-preserved : goal.loop-i-preserved
loop-i-preserved c =
    let s = c.loop-i.invariant in
    let found = c.loop-i.found.items in
    let new = c.add_new-in-loop-i.new.found.items in
    let id = c.index.result.now in
    let within : c.loop-i.i < length found = omega (arith, c.loop-i.found.ok, c.len.ensures, c.loop-i-test.true) in
    record {
      searched = λ lists listed_so posts.
          let next : ℕ → List ℕ = next_ones c.args.direction c.args.as_of.now.date (rows_seen c.args.as_of.now lists) in
          let adds : Adds (next id) found new = added_same c.find_next-in-loop-i.new.ids.items (next id) found new (c.in_ok-find_next-2.ensures.found lists listed_so posts) (rw c.deref-in-loop-i.ensures.value at c.in_ok-add_new-2.ensures.added) in
          search_goes_on next c.args.from c.loop-i.i found new id within (s.searched lists listed_so posts) (subst (λ n. Adds (next n) found new) c.index.ensures adds);
      seen = c.in_ok-add_new-2.ensures.seen;
    }

pub returns : goal.returns
returns c = λ lists listed_so posts.
    let next : ℕ → List ℕ = next_ones c.args.direction c.args.as_of.now.date (rows_seen c.args.as_of.now lists) in
    let found = c.loop-i.found.items in
    let from = c.args.from in
    let all : take c.loop-i.i found ≡ found = take_all c.loop-i.i found (omega (arith, c.loop-i.found.ok, c.len.ensures, c.loop-i-test.false)) in
    let searched : IsSearched next from found found = subst (λ done. IsSearched next from done found) all (c.loop-i.invariant.searched lists listed_so posts) in
    search_ends next from found c.sort_once.new.ids.items searched c.sort_once.ensures.ascending c.sort_once.ensures.only (λ x h. number_there c.sort_once.new.ids.items x (c.sort_once.ensures.there x h))
