use Rattle.std.proofs.Common.{take}
use Rattle.as_of_index.proofs.Found.{none_from}
use Rattle.as_of_index.proofs.Walking.{below_versions}
use Rattle.as_of_index.proofs.search.latest_from.Goals as goal

pub returns-then-end-cursor : goal.returns-then-end-cursor
returns-then-end-cursor c = λ up.
    let a = c.args in
    let split = c.go_on-end.ensures.split up (below_versions a.kind a.id a.as_of.now.date (take a.cursor a.list.now) c.requires.before) in
    none_from a.kind a.id a.as_of.now a.list.now c.go_on-end.result up split (rw c.if-end-cursor.true c.requires.before)

pub returns : goal.returns
returns c = λ up.
    let a = c.args in
    c.latest_before.ensures up (c.go_on-end.ensures.split up (below_versions a.kind a.id a.as_of.now.date (take a.cursor a.list.now) c.requires.before))
