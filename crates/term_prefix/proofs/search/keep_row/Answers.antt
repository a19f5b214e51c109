use Rattle.std.proofs.Common.{sym, ◌∙◌, arith}
use Rattle.term_prefix.proofs.FirstKept.{low_left, high_left, old_left, each_low, each_high, low_bound, high_bound, wanted_row}
use Rattle.term_prefix.proofs.search.keep_row.Goals as goal

pub returns-then-number-bounds : goal.returns-then-number-bounds
returns-then-number-bounds c = λ lists listed_so described seen start bounds.
    let a = c.args in
    (low_left lists a.search.now a.segment a.number seen a.kept.now.items start (λ at place. bounds.low a.number at place (described at place) c.if-number-bounds.true), bounds)

pub returns-then-is_past : goal.returns-then-is_past
returns-then-is_past c = λ lists listed_so described seen start bounds.
    let a = c.args in
    (high_left lists a.search.now a.segment a.number seen a.kept.now.items start (λ at place. bounds.high a.number at place (described at place) (sym c.is_past.ensures ∙ c.if-is_past.true)), bounds)

pub returns-in-Low : goal.returns-in-Low
returns-in-Low c = λ lists listed_so described seen start bounds.
    let a = c.args in
    let kept = a.kept.now.items in
    let are = rw listed_so at c.lists-listed.ensures.places in
    let w = (rw c.deref.ensures.value at c.in-Low.ensures) lists listed_so start.ascending in (
      low_left lists a.search.now a.segment a.number seen kept start (each_low lists a.search.now kept a.segment a.number w),
      low_bound lists are a.search.now.after a.search.now.limit a.segment kept a.bounds.now a.number c.saturating_add-bounds.result bounds described (let e = c.saturating_add-bounds.ensures in omega (arith, e)) w,
    )

pub returns-in-High : goal.returns-in-High
returns-in-High c = λ lists listed_so described seen start bounds.
    let a = c.args in
    let kept = a.kept.now.items in
    let are = rw listed_so at c.lists-listed.ensures.places in
    let w = (rw c.deref.ensures.value at c.in-High.ensures) lists listed_so start.ascending in (
      high_left lists a.search.now a.segment a.number seen kept start (each_high lists a.search.now kept a.segment a.number w),
      high_bound lists are a.search.now.after a.search.now.limit a.segment kept a.bounds.now a.number bounds described w,
    )

pub returns-in-Old : goal.returns-in-Old
returns-in-Old c = λ lists listed_so described seen start bounds.
    let a = c.args in
    let w = (rw c.deref.ensures.value at c.in-Old.ensures) lists listed_so start.ascending in
    (old_left lists a.search.now a.segment a.number seen a.kept.now.items start w, bounds)

pub returns-in-Wanted : goal.returns-in-Wanted
returns-in-Wanted c =
    let a = c.args in
    wanted_row c.keep.result a.kept.now.items c.keep.new.kept.items a.search.now a.segment a.number a.index.now a.bounds.now c.in-Wanted.at c.lists-listed.ensures.places (rw c.deref.ensures.value at c.in-Wanted.ensures) c.keep.ensures
