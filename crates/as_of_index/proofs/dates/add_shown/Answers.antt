use Rattle.std.proofs.Common.{◌≡◌, ◌+◌, ◌++◌, ◌∷◌, [], sym, ap, subst, ◌∙◌, take, take_all}
use Rattle.std.proofs.lemmas.List.{take_more}
use Rattle.as_of_index.specs.declared.dates.DateEntry.{DateEntry}
use Rattle.as_of_index.specs.Private.Dates.{AddsTimes}
use Rattle.as_of_index.proofs.Noted.{adds_one, adds_hidden, dates_by_entries}
use Rattle.as_of_index.proofs.dates.add_shown.Goals as goal
use Rattle.as_of_index.proofs.dates.add_shown.Goals.{then-entry-pin+in_ok-push, else-entry-pin}

pub loop-entry-preserved : goal.loop-entry-preserved
loop-entry-preserved c =
    let a = c.args in
    let i = c.loop-entry.entry-index in
    let e = c.entry-item.result in
    let before = take i a.entries.now in
    let more : take (i + 1) a.entries.now ≡ before ++ e ∷ [] = take_more a.entries.now i e c.loop-entry-test.true ∙ ap (λ x. before ++ x ∷ []) (sym c.entry-item.is) in
    rw more (elim c.if-entry-pin.branch [
      | then-entry-pin+in_ok-push w ↦ rw (ap (λ v. v.items) w.times-is ∙ w.in_ok-push.ensures.items) (adds_one (λ (x : DateEntry). x.time) (λ (x : DateEntry). x.import) a.pin before e a.times.now.items c.loop-entry.times.items c.loop-entry.invariant w.if-entry-pin.true)
      | else-entry-pin w ↦ rw (ap (λ v. v.items) w.times-is) (adds_hidden (λ (x : DateEntry). x.time) (λ (x : DateEntry). x.import) a.pin before e a.times.now.items c.loop-entry.times.items c.loop-entry.invariant w.if-entry-pin.false)
    ])

pub returns : goal.returns
returns c = λ places entries.
    let a = c.args in
    dates_by_entries a.pin places a.entries.now a.times.now.items c.loop-entry.times.items entries
    (subst (λ es. AddsTimes (λ (x : DateEntry). x.time) (λ (x : DateEntry). x.import) a.pin es a.times.now.items c.loop-entry.times.items) (take_all c.loop-entry.entry-index a.entries.now c.loop-entry-test.false) c.loop-entry.invariant)
